use Rattle.infer_driver.proofs.Adding.{on_line}
use Rattle.infer_driver.proofs.tell.add_on_line.Goals as goal

pub returns : goal.returns
returns c = record {
  findings = λ f. on_line c.args.line f.line (c.in_ok-add_faults.ensures f);
  unchecked = λ l. on_line c.args.line l (c.in_ok-mark.ensures l);
  heavy = λ l. on_line c.args.line l (c.in_ok-mark-2.ensures l);
}
