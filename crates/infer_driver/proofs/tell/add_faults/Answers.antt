use Rattle.std.proofs.Common.{◌≡◌, ◌++◌, ◌∷◌, [], List, sym, ap, subst, ◌∙◌}
use Rattle.world_rules.specs.declared.finding.Finding.{Finding}
use Rattle.infer_driver.proofs.Adding.{IsAdding, added_one, all_added}
use Rattle.infer_driver.proofs.tell.add_faults.Goals as goal

pub loop-fault-preserved : goal.loop-fault-preserved
loop-fault-preserved c =
    subst (λ (fs : List Finding). IsAdding c.args.line c.args.faults c.args.findings.now.items fs c.pop.new.self)
    (ap (λ (f : Finding). c.loop-fault.findings.items ++ f ∷ []) (sym c.finding.ensures) ∙ sym c.in_ok-push.ensures.items)
    (added_one c.args.line c.args.faults c.args.findings.now.items c.loop-fault.findings.items c.loop-fault.left c.pop.new.self c.in-Some.fault c.in-Some.ensures c.loop-fault.invariant)

pub returns : goal.returns
returns c = all_added c.args.line c.args.faults c.args.findings.now.items c.loop-fault.findings.items c.loop-fault.left c.in_default.ensures.0 c.loop-fault.invariant
