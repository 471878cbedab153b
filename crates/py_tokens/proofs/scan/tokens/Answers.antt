-- Each step goes on with the scan, and leaves less to do.
use Rattle.std.proofs.Common.{◌≡◌, ◌∙◌, ap, length, ◌-◌, length-drop, arith}
use Rattle.std.proofs.lemmas.Bool.Decides.{nat_tests}
use Rattle.std.proofs.lemmas.Result.{err_from_is_err_and}
use Rattle.py_tokens.specs.Scanners.{scan_of}
use Rattle.py_tokens.specs.Scans.{mark_len, start_at}
use Rattle.py_tokens.specs.TokenList.{TokenList}
use Rattle.py_tokens.proofs.Marks.{mark_within}
use Rattle.py_tokens.proofs.OneAnswer.{one_reading, never_both}
use Rattle.py_tokens.proofs.Scans.{continues_new, continues_takes, takes_less, continues_end, end_few, none_left, refused_step, refused_end, first_of, none_of, reads_made}
use Rattle.py_tokens.proofs.scan.tokens.Goals as goal

pub loop-scanner-init : goal.loop-scanner-init
loop-scanner-init c =
    let text = c.args.text.now in
    let made = c.new-scanner.ensures in
    let skipped : length text - length c.without_mark-rest.result.now ≡ mark_len text =
    omega (arith, ap length c.without_mark-rest.ensures, length-drop (mark_len text) text, mark_within text c.utf8.text) in
    continues_new text c.new-scanner.result (made.starts ∙ ap start_at skipped) (made.rest ∙ c.without_mark-rest.ensures) made.empty

pub loop-scanner-smaller : goal.loop-scanner-smaller
loop-scanner-smaller c = takes_less c.args.text.now c.loop-scanner.scanner c.step.new.self (grind (arith, nat_tests)) c.in_ok-step.ensures.taken

pub loop-scanner-preserved : goal.loop-scanner-preserved
loop-scanner-preserved c = continues_takes c.args.text.now c.loop-scanner.scanner c.step.new.self c.loop-scanner.invariant (grind (arith, nat_tests)) c.in_ok-step.ensures.taken

pub returns-in_err-step-clause-refused : goal.returns-in_err-step-clause-refused
returns-in_err-step-clause-refused c =
    let left = c.loop-scanner.scanner in
    refused_step c.args.text.now (scan_of left) left.rest.now left.tokens c.from_residual.result c.in_err-step.field-0.0 c.loop-scanner.invariant (grind (arith, nat_tests))
    (err_from_is_err_and c.from_residual.result c.from_residual.ensures.1) c.in_err-step.ensures.fault

pub returns-in_err-step-clause-first : goal.returns-in_err-step-clause-first
returns-in_err-step-clause-first c = first_of c.args.text.now c.from_residual.result (returns-in_err-step-clause-refused c)

pub returns-in_err-step-clause-none : goal.returns-in_err-step-clause-none
returns-in_err-step-clause-none c = none_of c.args.text.now c.from_residual.result (returns-in_err-step-clause-refused c)

pub returns-in_err-end-clause-refused : goal.returns-in_err-end-clause-refused
returns-in_err-end-clause-refused c =
    let left = c.loop-scanner.scanner in
    refused_end c.args.text.now (scan_of left) left.rest.now left.tokens c.from_residual-in_err-end.result c.in_err-end.field-0.0 c.loop-scanner.invariant (grind (arith, nat_tests))
    (err_from_is_err_and c.from_residual-in_err-end.result c.from_residual-in_err-end.ensures.1) c.in_err-end.ensures.fault

pub returns-in_err-end-clause-first : goal.returns-in_err-end-clause-first
returns-in_err-end-clause-first c = first_of c.args.text.now c.from_residual-in_err-end.result (returns-in_err-end-clause-refused c)

pub returns-in_err-end-clause-none : goal.returns-in_err-end-clause-none
returns-in_err-end-clause-none c = none_of c.args.text.now c.from_residual-in_err-end.result (returns-in_err-end-clause-refused c)

pub returns-clause-read : goal.returns-clause-read
returns-clause-read c =
    let left = c.loop-scanner.scanner in
    let none = none_left left.rest.now (grind (arith, nat_tests)) in
    let ends = c.in_ok-end.ensures in
    reads_made c.args.text.now c.new.ensures ends.stands
    (continues_end c.args.text.now (scan_of left) left.rest.now left.tokens c.end.new.self.tokens c.loop-scanner.invariant none ends.closed ends.given)

pub returns-clause-few : goal.returns-clause-few
returns-clause-few c =
    let left = c.loop-scanner.scanner in
    omega (arith, ap (λ (m : TokenList). length m.tokens) c.new.ensures, end_few c.args.text.now (scan_of left) left.rest.now left.tokens c.end.new.self.tokens c.loop-scanner.invariant c.in_ok-end.ensures.given)

pub returns-clause-only : goal.returns-clause-only
returns-clause-only c = λ all names h. one_reading h (returns-clause-read c)

pub returns-clause-sound : goal.returns-clause-sound
returns-clause-sound c = λ found h. never_both (returns-clause-read c) h
