use Rattle.std.proofs.Common.{◌≡◌, ◌↔◌, ℕ, Some, None, sym, ap, subst, ◌∙◌}
use Rattle.std.specs.List.{Contains}
use Rattle.std.specs.Option.{option_copied}
use Rattle.stack_code.specs.declared.op.Op.TheVariants as op
use Rattle.abstract_vm.specs.Asking.{IsOutputNumber}
use Rattle.abstract_vm.proofs.OutputVars.{no_numbers}
use Rattle.abstract_vm.proofs.output.output_vars.Goals as goal

pub returns-in-Some : goal.returns-in-Some
returns-in-Some c = λ s budget known. c.op_vars.ensures s budget known (sym c.op_at.ensures ∙ ap option_copied c.in-Some.is)

pub returns-in-None : goal.returns-in-None
returns-in-None c = λ s budget known.
    let none : option_copied c.op_at.result ≡ None = ap option_copied c.in-None.is in
    subst (λ vars. (var : ℕ) → Contains vars var ↔ IsOutputNumber c.args.judging.now c.args.spot.now var) (sym c.new.ensures)
    (no_numbers s c.args.judging.now budget c.args.spot.now known
    (λ e. let k : None ≡ Some op.End = sym none ∙ c.op_at.ensures ∙ e in cc)
    (λ e. let k : None ≡ Some op.Return = sym none ∙ c.op_at.ensures ∙ e in cc))
