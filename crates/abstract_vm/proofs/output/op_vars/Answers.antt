use Rattle.std.proofs.Common.{◌≡◌, ◌↔◌, ℕ, Some, sym, ap, subst, ◌∙◌}
use Rattle.std.specs.List.{Contains}
use Rattle.stack_code.specs.declared.op.Op.TheVariants as op
use Rattle.goal_solver.proofs.Sets.{if_ok_map}
use Rattle.world_tables.specs.Rows.{contexts_of}
use Rattle.abstract_vm.specs.Asking.{IsOutputNumber}
use Rattle.abstract_vm.proofs.OutputVars.{end_numbers, return_numbers, no_numbers}
use Rattle.abstract_vm.proofs.output.op_vars.Goals as goal

pub returns-in-End : goal.returns-in-End
returns-in-End c = λ s budget known here.
    if_ok_map c.end_vars.result _ _ (λ vars all. end_numbers s c.args.judging.now budget c.args.spot.now known (here ∙ ap Some c.in-End.is) vars all) c.end_vars.ensures

pub returns-in-Return : goal.returns-in-Return
returns-in-Return c = λ s budget known here.
    if_ok_map c.one_var.result _ _
    (λ vars all. return_numbers s c.args.judging.now budget c.args.spot.now known c.graph-graph.ensures.kept c.top_spot.result (c.top_spot.ensures.stands (contexts_of c.args.judging.now.tables.now)) c.top_spot.ensures.there
    (here ∙ ap Some c.in-Return.is) vars all) (c.one_var.ensures s known.tables)

pub returns-in_default : goal.returns-in_default
returns-in_default c = λ s budget known here.
    subst (λ vars. (var : ℕ) → Contains vars var ↔ IsOutputNumber c.args.judging.now c.args.spot.now var) (sym c.new.ensures)
    (no_numbers s c.args.judging.now budget c.args.spot.now known
    (λ e. let same : Some c.args.op.now ≡ Some op.End = sym here ∙ e in let is : c.args.op.now ≡ op.End = cc in c.in_default.not-End is)
    (λ e. let same : Some c.args.op.now ≡ Some op.Return = sym here ∙ e in let is : c.args.op.now ≡ op.Return = cc in c.in_default.not-Return is))
