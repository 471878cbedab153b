use Rattle.std.proofs.Common.{◌≡◌, ◌↔◌, ℕ, Some, slice_get, sym, subst}
use Rattle.std.specs.List.{Contains}
use Rattle.goal_solver.proofs.Sets.{if_ok_map}
use Rattle.world_tables.specs.Rows.{contexts_of}
use Rattle.abstract_vm.proofs.OutputVars.{one_there, none_there}
use Rattle.abstract_vm.proofs.output.one_var.Goals as goal

pub returns-in-Some : goal.returns-in-Some
returns-in-Some c = λ s tables.
    if_ok_map c.from_slice.result _ _
    (λ vars e. one_there (contexts_of c.args.tables.now) c.args.tables.now.variables tables.numbering.variables_once c.in-Some.var c.args.spot.now c.in-Some.ensures.found vars e) c.from_slice.ensures

pub returns-in-None : goal.returns-in-None
returns-in-None c = λ s tables.
    subst (λ vars. (var : ℕ) → Contains vars var ↔ (slice_get c.args.tables.now.variables var ≡ Some c.args.spot.now)) (sym c.new.ensures)
    (none_there c.args.tables.now.variables c.args.spot.now (c.variable_at.ensures.none c.in-None.is))
