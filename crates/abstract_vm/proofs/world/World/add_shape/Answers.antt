-- A shape more is no item, and no fact gives it yet.
use Rattle.std.proofs.Common.{◌≡◌, ◌<◌, Ok, Err, length, slice_get, Some, sym, ap, subst}
use Rattle.std.specs.Prelude.{IfOk}
use Rattle.abstract_shapes.specs.Numbering.{structure, structures}
use Rattle.typegraph.specs.Graphs.{GraphTables}
use Rattle.typegraph.specs.Validity.{IsValid}
use Rattle.world_rules.specs.Sources.{Source}
use Rattle.abstract_vm.specs.Worlds.{WorldState, items_in, IsWorldOf}
use Rattle.abstract_vm.specs.Steps.{NumbersStay}
use Rattle.abstract_vm.proofs.MoreShapes.{shapes_stay, shapes_sound, shapes_entries, shapes_world, number_there}
use Rattle.abstract_vm.proofs.world.World.add_shape.Goals as goal
use Rattle.abstract_vm.proofs.world.World.add_shape.Goals.{in-Ok, in-Err}

pub add_shape-requires-clause-receiver : goal.add_shape-requires-clause-receiver
add_shape-requires-clause-receiver c = c.requires.parts (length c.self.inside.tables.shapes)

abbrev before : (c : goal.Joined-add_shape) → WorldState
before c = record { rows = c.self.inside.tables; solver = c.self.inside.solver; library = c.self.inside.library }

pub invariant_of-self : goal.invariant_of-self
invariant_of-self c =
    let valid : IsValid c.self.inside.tables.graph = subst (λ (g : GraphTables). IsValid g) c.graph.ensures.graph c.flow-flow.ensures.valid in (
      shapes_sound (before c) c.add_shape.new.self c.graph.ensures.kept c.add_shape.ensures.grown valid c.self.invariant.0,
      shapes_entries (before c) c.add_shape.new.self c.graph.ensures.kept c.add_shape.ensures.grown c.self.invariant.1,
    )

pub returns-clause-stay : goal.returns-clause-stay
returns-clause-stay c =
    subst (λ (w : WorldState). NumbersStay w (record { rows = c.add_shape.new.self; solver = c.self.inside.solver; library = c.self.inside.library })) c.self.view_is
    (shapes_stay (before c) c.add_shape.new.self c.graph.ensures.kept c.add_shape.ensures.grown)

pub returns-clause-there : goal.returns-clause-there
returns-clause-there c =
    elim c.match-add_shape.branch [
      | in-Ok w ↦ subst (λ r. IfOk r (λ id. id < length c.add_shape.new.self.graph.truths)) (sym w.result-is)
          (number_there (before c) c.add_shape.new.self c.graph.ensures.kept c.add_shape.ensures.grown w.in-Ok.id _
          (subst (λ r. IfOk r (λ id. slice_get (structures c.add_shape.new.self.shapes) id ≡ Some (structure (structures c.self.inside.tables.shapes) c.args.shape))) w.in-Ok.is c.add_shape.ensures.numbered))
      | in-Err w ↦ subst (λ r. IfOk r (λ id. id < length c.add_shape.new.self.graph.truths)) (sym w.result-is) tt
    ]

pub returns-clause-same : goal.returns-clause-same
returns-clause-same c =
    subst (λ (w : WorldState). (s : Source) → IsWorldOf s w → IsWorldOf s (record { rows = c.add_shape.new.self; solver = c.self.inside.solver; library = c.self.inside.library })
    × (items_in (record { rows = c.add_shape.new.self; solver = c.self.inside.solver; library = c.self.inside.library }) ≡ items_in w)) c.self.view_is
    (shapes_world (before c) c.add_shape.new.self c.graph.ensures.kept c.add_shape.ensures.grown c.add_shape.ensures.keeps)
