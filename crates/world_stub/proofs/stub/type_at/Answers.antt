-- What is printed is of the shapes that the global has.
use Rattle.std.proofs.Common.{List, sym, subst, ◌∙◌}
use Rattle.std.specs.List.{IsDistinct}
use Rattle.abstract_shapes.specs.declared.table.TableRow.{TableRow}
use Rattle.abstract_shapes.specs.Places.{same_place}
use Rattle.abstract_shapes.specs.Tables.{places_of}
use Rattle.type_terms.specs.View.{term_view}
use Rattle.world_stub.proofs.StubRows.{type_now}
use Rattle.world_stub.proofs.stub.type_at.Goals as goal

pub returns-clause-printed : goal.returns-clause-printed
returns-clause-printed g c =
    type_now c.args.world.now c.seen_shapes.new.world c.in_ok-set.ensures.same c.args.ends.now c.args.name c.args.program.now (term_view c.in_ok-term.term)
    c.shapes.result.now c.joined-2.result.now c.names.result.now c.class_names-classes.result.now c.in_ok-set.set.members
    c.graph-graph.ensures.kept c.shapes.ensures c.joined-2.ensures
    (subst (λ (ts : List TableRow). IsDistinct same_place (places_of ts)) (c.joined.ensures ∙ sym c.joined-2.ensures) c.entry_count-count.ensures.apart) c.names.ensures c.class_names-classes.ensures c.in_ok-set.ensures.seen c.in_ok-term.ensures
