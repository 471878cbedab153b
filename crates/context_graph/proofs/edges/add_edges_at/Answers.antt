use Rattle.std.proofs.Common.{◌<◌, length, refl, sym, subst}
use Rattle.stack_code.specs.Depths.{HasDepth}
use Rattle.world_tables.specs.Rows.{contexts_of, the_context, tables_of}
use Rattle.context_graph.specs.Growth.{IsPart}
use Rattle.context_graph.specs.Places.{HavePoints, HasEdges}
use Rattle.context_graph.proofs.EdgeMore.{on_ok, no_edges, spot_there, code_at_spot}
use Rattle.context_graph.proofs.edges.add_edges_at.Goals as goal

pub add_edges_from-requires-clause-there : goal.add_edges_from-requires-clause-there
add_edges_from-requires-clause-there c =
    subst (λ k. k < length c.args.tables.now.graph.flow.contexts) (sym ((c.in-Some.ensures c.in-Some.at).0 refl).context_is) c.requires.there

pub add_edges_from-requires-clause-place : goal.add_edges_from-requires-clause-place
add_edges_from-requires-clause-place c =
    subst (λ p. HasDepth c.args.code.now p c.in-Some.at.depth) (sym ((c.in-Some.ensures c.in-Some.at).0 refl).place_is) ((c.in-Some.ensures c.in-Some.at).0 refl).has_depth

pub returns-in-Some-clause-keeps : goal.returns-in-Some-clause-keeps
returns-in-Some-clause-keeps c = λ s a of.
    let is = (c.in-Some.ensures c.in-Some.at).0 refl in
    subst (λ k. IsPart s k c.args.tables.now c.add_edges_from.new.tables) is.context_is (c.add_edges_from.ensures.keeps s a (code_at_spot s c.args.tables.now c.args.code.now c.args.context c.args.place c.in-Some.at is of))

pub returns-in-Some-clause-edges : goal.returns-in-Some-clause-edges
returns-in-Some-clause-edges c = λ s a of have.
    let is = (c.in-Some.ensures c.in-Some.at).0 refl in
    on_ok c.add_edges_from.result (λ has.
    subst (λ p. HasEdges s (tables_of c.add_edges_from.new.tables) (the_context (contexts_of c.args.tables.now) c.args.context) p) is.place_is
    (subst (λ k. HasEdges s (tables_of c.add_edges_from.new.tables) (the_context (contexts_of c.args.tables.now) k) c.in-Some.at.place) is.context_is has))
    (c.add_edges_from.ensures.edges s a (code_at_spot s c.args.tables.now c.args.code.now c.args.context c.args.place c.in-Some.at is of)
    (subst (λ k. HavePoints s (tables_of c.args.tables.now) (the_context (contexts_of c.args.tables.now) k) (length c.args.code.now.ops)) (sym is.context_is) have))

pub returns-in-None-clause-edges : goal.returns-in-None-clause-edges
returns-in-None-clause-edges c = λ s a of have.
    no_edges s c.args.tables.now c.args.tables.now c.args.code.now c.args.context c.args.place of
    (spot_there c.args.code.now c.args.context c.args.place (λ spot. (c.in-None.ensures spot).1))
