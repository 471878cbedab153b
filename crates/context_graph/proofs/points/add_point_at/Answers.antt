use Rattle.std.proofs.Common.{◌≡◌, ◌+◌, ◌<◌, Some, length, slice_get, refl, sym, subst, ap, ◌∙◌}
use Rattle.stack_code.specs.declared.code.Code.{Code}
use Rattle.world_rules.specs.Places.{code_of}
use Rattle.world_rules.proofs.Extending.{some_same}
use Rattle.world_tables.specs.Rows.{contexts_of, the_context, tables_of}
use Rattle.context_graph.specs.Growth.{IsPart}
use Rattle.context_graph.specs.Places.{HavePoints}
use Rattle.context_graph.proofs.EdgeMore.{on_ok, op_there, spot_there}
use Rattle.context_graph.proofs.Grown.{grown_same}
use Rattle.context_graph.proofs.PointSteps.{stands_at, more_points, here_is}
use Rattle.context_graph.proofs.points.add_point_at.Goals as goal

pub add_point-requires-clause-next : goal.add_point-requires-clause-next
add_point-requires-clause-next c = ((c.in-Some.ensures c.in-Some.at).0 refl).context_is ∙ c.requires.next

pub add_point-requires-clause-there : goal.add_point-requires-clause-there
add_point-requires-clause-there c = subst (λ k. k < length c.args.tables.now.graph.flow.contexts) (sym ((c.in-Some.ensures c.in-Some.at).0 refl).context_is) c.requires.code.there

pub add_point-requires-clause-order : goal.add_point-requires-clause-order
add_point-requires-clause-order c = λ other m e.
    subst (λ n. other.place < n) (sym ((c.in-Some.ensures c.in-Some.at).0 refl).place_is) (c.requires.order other m (e ∙ ((c.in-Some.ensures c.in-Some.at).0 refl).context_is))

pub returns-in-Some-get-clause-order : goal.returns-in-Some-get-clause-order
returns-in-Some-get-clause-order c = λ other m e.
    subst (λ n. other.place < n + 1) ((c.in-Some.ensures c.in-Some.at).0 refl).place_is (c.add_point.ensures.order other m (e ∙ sym ((c.in-Some.ensures c.in-Some.at).0 refl).context_is))

pub returns-in-Some-get-clause-keeps : goal.returns-in-Some-get-clause-keeps
returns-in-Some-get-clause-keeps c = λ s w have.
    let is = (c.in-Some.ensures c.in-Some.at).0 refl in
    let op : slice_get c.args.code.now.ops c.args.place ≡ Some c.in-Some-get.op.now = ap (λ (k : Code). slice_get k.ops c.args.place) (sym c.code.ensures.code) ∙ sym c.in-Some-get.ensures.value in
    subst (λ k. IsPart s k c.args.tables.now c.add_point.new.tables) is.context_is
    (c.add_point.ensures.keeps s w (stands_at s c.args.program.now c.args.tables.now c.args.code.now c.args.context c.args.place c.in-Some.at c.in-Some-get.op.now w.source c.requires.code is op)
    (subst (λ k. HavePoints s (tables_of c.args.tables.now) (the_context (contexts_of c.args.tables.now) k) c.in-Some.at.place) (sym is.context_is)
    (subst (λ n. HavePoints s (tables_of c.args.tables.now) (the_context (contexts_of c.args.tables.now) c.args.context) n) (sym is.place_is) have)))

pub returns-in-Some-get-clause-points : goal.returns-in-Some-get-clause-points
returns-in-Some-get-clause-points c = λ s w have.
    on_ok c.add_point.result (λ m.
    more_points s c.args.tables.now c.add_point.new.tables c.args.code.now c.args.context c.args.place c.add_point.ensures.step.grown
    (ap (λ p. code_of p (the_context (contexts_of c.args.tables.now) c.args.context)) w.source.program ∙ c.requires.code.of) have
    (here_is c.args.tables.now c.add_point.new.tables c.args.code.now c.args.context c.args.place c.in-Some.at c.add_point.ensures.step.grown ((c.in-Some.ensures c.in-Some.at).0 refl)
    (λ other h. some_same ((c.in-Some.ensures other).1 h)) m))
    c.add_point.ensures.there

pub returns-in-None-get-clause-points : goal.returns-in-None-get-clause-points
returns-in-None-get-clause-points c = λ s w have.
    more_points s c.args.tables.now c.args.tables.now c.args.code.now c.args.context c.args.place (grown_same c.args.tables.now)
    (ap (λ p. code_of p (the_context (contexts_of c.args.tables.now) c.args.context)) w.source.program ∙ c.requires.code.of) have
    (λ depth h. op_there c.args.code.now c.args.place depth h (c.in-None-get.ensures.value ∙ ap (λ (k : Code). slice_get k.ops c.args.place) c.code.ensures.code))

pub returns-in-None-clause-points : goal.returns-in-None-clause-points
returns-in-None-clause-points c = λ s w have.
    more_points s c.args.tables.now c.args.tables.now c.args.code.now c.args.context c.args.place (grown_same c.args.tables.now)
    (ap (λ p. code_of p (the_context (contexts_of c.args.tables.now) c.args.context)) w.source.program ∙ c.requires.code.of) have
    (λ depth h. spot_there c.args.code.now c.args.context c.args.place (λ spot. (c.in-None.ensures spot).1) depth h)
