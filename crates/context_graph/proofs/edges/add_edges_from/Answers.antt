use Rattle.std.proofs.Common.{◌≡◌, Some, slice_get, refl, sym, ap, ◌∙◌}
use Rattle.stack_code.specs.declared.code.Code.{Code}
use Rattle.context_graph.proofs.EdgeMore.{on_both, both_edges, op_there}
use Rattle.context_graph.proofs.EdgeSteps.{spot_of_point, depth_within}
use Rattle.context_graph.proofs.edges.add_edges_from.Goals as goal

pub returns-in-Some-point_at-clause-keeps : goal.returns-in-Some-point_at-clause-keeps
returns-in-Some-point_at-clause-keeps c = λ s a of.
    c.add_both.ensures.keeps s a (record { of = of; op = ap (λ (k : Code). slice_get k.ops c.args.at.now.place) (sym c.code.ensures.code) ∙ sym c.in-Some.ensures.value; has_depth = c.requires.place })

pub returns-in-Some-point_at-clause-edges : goal.returns-in-Some-point_at-clause-edges
returns-in-Some-point_at-clause-edges c = λ s a of have.
    let op : slice_get c.args.code.now.ops c.args.at.now.place ≡ Some c.in-Some.op.now = ap (λ (k : Code). slice_get k.ops c.args.at.now.place) (sym c.code.ensures.code) ∙ sym c.in-Some.ensures.value in
    on_both c.add_both.result
    (λ fall jump. both_edges s c.args.tables.now c.add_both.new.tables c.args.code.now c.args.at.now c.in-Some.op.now c.code.ensures.valid (record { of = of; op = op; has_depth = c.requires.place }) fall jump)
    (c.add_both.ensures.fall s a (record { of = of; op = op; has_depth = c.requires.place }) have)
    (c.add_both.ensures.jump s a (record { of = of; op = op; has_depth = c.requires.place }) have)

pub returns-in-None-point_at-clause-edges : goal.returns-in-None-point_at-clause-edges
returns-in-None-point_at-clause-edges c = λ s a of have.
    absurd (c.in-None-point_at.ensures.none refl (spot_of_point s c.args.tables.now c.kept.ensures.kept a c.args.at.now c.requires.there
    (have.each c.args.at.now.place c.args.at.now.depth (depth_within c.args.code.now c.args.at.now.place c.args.at.now.depth c.requires.place) (record { code = c.args.code.now; of = of; has_depth = c.requires.place }))))

pub returns-in-None-clause-edges : goal.returns-in-None-clause-edges
returns-in-None-clause-edges c = λ s a of have.
    op_there c.args.code.now c.args.at.now.place c.args.at.now.depth c.requires.place (c.in-None.ensures.value ∙ ap (λ (k : Code). slice_get k.ops c.args.at.now.place) c.code.ensures.code)
