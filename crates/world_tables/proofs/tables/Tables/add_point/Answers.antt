use Rattle.std.proofs.Common.{refl, subst}
use Rattle.std.specs.List.{Contains}
use Rattle.graph_walks.proofs.Lists.{got}
use Rattle.world_tables.proofs.Growth.{point_answers}
use Rattle.world_tables.proofs.tables.Tables.add_point.Goals as goal

pub push_point-requires-clause-order : goal.push_point-requires-clause-order
push_point-requires-clause-order c = c.requires.order (subst (λ w. Contains w.points c.args.spot.now → ⊥) c.self.view_is (c.in-None.ensures.none refl))

pub returns-in-None-clause-keeps : goal.returns-in-None-clause-keeps
returns-in-None-clause-keeps c = λ s a is.
    point_answers _ _ c.push_point.ensures.kept c.push_point.result c.push_point.ensures.refused s a c.args.spot.now c.args.target c.args.root (subst (λ w. Contains w.points c.args.spot.now → ⊥) c.self.view_is (c.in-None.ensures.none refl)) c.requires.context is
    c.push_point.ensures.added c.push_point.ensures.valid

pub returns-in-Some-clause-fresh : goal.returns-in-Some-clause-fresh
returns-in-Some-clause-fresh c = λ new. absurd (new (subst (λ w. Contains w.points c.args.spot.now) c.self.view_is (got c.self.inside.points c.in-Some.id c.args.spot.now c.in-Some.ensures.found)))

pub returns-in-Some-clause-full : goal.returns-in-Some-clause-full
returns-in-Some-clause-full c = (λ e. absurd (cc), λ h. absurd (h.0 (subst (λ w. Contains w.points c.args.spot.now) c.self.view_is (got c.self.inside.points c.in-Some.id c.args.spot.now c.in-Some.ensures.found))))
