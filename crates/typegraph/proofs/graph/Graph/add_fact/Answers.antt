use Rattle.std.proofs.Common.{◌≡◌, ◌<◌, ◌∙◌, arith, sym, subst, [], length}
use Rattle.std.specs.Option.{IfSome}
use Rattle.typegraph.specs.Maps.{IsJoined, IsRising}
use Rattle.typegraph.specs.Graphs.{HasFact}
use Rattle.typegraph.specs.Validity.{IsBindingThere}
use Rattle.typegraph.proofs.Clashing.{consistent, joined_look, joined_there}
use Rattle.typegraph.proofs.Exact.{has_after}
use Rattle.typegraph.proofs.Joins.{two_shapes}
use Rattle.typegraph.proofs.Results.{any_ok}
use Rattle.typegraph.proofs.Tables.{some_within}
use Rattle.typegraph.proofs.graph.Graph.add_fact.Goals as goal

pub add_map-requires-clause-source : goal.add_map-requires-clause-source
add_map-requires-clause-source c = joined_there (IsBindingThere c.args.self.now.flow.vars (length c.args.self.now.truths)) c.args.source.now c.in-Ok-Some.map (subst (λ o. IfSome o IsRising) c.in-Ok-Some.field-0-is c.in-Ok-Some.ensures.rising) (subst (IsJoined [] c.args.source.now) c.in-Ok-Some.field-0-is c.in-Ok-Some.ensures.joined) c.requires.source

pub first_clash-requires : goal.first_clash-requires
first_clash-requires c = two_shapes [] c.args.source.now (subst (IsJoined [] c.args.source.now) c.in-Ok-None.field-0-is c.in-Ok-None.ensures.joined)

pub returns-in-Ok-Some-clause-consistent : goal.returns-in-Ok-Some-clause-consistent
returns-in-Ok-Some-clause-consistent c = any_ok _ c.add_map.result (consistent c.args.source.now c.in-Ok-Some.map (subst (IsJoined [] c.args.source.now) c.in-Ok-Some.field-0-is c.in-Ok-Some.ensures.joined))

pub returns-in-Ok-Some-clause-fresh : goal.returns-in-Ok-Some-clause-fresh
returns-in-Ok-Some-clause-fresh c = λ e.
    let joined = subst (IsJoined [] c.args.source.now) c.in-Ok-Some.field-0-is c.in-Ok-Some.ensures.joined in (
      λ h. (c.add_map.ensures.fresh e).0 (record { fact = h.fact; is = h.is; shape_is = h.shape_is; source_is = h.source_is ∙ sym (joined_look c.args.source.now c.in-Ok-Some.map joined) }),
      record { map = c.in-Ok-Some.map; joined = joined; rising = subst (λ o. IfSome o IsRising) c.in-Ok-Some.field-0-is c.in-Ok-Some.ensures.rising; is = (c.add_map.ensures.fresh e).1 },
    )

pub returns-in-Ok-Some-clause-known : goal.returns-in-Ok-Some-clause-known
returns-in-Ok-Some-clause-known c = λ e.
    let h : HasFact c.args.self.now c.args.point c.args.shape c.in-Ok-Some.map = (c.add_map.ensures.known e).0 in
    let same = joined_look c.args.source.now c.in-Ok-Some.map (subst (IsJoined [] c.args.source.now) c.in-Ok-Some.field-0-is c.in-Ok-Some.ensures.joined) in
    (record { fact = h.fact; is = h.is; shape_is = h.shape_is; source_is = h.source_is ∙ same }, (c.add_map.ensures.known e).1)

pub returns-in-Ok-Some-clause-has : goal.returns-in-Ok-Some-clause-has
returns-in-Ok-Some-clause-has c =
    let l : c.args.point < length c.args.self.now.flow.points = some_within c.args.self.now.flow.points c.args.point c.requires.point in
    let rows : length c.args.self.now.facts ≡ length c.args.self.now.flow.points = subst (λ t. length t.facts ≡ length t.flow.points) c.self.view_is c.self.invariant.valid.rows in
    has_after c.args.self.now _ c.args.point c.args.shape c.args.source.now c.in-Ok-Some.map c.add_map.result (omega (arith, l, rows))
    (joined_look c.args.source.now c.in-Ok-Some.map (subst (IsJoined [] c.args.source.now) c.in-Ok-Some.field-0-is c.in-Ok-Some.ensures.joined))
    c.add_map.ensures.fresh c.add_map.ensures.known
