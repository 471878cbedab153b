-- The shapes of the variable that the global is.
use Rattle.std.proofs.Common.{◌≡◌, ◌≤◌, List, length, take, refl, sym, subst, ◌∙◌, arith}
use Rattle.world_stub.proofs.Seeing.{shapes_of_global, no_shapes_of_global}
use Rattle.world_stub.proofs.StubRows.{kept_all}
use Rattle.world_stub.proofs.seen.seen_shapes.Goals as goal

pub add_seen-requires-clause-wide : goal.add_seen-requires-clause-wide
add_seen-requires-clause-wide g c =
    let l : length c.args.world.now.rows.graph.truths ≤ length c.shapes.result.now = kept_all c.args.world.now.rows c.graph-graph.ensures.kept c.shapes.result.now c.shapes.ensures in
    omega (arith, l, c.len.ensures, c.in_ok-seen.ensures.wide)

pub returns-in_ok-add_seen-in-Some-clause-seen : goal.returns-in_ok-add_seen-in-Some-clause-seen
returns-in_ok-add_seen-in-Some-clause-seen g c =
    shapes_of_global c.args.world.now c.args.ends.now c.args.name c.in-Some.var c.in-Some.ensures.found c.add_seen.new.seen.members c.in_ok-add_seen-in-Some.ensures.seen

pub returns-in-None-clause-seen : goal.returns-in-None-clause-seen
returns-in-None-clause-seen g c = λ once. no_shapes_of_global c.args.world.now c.args.ends.now c.args.name c.in_ok-seen.seen.members c.in_ok-seen.ensures.empty (c.in-None.ensures.none refl)
