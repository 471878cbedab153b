use Rattle.std.proofs.Common.{◌≡◌, true, false}
use Rattle.world_stub.proofs.Ending.{end_is, no_end}
use Rattle.world_stub.proofs.ends.is_end.Goals as goal

pub returns-in-Some : goal.returns-in-Some
returns-in-Some c =
    let e = end_is c.args.program.now c.args.world.now.rows c.graph-graph.ensures.kept c.args.point c.in-Some.spot c.in-Some.ensures.found in
    (λ t. e.0 (c.ends_there.ensures.0 t), λ h. c.ends_there.ensures.1 (e.1 h))

pub returns-in-None : goal.returns-in-None
returns-in-None c = (λ t. let h : false ≡ true = t in cc, λ e. absurd (no_end c.args.program.now c.args.world.now.rows c.args.point (c.spot.ensures.none c.in-None.is) e))
