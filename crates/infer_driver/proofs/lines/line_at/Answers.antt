use Rattle.std.proofs.Common.{◌∙◌}
use Rattle.infer_driver.proofs.PointLines.{line_is, not_beyond}
use Rattle.infer_driver.proofs.lines.line_at.Goals as goal

pub returns-in-Some : goal.returns-in-Some
returns-in-Some c = λ stubs depth. c.line_of_spot.ensures ∙ line_is c.args.program.now stubs depth c.args.world.now c.graph-graph.ensures.kept c.args.point c.in-Some.spot c.in-Some.ensures.found

pub returns-in-None : goal.returns-in-None
returns-in-None c = λ stubs depth. absurd (not_beyond _ c.args.point c.requires (c.spot.ensures.none c.in-None.is))
