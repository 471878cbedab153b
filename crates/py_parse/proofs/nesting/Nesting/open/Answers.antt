use Rattle.std.proofs.Common.{arith}
use Rattle.py_parse.proofs.Depths.{depth_kept}
use Rattle.py_parse.proofs.nesting.Nesting.open.Goals as goal

pub overflow_add-self-2 : goal.overflow_add-self-2
overflow_add-self-2 c = omega (arith, depth_kept c.self.inside.blocks c.self.inside.count c.self.inside.outer c.self.inside.around.items c.args.self.now c.self.view_is c.self.invariant)
