use Rattle.std.proofs.Common.{arith}
use Rattle.py_parse.proofs.Depths.{depth_kept}
use Rattle.py_parse.proofs.nesting.Nesting.depth.Goals as goal

pub overflow_add-result : goal.overflow_add-result
overflow_add-result c = omega (arith, depth_kept c.self.inside.blocks c.self.inside.count c.self.inside.outer c.self.inside.around.items c.args.self.now c.self.view_is c.self.invariant)

pub overflow_add-result-2 : goal.overflow_add-result-2
overflow_add-result-2 c = omega (arith, depth_kept c.self.inside.blocks c.self.inside.count c.self.inside.outer c.self.inside.around.items c.args.self.now c.self.view_is c.self.invariant)

pub returns : goal.returns
returns c = omega (arith, depth_kept c.self.inside.blocks c.self.inside.count c.self.inside.outer c.self.inside.around.items c.args.self.now c.self.view_is c.self.invariant)
