use Rattle.std.proofs.Common.{arith}
use Rattle.pyi_write.proofs.Dots.{front_of_dot}
use Rattle.pyi_write.proofs.imports.module_of.Goals as goal

pub returns-then-name-place-eq46 : goal.returns-then-name-place-eq46
returns-then-name-place-eq46 c = front_of_dot c.args.name.now c.loop-place.place (omega arith) (omega arith) c.if-name-place-eq46.true c.loop-place.invariant
