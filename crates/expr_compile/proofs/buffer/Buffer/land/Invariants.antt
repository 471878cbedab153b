use Rattle.std.proofs.Common.{◌≡◌, drop}
use Rattle.expr_compile.specs.Jumps.{turned_all}
use Rattle.expr_compile.proofs.buffer.Buffer.land.Given as goal

abbrev pub invariant-loop-place : goal.invariant-loop-place
invariant-loop-place l = turned_all l.goal (drop l.place-index l.places) l.self ≡ turned_all l.goal l.places l.initial.self
