use Rattle.std.proofs.Common.{◌≡◌, drop, map}
use Rattle.builtin_stubs.specs.Operands.{first_of}
use Rattle.builtin_stubs.proofs.kinds.first_of_left.Given as goal

abbrev pub invariant-loop-row : goal.invariant-loop-row
invariant-loop-row l = first_of (map (λ r. (r.0, r.2)) (drop l.row-index l.rows)) l.container ≡ first_of (map (λ r. (r.0, r.2)) l.rows) l.container
