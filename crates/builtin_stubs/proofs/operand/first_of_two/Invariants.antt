use Rattle.std.proofs.Common.{◌≡◌, drop}
use Rattle.builtin_stubs.specs.Operands.{first_of_two}
use Rattle.builtin_stubs.proofs.operand.first_of_two.Given as goal

abbrev pub invariant-loop-row : goal.invariant-loop-row
invariant-loop-row g l = first_of_two (drop l.row-index l.rows) l.left l.right ≡ first_of_two l.rows l.left l.right
