use Rattle.std.proofs.Common.{◌≡◌, drop}
use Rattle.builtin_stubs.specs.Operands.{first_of}
use Rattle.builtin_stubs.proofs.operand.first_of.Given as goal

abbrev pub invariant-loop-row : goal.invariant-loop-row
invariant-loop-row g l = first_of (drop l.row-index l.rows) l.kind ≡ first_of l.rows l.kind
