-- The line ends so far, and those of the rest, make the whole.
use Rattle.std.proofs.Common.{◌≡◌, ◌+◌, ◌≤◌, drop}
use Rattle.py_tokens.specs.Literals.{line_ends}
use Rattle.py_tokens.proofs.line.line_ends.Given as goal

abbrev pub invariant-loop-at : goal.invariant-loop-at
invariant-loop-at l = (l.count + line_ends (drop l.at l.bytes) ≡ line_ends l.bytes) × (l.count ≤ l.at)
