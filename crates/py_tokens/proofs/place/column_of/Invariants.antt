-- The column so far, taken through the rest, is that of the whole.
use Rattle.std.proofs.Common.{◌≡◌, ◌*◌, ◌≤◌, drop}
use Rattle.py_tokens.specs.Margins.{column_from}
use Rattle.py_tokens.proofs.place.column_of.Given as goal

abbrev pub invariant-loop-at : goal.invariant-loop-at
invariant-loop-at l = (column_from l.column (drop l.at l.space) ≡ column_from 0 l.space) × (l.column ≤ 8 * l.at)
