use Rattle.py_parse.proofs.Depths.{IsNested}
use Rattle.py_parse.proofs.nesting.first_too_deep.Given as goal

abbrev pub invariant-loop-place : goal.invariant-loop-place
invariant-loop-place l = IsNested l.tokens.tokens l.place l.nesting
