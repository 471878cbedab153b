-- The digits so far, and those that go on from there.
use Rattle.std.proofs.Common.{◌≡◌, ◌+◌, drop}
use Rattle.py_tokens.specs.Numerals.{more_len}
use Rattle.py_tokens.proofs.numeral.more_len.Given as goal

abbrev pub invariant-loop-len : goal.invariant-loop-len
invariant-loop-len l = more_len l.radix l.bytes ≡ l.len + more_len l.radix (drop l.len l.bytes)
