-- The digits that are left follow those of the number so far.
use Rattle.std.proofs.Common.{◌≡◌, ◌<◌, ◌^◌, not, ◌==◌, drop, filter}
use Rattle.std.specs.Str.Parse.{digits_value_after}
use Rattle.py_tokens.specs.Numerals.{value_of}
use Rattle.py_tokens.proofs.numeral.number.Given as goal

abbrev pub invariant-loop-byte : goal.invariant-loop-byte
invariant-loop-byte l = record {
  whole : value_of l.radix l.digits ≡ digits_value_after l.radix l.number (filter (λ b. not (b == 95)) (drop l.byte-index l.digits));
  fits : l.number < 2 ^ 128;
}
