-- The places that have a handler, while the ranges come to them from the shortest on.
use Rattle.std.specs.Prelude.{◌≢◌, ℕ, ◌-◌, ◌<◌, List, Option, None, length, get_or}
use Rattle.stack_code.specs.declared.code.Range.{Range}

abbrev pub length_of : Range → ℕ
length_of range = range.past - range.first

-- all places between a place and its next have a handler
abbrev pub SkipsPainted : List (Option Range) → List ℕ → Type 0
SkipsPainted handlers next = (p : ℕ) → p < length next → (p < get_or next p 0) × ((q : ℕ) → p < q → q < get_or next p 0 → q < length handlers → get_or handlers q None ≢ None)
