-- The handler of a place: the innermost of the ranges that cover it.
use Rattle.std.specs.Prelude.{◌≡◌, ℕ, ◌-◌, ◌<◌, Bool, true, ◌&&◌, nat_lt, nat_le, List, [], ◌∷◌, Option, Some, None, if◌then◌else◌, length, get_or}
use Rattle.stack_code.specs.declared.code.Code.{Code}
use Rattle.stack_code.specs.declared.code.Range.{Range}

-- the place is one of the range
abbrev pub covers : Range → ℕ → Bool
covers range place = nat_le range.first place && nat_lt place range.past

abbrev pub is_nearer : Range → Option Range → Bool
is_nearer range None = true
is_nearer range (Some other) = nat_lt (range.past - range.first) (other.past - other.first)

abbrev pub nearer : Option Range → Option Range → Option Range
nearer one None = one
nearer one (Some other) = if is_nearer other one then Some other else one

-- the innermost range that covers a place: the shortest, and of equal ones the first
abbrev pub handler_at : List Range → ℕ → Option Range
handler_at [] place = None
handler_at (range ∷ ranges) place = if covers range place then nearer (Some range) (handler_at ranges place) else handler_at ranges place

-- these are the handlers of the code's places
pub record AreHandlers (code : Code) (handlers : List (Option Range)) : Type 0 where
  pub size : length handlers ≡ length code.ops
  pub told : (place : ℕ) → place < length code.ops → get_or handlers place None ≡ handler_at code.ranges place
