-- Ranges in a tree: which they are, and that each branch says between which places its ranges lie.
use Rattle.std.specs.Prelude.{ℕ, ◌≤◌, cond, List, [], ◌∷◌, ◌++◌}
use Rattle.std.specs.List.{All}
use Rattle.stack_code.specs.declared.code.Range.{Range}
use Rattle.stack_code.specs.declared.range_tree.RangeTree.{RangeTree, Empty, Leaf, Branch'}
use Rattle.stack_code.specs.Handlers.{covers}

-- the ranges that cover a place, and those that don't
abbrev pub covering : List Range → ℕ → List Range
covering [] place = []
covering (range ∷ ranges) place = cond (covers range place) (range ∷ covering ranges place) (covering ranges place)

abbrev pub uncovered : List Range → ℕ → List Range
uncovered [] place = []
uncovered (range ∷ ranges) place = cond (covers range place) (uncovered ranges place) (range ∷ uncovered ranges place)

abbrev pub LiesBetween : ℕ → ℕ → Range → Type 0
LiesBetween first past range = (first ≤ range.first) × (range.past ≤ past)

-- in order
abbrev pub ranges_of : RangeTree → List Range
ranges_of Empty = []
ranges_of (Leaf range) = range ∷ []
ranges_of (Branch' first past p left q right) = ranges_of left ++ ranges_of right

abbrev pub IsBounded : RangeTree → Type 0
IsBounded Empty = Unit {0}
IsBounded (Leaf range) = Unit {0}
IsBounded (Branch' first past p left q right) = All (LiesBetween first past) (ranges_of left ++ ranges_of right) × IsBounded left × IsBounded right
