-- The blocks of code: its maximal runs that are entered only at their first and left only at their last instruction.
use Rattle.std.specs.Prelude.{ℕ, suc, zero, Bool, true, false, not, ◌&&◌, ◌||◌, nat_eq, is_none, List, [], ◌∷◌, ◌++◌, length, Option, Some, None, if◌then◌else◌, slice_get}
use Rattle.std.specs.List.{filter, list_any}
use Rattle.stack_code.specs.declared.code.Code.{Code}
use Rattle.stack_code.specs.declared.code.Range.{Range}
use Rattle.stack_code.specs.declared.op.Op.{Op}
use Rattle.stack_code.specs.Effects.{falls, goal_of, may_raise}
use Rattle.stack_code.specs.Handlers.{handler_at}

-- where an instruction at a place leads, other than by going on to the next place: to its goal, and to the handler where it may raise
abbrev pub jump_from : ℕ → Option ℕ → List ℕ
jump_from place None = []
jump_from place (Some goal) = if nat_eq goal (suc place) then [] else goal ∷ []

abbrev pub raise_to : Bool → Option Range → List ℕ
raise_to true (Some range) = range.goal ∷ []
raise_to _ _ = []

abbrev pub leads : List Range → ℕ → Op → List ℕ
leads ranges place op = jump_from place (goal_of op) ++ raise_to (may_raise op) (handler_at ranges place)

-- where instructions lead that stand from a place on
abbrev pub entries : List Range → ℕ → List Op → List ℕ
entries ranges place [] = []
entries ranges place (op ∷ ops) = leads ranges place op ++ entries ranges (suc place) ops

abbrev pub has_place : List ℕ → ℕ → Bool
has_place places place = list_any (nat_eq place) places

-- an instruction ends its run where it leads elsewhere, and where it leads nowhere
abbrev pub is_some_place : List ℕ → Bool
is_some_place [] = false
is_some_place (place ∷ places) = true

abbrev pub ends_run : List Range → ℕ → Op → Bool
ends_run ranges place op = is_some_place (leads ranges place op) || (is_none (goal_of op) && not (falls op))

abbrev pub ends_at : List Range → ℕ → Option Op → Bool
ends_at ranges place None = false
ends_at ranges place (Some op) = ends_run ranges place op

-- a run begins at the first place, where it is entered, and behind the end of a run
abbrev pub begins_run : Code → ℕ → Bool
begins_run code zero = true
begins_run code (suc place) = has_place (entries code.ranges 0 code.ops) (suc place) || ends_at code.ranges place (slice_get code.ops place)

-- the numbers below
abbrev pub below : ℕ → List ℕ
below zero = []
below (suc n) = below n ++ n ∷ []

-- runs that begin at these places, the last up to an end
abbrev pub runs_between : List ℕ → ℕ → List (ℕ × ℕ)
runs_between [] end = []
runs_between (first ∷ []) end = (first, end) ∷ []
runs_between (first ∷ next ∷ firsts) end = (first, next) ∷ runs_between (next ∷ firsts) end

abbrev pub blocks_of : Code → List (ℕ × ℕ)
blocks_of code = runs_between (filter (begins_run code) (below (length code.ops))) (length code.ops)
