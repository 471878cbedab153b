-- The search for depths: what is found so far, and what a depth that is given changes. The rules are in Depths.
use Rattle.std.specs.Prelude.{◌≡◌, ℕ, suc, ◌↔◌, cond, nat_le, nat_eq, Option, Some, None, Result, Ok, Err, List, [], ◌∷◌, ◌++◌, length, slice_get, slice_set}
use Rattle.stack_code.specs.declared.op.Op.{Op}
use Rattle.stack_code.specs.declared.code.Code.{Code}
use Rattle.stack_code.specs.declared.code.Range.{Range}
use Rattle.stack_code.specs.declared.depths.Reached.{Reached}
use Rattle.stack_code.specs.Effects.{effect_of, falls, goal_of, depth_after, depth_at_goal}
use Rattle.stack_code.specs.Depths.{HasDepth}
use Rattle.stack_code.specs.Handlers.{covers}

-- the depths found so far, and the places among them from which the search has yet to go on
pub record Found : Type 0 where
  pub depths : List (Option ℕ)
  pub waiting : List Reached

abbrev pub noted : Reached → Found → Option (Option ℕ) → Result Found ℕ
noted r found None = Ok found
noted r found (Some None) = Ok (record { depths = slice_set found.depths r.place (Some r.depth); waiting = found.waiting ++ r ∷ [] })
noted r found (Some (Some depth)) = cond (nat_eq depth r.depth) (Ok found) (Err r.place)

-- a place with a depth: a new one is noted, one that has another depth stops the search, and one past the end gets nothing
abbrev pub with_depth : Reached → Found → Result Found ℕ
with_depth r found = noted r found (slice_get found.depths r.place)

abbrev pub go_on : (Found → Result Found ℕ) → Result Found ℕ → Result Found ℕ
go_on next (Ok found) = next found
go_on next (Err place) = Err place

abbrev pub with_depths : List Reached → Found → Result Found ℕ
with_depths [] found = Ok found
with_depths (r ∷ rs) found = go_on (with_depths rs) (with_depth r found)

abbrev pub goal_reached : Option ℕ → ℕ → List Reached
goal_reached None depth = []
goal_reached (Some goal) depth = record { place = goal; depth = depth } ∷ []

-- where an instruction leads
abbrev pub ways : Op → ℕ → ℕ → List Reached
ways op place depth =
    cond (nat_le (effect_of op).needs depth)
    (cond (falls op) (record { place = suc place; depth = depth_after op depth } ∷ goal_reached (goal_of op) (depth_at_goal op depth))
    (goal_reached (goal_of op) (depth_at_goal op depth)))
    []

-- what a range gives its handler
abbrev pub handler_reached : Range → Reached
handler_reached range = record { place = range.goal; depth = range.depth }

-- the handlers of the ranges that cover a place
abbrev pub handlers : List Range → ℕ → List Reached
handlers [] place = []
handlers (range ∷ ranges) place = cond (covers range place) (record { place = range.goal; depth = range.depth } ∷ handlers ranges place) (handlers ranges place)

-- the depths are those of the code's places
pub record AreDepths (code : Code) (depths : List (Option ℕ)) : Type 0 where
  pub size : length depths ≡ length code.ops
  pub exact : (place depth : ℕ) → slice_get depths place ≡ Some (Some depth) ↔ HasDepth code place depth
