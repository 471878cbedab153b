-- The lists of places that are given a depth have exactly those that the rules give one.
use Rattle.std.proofs.Common.{◌≡◌, ℕ, suc, zero, ◌≤◌, Bool, true, false, cond, nat_le, Option, Some, None, List, [], ◌∷◌, ◌⊎◌, inl, inr, refl, sym, ap, subst, ◌∙◌, arith}
use Rattle.std.specs.List.{Contains}
use Rattle.std.proofs.lemmas.Bool.Decides.{nat_tests}
use Rattle.stack_code.specs.declared.op.Op.{Op}
use Rattle.stack_code.specs.declared.code.Range.{Range}
use Rattle.stack_code.specs.declared.depths.Reached.{Reached}
use Rattle.stack_code.specs.Effects.{effect_of, falls, goal_of, depth_after, depth_at_goal}
use Rattle.stack_code.specs.Depths.{Gives, goes_on, jumps}
use Rattle.stack_code.specs.Handlers.{covers}
use Rattle.stack_code.specs.Search.{goal_reached, ways, handlers}

pub not_empty : {X : Type 0} (x : X) → Contains [] x → ⊥
not_empty x c = omega (arith, c.1)

pub first_in : {X : Type 0} (x : X) (xs : List X) → Contains (x ∷ xs) x
first_in x xs = (zero, omega arith, refl)

pub later_in : {X : Type 0} (y x : X) (xs : List X) → Contains xs x → Contains (y ∷ xs) x
later_in y x xs (k, l, e) = (suc k, omega arith, e)

pub in_cases : {X : Type 0} (y x : X) (xs : List X) → Contains (y ∷ xs) x → (y ≡ x) ⊎ Contains xs x
in_cases y x xs (zero, l, e) = inl e
in_cases y x xs (suc k, l, e) = inr (k, omega arith, e)

le_true : (m n : ℕ) → m ≤ n → nat_le m n ≡ true
le_true m n h = grind (arith, nat_tests)

true_le : (m n : ℕ) → nat_le m n ≡ true → m ≤ n
true_le m n h = grind (arith, nat_tests)

-- ---- an instruction

module _ (op : Op) (place depth : ℕ) where
  at_goal : (effect_of op).needs ≤ depth → (o : Option ℕ) → goal_of op ≡ o → (r : Reached) → Contains (goal_reached o (depth_at_goal op depth)) r → Gives op place depth r.place r.depth
  at_goal enough None e r c = absurd (not_empty r c)
  at_goal enough (Some goal) e r c = go (in_cases (record { place = goal; depth = depth_at_goal op depth }) r [] c)
    where
      go : (record { place = goal; depth = depth_at_goal op depth } ≡ r) ⊎ Contains [] r → Gives op place depth r.place r.depth
      go (inl same) = subst (λ x. Gives op place depth x.place x.depth) same (jumps enough e)
      go (inr none) = absurd (not_empty r none)

  pub ways_sound : (r : Reached) → Contains (ways op place depth) r → Gives op place depth r.place r.depth
  ways_sound r c = go (nat_le (effect_of op).needs depth) refl (falls op) refl c
    where
      go : (b : Bool) → nat_le (effect_of op).needs depth ≡ b → (f : Bool) → falls op ≡ f → Contains (cond b (cond f (record { place = suc place; depth = depth_after op depth } ∷ goal_reached (goal_of op) (depth_at_goal op depth)) (goal_reached (goal_of op) (depth_at_goal op depth))) []) r → Gives op place depth r.place r.depth
      go false e f i c = absurd (not_empty r c)
      go true e false i c = at_goal (true_le _ _ e) (goal_of op) refl r c
      go true e true i c = at (in_cases (record { place = suc place; depth = depth_after op depth }) r (goal_reached (goal_of op) (depth_at_goal op depth)) c)
        where
          at : (record { place = suc place; depth = depth_after op depth } ≡ r) ⊎ Contains (goal_reached (goal_of op) (depth_at_goal op depth)) r → Gives op place depth r.place r.depth
          at (inl same) = subst (λ x. Gives op place depth x.place x.depth) same (goes_on (true_le _ _ e) i)
          at (inr more) = at_goal (true_le _ _ e) (goal_of op) refl r more

  pub ways_complete : (to after : ℕ) → Gives op place depth to after → Contains (ways op place depth) (record { place = to; depth = after })
  ways_complete to after (goes_on enough f) =
      subst (λ b. Contains (cond b (cond (falls op) (record { place = suc place; depth = depth_after op depth } ∷ goal_reached (goal_of op) (depth_at_goal op depth)) (goal_reached (goal_of op) (depth_at_goal op depth))) []) (record { place = suc place; depth = depth_after op depth })) (sym (le_true _ _ enough))
      (subst (λ b. Contains (cond b (record { place = suc place; depth = depth_after op depth } ∷ goal_reached (goal_of op) (depth_at_goal op depth)) (goal_reached (goal_of op) (depth_at_goal op depth))) (record { place = suc place; depth = depth_after op depth })) (sym f) (first_in (record { place = suc place; depth = depth_after op depth }) (goal_reached (goal_of op) (depth_at_goal op depth))))
  ways_complete to after (jumps {goal = goal} enough g) =
      subst (λ b. Contains (cond b (cond (falls op) (record { place = suc place; depth = depth_after op depth } ∷ goal_reached (goal_of op) (depth_at_goal op depth)) (goal_reached (goal_of op) (depth_at_goal op depth))) []) (record { place = goal; depth = depth_at_goal op depth })) (sym (le_true _ _ enough)) (go (falls op))
    where
      here : Contains (goal_reached (goal_of op) (depth_at_goal op depth)) (record { place = goal; depth = depth_at_goal op depth })
      here = subst (λ o. Contains (goal_reached o (depth_at_goal op depth)) (record { place = goal; depth = depth_at_goal op depth })) (sym g) (first_in (record { place = goal; depth = depth_at_goal op depth }) [])

      go : (f : Bool) → Contains (cond f (record { place = suc place; depth = depth_after op depth } ∷ goal_reached (goal_of op) (depth_at_goal op depth)) (goal_reached (goal_of op) (depth_at_goal op depth))) (record { place = goal; depth = depth_at_goal op depth })
      go true = later_in (record { place = suc place; depth = depth_after op depth }) (record { place = goal; depth = depth_at_goal op depth }) (goal_reached (goal_of op) (depth_at_goal op depth)) here
      go false = here

-- ---- ranges

-- one of the ranges covers the place and gives this
pub record IsHandled (ranges : List Range) (place : ℕ) (r : Reached) : Type 0 where
  pub range : Range
  pub has : Contains ranges range
  pub over : covers range place ≡ true
  pub is : record { place = range.goal; depth = range.depth } ≡ r

pub handlers_sound : (ranges : List Range) (place : ℕ) (r : Reached) → Contains (handlers ranges place) r → IsHandled ranges place r
handlers_sound [] place r c = absurd (not_empty r c)
handlers_sound (range ∷ ranges) place r c = go (covers range place) refl c (handlers_sound ranges place r)
  where
    later : IsHandled ranges place r → IsHandled (range ∷ ranges) place r
    later h = record { range = h.range; has = later_in range h.range ranges h.has; over = h.over; is = h.is }

    go : (b : Bool) → covers range place ≡ b → Contains (cond b (record { place = range.goal; depth = range.depth } ∷ handlers ranges place) (handlers ranges place)) r → (Contains (handlers ranges place) r → IsHandled ranges place r) → IsHandled (range ∷ ranges) place r
    go false e c more = later (more c)
    go true e c more = at (in_cases (record { place = range.goal; depth = range.depth }) r (handlers ranges place) c)
      where
        at : (record { place = range.goal; depth = range.depth } ≡ r) ⊎ Contains (handlers ranges place) r → IsHandled (range ∷ ranges) place r
        at (inl same) = record { range = range; has = first_in range ranges; over = e; is = same }
        at (inr d) = later (more d)

pub handlers_complete : (ranges : List Range) (place : ℕ) (range : Range) → Contains ranges range → covers range place ≡ true → Contains (handlers ranges place) (record { place = range.goal; depth = range.depth })
handlers_complete [] place range c over = absurd (not_empty range c)
handlers_complete (x ∷ ranges) place range c over = go (in_cases x range ranges c) (handlers_complete ranges place range)
  where
    go : (x ≡ range) ⊎ Contains ranges range → (Contains ranges range → covers range place ≡ true → Contains (handlers ranges place) (record { place = range.goal; depth = range.depth })) → Contains (handlers (x ∷ ranges) place) (record { place = range.goal; depth = range.depth })
    go (inl same) more =
        subst (λ b. Contains (cond b (record { place = x.goal; depth = x.depth } ∷ handlers ranges place) (handlers ranges place)) (record { place = range.goal; depth = range.depth })) (sym (ap (λ y. covers y place) same ∙ over))
        (subst (λ y. Contains (record { place = y.goal; depth = y.depth } ∷ handlers ranges place) (record { place = range.goal; depth = range.depth })) (sym same) (first_in (record { place = range.goal; depth = range.depth }) (handlers ranges place)))
    go (inr d) more = at (covers x place)
      where
        at : (b : Bool) → Contains (cond b (record { place = x.goal; depth = x.depth } ∷ handlers ranges place) (handlers ranges place)) (record { place = range.goal; depth = range.depth })
        at true = later_in (record { place = x.goal; depth = x.depth }) (record { place = range.goal; depth = range.depth }) (handlers ranges place) (more d over)
        at false = more d over
