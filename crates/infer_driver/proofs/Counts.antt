-- What lists have in which nothing stands twice, where it can't be told whether a list has an item.
use Rattle.std.proofs.Common.{◌≡◌, ◌≢◌, ℕ, suc, ◌+◌, ◌<◌, ◌≤◌, List, [], ◌∷◌, length, ◌⊎◌, inl, inr, refl, sym, subst, arith}
use Rattle.std.specs.List.{AllPairs, Contains}
use Rattle.std.proofs.lemmas.Bool.{cases_lt}
use Rattle.graph_walks.proofs.Lists.{empty, first, first_as, later, first_or_later}
use Rattle.world_tables.proofs.Distinct.{AreApart, nothing_else}

module _ {X : Type 0} where
  not_behind : (x : X) (xs : List X) → AreApart (x ∷ xs) → Contains xs x → ⊥
  not_behind x xs a (k, l, e) = a 0 (suc k) x (omega arith) (omega (arith, l)) (sym e)

  behind : (x : X) (xs : List X) → AreApart (x ∷ xs) → AreApart xs
  behind x xs all i j d l k = all (suc i) (suc j) d (omega (arith, l)) (omega (arith, k))

  -- a list that is longer than another one has an item more
  pub as_long : (xs ys : List X) → AreApart xs → ((x : X) → Contains xs x → Contains ys x) → length ys < length xs → ⊥
  as_long [] ys a within l = omega (arith, l)
  as_long (x ∷ xs) ys a within l =
      not_behind x xs a (nothing_else xs ys (behind x xs a) (λ y c. within y (later x y xs c)) (omega (arith, l)) x (within x (first x xs)))

  -- it can't be that each item is there, but not all are
  pub all_there : (xs ys : List X) → ((x : X) → Contains xs x → (Contains ys x → ⊥) → ⊥) → (((x : X) → Contains xs x → Contains ys x) → ⊥) → ⊥
  all_there [] ys each deny = deny (λ x c. empty x c)
  all_there (x ∷ xs) ys each deny =
      each x (first x xs) (λ h. all_there xs ys (λ y c. each y (later x y xs c)) (λ rest. deny (λ y c. elim (first_or_later x y xs c) [ inl e ↦ subst (Contains ys) (sym e) h | inr d ↦ rest y d ])))

  -- a longer list, where an item is new
  pub longer : (old new : List X) → AreApart old → ((x : X) → Contains old x → Contains new x) → (x : X) → Contains new x → (Contains old x → ⊥) → length old < length new
  longer old new a within x c deny = elim (cases_lt (length old) (length new)) [ inl l ↦ l | inr l ↦ absurd (deny (nothing_else old new a within l x c)) ]

  -- nothing else, where deny item can be new
  pub nothing_new : (old new : List X) → AreApart old → AreApart new → ((x : X) → Contains old x → Contains new x) → ((x : X) → Contains new x → (Contains old x → ⊥) → ⊥) → (x : X) → Contains new x → Contains old x
  nothing_new old new a b within deny =
      elim (cases_lt (length old) (length new)) [
        | inl l ↦ absurd (all_there new old deny (λ all. as_long new old b all l))
        | inr l ↦ nothing_else old new a within l
      ]

  -- deny shorter, where each item is there
  pub no_shorter : (old new : List X) → AreApart old → ((x : X) → Contains old x → Contains new x) → length old ≤ length new
  no_shorter old new a within = elim (cases_lt (length new) (length old)) [ inl l ↦ absurd (as_long old new a within l) | inr l ↦ l ]
