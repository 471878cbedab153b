-- What is found equal is the same.
use Rattle.std.proofs.Common.{rules, Decides, not, ◌≡◌, ◌∙◌, ℕ, ◌<◌, Bool, true, false, ◌||◌, if◌then◌else◌, suc, zero, Some, List, [], ◌∷◌, ◌++◌, refl, sym, ap, slice_get, get_or, length, arith}
use Rattle.std.specs.List.{position, list_any, Contains}
use Rattle.indexmap.specs.IndexSet.{insert_key}
use Rattle.std.proofs.lemmas.List.Quantifiers.{position-Some}
use Rattle.std.proofs.lemmas.Option.{slice_get-get_or}
use Rattle.flow_graph.specs.contracts.context.ContextPartialEq.TheImpl.{eq-value}
use Rattle.flow_graph.specs.contracts.edge.EdgePartialEq.TheImpl as edges

-- a test that holds of things that are the same, and of no others
abbrev pub IsExact : {X : Type 0} → (X → X → Bool) → Type 0
IsExact {X} eq = (a b : X) → Decides (eq a b) (a ≡ b)

module _ {X : Type 0} (eq : X → X → Bool) (exact : IsExact eq) where
  pub any_true : (xs : List X) (x : X) → list_any (eq x) xs ≡ true → Contains xs x
  any_true [] x h = cc
  any_true (y ∷ xs) x h = go (eq x y) refl h (any_true xs x)
    where
      go : (t : Bool) → eq x y ≡ t → (t || list_any (eq x) xs) ≡ true → (list_any (eq x) xs ≡ true → Contains xs x) → Contains (y ∷ xs) x
      go true e h more = (0, omega arith, sym ((exact x y).0 e))
      go false e h more = let c : Contains xs x = more h in (suc c.0, omega (arith, c.1), c.2)

  pub any_false : (xs : List X) (x : X) → list_any (eq x) xs ≡ false → Contains xs x → ⊥
  any_false [] x h c = omega (arith, c.1)
  any_false (y ∷ xs) x h c = go (eq x y) refl h (any_false xs x) c
    where
      go : (t : Bool) → eq x y ≡ t → (t || list_any (eq x) xs) ≡ false → (list_any (eq x) xs ≡ false → Contains xs x → ⊥) → Contains (y ∷ xs) x → ⊥
      go true e h more c = cc
      go false e h more (zero, l, d) = let k : eq x y ≡ true = (exact x y).1 (sym d) in cc
      go false e h more (suc n, l, d) = more h (n, omega arith, d)

  pub any_none : (xs : List X) (x : X) → (Contains xs x → ⊥) → list_any (eq x) xs ≡ false
  any_none xs x n = go (list_any (eq x) xs) refl
    where
      go : (t : Bool) → list_any (eq x) xs ≡ t → list_any (eq x) xs ≡ false
      go true e = absurd (n (any_true xs x e))
      go false e = e

  -- what is not there is put last
  pub inserted : (xs : List X) (x : X) → (Contains xs x → ⊥) → insert_key eq xs x ≡ xs ++ x ∷ []
  inserted xs x n = ap (λ b. if b then xs else xs ++ x ∷ []) (any_none xs x n)

  pub found_at : (xs : List X) (x : X) (place id : ℕ) → id ≡ place → position (eq x) xs ≡ Some place → slice_get xs id ≡ Some x
  found_at xs x place id e h =
      let p : (place < length xs) × (eq x (get_or xs place x) ≡ true) × ((k : ℕ) → k < place → eq x (get_or xs k x) ≡ false) = position-Some (eq x) xs place x h in
      ap (slice_get xs) e ∙ slice_get-get_or xs place x p.0 ∙ ap Some (sym ((exact x (get_or xs place x)).0 p.1))

pub edge_exact : IsExact edges.eq-value.it
edge_exact a b = search rules

pub context_exact : IsExact eq-value.it
context_exact a b = search rules

-- an answer that something is not new
pub was_there : {X : Type 0} (eq : X → X → Bool) (exact : IsExact eq) (xs new : List X) (x : X) (fresh : Bool) → fresh ≡ not (list_any (eq x) xs) → new ≡ insert_key eq xs x → fresh ≡ false → Contains xs x × (new ≡ xs)
was_there eq exact xs new x fresh e n h = (any_true eq exact xs x (there (list_any (eq x) xs) (sym e ∙ h)), n ∙ ap (λ b. if b then xs else xs ++ x ∷ []) (there (list_any (eq x) xs) (sym e ∙ h)))
  where
    there : (t : Bool) → not t ≡ false → t ≡ true
    there true k = refl
    there false k = cc
