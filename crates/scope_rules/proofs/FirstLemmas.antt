-- The first of some faults.
use Rattle.std.proofs.Common.{◌≡◌, ℕ, Bool, true, false, ◌&&◌, ◌||◌, not, nat_lt, nat_eq, List, [], ◌∷◌, Some, None, if◌then◌else◌, refl, ap, inl, inr, ◌∙◌, arith}
use Rattle.std.proofs.lemmas.Bool.Decides.{nat_tests}
use Rattle.std.proofs.lemmas.List.Elements.{Contains-append_left, Contains-append_right, Contains-append_cases}
use Rattle.std.specs.List.{Contains, list_all}
use Rattle.scope_rules.specs.declared.fault.Fault.{Fault}
use Rattle.scope_rules.specs.Faults.{number, is_before, sooner, first_from, first, IsFirst}

abbrev comes : ℕ → ℕ → ℕ → ℕ → Bool
comes l n l' n' = nat_lt l l' || (nat_eq l l' && nat_lt n n')

-- what comes before one that doesn't come before a third
numbers_after : (l n l' n' k m : ℕ) → comes l n l' n' ≡ true → comes l n k m ≡ false → comes l' n' k m ≡ false
numbers_after l n l' n' k m p q = grind (arith, nat_tests)

numbers_both : (l n l' n' k m : ℕ) → comes l n l' n' ≡ false → comes l' n' k m ≡ false → comes l n k m ≡ false
numbers_both l n l' n' k m p q = grind (arith, nat_tests)

numbers_same : (l n : ℕ) → comes l n l n ≡ false
numbers_same l n = grind (arith, nat_tests)

-- none of the faults is before one
abbrev none_before : List Fault → Fault → Type 0
none_before fs f = list_all (λ g. not (is_before g f)) fs ≡ true

parts : (a b : Bool) → (not a && b) ≡ true → (a ≡ false) × (b ≡ true)
parts false true h = (refl, refl)
parts false false h = (refl, h)
parts true b h = absurd (grind arith)

whole : (a b : Bool) → a ≡ false → b ≡ true → (not a && b) ≡ true
whole a b p q = ap (λ x. not x && b) p ∙ q

-- one more fault in the second place
contains_more : (best g : Fault) (fs : List Fault) (f : Fault) → Contains (best ∷ fs) f → Contains (best ∷ g ∷ fs) f
contains_more best g fs f h =
    elim (Contains-append_cases (best ∷ []) fs f h) [
      | inl here ↦ Contains-append_left (best ∷ []) (g ∷ fs) f here
      | inr later ↦ Contains-append_right (best ∷ g ∷ []) fs f later
    ]

first_of : (fs : List Fault) (best f : Fault) → first_from (Some best) fs ≡ Some f → IsFirst (best ∷ fs) f
first_of [] best f h =
    let e : best ≡ f = cc in
    ((0, omega arith, e), whole (is_before best f) true (ap (λ g. is_before g f) e ∙ numbers_same f.line (number f.rule)) refl)
first_of (g ∷ fs) best f h =
    elim (is_before g best) as (λ b. is_before g best ≡ b → first_from (Some (if b then g else best)) fs ≡ Some f → IsFirst (best ∷ g ∷ fs) f) [
      | true ↦ λ sooner_one e.
          let i = first_of fs g f e in
          let rest = parts (is_before g f) (list_all (λ g'. not (is_before g' f)) fs) i.1 in
          let late = numbers_after g.line (number g.rule) best.line (number best.rule) f.line (number f.rule) sooner_one rest.0 in
          (Contains-append_right (best ∷ []) (g ∷ fs) f i.0, whole (is_before best f) _ late i.1)
      | false ↦ λ later_one e.
          let i = first_of fs best f e in
          let rest = parts (is_before best f) (list_all (λ g'. not (is_before g' f)) fs) i.1 in
          let late = numbers_both g.line (number g.rule) best.line (number best.rule) f.line (number f.rule) later_one rest.0 in
          (contains_more best g fs f i.0, whole (is_before best f) _ rest.0 (whole (is_before g f) _ late rest.1))
    ] refl h

pub first_is_first : (fs : List Fault) (f : Fault) → first fs ≡ Some f → IsFirst fs f
first_is_first [] f h = absurd (let e : None ≡ Some f = h in cc)
first_is_first (g ∷ fs) f h = first_of fs g f h

some_first : (fs : List Fault) (best : Fault) → first_from (Some best) fs ≡ None → ⊥
some_first [] best h = cc
some_first (f ∷ fs) best h = some_first fs (sooner (Some best) f) h

pub none_first : (fs : List Fault) → first fs ≡ None → fs ≡ []
none_first [] h = refl
none_first (f ∷ fs) h = absurd (some_first fs f h)
