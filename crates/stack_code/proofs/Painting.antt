-- Painting: a place keeps the first range that comes to it.
use Rattle.std.proofs.Common.{◌≡◌, ◌≢◌, ℕ, suc, zero, ◌<◌, ◌≤◌, ◌&&◌, nat_lt, if◌then◌else◌, Option, Some, None, unwrap_or, List, [], ◌∷◌, drop, length, get_or, ◌⊎◌, refl, sym, ap, ◌∙◌, arith}
use Rattle.stack_code.specs.declared.code.Range.{Range}
use Rattle.stack_code.specs.Handlers.{covers}

-- what a place has once the range has come up to another place
abbrev pub filled : Range → ℕ → ℕ → Option Range → Option Range
filled range place p was = if covers range p && nat_lt p place then Some (unwrap_or was range) else was

-- while a range is painted: what lies between a place and its next has a handler, or is still to come
abbrev pub IsReaching : List (Option Range) → List ℕ → ℕ → ℕ → Type 0
IsReaching handlers next place past =
    (p : ℕ) → p < length next → (p < get_or next p 0) × ((q : ℕ) → p < q → q < get_or next p 0 → q < length handlers → (get_or handlers q None ≢ None) ⊎ ((p < place) × (place ≤ q) × (q < past)))

-- the first of the ranges that covers a place
abbrev pub first_over : List Range → ℕ → Option Range
first_over [] place = None
first_over (range ∷ ranges) place = if covers range place then Some range else first_over ranges place

abbrev pub either : Option Range → Option Range → Option Range
either None other = other
either (Some one) other = Some one

drop_past : (i : ℕ) (ranges : List Range) → length ranges ≤ i → drop i ranges ≡ []
drop_past zero [] l = refl
drop_past zero (x ∷ xs) l = absurd (omega (arith, l))
drop_past (suc i) [] l = refl
drop_past (suc i) (x ∷ xs) l = drop_past i xs (omega (arith, l))

-- behind the last range
pub told_last : (best : Option Range) (i p : ℕ) (ranges : List Range) → length ranges ≤ i → either best (first_over (drop i ranges) p) ≡ first_over ranges p → best ≡ first_over ranges p
told_last best i p ranges l e = sym (last best) ∙ ap (λ xs. either best (first_over xs p)) (sym (drop_past i ranges l)) ∙ e
  where
    last : (o : Option Range) → either o None ≡ o
    last None = refl
    last (Some x) = refl
