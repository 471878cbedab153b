-- Names among builtin names.
use Rattle.std.proofs.Common.{◌≡◌, ℕ, suc, ◌+◌, Bool, true, false, not, ◌||◌, List, [], ◌∷◌, ◌++◌, Some, None, cond, if◌then◌else◌, nat_lt, length, refl, sym, ap, ◌∙◌, arith, slice_get}
use Rattle.std.proofs.lemmas.Bool.Decides.{nat_tests}
use Rattle.std.proofs.lemmas.List.Folds.{list_any-append, find_at}
use Rattle.std.specs.Cmp.Lexicographic.{bytes_decides}
use Rattle.std.specs.List.{list_any, position, position_or_len, find}
use Rattle.std.specs.Option.{is_some, option_and_then}
use Rattle.std.specs.Str.{bytes_eq}

-- a text among four lists of names
pub among_four : (p : List ℕ → Bool) (a b c d : List (List ℕ)) → list_any p (a ++ b ++ c ++ d) ≡ (list_any p a || list_any p b || list_any p c || list_any p d)
among_four p a b c d =
    list_any-append p (a ++ b ++ c) d
    ∙ ap (λ x. x || list_any p d) (list_any-append p (a ++ b) c ∙ ap (λ x. x || list_any p c) (list_any-append p a b))

text_found : (text : List ℕ) (names : List (List ℕ)) → find (bytes_eq text) names ≡ (if list_any (bytes_eq text) names then Some text else None)
text_found text [] = refl
text_found text (n ∷ names) =
    elim (bytes_eq text n) as (λ b. bytes_eq text n ≡ b → cond b (Some n) (find (bytes_eq text) names) ≡ (if b || list_any (bytes_eq text) names then Some text else None)) [
      | true ↦ λ same. ap Some (sym ((bytes_decides text n).0 same))
      | false ↦ λ other. text_found text names
    ] refl

-- what stands at the first place of a text is the text
first_place : (text : List ℕ) (names : List (List ℕ))
    → slice_get names (position_or_len (bytes_eq text) names) ≡ (if list_any (bytes_eq text) names then Some text else None)
first_place text names = sym (find_at (bytes_eq text) names) ∙ text_found text names

first_less : (n : ℕ) (b : Bool) → nat_lt 0 (suc n) ≡ b → true ≡ b
first_less n b e = grind (arith, nat_tests)

next_less : (m n : ℕ) (a b : Bool) → nat_lt m n ≡ a → nat_lt (1 + m) (suc n) ≡ b → a ≡ b
next_less m n a b e f = grind (arith, nat_tests)

is_among : (p : List ℕ → Bool) (names : List (List ℕ)) → list_any p names ≡ nat_lt (position_or_len p names) (length names)
is_among p [] = refl
is_among p (n ∷ names) = go (p n) (is_among p names)
  where
    go : (b : Bool) → list_any p names ≡ nat_lt (position_or_len p names) (length names) → (b || list_any p names) ≡ nat_lt (cond (not b) (1 + position_or_len p names) 0) (suc (length names))
    go true e = first_less (length names) (nat_lt 0 (suc (length names))) refl
    go false e = e ∙ next_less (position_or_len p names) (length names) _ _ refl refl

-- a text has a place among names where it is one of them
pub is_placed : (p : List ℕ → Bool) (names : List (List ℕ)) → is_some (position p names) ≡ list_any p names
is_placed p names = go (nat_lt (position_or_len p names) (length names)) ∙ sym (is_among p names)
  where
    go : (b : Bool) → is_some (cond b (Some (position_or_len p names)) None) ≡ b
    go true = refl
    go false = refl

pub name_placed : (text : List ℕ) (names : List (List ℕ))
    → option_and_then (slice_get names) (position (bytes_eq text) names) ≡ (if list_any (bytes_eq text) names then Some text else None)
name_placed text names = go (nat_lt (position_or_len (bytes_eq text) names) (length names)) (is_among (bytes_eq text) names)
  where
    go : (b : Bool) → list_any (bytes_eq text) names ≡ b → option_and_then (slice_get names) (cond b (Some (position_or_len (bytes_eq text) names)) None) ≡ (if list_any (bytes_eq text) names then Some text else None)
    go true e = first_place text names
    go false e = sym (ap (λ c. if c then Some text else None) e)
