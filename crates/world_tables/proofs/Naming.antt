-- Where nothing has two numbers, each element of a list has its number for a name.
use Rattle.std.proofs.Common.{◌≡◌, ℕ, suc, zero, ◌<◌, Option, Some, None, List, [], ◌∷◌, length, slice_get, option_map, refl, ap, ◌∙◌}
use Rattle.std.specs.Option.{unwrap_or}
use Rattle.graph_walks.specs.Renamings.{Names}
use Rattle.world_tables.specs.Tables.{HaveOneNumber}
use Rattle.world_tables.proofs.Items.{there}

-- what stands at two numbers has one
pub no_two : {A : Type 0} (xs : List A) → HaveOneNumber xs → (d : A) (k l : ℕ) → k < length xs → l < length xs → unwrap_or (slice_get xs k) d ≡ unwrap_or (slice_get xs l) d → k ≡ l
no_two xs once d k l h i e = once k l (unwrap_or (slice_get xs l) d) (there xs k d h ∙ ap Some e) (there xs l d i)

module _ {A : Type 0} (same : Discrete A) where
  -- the front's number, or one more than behind it
  abbrev from_front : {x a : A} → Dec (x ≡ a) → Option ℕ → Option ℕ
  from_front (yes e) behind = Some zero
  from_front (no n) behind = option_map suc behind

  abbrev number : List A → A → Option ℕ
  number [] a = None
  number (x ∷ xs) a = from_front (same x a) (number xs a)

  pub stands_there : (xs : List A) (a : A) (k : ℕ) → number xs a ≡ Some k → slice_get xs k ≡ Some a
  stands_there [] a k h = cc
  stands_there (x ∷ xs) a k h = by (same x a) (number xs a) k h (stands_there xs a)
    where
      by : (test : Dec (x ≡ a)) (behind : Option ℕ) (k : ℕ) → from_front test behind ≡ Some k → ((j : ℕ) → behind ≡ Some j → slice_get xs j ≡ Some a) → slice_get (x ∷ xs) k ≡ Some a
      by (yes e) behind zero h rest = ap Some e
      by (yes e) behind (suc k) h rest = cc
      by (no n) None k h rest = cc
      by (no n) (Some j) zero h rest = cc
      by (no n) (Some j) (suc k) h rest = let e : j ≡ k = cc in rest k (ap Some e)

  pub some_number : (xs : List A) (a : A) (k : ℕ) → slice_get xs k ≡ Some a → (j : ℕ) × (number xs a ≡ Some j)
  some_number [] a k h = cc
  some_number (x ∷ xs) a k h = by (same x a) k h (some_number xs a)
    where
      by : (test : Dec (x ≡ a)) (k : ℕ) → slice_get (x ∷ xs) k ≡ Some a → ((j : ℕ) → slice_get xs j ≡ Some a → (l : ℕ) × (number xs a ≡ Some l)) → (l : ℕ) × (from_front test (number xs a) ≡ Some l)
      by (yes e) k h rest = (zero, refl)
      by (no n) zero h rest = let e : x ≡ a = cc in absurd (n e)
      by (no n) (suc k) h rest = let r : (l : ℕ) × (number xs a ≡ Some l) = rest k h in (suc r.0, ap (option_map suc) r.1)

  abbrev pub numbered : (xs : List A) → HaveOneNumber xs → Names A ℕ
  numbered xs once =
      record {
        name = number xs;
        thing = slice_get xs;
        named = stands_there xs;
        names = λ a k h. let r : (l : ℕ) × (number xs a ≡ Some l) = some_number xs a k h in r.1 ∙ ap Some (once r.0 k a (stands_there xs a r.0 r.1) h);
      }
