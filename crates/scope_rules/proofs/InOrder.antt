-- Names in the order of their texts.
use Rattle.std.proofs.Common.{◌≡◌, ℕ, Bool, true, false, ◌&&◌, ◌||◌, not, nat_eq, List, [], ◌∷◌, All, filter, cond, if◌then◌else◌, refl, sym, ap, ◌∙◌, true≢false}
use Rattle.std.proofs.lemmas.Cmp.{nat_list_cmp_total}
use Rattle.std.proofs.lemmas.List.Elements.{All-cons, All-head, All-tail, All-nil}
use Rattle.std.proofs.lemmas.List.Sorted.{ranks_by}
use Rattle.std.specs.Cmp.{IsStrictWeakOrder}
use Rattle.std.specs.List.Sorted.{IsSortedBy, IsStableBy, ties}
use Rattle.std.specs.Ordering.{is_lt}
use Rattle.scope_rules.specs.NameLists.{has_name, text_of}
use Rattle.scope_rules.specs.Printed.{text_order, placed, in_order}
use Rattle.scope_rules.proofs.Rising.{Up, up_from_sorted, one_rises, kept, left}

both_not : (a b : Bool) → (not a && not b) ≡ true → (a ≡ false) × (b ≡ false)
both_not false false h = (refl, refl)
both_not false true h = absurd (true≢false (sym h))
both_not true b h = absurd (true≢false (sym h))

or_swap : (a b c : Bool) → (a || (b || c)) ≡ (b || (a || c))
or_swap true true c = refl
or_swap true false c = refl
or_swap false b c = refl

module _ (texts : List (List ℕ)) where
  abbrev pub lt : ℕ → ℕ → Bool
  lt n m = is_lt (text_order texts n m)

  pub ranks : IsStrictWeakOrder lt
  ranks = ranks_by nat_list_cmp_total (text_of texts)

  all_placed : (P : ℕ → Type 0) (n : ℕ) (xs : List ℕ) → P n → All P xs → All P (placed texts n xs)
  all_placed P n [] one all = All-cons P n [] one all
  all_placed P n (m ∷ ms) one all = by (lt m n) (all_placed P n ms one (All-tail P m ms all))
    where
      by : (b : Bool) → All P (placed texts n ms) → All P (if b then m ∷ placed texts n ms else n ∷ m ∷ ms)
      by true rest = All-cons P m (placed texts n ms) (All-head P m ms all) rest
      by false rest = All-cons P n (m ∷ ms) one all

  pub placed_up : (n : ℕ) (xs : List ℕ) → Up lt xs → Up lt (placed texts n xs)
  placed_up n [] u = (All-nil (λ y. lt y n ≡ false), tt)
  placed_up n (m ∷ ms) u = by (lt m n) refl (placed_up n ms u.1)
    where
      by : (b : Bool) → lt m n ≡ b → Up lt (placed texts n ms) → Up lt (if b then m ∷ placed texts n ms else n ∷ m ∷ ms)
      by true e rest = (all_placed (λ y. lt y m ≡ false) n ms (ranks.one_way m n e) u.0, rest)
      by false e rest = (All-cons (λ y. lt y n ≡ false) m ms e (λ k d w. ranks.chain _ m n (u.0 k d w) e), u)

  pub in_order_up : (ns : List ℕ) → Up lt (in_order texts ns)
  in_order_up [] = tt
  in_order_up (n ∷ ns) = placed_up n (in_order texts ns) (in_order_up ns)

  placed_same : (x n : ℕ) (xs : List ℕ) → filter (ties lt x) (placed texts n xs) ≡ filter (ties lt x) (n ∷ xs)
  placed_same x n [] = refl
  placed_same x n (m ∷ ms) = by (lt m n) refl (placed_same x n ms)
    where
      cases : (b c : Bool) → lt m n ≡ true → ties lt x m ≡ b → ties lt x n ≡ c → filter (ties lt x) (placed texts n ms) ≡ filter (ties lt x) (n ∷ ms) → filter (ties lt x) (m ∷ placed texts n ms) ≡ filter (ties lt x) (n ∷ m ∷ ms)
      cases false c e pm pn same = left (ties lt x) m (placed texts n ms) pm ∙ same ∙ ap (λ l. cond (ties lt x n) (n ∷ l) l) (sym (left (ties lt x) m ms pm))
      cases true false e pm pn same = kept (ties lt x) m (placed texts n ms) pm ∙ ap (λ l. m ∷ l) (same ∙ left (ties lt x) n ms pn) ∙ sym (left (ties lt x) n (m ∷ ms) pn ∙ kept (ties lt x) m ms pm)
      cases true true e pm pn same = absurd (true≢false (sym e ∙ ranks.chain m x n (both_not (lt x m) (lt m x) pm).1 (both_not (lt x n) (lt n x) pn).0))

      by : (b : Bool) → lt m n ≡ b → filter (ties lt x) (placed texts n ms) ≡ filter (ties lt x) (n ∷ ms) → filter (ties lt x) (if b then m ∷ placed texts n ms else n ∷ m ∷ ms) ≡ filter (ties lt x) (n ∷ m ∷ ms)
      by true e same = cases (ties lt x m) (ties lt x n) e refl refl same
      by false e same = refl

  in_order_same : (ns : List ℕ) (x : ℕ) → filter (ties lt x) (in_order texts ns) ≡ filter (ties lt x) ns
  in_order_same [] x = refl
  in_order_same (n ∷ ns) x = placed_same x n (in_order texts ns) ∙ ap (λ l. cond (ties lt x n) (n ∷ l) l) (in_order_same ns x)

  -- what a stable sort by texts leaves
  pub sorted_is : (xs ys : List ℕ) → IsSortedBy lt ys → IsStableBy lt xs ys → ys ≡ in_order texts xs
  sorted_is xs ys up same = one_rises lt ranks ys (in_order texts xs) (up_from_sorted lt ranks ys up) (in_order_up xs) (λ x. same x ∙ sym (in_order_same xs x))

  pub placed_has : (k n : ℕ) (xs : List ℕ) → has_name (placed texts n xs) k ≡ (nat_eq k n || has_name xs k)
  placed_has k n [] = refl
  placed_has k n (m ∷ ms) = by (lt m n) (placed_has k n ms)
    where
      by : (b : Bool) → has_name (placed texts n ms) k ≡ (nat_eq k n || has_name ms k) → has_name (if b then m ∷ placed texts n ms else n ∷ m ∷ ms) k ≡ (nat_eq k n || has_name (m ∷ ms) k)
      by true rest = ap (λ b. nat_eq k m || b) rest ∙ or_swap (nat_eq k m) (nat_eq k n) (has_name ms k)
      by false rest = refl

  -- order changes no members
  pub in_order_has : (ns : List ℕ) (k : ℕ) → has_name (in_order texts ns) k ≡ has_name ns k
  in_order_has [] k = refl
  in_order_has (n ∷ ns) k = placed_has k n (in_order texts ns) ∙ ap (λ b. nat_eq k n || b) (in_order_has ns k)
