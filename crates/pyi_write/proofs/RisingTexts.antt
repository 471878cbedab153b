-- Texts that rise: there is one list of given texts, and a sort leaves it once repetitions are dropped.
use Rattle.std.proofs.Common.{◌≡◌, ℕ, Bool, true, false, ◌||◌, cond, Bor, List, [], ◌∷◌, map, refl, sym, ap, ◌∙◌, subst}
use Rattle.std.specs.Cmp.Lexicographic.{slice_cmp, bytes_decides, on_texts, texts_ties}
use Rattle.std.specs.List.{list_any, AllByRecursion, dedup, dedup_from}
use Rattle.std.specs.List.Sorted.{IsPermutation, IsSorted, IsStrictlySortedBy}
use Rattle.std.specs.Ordering.{nat_cmp, is_lt, is_eq}
use Rattle.std.specs.Str.{bytes_eq}
use Rattle.std.specs.declared.cmp.Ordering.{Ordering}
use Rattle.std.specs.declared.cmp.Ordering.TheVariants.{Less, Equal, Greater}
use Rattle.std.proofs.lemmas.List.Kept.{IsStrictlySortedBy-dedup}
use Rattle.std.proofs.lemmas.List.Sorted.{list_any-IsPermutation}
use Rattle.std.proofs.lemmas.Map.Text.{is_eq-slice_cmp}
use Rattle.pyi_write.specs.Laws.{AllAfter, AreRising}
use Rattle.pyi_write.specs.Orders.{is_before, placed, has_text, with_text, in_order}
use Rattle.pyi_write.proofs.Before.{not_before}
use Rattle.pyi_write.proofs.Modules.{same_text}
use Rattle.pyi_write.proofs.Sorting.{rising}

-- ---- one list

not_equal : (o : Ordering) → is_lt o ≡ true → is_eq o ≡ false
not_equal Less h = refl
not_equal Equal h = absurd (cc)
not_equal Greater h = refl

differs : (x y : List ℕ) → is_before x y ≡ true → bytes_eq x y ≡ false
differs x y h = sym (is_eq-slice_cmp x y) ∙ not_equal (slice_cmp nat_cmp x y) h

absent : (x : List ℕ) (ys : List (List ℕ)) → AllAfter x ys → has_text x ys ≡ false
absent x [] all = refl
absent x (y ∷ ys) all = ap (λ b. b || has_text x ys) (differs x y all.0) ∙ absent x ys all.1

found : (x y : List ℕ) (zs : List (List ℕ)) → AllAfter y zs → has_text x zs ≡ true → is_before y x ≡ true
found x y [] all h = absurd (cc)
found x y (z ∷ zs) all h = by (bytes_eq x z) refl (found x y zs all.1)
  where
    by : (b : Bool) → bytes_eq x z ≡ b → (has_text x zs ≡ true → is_before y x ≡ true) → is_before y x ≡ true
    by true e later = subst (λ w. is_before y w ≡ true) (sym ((bytes_decides x z).0 e)) all.0
    by false e later = later (sym (ap (λ b. b || has_text x zs) e) ∙ h)

has_first : (x : List ℕ) (xs : List (List ℕ)) → has_text x (x ∷ xs) ≡ true
has_first x xs = ap (λ b. b || has_text x xs) (same_text x)

-- the text itself, or one before it
before_or_is : (x y : List ℕ) (ys : List (List ℕ)) (b : Bool) → AllAfter y ys → has_text x (y ∷ ys) ≡ true → bytes_eq x y ≡ b → b ≡ false → is_before y x ≡ true
before_or_is x y ys b all h e is = found x y ys all (sym (ap (λ t. t || has_text x ys) (e ∙ is)) ∙ h)

same_first : (x y : List ℕ) (xs ys : List (List ℕ)) → AllAfter x xs → AllAfter y ys → ((z : List ℕ) → has_text z (x ∷ xs) ≡ has_text z (y ∷ ys)) → x ≡ y
same_first x y xs ys ax ay same = by (bytes_eq x y) (bytes_eq y x) refl refl
  where
    by : (a b : Bool) → bytes_eq x y ≡ a → bytes_eq y x ≡ b → x ≡ y
    by true b e k = (bytes_decides x y).0 e
    by false true e k = sym ((bytes_decides y x).0 k)
    by false false e k =
        let below = before_or_is x y ys false ay (sym (same x) ∙ has_first x xs) e refl in
        let above = before_or_is y x xs false ax (same y ∙ has_first y ys) k refl in
        let both : false ≡ true = sym (not_before x y above) ∙ below in absurd (cc)

same_rest : (x : List ℕ) (xs ys : List (List ℕ)) → AllAfter x xs → AllAfter x ys → ((z : List ℕ) → has_text z (x ∷ xs) ≡ has_text z (x ∷ ys)) → (z : List ℕ) → has_text z xs ≡ has_text z ys
same_rest x xs ys ax ay same z = by (bytes_eq z x) refl
  where
    none : (zs : List (List ℕ)) → AllAfter x zs → z ≡ x → has_text z zs ≡ false
    none zs all is = ap (λ w. has_text w zs) is ∙ absent x zs all

    by : (b : Bool) → bytes_eq z x ≡ b → has_text z xs ≡ has_text z ys
    by true e = let is = (bytes_decides z x).0 e in none xs ax is ∙ sym (none ys ay is)
    by false e = sym (ap (λ b. b || has_text z xs) e) ∙ same z ∙ ap (λ b. b || has_text z ys) e

one_rising : (xs ys : List (List ℕ)) → AreRising xs → AreRising ys → ((z : List ℕ) → has_text z xs ≡ has_text z ys) → xs ≡ ys
one_rising [] [] ux uy same = refl
one_rising [] (y ∷ ys) ux uy same = let both : false ≡ true = same y ∙ has_first y ys in absurd (cc)
one_rising (x ∷ xs) [] ux uy same = let both : false ≡ true = sym (same x) ∙ has_first x xs in absurd (cc)
one_rising (x ∷ xs) (y ∷ ys) ux uy same =
    let is = same_first x y xs ys ux.0 uy.0 same in
    let after : AllAfter x ys = subst (λ w. AllAfter w ys) (sym is) uy.0 in
    let rest = same_rest x xs ys ux.0 after (λ z. same z ∙ ap (λ w. has_text z (w ∷ ys)) (sym is)) in
    ap (λ zs. x ∷ zs) (one_rising xs ys ux.1 uy.1 rest) ∙ ap (λ w. w ∷ ys) is

-- ---- the texts of a list in order

or_swap : (a b c : Bool) → (a || (b || c)) ≡ (b || (a || c))
or_swap true true c = refl
or_swap true false c = refl
or_swap false b c = refl

placed_texts : (before : List ℕ → Bool) (z x : List ℕ) (ys : List (List ℕ)) → has_text z (placed before x ys) ≡ (bytes_eq z x || has_text z ys)
placed_texts before z x [] = refl
placed_texts before z x (y ∷ ys) = by (before y) (placed_texts before z x ys)
  where
    by : (b : Bool) → has_text z (placed before x ys) ≡ (bytes_eq z x || has_text z ys) → has_text z (cond b (y ∷ placed before x ys) (x ∷ y ∷ ys)) ≡ (bytes_eq z x || has_text z (y ∷ ys))
    by true is = ap (λ b. bytes_eq z y || b) is ∙ or_swap (bytes_eq z y) (bytes_eq z x) (has_text z ys)
    by false is = refl

with_texts : (z x : List ℕ) (ys : List (List ℕ)) → has_text z (with_text x ys) ≡ (bytes_eq z x || has_text z ys)
with_texts z x ys = by (has_text x ys) refl
  where
    there : (b : Bool) → bytes_eq z x ≡ b → has_text x ys ≡ true → has_text z ys ≡ (b || has_text z ys)
    there true e h = ap (λ w. has_text w ys) ((bytes_decides z x).0 e) ∙ h
    there false e h = refl

    by : (b : Bool) → has_text x ys ≡ b → has_text z (cond b ys (placed (λ y. is_before y x) x ys)) ≡ (bytes_eq z x || has_text z ys)
    by true h = there (bytes_eq z x) refl h
    by false h = placed_texts (λ y. is_before y x) z x ys

in_order_texts : (z : List ℕ) (xs : List (List ℕ)) → has_text z (in_order xs) ≡ has_text z xs
in_order_texts z [] = refl
in_order_texts z (x ∷ xs) = with_texts z x (in_order xs) ∙ ap (λ b. bytes_eq z x || b) (in_order_texts z xs)

-- ---- what a sort leaves

any_map : {X Y : Type 0} (p : Y → Bool) (f : X → Y) (xs : List X) → list_any p (map f xs) ≡ list_any (λ x. p (f x)) xs
any_map p f [] = refl
any_map p f (x ∷ xs) = ap (λ b. p (f x) || b) (any_map p f xs)

module _ {X : Type 0} (same : X → X → Bool) (p : X → Bool) (alike : (x y : X) → same x y ≡ true → p x ≡ p y) where
  twice : (b c : Bool) → (b || c) ≡ (b || (b || c))
  twice true c = refl
  twice false c = refl

  any_from : (k : X) (xs : List X) → list_any p (dedup_from same k xs) ≡ (p k || list_any p xs)
  any_from k [] = refl
  any_from k (x ∷ xs) = by (same x k) refl (any_from k xs) (any_from x xs)
    where
      by : (b : Bool) → same x k ≡ b → list_any p (dedup_from same k xs) ≡ (p k || list_any p xs) → list_any p (dedup_from same x xs) ≡ (p x || list_any p xs) → list_any p (cond b (dedup_from same k xs) (k ∷ dedup_from same x xs)) ≡ (p k || (p x || list_any p xs))
      by true e at_k at_x = at_k ∙ twice (p k) (list_any p xs) ∙ ap (λ b. p k || (b || list_any p xs)) (sym (alike x k e))
      by false e at_k at_x = ap (λ b. p k || b) at_x

  any_dedup : (xs : List X) → list_any p (dedup same xs) ≡ list_any p xs
  any_dedup [] = refl
  any_dedup (x ∷ xs) = any_from x xs

abbrev pub texts_of : List (Bor (List ℕ)) → List (List ℕ)
texts_of bs = map (λ (b : Bor (List ℕ)). b.now) bs

abbrev pub text_cmp : Bor (List ℕ) → Bor (List ℕ) → Ordering
text_cmp a b = slice_cmp nat_cmp a.now b.now

abbrev pub same_bytes : Bor (List ℕ) → Bor (List ℕ) → Bool
same_bytes a b = bytes_eq a.now b.now

all_after : (b : Bor (List ℕ)) (bs : List (Bor (List ℕ))) → AllByRecursion (λ other. text_cmp b other ≡ Less) bs → AllAfter b.now (texts_of bs)
all_after b [] all = tt
all_after b (c ∷ cs) all = (ap is_lt all.0, all_after b cs all.1)

texts_rise : (bs : List (Bor (List ℕ))) → IsStrictlySortedBy text_cmp bs → AreRising (texts_of bs)
unfolding IsStrictlySortedBy
texts_rise [] up = tt
texts_rise (b ∷ bs) up = (all_after b bs up.0, texts_rise bs up.1)

module _ (old sorted new : List (Bor (List ℕ))) (moved : IsPermutation old sorted) (up : IsSorted text_cmp sorted) (kept : new ≡ dedup same_bytes sorted) where
  alike : (z : List ℕ) (a b : Bor (List ℕ)) → same_bytes a b ≡ true → bytes_eq z a.now ≡ bytes_eq z b.now
  alike z a b e = ap (bytes_eq z) ((bytes_decides a.now b.now).0 e)

  same_texts : (z : List ℕ) → has_text z (texts_of new) ≡ has_text z (texts_of old)
  same_texts z =
      let p : Bor (List ℕ) → Bool = λ b. bytes_eq z b.now in
      any_map (bytes_eq z) (λ (b : Bor (List ℕ)). b.now) new
      ∙ ap (list_any p) kept
      ∙ any_dedup same_bytes p (alike z) sorted
      ∙ sym (list_any-IsPermutation p old sorted moved)
      ∙ sym (any_map (bytes_eq z) (λ (b : Bor (List ℕ)). b.now) old)

  pub sorted_texts : texts_of new ≡ in_order (texts_of old)
  sorted_texts =
      let strict : IsStrictlySortedBy text_cmp new = subst (IsStrictlySortedBy text_cmp) (sym kept) (IsStrictlySortedBy-dedup (on_texts (λ (b : Bor (List ℕ)). b.now)) (λ a b. texts_ties a.now b.now) sorted up) in
      one_rising (texts_of new) (in_order (texts_of old)) (texts_rise new strict) (rising (texts_of old)) (λ z. same_texts z ∙ sym (in_order_texts z (texts_of old)))
