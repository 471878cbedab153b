-- The lists in order are sorted, and have what they are to have.
use Rattle.std.proofs.Common.{◌≡◌, ℕ, suc, ◌+◌, Bool, true, false, not, ◌||◌, cond, IsTrue, inl, inr, List, [], ◌∷◌, refl, sym, ap, ◌∙◌, subst, arith}
use Rattle.std.specs.Cmp.Lexicographic.{slice_cmp, nat_list_cmp_total}
use Rattle.std.specs.BTreeMap.Comparable.{le_lt_trans}
use Rattle.std.specs.List.{filter, insert, position_or_len, AllByRecursion}
use Rattle.std.specs.List.Sorted.{IsPermutation}
use Rattle.std.specs.Ordering.{nat_cmp, is_lt, is_le, is_eq, ordering_reverse}
use Rattle.std.specs.Str.{bytes_eq}
use Rattle.std.specs.declared.cmp.Ordering.{Ordering}
use Rattle.std.specs.declared.cmp.Ordering.TheVariants.{Less, Equal, Greater}
use Rattle.std.proofs.lemmas.Bool.{cases_Bool}
use Rattle.std.proofs.lemmas.List.Sorted.{IsPermutation-refl, IsPermutation-trans, IsPermutation-cons, IsPermutation-insert}
use Rattle.std.proofs.lemmas.Map.Text.{is_eq-slice_cmp}
use Rattle.type_terms.specs.Stubs.{Name, Fun}
use Rattle.pyi_write.specs.Laws.{NoneBefore, StandInOrder, AllAfter, AreRising, NamesAreSorted, TextsAreSorted}
use Rattle.pyi_write.specs.Orders.{is_before, placed, has_text, with_text, in_order, is_fun, with_name, shown}
use Rattle.pyi_write.proofs.Before.{not_before}
use Rattle.pyi_write.proofs.Modules.{IsIn, placed_all, in_order_all, each_in_order, all_in}

-- ---- the order

le_back : (o : Ordering) → is_lt o ≡ false → IsTrue (is_le (ordering_reverse o))
le_back Less h = absurd (cc)
le_back Equal h = refl
le_back Greater h = refl

less : (o : Ordering) → is_lt o ≡ true → o ≡ Less
less Less h = refl
less Equal h = absurd (cc)
less Greater h = absurd (cc)

-- where a isn't before b, and b isn't before c, a isn't before c
no_skip : (a b c : List ℕ) → is_before a b ≡ false → is_before b c ≡ false → is_before a c ≡ false
no_skip a b c h k = elim (cases_Bool (is_before a c)) [
  | inl below ↦
      let le : IsTrue (is_le (slice_cmp nat_cmp b a)) = subst (λ o. IsTrue (is_le o)) (sym (nat_list_cmp_total.antisymm b a)) (le_back (slice_cmp nat_cmp a b) h) in
      let both : true ≡ false = sym (ap is_lt (le_lt_trans nat_list_cmp_total b a c le (less (slice_cmp nat_cmp a c) below))) ∙ k in absurd (cc)
  | inr other ↦ other
]

chain : (a b c : List ℕ) → is_before a b ≡ true → is_before b c ≡ true → is_before a c ≡ true
chain a b c h k = ap is_lt (nat_list_cmp_total.trans a b c (less (slice_cmp nat_cmp a b) h) (less (slice_cmp nat_cmp b c) k))

other_way : (o : Ordering) → is_lt o ≡ false → is_eq o ≡ false → is_lt (ordering_reverse o) ≡ true
other_way Less h k = absurd (cc)
other_way Equal h k = absurd (cc)
other_way Greater h k = refl

-- of two texts that differ, one is before the other
differ : (x y : List ℕ) → is_before y x ≡ false → bytes_eq y x ≡ false → is_before x y ≡ true
differ x y h k = ap is_lt (nat_list_cmp_total.antisymm x y) ∙ other_way (slice_cmp nat_cmp y x) h (is_eq-slice_cmp y x ∙ k)

change : {X : Type 0} (P Q : X → Type 0) (xs : List X) → ((x : X) → P x → Q x) → AllByRecursion P xs → AllByRecursion Q xs
change P Q [] each h = tt
change P Q (x ∷ xs) each h = (each x h.0, change P Q xs each h.1)

-- ---- names

one_more : (n m : Name) (more ms : List Name) (b : Bool) → is_before m.name n.name ≡ b → StandInOrder (m ∷ ms) → StandInOrder more → NoneBefore m.name ms → (b ≡ true → NoneBefore m.name more) → StandInOrder (cond b (m ∷ more) (n ∷ m ∷ ms))
one_more n m more ms true is h later all behind = (behind refl, later)
one_more n m more ms false is h later all behind =
    ((is, change (λ (k : Name). is_before k.name m.name ≡ false) (λ (k : Name). is_before k.name n.name ≡ false) ms (λ k behind. no_skip k.name m.name n.name behind is) all), h)

name_in_order : (n : Name) (ns : List Name) → StandInOrder ns → StandInOrder (with_name n ns)
name_in_order n [] h = (tt, tt)
name_in_order n (m ∷ ms) h =
    one_more n m (with_name n ms) ms (is_before m.name n.name) refl h (name_in_order n ms h.1) h.0
    (λ is. placed_all (λ (k : Name). is_before k.name m.name ≡ false) (λ (k : Name). is_before k.name n.name) n ms (not_before m.name n.name is) h.0)

module _ {X : Type 0} (before : X → Bool) (x : X) where
  by_test : (y : X) (ys more : List X) (n : ℕ) (b : Bool) → insert ys n x ≡ more → insert (y ∷ ys) (cond (not (not b)) (1 + n) 0) x ≡ cond b (y ∷ more) (x ∷ y ∷ ys)
  by_test y ys more n true is = let next : 1 + n ≡ suc n = omega arith in ap (λ k. insert (y ∷ ys) k x) next ∙ ap (λ zs. y ∷ zs) is
  by_test y ys more n false is = refl

  put : (ys : List X) → insert ys (position_or_len (λ y. not (before y)) ys) x ≡ placed before x ys
  put [] = refl
  put (y ∷ ys) = by_test y ys (placed before x ys) (position_or_len (λ z. not (before z)) ys) (before y) (put ys)

placed_same : {X : Type 0} (before : X → Bool) (x : X) (ys : List X) → IsPermutation (x ∷ ys) (placed before x ys)
placed_same before x ys = subst (IsPermutation (x ∷ ys)) (put before x ys) (IsPermutation-insert ys (position_or_len (λ y. not (before y)) ys) x)

module _ (fs : List Fun) where
  order_by : (n : Name) (ns : List Name) (b : Bool) → StandInOrder ns → StandInOrder (cond b ns (with_name n ns))
  order_by n ns true h = h
  order_by n ns false h = name_in_order n ns h

  in_order_of : (ns : List Name) → StandInOrder (shown fs ns)
  in_order_of [] = tt
  in_order_of (n ∷ ns) = order_by n (shown fs ns) (is_fun fs n.name) (in_order_of ns)

  same_by : (n : Name) (kept ns : List Name) (b : Bool) → IsPermutation kept ns → IsPermutation (cond (not b) (n ∷ kept) kept) (cond b ns (with_name n ns))
  same_by n kept ns true h = h
  same_by n kept ns false h = IsPermutation-trans (n ∷ kept) (n ∷ ns) (with_name n ns) (IsPermutation-cons n kept ns h) (placed_same (λ (m : Name). is_before m.name n.name) n ns)

  same_names : (ns : List Name) → IsPermutation (filter (λ (n : Name). not (is_fun fs n.name)) ns) (shown fs ns)
  same_names [] = IsPermutation-refl []
  same_names (n ∷ ns) = same_by n (filter (λ (m : Name). not (is_fun fs m.name)) ns) (shown fs ns) (is_fun fs n.name) (same_names ns)

pub names_are_sorted : (fs : List Fun) (ns : List Name) → NamesAreSorted fs ns
names_are_sorted fs ns = record { order = in_order_of fs ns; same = same_names fs ns }

-- ---- texts

first_of : (a b : Bool) → a || b ≡ false → a ≡ false
first_of true b h = absurd (cc)
first_of false b h = refl

second_of : (a b : Bool) → a || b ≡ false → b ≡ false
second_of true b h = absurd (cc)
second_of false b h = h

swapped : (x y : List ℕ) → bytes_eq x y ≡ false → bytes_eq y x ≡ false
swapped x y h = sym (is_eq-slice_cmp y x) ∙ ap is_eq (nat_list_cmp_total.antisymm y x) ∙ back (slice_cmp nat_cmp x y) ∙ is_eq-slice_cmp x y ∙ h
  where
    back : (o : Ordering) → is_eq (ordering_reverse o) ≡ is_eq o
    back Less = refl
    back Equal = refl
    back Greater = refl

text_more : (x y : List ℕ) (more ys : List (List ℕ)) (b : Bool) → is_before y x ≡ b → bytes_eq x y ≡ false → AreRising (y ∷ ys) → AllAfter y ys → AreRising more → (b ≡ true → AllAfter y more) → AreRising (cond b (y ∷ more) (x ∷ y ∷ ys))
text_more x y more ys true is new h all later behind = (behind refl, later)
text_more x y more ys false is new h all later behind =
    let before = differ x y is (swapped x y new) in
    ((before, change (λ z. is_before y z ≡ true) (λ z. is_before x z ≡ true) ys (λ z after. chain x y z before after) all), h)

text_rising : (x : List ℕ) (ys : List (List ℕ)) → has_text x ys ≡ false → AreRising ys → AreRising (placed (λ y. is_before y x) x ys)
text_rising x [] new h = (tt, tt)
text_rising x (y ∷ ys) new h =
    text_more x y (placed (λ z. is_before z x) x ys) ys (is_before y x) refl (first_of (bytes_eq x y) (has_text x ys) new) h h.0
    (text_rising x ys (second_of (bytes_eq x y) (has_text x ys) new) h.1)
    (λ is. placed_all (λ z. is_before y z ≡ true) (λ z. is_before z x) x ys is h.0)

rising_with : (x : List ℕ) (ys : List (List ℕ)) → AreRising ys → AreRising (with_text x ys)
rising_with x ys h = by_test (has_text x ys) refl
  where
    by_test : (b : Bool) → has_text x ys ≡ b → AreRising (cond b ys (placed (λ z. is_before z x) x ys))
    by_test true is = h
    by_test false is = text_rising x ys is h

pub rising : (xs : List (List ℕ)) → AreRising (in_order xs)
rising [] = tt
rising (x ∷ xs) = rising_with x (in_order xs) (rising xs)

pub texts_are_sorted : (xs : List (List ℕ)) → TextsAreSorted xs
texts_are_sorted xs = record { rising = rising xs; all = each_in_order xs; only = in_order_all (IsIn xs) xs (all_in xs) }
