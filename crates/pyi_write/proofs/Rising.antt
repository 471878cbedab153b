-- Lists that rise, where elements that tie stand in a given order: there is one of them, the one by insertion.
use Rattle.std.proofs.Common.{◌≡◌, suc, ◌+◌, Bool, true, false, ◌&&◌, not, List, [], ◌∷◌, map, get_or, All, filter, cond, if◌then◌else◌, refl, sym, ap, subst, ◌∙◌, arith, true≢false}
use Rattle.std.proofs.lemmas.List.Elements.{All-filter, All-cons, All-head, All-tail, All-nil}
use Rattle.std.proofs.lemmas.List.Sorted.{sorted_far}
use Rattle.std.specs.Cmp.{IsStrictWeakOrder}
use Rattle.std.specs.List.Sorted.{IsSortedBy, IsStableBy, ties}
use Rattle.pyi_write.specs.Orders.{placed}

cons_head : {X : Type 0} (x y : X) (xs ys : List X) → x ∷ xs ≡ y ∷ ys → x ≡ y
cons_head x y xs ys e = cc

cons_tail : {X : Type 0} (x y : X) (xs ys : List X) → x ∷ xs ≡ y ∷ ys → xs ≡ ys
cons_tail x y xs ys e = cc

-- what a filter does at the first element
kept : {X : Type 0} (p : X → Bool) (x : X) (xs : List X) → p x ≡ true → filter p (x ∷ xs) ≡ x ∷ filter p xs
kept p x xs e = ap (λ b. cond b (x ∷ filter p xs) (filter p xs)) e

left : {X : Type 0} (p : X → Bool) (x : X) (xs : List X) → p x ≡ false → filter p (x ∷ xs) ≡ filter p xs
left p x xs e = ap (λ b. cond b (x ∷ filter p xs) (filter p xs)) e

both_not : (a b : Bool) → (not a && not b) ≡ true → (a ≡ false) × (b ≡ false)
both_not false false h = (refl, refl)
both_not false true h = absurd (true≢false (sym h))
both_not true b h = absurd (true≢false (sym h))

module _ {X : Type 0} (lt : X → X → Bool) where
  -- none comes before one that stands before it
  abbrev pub Up : List X → Type 0
  Up [] = Unit {0}
  Up (x ∷ xs) = All (λ y. lt y x ≡ false) xs × Up xs

  -- Ties stand in both lists in the same order.
  abbrev pub SameTies : List X → List X → Type 0
  SameTies xs ys = (x : X) → filter (ties lt x) xs ≡ filter (ties lt x) ys

  -- each element before the first that doesn't stand before it
  abbrev pub inserted : List X → List X
  inserted [] = []
  inserted (x ∷ xs) = placed (λ y. lt y x) x (inserted xs)

module _ {X : Type 0} (lt : X → X → Bool) (o : IsStrictWeakOrder lt) where
  later : (x : X) (xs : List X) → IsSortedBy lt (x ∷ xs) → All (λ y. lt y x ≡ false) xs
  later x xs up k d within = let h : lt (get_or (x ∷ xs) (suc k) d) x ≡ false = sorted_far lt o (x ∷ xs) up 0 (suc k) d (omega arith) (omega (arith, within)) in h

  -- what a sort leaves
  up_from_sorted : (xs : List X) → IsSortedBy lt xs → Up lt xs
  up_from_sorted [] up = tt
  up_from_sorted (x ∷ xs) up = (later x xs up, up_from_sorted xs rest)
    where
      rest : IsSortedBy lt xs
      rest k d from below =
          let e : suc k + 1 ≡ suc (k + 1) = omega arith in
          subst (λ i. lt (get_or (x ∷ xs) i d) (get_or xs k d) ≡ false) e (up (suc k) d (omega arith) (omega (arith, below)))

  itself : (x : X) → lt x x ≡ false
  itself x = by (lt x x) refl
    where
      by : (b : Bool) → lt x x ≡ b → lt x x ≡ false
      by true e = o.one_way x x e
      by false e = e

  tied : (x : X) → ties lt x x ≡ true
  tied x = ap (λ b. not b && not b) (itself x)

  none : (y : X) (ys : List X) → filter (ties lt y) [] ≡ filter (ties lt y) (y ∷ ys) → ⊥
  none y ys e = let f : [] ≡ y ∷ filter (ties lt y) ys = e ∙ kept (ties lt y) y ys (tied y) in cc

  -- the first of a list that has another one's ties doesn't come before that one's first
  first_not_before : (x y : X) (xs ys : List X) → Up lt (y ∷ ys) → filter (ties lt x) (x ∷ xs) ≡ filter (ties lt x) (y ∷ ys) → lt x y ≡ false
  first_not_before x y xs ys up e =
      let P : X → Type 0 = λ z. lt z y ≡ false in
      let all : All P (filter (ties lt x) (y ∷ ys)) = All-filter (ties lt x) P (y ∷ ys) (All-cons P y ys (itself y) up.0) in
      All-head P x (filter (ties lt x) xs) (subst (All P) (sym e ∙ kept (ties lt x) x xs (tied x)) all)

  -- two lists that rise and have the same ties are one
  one_rises : (xs ys : List X) → Up lt xs → Up lt ys → SameTies lt xs ys → xs ≡ ys
  one_rises [] [] ux uy same = refl
  one_rises [] (y ∷ ys) ux uy same = absurd (none y ys (same y))
  one_rises (x ∷ xs) [] ux uy same = absurd (none x xs (sym (same x)))
  one_rises (x ∷ xs) (y ∷ ys) ux uy same =
      let first = first_not_before x y xs ys uy (same x) in
      let second = first_not_before y x ys xs ux (sym (same y)) in
      let tie : ties lt x y ≡ true = ap (λ b. not b && not (lt y x)) first ∙ ap (λ b. not b) second in
      let both : x ∷ filter (ties lt x) xs ≡ y ∷ filter (ties lt x) ys = sym (kept (ties lt x) x xs (tied x)) ∙ same x ∙ kept (ties lt x) y ys tie in
      let is : x ≡ y = cons_head x y _ _ both in
      let rest : SameTies lt xs ys = λ z. tails is z (ties lt z x) refl in
      ap (λ z. z ∷ xs) is ∙ ap (λ zs. y ∷ zs) (one_rises xs ys ux.1 uy.1 rest)
    where
      tails : x ≡ y → (z : X) (b : Bool) → ties lt z x ≡ b → filter (ties lt z) xs ≡ filter (ties lt z) ys
      tails is z true e = cons_tail x y _ _ (sym (kept (ties lt z) x xs e) ∙ same z ∙ kept (ties lt z) y ys (ap (ties lt z) (sym is) ∙ e))
      tails is z false e = sym (left (ties lt z) x xs e) ∙ same z ∙ left (ties lt z) y ys (ap (ties lt z) (sym is) ∙ e)

  all_placed : (P : X → Type 0) (x : X) (xs : List X) → P x → All P xs → All P (placed (λ y. lt y x) x xs)
  all_placed P x [] one all = All-cons P x [] one all
  all_placed P x (y ∷ ys) one all = by (lt y x) (all_placed P x ys one (All-tail P y ys all))
    where
      by : (b : Bool) → All P (placed (λ z. lt z x) x ys) → All P (if b then y ∷ placed (λ z. lt z x) x ys else x ∷ y ∷ ys)
      by true rest = All-cons P y (placed (λ z. lt z x) x ys) (All-head P y ys all) rest
      by false rest = All-cons P x (y ∷ ys) one all

  placed_up : (x : X) (xs : List X) → Up lt xs → Up lt (placed (λ y. lt y x) x xs)
  placed_up x [] u = (All-nil (λ y. lt y x ≡ false), tt)
  placed_up x (y ∷ ys) u = by (lt y x) refl (placed_up x ys u.1)
    where
      by : (b : Bool) → lt y x ≡ b → Up lt (placed (λ z. lt z x) x ys) → Up lt (if b then y ∷ placed (λ z. lt z x) x ys else x ∷ y ∷ ys)
      by true e rest = (all_placed (λ z. lt z y ≡ false) x ys (o.one_way y x e) u.0, rest)
      by false e rest = (All-cons (λ z. lt z x ≡ false) y ys e (λ k d w. o.chain _ y x (u.0 k d w) e), u)

  inserted_up : (xs : List X) → Up lt (inserted lt xs)
  inserted_up [] = tt
  inserted_up (x ∷ xs) = placed_up x (inserted lt xs) (inserted_up xs)

  placed_ties : (z x : X) (xs : List X) → filter (ties lt z) (placed (λ y. lt y x) x xs) ≡ filter (ties lt z) (x ∷ xs)
  placed_ties z x [] = refl
  placed_ties z x (y ∷ ys) = by (lt y x) refl (placed_ties z x ys)
    where
      cases : (b c : Bool) → lt y x ≡ true → ties lt z y ≡ b → ties lt z x ≡ c → filter (ties lt z) (placed (λ w. lt w x) x ys) ≡ filter (ties lt z) (x ∷ ys) → filter (ties lt z) (y ∷ placed (λ w. lt w x) x ys) ≡ filter (ties lt z) (x ∷ y ∷ ys)
      cases false c e py px same = left (ties lt z) y (placed (λ w. lt w x) x ys) py ∙ same ∙ ap (λ l. cond (ties lt z x) (x ∷ l) l) (sym (left (ties lt z) y ys py))
      cases true false e py px same = kept (ties lt z) y (placed (λ w. lt w x) x ys) py ∙ ap (λ l. y ∷ l) (same ∙ left (ties lt z) x ys px) ∙ sym (left (ties lt z) x (y ∷ ys) px ∙ kept (ties lt z) y ys py)
      cases true true e py px same = absurd (true≢false (sym e ∙ o.chain y z x (both_not (lt z y) (lt y z) py).1 (both_not (lt z x) (lt x z) px).0))

      by : (b : Bool) → lt y x ≡ b → filter (ties lt z) (placed (λ w. lt w x) x ys) ≡ filter (ties lt z) (x ∷ ys) → filter (ties lt z) (if b then y ∷ placed (λ w. lt w x) x ys else x ∷ y ∷ ys) ≡ filter (ties lt z) (x ∷ y ∷ ys)
      by true e same = cases (ties lt z y) (ties lt z x) e refl refl same
      by false e same = refl

  inserted_ties : (xs : List X) (z : X) → filter (ties lt z) (inserted lt xs) ≡ filter (ties lt z) xs
  inserted_ties [] z = refl
  inserted_ties (x ∷ xs) z = placed_ties z x (inserted lt xs) ∙ ap (λ l. cond (ties lt z x) (x ∷ l) l) (inserted_ties xs z)

  -- what a stable sort leaves
  pub sorted_is : (xs ys : List X) → IsSortedBy lt ys → IsStableBy lt xs ys → ys ≡ inserted lt xs
  sorted_is xs ys up same = one_rises ys (inserted lt xs) (up_from_sorted ys up) (inserted_up xs) (λ z. same z ∙ sym (inserted_ties xs z))

-- insertion looks at nothing but the keys
module _ {X Y : Type 0} (f : X → Y) (lt : Y → Y → Bool) where
  placed_map : (x : X) (ys : List X) → map f (placed (λ y. lt (f y) (f x)) x ys) ≡ placed (λ y. lt y (f x)) (f x) (map f ys)
  placed_map x [] = refl
  placed_map x (y ∷ ys) = either (lt (f y) (f x)) (placed_map x ys)
    where
      either : (b : Bool) → map f (placed (λ z. lt (f z) (f x)) x ys) ≡ placed (λ z. lt z (f x)) (f x) (map f ys) → map f (cond b (y ∷ placed (λ z. lt (f z) (f x)) x ys) (x ∷ y ∷ ys)) ≡ cond b (f y ∷ placed (λ z. lt z (f x)) (f x) (map f ys)) (f x ∷ f y ∷ map f ys)
      either true is = ap (λ zs. f y ∷ zs) is
      either false is = refl

  pub inserted_map : (xs : List X) → map f (inserted (λ a b. lt (f a) (f b)) xs) ≡ inserted lt (map f xs)
  inserted_map [] = refl
  inserted_map (x ∷ xs) = placed_map x (inserted (λ a b. lt (f a) (f b)) xs) ∙ ap (placed (λ y. lt y (f x)) (f x)) (inserted_map xs)
