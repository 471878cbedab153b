-- Lists that rise, where elements that tie stand in a given order: there is one of them.
use Rattle.std.proofs.Common.{◌≡◌, suc, ◌+◌, Bool, true, false, ◌&&◌, not, List, [], ◌∷◌, get_or, All, filter, cond, refl, sym, ap, subst, ◌∙◌, arith}
use Rattle.std.proofs.lemmas.List.Elements.{All-filter, All-cons, All-head}
use Rattle.std.proofs.lemmas.List.Sorted.{sorted_far}
use Rattle.std.specs.Cmp.{IsStrictWeakOrder}
use Rattle.std.specs.List.Sorted.{IsSortedBy, ties}

pub cons_head : {X : Type 0} (x y : X) (xs ys : List X) → x ∷ xs ≡ y ∷ ys → x ≡ y
cons_head x y xs ys e = cc

pub cons_tail : {X : Type 0} (x y : X) (xs ys : List X) → x ∷ xs ≡ y ∷ ys → xs ≡ ys
cons_tail x y xs ys e = cc

-- what a filter does at the first element
pub kept : {X : Type 0} (p : X → Bool) (x : X) (xs : List X) → p x ≡ true → filter p (x ∷ xs) ≡ x ∷ filter p xs
kept p x xs e = ap (λ b. cond b (x ∷ filter p xs) (filter p xs)) e

pub left : {X : Type 0} (p : X → Bool) (x : X) (xs : List X) → p x ≡ false → filter p (x ∷ xs) ≡ filter p xs
left p x xs e = ap (λ b. cond b (x ∷ filter p xs) (filter p xs)) e

module _ {X : Type 0} (lt : X → X → Bool) where
  -- none comes before one that stands before it
  abbrev pub Up : List X → Type 0
  Up [] = Unit {0}
  Up (x ∷ xs) = All (λ y. lt y x ≡ false) xs × Up xs

  -- Ties stand in both lists in the same order.
  abbrev pub SameTies : List X → List X → Type 0
  SameTies xs ys = (x : X) → filter (ties lt x) xs ≡ filter (ties lt x) ys

module _ {X : Type 0} (lt : X → X → Bool) (o : IsStrictWeakOrder lt) where
  later : (x : X) (xs : List X) → IsSortedBy lt (x ∷ xs) → All (λ y. lt y x ≡ false) xs
  later x xs up k d within = let h : lt (get_or (x ∷ xs) (suc k) d) x ≡ false = sorted_far lt o (x ∷ xs) up 0 (suc k) d (omega arith) (omega (arith, within)) in h

  -- what a sort leaves
  pub up_from_sorted : (xs : List X) → IsSortedBy lt xs → Up lt xs
  up_from_sorted [] up = tt
  up_from_sorted (x ∷ xs) up = (later x xs up, up_from_sorted xs rest)
    where
      rest : IsSortedBy lt xs
      rest k d from below =
          let e : suc k + 1 ≡ suc (k + 1) = omega arith in
          subst (λ i. lt (get_or (x ∷ xs) i d) (get_or xs k d) ≡ false) e (up (suc k) d (omega arith) (omega (arith, below)))

  itself : (x : X) → lt x x ≡ false
  itself x = by (lt x x) refl
    where
      by : (b : Bool) → lt x x ≡ b → lt x x ≡ false
      by true e = o.one_way x x e
      by false e = e

  tied : (x : X) → ties lt x x ≡ true
  tied x = ap (λ b. not b && not b) (itself x)

  none : (y : X) (ys : List X) → filter (ties lt y) [] ≡ filter (ties lt y) (y ∷ ys) → ⊥
  none y ys e = let f : [] ≡ y ∷ filter (ties lt y) ys = e ∙ kept (ties lt y) y ys (tied y) in cc

  -- the first of a list that has another one's ties doesn't come before that one's first
  not_before : (x y : X) (xs ys : List X) → Up lt (y ∷ ys) → filter (ties lt x) (x ∷ xs) ≡ filter (ties lt x) (y ∷ ys) → lt x y ≡ false
  not_before x y xs ys up e =
      let P : X → Type 0 = λ z. lt z y ≡ false in
      let all : All P (filter (ties lt x) (y ∷ ys)) = All-filter (ties lt x) P (y ∷ ys) (All-cons P y ys (itself y) up.0) in
      All-head P x (filter (ties lt x) xs) (subst (All P) (sym e ∙ kept (ties lt x) x xs (tied x)) all)

  -- two lists that rise and have the same ties are one
  pub one_rises : (xs ys : List X) → Up lt xs → Up lt ys → SameTies lt xs ys → xs ≡ ys
  one_rises [] [] ux uy same = refl
  one_rises [] (y ∷ ys) ux uy same = absurd (none y ys (same y))
  one_rises (x ∷ xs) [] ux uy same = absurd (none x xs (sym (same x)))
  one_rises (x ∷ xs) (y ∷ ys) ux uy same =
      let first = not_before x y xs ys uy (same x) in
      let second = not_before y x ys xs ux (sym (same y)) in
      let tie : ties lt x y ≡ true = ap (λ b. not b && not (lt y x)) first ∙ ap (λ b. not b) second in
      let both : x ∷ filter (ties lt x) xs ≡ y ∷ filter (ties lt x) ys = sym (kept (ties lt x) x xs (tied x)) ∙ same x ∙ kept (ties lt x) y ys tie in
      let is : x ≡ y = cons_head x y _ _ both in
      let rest : SameTies lt xs ys = λ z. tails is z (ties lt z x) refl in
      ap (λ z. z ∷ xs) is ∙ ap (λ zs. y ∷ zs) (one_rises xs ys ux.1 uy.1 rest)
    where
      tails : x ≡ y → (z : X) (b : Bool) → ties lt z x ≡ b → filter (ties lt z) xs ≡ filter (ties lt z) ys
      tails is z true e = cons_tail x y _ _ (sym (kept (ties lt z) x xs e) ∙ same z ∙ kept (ties lt z) y ys (ap (ties lt z) (sym is) ∙ e))
      tails is z false e = sym (left (ties lt z) x xs e) ∙ same z ∙ left (ties lt z) y ys (ap (ties lt z) (sym is) ∙ e)
