-- Two lists that rise and have the same elements are one list.
use Rattle.std.proofs.Common.{◌≡◌, ◌↔◌, ℕ, List, [], ◌∷◌, ◌⊎◌, inl, inr, refl, sym, ap, subst, ◌∙◌}
use Rattle.std.proofs.lemmas.Cmp.{nat_cmp_total, nat_list_cmp_total}
use Rattle.std.specs.Cmp.Lexicographic.{slice_cmp}
use Rattle.std.specs.List.{Contains, AllByRecursion}
use Rattle.std.specs.List.Sorted.{IsStrictlySortedBy}
use Rattle.std.specs.Ordering.{nat_cmp, ordering_reverse}
use Rattle.std.specs.declared.cmp.Ordering.{Ordering}
use Rattle.std.specs.declared.cmp.Ordering.TheVariants.{Less, Equal, Greater}
use Rattle.graph_walks.proofs.Lists.{empty, first, first_or_later, later}
use Rattle.world_rules.specs.declared.finding.Finding.{Finding}
use Rattle.world_rules.specs.Sources.{Source}
use Rattle.world_rules.specs.Items.{Item}
use Rattle.world_rules.specs.Rules.{IsLeast}
use Rattle.world_rules.specs.Findings.{finding_order, AreFindings, AreUnchecked, AreHeavy}
use Rattle.world_rules.specs.Texts.{kind_number}
use Rattle.world_rules.proofs.Told.{same_findings, same_unchecked, same_heavy}

module _ {K : Type 0} (order : K → K → Ordering) (reversed : (x y : K) → order x y ≡ ordering_reverse (order y x)) where
  both_less : (x y : K) → order x y ≡ Less → order y x ≡ Less → ⊥
  both_less x y p q = let e : Less ≡ Greater = sym p ∙ reversed x y ∙ ap ordering_reverse q in cc

  each : (P : K → Type 0) (xs : List K) → AllByRecursion P xs → (y : K) → Contains xs y → P y
  each P [] all y c = empty y c
  each P (x ∷ xs) all y c = go (first_or_later x y xs c) (each P xs all.1 y)
    where
      go : (y ≡ x) ⊎ Contains xs y → (Contains xs y → P y) → P y
      go (inl e) more = subst P (sym e) all.0
      go (inr d) more = more d

  pub one_list : (xs ys : List K) → IsStrictlySortedBy order xs → IsStrictlySortedBy order ys → ((z : K) → Contains xs z ↔ Contains ys z) → xs ≡ ys
  unfolding IsStrictlySortedBy
  one_list [] [] ux uy same = refl
  one_list [] (y ∷ ys) ux uy same = empty y ((same y).1 (first y ys))
  one_list (x ∷ xs) [] ux uy same = empty x ((same x).0 (first x xs))
  one_list (x ∷ xs) (y ∷ ys) ux uy same =
      let is : x ≡ y = heads (first_or_later y x ys ((same x).0 (first x xs))) (first_or_later x y xs ((same y).1 (first y ys))) in
      ap (λ z. z ∷ xs) is ∙ ap (λ zs. y ∷ zs) (one_list xs ys ux.1 uy.1 (λ z. (there is z, back is z)))
    where
      heads : (x ≡ y) ⊎ Contains ys x → (y ≡ x) ⊎ Contains xs y → x ≡ y
      heads (inl e) d = e
      heads (inr c) (inl e) = sym e
      heads (inr c) (inr d) = absurd (both_less x y (each (λ z. order x z ≡ Less) xs ux.0 y d) (each (λ z. order y z ≡ Less) ys uy.0 x c))

      there : x ≡ y → (z : K) → Contains xs z → Contains ys z
      there is z c = go (first_or_later y z ys ((same z).0 (later x z xs c)))
        where
          go : (z ≡ y) ⊎ Contains ys z → Contains ys z
          go (inl e) = let l : order x z ≡ Less = each (λ w. order x w ≡ Less) xs ux.0 z c in let m : order x x ≡ Less = subst (λ w. order x w ≡ Less) (e ∙ sym is) l in absurd (both_less x x m m)
          go (inr d) = d

      back : x ≡ y → (z : K) → Contains ys z → Contains xs z
      back is z c = go (first_or_later x z xs ((same z).1 (later y z ys c)))
        where
          go : (z ≡ x) ⊎ Contains xs z → Contains xs z
          go (inl e) = let l : order y z ≡ Less = each (λ w. order y w ≡ Less) ys uy.0 z c in let m : order y y ≡ Less = subst (λ w. order y w ≡ Less) (e ∙ is) l in absurd (both_less y y m m)
          go (inr d) = d

module _ (s : Source) (items more : List Item) (l : IsLeast s items) (m : IsLeast s more) where
  over : {A B C : Type 0} → A ↔ B → B ↔ C → A ↔ C
  over f g = (λ a. g.0 (f.0 a), λ c. f.1 (g.1 c))

  back : {A B : Type 0} → A ↔ B → B ↔ A
  back f = (f.1, f.0)

  pub one_findings : (one other : List Finding) → AreFindings s items one → AreFindings s more other → one ≡ other
  one_findings one other a b =
      one_list finding_order
      (λ f g. nat_list_cmp_total.antisymm (f.line ∷ kind_number f.kind ∷ f.text) (g.line ∷ kind_number g.kind ∷ g.text))
      one other a.rise b.rise (λ f. over (a.members f) (over (same_findings s items more l m f) (back (b.members f))))

  pub one_unchecked : (one other : List ℕ) → AreUnchecked s items one → AreUnchecked s more other → one ≡ other
  one_unchecked one other a b = one_list nat_cmp (λ i j. nat_cmp_total.antisymm i j) one other a.rise b.rise (λ i. over (a.members i) (over (same_unchecked s items more l m i) (back (b.members i))))

  pub one_heavy : (one other : List ℕ) → AreHeavy s items one → AreHeavy s more other → one ≡ other
  one_heavy one other a b = one_list nat_cmp (λ i j. nat_cmp_total.antisymm i j) one other a.rise b.rise (λ i. over (a.members i) (over (same_heavy s items more l m i) (back (b.members i))))
