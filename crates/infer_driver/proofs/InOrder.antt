-- A list that is sorted and in which each element is kept once.
use Rattle.std.proofs.Common.{◌≡◌, ◌↔◌, Bool, true, List, refl, sym, subst}
use Rattle.std.specs.Cmp.{IsTotalOrder}
use Rattle.std.specs.List.{Contains, dedup}
use Rattle.std.specs.List.Sorted.{IsPermutation, IsSorted, IsStrictlySortedBy}
use Rattle.std.specs.Ordering.{eq_by_cmp}
use Rattle.std.specs.declared.cmp.Ordering.{Ordering}
use Rattle.std.specs.declared.cmp.Ordering.TheVariants.{Less, Equal, Greater}
use Rattle.std.proofs.lemmas.Cmp.{eq_by_cmp_equiv}
use Rattle.std.proofs.lemmas.List.Kept.{IsStrictlySortedBy-dedup, Contains-from_dedup, Contains-dedup}
use Rattle.std.proofs.lemmas.List.Sorted.{Contains-permutation, IsPermutation-sym}

module _ {X : Type 0} {order : X → X → Ordering} (total : IsTotalOrder order) (once : (x y : X) → eq_by_cmp order x y ≡ true → x ≡ y) where
  pub same_members : (xs sorted kept : List X) → IsPermutation xs sorted → kept ≡ dedup (eq_by_cmp order) sorted → (x : X) → Contains kept x ↔ Contains xs x
  same_members xs sorted kept moved is x = (
    λ h. Contains-permutation _ _ x (IsPermutation-sym _ _ moved) (Contains-from_dedup _ _ x (subst (λ ys. Contains ys x) is h)),
    λ h. subst (λ ys. Contains ys x) (sym is) (Contains-dedup (eq_by_cmp_equiv total) once _ x (Contains-permutation _ _ x moved h)),
  )

  pub strictly : (sorted kept : List X) → IsSorted order sorted → kept ≡ dedup (eq_by_cmp order) sorted → IsStrictlySortedBy order kept
  strictly sorted kept up is = subst (λ ys. IsStrictlySortedBy order ys) (sym is) (IsStrictlySortedBy-dedup total (λ x y. refl) sorted up)
