-- The order of texts by their bytes.
use Rattle.std.proofs.Common.{◌≡◌, ℕ, true, false, List, ap, ◌∙◌, refl}
use Rattle.std.specs.Cmp.Lexicographic.{on_texts, slice_cmp}
use Rattle.std.specs.Ordering.{nat_cmp, is_lt, ordering_reverse}
use Rattle.std.specs.declared.cmp.Ordering.{Ordering}
use Rattle.std.specs.declared.cmp.Ordering.TheVariants.{Less, Equal, Greater}
use Rattle.pyi_write.specs.Orders.{is_before}

reversed : (o : Ordering) → is_lt o ≡ true → is_lt (ordering_reverse o) ≡ false
reversed Less h = refl
reversed Equal h = refl
reversed Greater h = absurd (cc)

pub not_before : (a b : List ℕ) → is_before a b ≡ true → is_before b a ≡ false
not_before a b h = ap is_lt ((on_texts (λ (x : List ℕ). x)).antisymm b a) ∙ reversed (slice_cmp nat_cmp a b) h
