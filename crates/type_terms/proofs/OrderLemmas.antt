-- The order of terms is a total order, and lists in order.
use Rattle.std.proofs.Common.{◌≡◌, List, [], ◌∷◌, inl, inr, ◌⊎◌, refl, sym, ap, ◌∙◌, subst}
use Rattle.std.specs.Ordering.{ordering_then, ordering_reverse}
use Rattle.std.specs.declared.cmp.Ordering.{Ordering}
use Rattle.std.specs.declared.cmp.Ordering.TheVariants.{Less, Equal, Greater}
use Rattle.std.specs.Cmp.{IsTotalOrder, nat_cmp_total}
use Rattle.std.specs.Cmp.Lexicographic.{on_texts}
use Rattle.std.specs.FinMap.{nat_cmp-IsAntisymmetric, slice_cmp-IsAntisymmetric}
use Rattle.std.proofs.lemmas.Cmp.{on_total, then_total, tied_itself}
use Rattle.type_terms.specs.Terms.{Term}
use Rattle.type_terms.specs.Texts.{text}
use Rattle.type_terms.specs.Codes.{code}
use Rattle.type_terms.specs.Order.{rank, term_cmp, IsBefore}
use Rattle.type_terms.specs.Normal.{IsAmong, here, there, IsBeforeAll, Rises}
use Rattle.type_terms.proofs.CodeLemmas.{same_code}

pub term_total : IsTotalOrder term_cmp
term_total = then_total (then_total (on_total rank nat_cmp_total) (on_texts text)) (on_texts code)

second_equal : (a b : Ordering) → ordering_then a b ≡ Equal → b ≡ Equal
second_equal Less b e = absurd (apart_orders e)
  where
    apart_orders : Less ≡ Equal → ⊥
    apart_orders e = cc
second_equal Equal b e = e
second_equal Greater b e = absurd (apart_orders e)
  where
    apart_orders : Greater ≡ Equal → ⊥
    apart_orders e = cc

pub same_term : (a b : Term) → term_cmp a b ≡ Equal → a ≡ b
same_term a b e = same_code a b (slice_cmp-IsAntisymmetric nat_cmp-IsAntisymmetric (code a) (code b) (second_equal _ _ e))

pub less_not_equal : Less ≡ Equal → ⊥
less_not_equal e = cc

pub less_not_greater : Less ≡ Greater → ⊥
less_not_greater e = cc

pub equal_not_greater : Equal ≡ Greater → ⊥
equal_not_greater e = cc

pub before_after : (a b : Term) → term_cmp a b ≡ Greater → IsBefore b a
before_after a b e = term_total.antisymm b a ∙ ap ordering_reverse e

pub never_before_itself : (a : Term) → IsBefore a a → ⊥
never_before_itself a e = less_not_equal (sym e ∙ tied_itself term_total a)

pub split_among : (x u : Term) (us : List Term) → IsAmong x (u ∷ us) → (x ≡ u) ⊎ IsAmong x us
split_among x u us here = inl refl
split_among x u us (there more) = inr more

pub none_among : (x : Term) → IsAmong x [] → ⊥
none_among x among = elim among [ ]

-- ---- two lists in order with the same terms

pub before_among : (t x : Term) (us : List Term) → IsBeforeAll t us → IsAmong x us → IsBefore t x
before_among t x [] all among = elim among [ ]
before_among t x (u ∷ us) all among = elim (split_among x u us among) [
  | inl first ↦ subst (IsBefore t) (sym first) all.0
  | inr more ↦ before_among t x us all.1 more
]

-- nothing among later terms stands first
behind_first : (t u : Term) (ts us : List Term) → IsBeforeAll t ts → IsBeforeAll u us → IsAmong u (t ∷ ts) → IsAmong t (u ∷ us) → t ≡ u
behind_first t u ts us after_t after_u u_here t_here = elim (split_among t u us t_here) [
  | inl same ↦ same
  | inr t_later ↦ elim (split_among u t ts u_here) [
    | inl same ↦ sym same
    | inr u_later ↦ absurd (never_before_itself t (term_total.trans t u t (before_among t u ts after_t u_later) (before_among u t us after_u t_later)))
  ]
]

not_itself_later : (t x : Term) (ts : List Term) → IsBeforeAll t ts → IsAmong x ts → x ≡ t → ⊥
not_itself_later t x ts all among same = never_before_itself t (subst (IsBefore t) same (before_among t x ts all among))

later_too : (t x : Term) (ts us : List Term) → IsBeforeAll t ts → ((y : Term) → IsAmong y (t ∷ ts) → IsAmong y (t ∷ us)) → IsAmong x ts → IsAmong x us
later_too t x ts us all each among = elim (split_among x t us (each x (there among))) [
  | inl same ↦ absurd (not_itself_later t x ts all among same)
  | inr more ↦ more
]

pub same_in_order : (ts us : List Term) → Rises ts → Rises us → ((x : Term) → IsAmong x ts → IsAmong x us) → ((x : Term) → IsAmong x us → IsAmong x ts) → ts ≡ us
same_in_order [] [] a b to from = refl
same_in_order [] (u ∷ us) a b to from = absurd (none_among u (from u here))
same_in_order (t ∷ ts) [] a b to from = absurd (none_among t (to t here))
same_in_order (t ∷ ts) (u ∷ us) a b to from =
    let first = behind_first t u ts us a.0 b.0 (from u here) (to t here) in
    let to_t : (y : Term) → IsAmong y (t ∷ ts) → IsAmong y (t ∷ us) = λ y among. subst (λ v. IsAmong y (v ∷ us)) (sym first) (to y among) in
    let from_t : (y : Term) → IsAmong y (t ∷ us) → IsAmong y (t ∷ ts) = λ y among. from y (subst (λ v. IsAmong y (v ∷ us)) first among) in
    let rest = same_in_order ts us a.1 b.1 (λ x. later_too t x ts us a.0 to_t) (λ x. later_too t x us ts (subst (λ v. IsBeforeAll v us) (sym first) b.0) from_t) in
    λ i. first i ∷ rest i
