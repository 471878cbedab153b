-- Members that are sorted by their keys, each type once.
use Rattle.std.proofs.Common.{◌≡◌, ℕ, zero, suc, ◌<◌, Bool, true, List, [], ◌∷◌, length, get_or, refl, sym, ◌∙◌, subst, inl, inr, arith, true≢false}
use Rattle.std.specs.Cmp.{IsTotalOrder, nat_cmp_total}
use Rattle.std.specs.Cmp.Lexicographic.{on_texts}
use Rattle.std.specs.List.{Contains, AllByRecursion, dedup}
use Rattle.std.specs.List.Sorted.{IsPermutation, IsSorted, IsStrictlySortedBy}
use Rattle.std.specs.Ordering.{is_eq}
use Rattle.std.specs.declared.cmp.Ordering.{Ordering}
use Rattle.std.specs.declared.cmp.Ordering.TheVariants.{Less, Equal, Greater}
use Rattle.std.proofs.lemmas.Cmp.{on_total, then_total, eq_by_cmp_equiv}
use Rattle.std.proofs.lemmas.List.Kept.{IsStrictlySortedBy-dedup, Contains-from_dedup, Any-dedup}
use Rattle.std.proofs.lemmas.List.Sorted.{Contains-permutation, IsPermutation-sym}
use Rattle.type_terms.specs.declared.member.Member.{Member}
use Rattle.type_terms.specs.Terms.{Term}
use Rattle.type_terms.specs.Order.{key_cmp, term_cmp}
use Rattle.type_terms.specs.Normal.{IsAmong, here, there, IsBeforeAll, Rises}
use Rattle.type_terms.specs.Ordered.{AreInOrder, member_term, member_terms}
use Rattle.type_terms.proofs.OrderLemmas.{same_term, split_among}

abbrev pub member_cmp : Member → Member → Ordering
member_cmp m n = key_cmp m.key n.key

abbrev pub same_key : Member → Member → Bool
same_key m n = is_eq (member_cmp m n)

pub member_total : IsTotalOrder member_cmp
member_total = then_total (then_total (on_total (λ (m : Member). m.key.rank) nat_cmp_total) (on_texts (λ (m : Member). m.key.text))) (on_texts (λ (m : Member). m.key.code))

-- keys are compared as the types are
order_of : (m n : Member) → term_cmp (member_term m) (member_term n) ≡ member_cmp m n
order_of m n = sym (λ i. key_cmp (m.keyed i) (n.keyed i))

eq_is_equal : (o : Ordering) → is_eq o ≡ true → o ≡ Equal
eq_is_equal Less e = absurd (true≢false (sym e))
eq_is_equal Equal e = refl
eq_is_equal Greater e = absurd (true≢false (sym e))

before_all : (m : Member) (ms : List Member) → AllByRecursion (λ n. member_cmp m n ≡ Less) ms → IsBeforeAll (member_term m) (member_terms ms)
before_all m [] all = tt
before_all m (n ∷ ns) all = (order_of m n ∙ all.0, before_all m ns all.1)

rises : (ms : List Member) → IsStrictlySortedBy member_cmp ms → Rises (member_terms ms)
unfolding IsStrictlySortedBy
rises [] sorted = tt
rises (m ∷ ms) sorted = (before_all m ms sorted.0, rises ms sorted.1)

-- ---- members and their types

among_at : (ms : List Member) (k : ℕ) (m : Member) → k < length ms → get_or ms k m ≡ m → IsAmong (member_term m) (member_terms ms)
among_at [] k m within is = absurd (omega (arith, within))
among_at (n ∷ ns) zero m within is = subst (λ x. IsAmong (member_term x) (member_terms (n ∷ ns))) is here
among_at (n ∷ ns) (suc k) m within is = there (among_at ns k m (omega (arith, within)) is)

-- the member whose type stands among theirs
pub record Has (ms : List Member) (t : Term) : Type 0 where
  pub member : Member
  pub place : ℕ
  pub within : place < length ms
  pub at : get_or ms place member ≡ member
  pub is : member_term member ≡ t

member_of : (t : Term) (ms : List Member) → IsAmong t (member_terms ms) → Has ms t
member_of t [] among = elim among [ ]
member_of t (m ∷ ms) among = elim (split_among t (member_term m) (member_terms ms) among) [
  | inl same ↦ record { member = m; place = 0; within = omega arith; at = refl; is = sym same }
  | inr more ↦ let r = member_of t ms more in record { member = r.member; place = suc r.place; within = omega (arith, r.within); at = r.at; is = r.is }
]

module _ (old sorted new : List Member) (moved : IsPermutation old sorted) (up : IsSorted member_cmp sorted) (kept : new ≡ dedup same_key sorted) where
  from : (t : Term) → IsAmong t (member_terms new) → IsAmong t (member_terms old)
  from t among =
      let r = member_of t new among in
      let was : Contains (dedup same_key sorted) r.member = subst (λ ms. Contains ms r.member) kept (r.place, r.within, r.at) in
      let then = Contains-permutation sorted old r.member (IsPermutation-sym old sorted moved) (Contains-from_dedup same_key sorted r.member was) in
      subst (λ u. IsAmong u (member_terms old)) r.is (among_at old then.0 r.member then.1 then.2)

  all : (t : Term) → IsAmong t (member_terms old) → IsAmong t (member_terms new)
  all t among =
      let r = member_of t old among in
      let some = Any-dedup (eq_by_cmp_equiv member_total) sorted r.member (Contains-permutation old sorted r.member moved (r.place, r.within, r.at)) in
      let same : member_term r.member ≡ member_term some.1 =
      same_term (member_term r.member) (member_term some.1) (order_of r.member some.1 ∙ eq_is_equal (member_cmp r.member some.1) some.4) in
      subst (λ ms. IsAmong t (member_terms ms)) (sym kept)
      (subst (λ u. IsAmong u (member_terms (dedup same_key sorted))) (sym same ∙ r.is) (among_at (dedup same_key sorted) some.0 some.1 some.2 some.3))

  pub in_order : AreInOrder (member_terms old) (member_terms new)
  in_order = record {
    rises = subst (λ ms. Rises (member_terms ms)) (sym kept) (rises (dedup same_key sorted) (IsStrictlySortedBy-dedup member_total (λ x y. refl) sorted up));
    from = from;
    all = all;
  }
