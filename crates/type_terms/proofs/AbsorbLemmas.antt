-- Which exception classes go, told by names instead of by the terms beside them.
use Rattle.std.proofs.Common.{◌≡◌, ℕ, Bool, true, false, not, ◌||◌, List, [], ◌∷◌, if◌then◌else◌, Option, Some, None, refl, sym, ap, ◌∙◌, subst, true≢false, inl, inr}
use Rattle.std.specs.List.{list_any, list_all}
use Rattle.std.specs.Str.{bytes_eq}
use Rattle.std.specs.Cmp.Lexicographic.{bytes_decides}
use Rattle.type_terms.specs.Exceptions.{is_exception, exception_chain, heads, first_chain}
use Rattle.type_terms.specs.Normal.{IsAmong, here, there, AreMembersOf, IsUnionOf, nothing, alone, several, above, is_class, has_class, has_any, is_absorbed}
use Rattle.type_terms.specs.Ordered.{AreInOrder, Tells, exception_of, is_below, staying, united}
use Rattle.type_terms.specs.Terms.{Term, class}
use Rattle.type_terms.proofs.ChainLemmas.{chain_found, all_chains, parts}
use Rattle.type_terms.proofs.OrderLemmas.{split_among}

-- ---- the classes above a class are exception classes

first_are : (chains : List (List (List ℕ))) (name : List ℕ) → list_all (list_all is_exception) chains ≡ true → list_all is_exception (first_chain name chains) ≡ true
first_are [] name all = refl
first_are (chain ∷ chains) name all =
    let both = parts (list_all is_exception chain) (list_all (list_all is_exception) chains) all in
    elim (heads name chain) as (λ b. list_all is_exception (if b then chain else first_chain name chains) ≡ true) [
      | true ↦ both.0
      | false ↦ first_are chains name both.1
    ]

chain_are : (name : List ℕ) → list_all is_exception (exception_chain name) ≡ true
chain_are name = ap (list_all is_exception) (sym (chain_found all_chains name refl refl)) ∙ first_are all_chains name refl

above_are : (chain : List (List ℕ)) → list_all is_exception chain ≡ true → list_all is_exception (above chain) ≡ true
above_are [] all = refl
above_are (first ∷ rest) all = (parts (is_exception first) (list_all is_exception rest) all).1

-- ---- names that tell which exception classes are there

module _ (names : List (List ℕ)) (ts : List Term) (tells : Tells names ts) where
  same_above : (ups : List (List ℕ)) → list_all is_exception ups ≡ true → list_any (λ up. list_any (bytes_eq up) names) ups ≡ list_any (has_class ts) ups
  same_above [] all = refl
  same_above (up ∷ ups) all =
      let both = parts (is_exception up) (list_all is_exception ups) all in
      λ i. tells.each up both.0 i || same_above ups both.1 i

  pub below_absorbed : (t : Term) → is_below names t ≡ is_absorbed ts t
  below_absorbed (class name) = same_above (above (exception_chain name)) (above_are (exception_chain name) (chain_are name))
  below_absorbed _ = refl

-- ---- the terms that stay, in order

-- a term that a test keeps, and the terms that are kept
module _ (names : List (List ℕ)) where
  stays_are : (ts : List Term) (x : Term) → IsAmong x (staying names ts) → IsAmong x ts × (is_below names x ≡ false)
  stays_are [] x among = elim among [ ]
  stays_are (t ∷ ts) x among =
      elim (is_below names t) as (λ b. is_below names t ≡ b → IsAmong x (if not b then t ∷ staying names ts else staying names ts) → IsAmong x (t ∷ ts) × (is_below names x ≡ false)) [
        | true ↦ λ e a. let old = stays_are ts x a in (there old.0, old.1)
        | false ↦ λ e a. elim (split_among x t (staying names ts) a) [
          | inl same ↦ (subst (λ v. IsAmong v (t ∷ ts)) (sym same) here, ap (is_below names) same ∙ e)
          | inr more ↦ let old = stays_are ts x more in (there old.0, old.1)
        ]
      ] refl among

  are_stays : (ts : List Term) (x : Term) → IsAmong x ts → is_below names x ≡ false → IsAmong x (staying names ts)
  are_stays [] x among stays = elim among [ ]
  are_stays (t ∷ ts) x among stays =
      elim (is_below names t) as (λ b. is_below names t ≡ b → IsAmong x (if not b then t ∷ staying names ts else staying names ts)) [
        | true ↦ λ e. elim (split_among x t ts among) [
          | inl same ↦ absurd (true≢false (sym e ∙ ap (is_below names) (sym same) ∙ stays))
          | inr more ↦ are_stays ts x more stays
        ]
        | false ↦ λ e. elim (split_among x t ts among) [
          | inl same ↦ subst (λ v. IsAmong v (t ∷ staying names ts)) (sym same) here
          | inr more ↦ there (are_stays ts x more stays)
        ]
      ] refl

pub in_order_members : (names : List (List ℕ)) (ts members : List Term) → Tells names ts → AreInOrder (staying names ts) members → AreMembersOf ts members
in_order_members names ts members tells order = record {
  rises = order.rises;
  stay = λ t among. let kept = stays_are names ts t (order.from t among) in record { among = kept.0; stays = sym (below_absorbed names ts tells t) ∙ kept.1 };
  all = λ t kept. order.all t (are_stays names ts t kept.among (below_absorbed names ts tells t ∙ kept.stays));
}

pub united_members : (ts ms : List Term) → has_any ts ≡ false → AreMembersOf ts ms → IsUnionOf ts (united ms)
united_members ts [] no_any members = nothing no_any members
united_members ts (t ∷ []) no_any members = alone no_any members
united_members ts (t ∷ u ∷ us) no_any members = several no_any members

-- ---- one more part

abbrev pub has_named : Option (List ℕ) → List ℕ → Bool
has_named None name = false
has_named (Some up) name = bytes_eq name up

or_later : (n c r h k : Bool) → k ≡ (n || c) → (n || (c || r)) ≡ h → (k || r) ≡ h
or_later true c r h k new old = ap (λ b. b || r) new ∙ old
or_later false true r h k new old = ap (λ b. b || r) new ∙ old
or_later false false r h k new old = ap (λ b. b || r) new ∙ old

-- a part that is an exception class, and one that is none
exception_here : (name up : List ℕ) (b : Bool) → is_exception name ≡ true → is_exception up ≡ b → has_named (if b then Some up else None) name ≡ bytes_eq name up
exception_here name up true e f = refl
exception_here name up false e f =
    elim (bytes_eq name up) as (λ c. bytes_eq name up ≡ c → false ≡ c) [
      | true ↦ λ same. absurd (true≢false (sym e ∙ ap is_exception ((bytes_decides name up).0 same) ∙ f))
      | false ↦ λ _. refl
    ] refl

named_part : (t : Term) (name : List ℕ) → is_exception name ≡ true → has_named (exception_of t) name ≡ is_class name t
named_part (class up) name e = exception_here name up (is_exception up) e refl
named_part _ name e = refl

-- the names and the parts that are left tell as before
pub told_more : (old new : List (List ℕ)) (t : Term) (ts all : List Term) (name : List ℕ) → is_exception name ≡ true
    → list_any (bytes_eq name) new ≡ (list_any (bytes_eq name) old || has_named (exception_of t) name)
    → (list_any (bytes_eq name) old || has_class (t ∷ ts) name) ≡ has_class all name
    → (list_any (bytes_eq name) new || has_class ts name) ≡ has_class all name
told_more old new t ts all name e added before =
    or_later (list_any (bytes_eq name) old) (is_class name t) (has_class ts name) (has_class all name) (list_any (bytes_eq name) new)
    (added ∙ ap (λ b. list_any (bytes_eq name) old || b) (named_part t name e)) before
