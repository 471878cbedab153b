-- Stubs under names, each name once.
use Rattle.std.proofs.Common.{◌≡◌, ℕ, Bool, true, false, ◌||◌, List, [], ◌∷◌, ◌++◌, inl, inr, Option, Some, None, option_map, IfSome, Bor, if◌then◌else◌, refl, sym, ap, ◌∙◌, subst, true≢false}
use Rattle.std.specs.List.{list_any, list_all, IsDistinct}
use Rattle.std.specs.Str.{bytes_eq}
use Rattle.std.specs.Cmp.Lexicographic.{bytes_decides}
use Rattle.type_terms.specs.ProperStubs.{IsProperStub, is_known}
use Rattle.type_terms.specs.declared.stub.Stub as rust
use Rattle.type_terms.specs.Stubs.{Stub, stub_view}
use Rattle.type_terms.specs.Terms.{Term, int}
use Rattle.type_terms.specs.Normal.{IsNormal}
use Rattle.type_terms.proofs.OrderLemmas.{split_among, none_among}
use Rattle.type_terms.specs.StubSets.{stub_named, IsGiven, first, later, AreGiven}

abbrev Given : Type 0
Given = List ℕ × Stub

neither : (a b : Bool) → (a || b) ≡ false → (a ≡ false) × (b ≡ false)
neither false b e = (refl, e)
neither true b e = absurd (true≢false e)

other_way : (a b : List ℕ) → bytes_eq a b ≡ false → bytes_eq b a ≡ false
other_way a b e =
    elim (bytes_eq b a) as (λ r. bytes_eq b a ≡ r → r ≡ false) [
      | true ↦ λ same. absurd (true≢false (sym ((bytes_decides a b).1 (sym ((bytes_decides b a).0 same))) ∙ e))
      | false ↦ λ _. refl
    ] refl

itself : (a : List ℕ) → bytes_eq a a ≡ true
itself a = (bytes_decides a a).1 refl

none_later : (name : List ℕ) (gs : List Given) (g : Given) → list_any (λ h. bytes_eq name h.0) gs ≡ false → bytes_eq name g.0 ≡ false → list_any (λ h. bytes_eq name h.0) (gs ++ g ∷ []) ≡ false
none_later name [] g no_old no_new = ap (λ b. b || false) no_new
none_later name (h ∷ gs) g no_old no_new =
    let both = neither (bytes_eq name h.0) (list_any (λ k. bytes_eq name k.0) gs) no_old in
    ap (λ b. b || list_any (λ k. bytes_eq name k.0) (gs ++ g ∷ [])) both.0 ∙ none_later name gs g both.1 no_new

pub given_more : (gs : List Given) (name : List ℕ) (s : Stub) → AreGiven gs → list_any (λ g. bytes_eq name g.0) gs ≡ false → IsProperStub s → AreGiven (gs ++ (name, s) ∷ [])
given_more [] name s given new proper = (refl, proper, tt)
given_more (g ∷ gs) name s given new proper =
    let both = neither (bytes_eq name g.0) (list_any (λ h. bytes_eq name h.0) gs) new in
    (none_later g.0 gs (name, s) given.0 (other_way name g.0 both.0), given.1, given_more gs name s given.2 both.1 proper)

pub proper_stub : (gs : List Given) (name : List ℕ) (s : Stub) → AreGiven gs → Some s ≡ stub_named gs name → IsProperStub s
proper_stub [] name s given e = absurd (none_some e)
  where
    none_some : Some s ≡ None → ⊥
    none_some e = cc
proper_stub (g ∷ gs) name s given e =
    elim (bytes_eq name g.0) as (λ b. Some s ≡ (if b then Some g.1 else stub_named gs name) → IsProperStub s) [
      | true ↦ λ is. subst IsProperStub (sym (same_stub s g.1 is)) given.1
      | false ↦ λ is. proper_stub gs name s given.2 is
    ] e
  where
    same_stub : (s t : Stub) → Some s ≡ Some t → s ≡ t
    same_stub s t e = cc

not_named : (gs : List Given) (name : List ℕ) (s : Stub) → list_any (λ h. bytes_eq name h.0) gs ≡ false → IsGiven gs name s → ⊥
not_named [] name s none is = elim is [ ]
not_named (g ∷ gs) name s none first = true≢false (sym (itself name) ∙ (neither (bytes_eq name name) (list_any (λ h. bytes_eq name h.0) gs) none).0)
not_named (g ∷ gs) name s none (later more) = not_named gs name s (neither (bytes_eq name g.0) (list_any (λ h. bytes_eq name h.0) gs) none).1 more

pub named_given : (gs : List Given) (name : List ℕ) (s : Stub) → AreGiven gs → IsGiven gs name s → stub_named gs name ≡ Some s
named_given [] name s given is = elim is [ ]
named_given ((n, t) ∷ gs) name s given first = ap (λ b. if b then Some s else stub_named gs name) (itself name)
named_given (g ∷ gs) name s given (later more) =
    elim (bytes_eq name g.0) as (λ b. bytes_eq name g.0 ≡ b → (if b then Some g.1 else stub_named gs name) ≡ Some s) [
      | true ↦ λ same. absurd (not_named gs name s (subst (λ n. list_any (λ h. bytes_eq n h.0) gs ≡ false) (sym ((bytes_decides name g.0).0 same)) given.0) more)
      | false ↦ λ _. named_given gs name s given.2 more
    ] refl

pub proper_found : (found : Option (Bor rust.Stub)) (gs : List Given) (name : List ℕ) → AreGiven gs → option_map (λ s. stub_view s.now) found ≡ stub_named gs name
    → IfSome found (λ s. IsProperStub (stub_view s.now))
proper_found None gs name given e = tt
proper_found (Some s) gs name given e = proper_stub gs name (stub_view s.now) given e

IsDistinct-one : (name : List ℕ) → IsDistinct bytes_eq (name ∷ [])
unfolding IsDistinct
IsDistinct-one name = (tt, tt)

-- a stub of one name
abbrev pub stub_of_one : List ℕ → Term → Stub
stub_of_one name t = record { names = record { name = name; term = t } ∷ []; funs = []; classes = [] }

pub one_name : (name : List ℕ) (t : Term) → t ≡ int → IsProperStub (stub_of_one name t)
one_name name t is = record {
  normal = λ u among. subst IsNormal (sym (elim (split_among u t [] among) [ inl same ↦ same ∙ is | inr more ↦ absurd (none_among u more) ])) tt;
  own = refl;
  once = IsDistinct-one name;
  once_inside = tt;
  bases = refl;
  known = ap (λ u. list_all (is_known (stub_of_one name t)) (u ∷ [])) is;
}
