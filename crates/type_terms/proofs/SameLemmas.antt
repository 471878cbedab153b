-- What the test of sameness tells.
use Rattle.std.proofs.Common.{◌≡◌, ℕ, ◌&&◌, Bool, true, false, List, [], ◌∷◌, length, ◌↔◌, IsTrue, refl, sym, ap, ◌∙◌, arith}
use Rattle.std.specs.Str.{bytes_eq}
use Rattle.std.proofs.lemmas.Slice.Eq.{bytes_eq-Decides}
use Rattle.type_terms.specs.Terms.{Term, any, none, bool, int, float, str, bytes, list, dict, tuple, tuple_of, class, class_of, callable, union, Terms, no_terms, term}
use Rattle.type_terms.specs.Same.{same_term, same_terms}
use Rattle.type_terms.specs.View.{term_view, terms_view}
use Rattle.type_terms.specs.declared.term.TypeTerm.{TypeTerm}

both_of : (a b : Bool) → (a && b) ≡ true → (a ≡ true) × (b ≡ true)
both_of true b h = (refl, h)
both_of false b h = absurd (cc)

both : (a b : Bool) → a ≡ true → b ≡ true → (a && b) ≡ true
both a b h k = ap (λ t. t && b) h ∙ k

text_is : (n m : List ℕ) → bytes_eq n m ≡ true → n ≡ m
text_is n m h = (bytes_eq-Decides n m).0 h

text_itself : (n : List ℕ) → bytes_eq n n ≡ true
text_itself n = (bytes_eq-Decides n n).1 refl

mutual
  pub term_is : (t u : Term) → same_term t u ≡ true → t ≡ u
  term_is any any h = refl
  term_is none none h = refl
  term_is bool bool h = refl
  term_is int int h = refl
  term_is float float h = refl
  term_is str str h = refl
  term_is bytes bytes h = refl
  term_is (list t) (list u) h = ap list (term_is t u h)
  term_is (dict t k) (dict u l) h =
      let parts = both_of (same_term t u) (same_term k l) h in
      ap (λ x. dict x k) (term_is t u parts.0) ∙ ap (dict u) (term_is k l parts.1)
  term_is (tuple ts) (tuple us) h = ap tuple (terms_are ts us h)
  term_is (tuple_of t) (tuple_of u) h = ap tuple_of (term_is t u h)
  term_is (class n) (class m) h = ap class (text_is n m h)
  term_is (class_of n) (class_of m) h = ap class_of (text_is n m h)
  term_is (callable t) (callable u) h = ap callable (term_is t u h)
  term_is (union ts) (union us) h = ap union (terms_are ts us h)
  term_is t u h = absurd (cc)

  terms_are : (ts us : Terms) → same_terms ts us ≡ true → ts ≡ us
  terms_are no_terms no_terms h = refl
  terms_are (term t ts) (term u us) h =
      let parts = both_of (same_term t u) (same_terms ts us) h in
      ap (λ x. term x ts) (term_is t u parts.0) ∙ ap (term u) (terms_are ts us parts.1)
  terms_are ts us h = absurd (cc)

and_false : (a b : Bool) → b ≡ false → (a && b) ≡ false
and_false true b h = h
and_false false b h = refl

-- lists of other lengths are not the same
pub lengths_differ : (ts us : List TypeTerm) → (length ts ≡ length us → ⊥) → same_terms (terms_view ts) (terms_view us) ≡ false
lengths_differ [] [] differ = absurd (differ refl)
lengths_differ [] (u ∷ us) differ = refl
lengths_differ (t ∷ ts) [] differ = refl
lengths_differ (t ∷ ts) (u ∷ us) differ = and_false (same_term (term_view t) (term_view u)) (same_terms (terms_view ts) (terms_view us)) (lengths_differ ts us (λ e. differ (omega (arith, e))))

mutual
  pub term_itself : (t : Term) → same_term t t ≡ true
  term_itself any = refl
  term_itself none = refl
  term_itself bool = refl
  term_itself int = refl
  term_itself float = refl
  term_itself str = refl
  term_itself bytes = refl
  term_itself (list t) = term_itself t
  term_itself (dict t k) = both _ _ (term_itself t) (term_itself k)
  term_itself (tuple ts) = terms_themselves ts
  term_itself (tuple_of t) = term_itself t
  term_itself (class n) = text_itself n
  term_itself (class_of n) = text_itself n
  term_itself (callable t) = term_itself t
  term_itself (union ts) = terms_themselves ts

  terms_themselves : (ts : Terms) → same_terms ts ts ≡ true
  terms_themselves no_terms = refl
  terms_themselves (term t ts) = both _ _ (term_itself t) (terms_themselves ts)

-- the test's answer
pub same_decides : (t u : Term) (r : Bool) → r ≡ same_term t u → IsTrue r ↔ (t ≡ u)
same_decides t u r is = ((λ h. term_is t u (sym is ∙ h)), (λ same. is ∙ ap (same_term t) (sym same) ∙ term_itself t))
