-- No two types have one code: what follows a code shows where it ends.
use Rattle.std.proofs.Common.{◌≡◌, ℕ, List, [], ◌∷◌, ◌++◌, get_or, refl, sym, ap, ◌∙◌, append_assoc, arith}
use Rattle.type_terms.specs.Terms.{Term, any, none, bool, int, float, str, bytes, list, dict, tuple, tuple_of, class, class_of, callable, union, Terms, no_terms, term}
use Rattle.type_terms.specs.Codes.{name_code, code, codes_of}

abbrev head_of : List ℕ → ℕ
head_of xs = get_or xs 0 0

abbrev tail_of : List ℕ → List ℕ
tail_of [] = []
tail_of (x ∷ xs) = xs

names_apart : (a b x y : List ℕ) → name_code a ++ x ≡ name_code b ++ y → (a ≡ b) × (x ≡ y)
names_apart [] [] x y e = (refl, ap tail_of e)
names_apart [] (b ∷ bs) x y e = absurd (omega (arith, ap head_of e))
names_apart (a ∷ as') [] x y e = absurd (omega (arith, ap head_of e))
names_apart (a ∷ as') (b ∷ bs) x y e =
    let same = ap head_of (ap tail_of e) in
    let rest = names_apart as' bs x y (ap tail_of (ap tail_of e)) in
    ((λ i. same i ∷ rest.0 i), rest.1)

mutual
  apart : (a b : Term) (x y : List ℕ) → code a ++ x ≡ code b ++ y → (a ≡ b) × (x ≡ y)
  apart any any x y e = (refl, ap tail_of e)
  apart none none x y e = (refl, ap tail_of e)
  apart bool bool x y e = (refl, ap tail_of e)
  apart int int x y e = (refl, ap tail_of e)
  apart float float x y e = (refl, ap tail_of e)
  apart str str x y e = (refl, ap tail_of e)
  apart bytes bytes x y e = (refl, ap tail_of e)
  apart (list a) (list b) x y e = let rest = apart a b x y (ap tail_of e) in (ap list rest.0, rest.1)
  apart (dict a k) (dict b l) x y e =
      let first = apart a b (code k ++ x) (code l ++ y) (sym (append_assoc (code a) (code k) x) ∙ ap tail_of e ∙ append_assoc (code b) (code l) y) in
      let rest = apart k l x y first.1 in
      ((λ i. dict (first.0 i) (rest.0 i)), rest.1)
  apart (tuple a) (tuple b) x y e = let rest = lists_apart a b x y (ap tail_of e) in (ap tuple rest.0, rest.1)
  apart (tuple_of a) (tuple_of b) x y e = let rest = apart a b x y (ap tail_of e) in (ap tuple_of rest.0, rest.1)
  apart (class a) (class b) x y e = let rest = names_apart a b x y (ap tail_of e) in (ap class rest.0, rest.1)
  apart (class_of a) (class_of b) x y e = let rest = names_apart a b x y (ap tail_of e) in (ap class_of rest.0, rest.1)
  apart (callable a) (callable b) x y e = let rest = apart a b x y (ap tail_of e) in (ap callable rest.0, rest.1)
  apart (union a) (union b) x y e = let rest = lists_apart a b x y (ap tail_of e) in (ap union rest.0, rest.1)
  apart a b x y e = absurd (omega (arith, ap head_of e))

  lists_apart : (a b : Terms) (x y : List ℕ) → codes_of a ++ x ≡ codes_of b ++ y → (a ≡ b) × (x ≡ y)
  lists_apart no_terms no_terms x y e = (refl, ap tail_of e)
  lists_apart no_terms (term b bs) x y e = absurd (omega (arith, ap head_of e))
  lists_apart (term a as') no_terms x y e = absurd (omega (arith, ap head_of e))
  lists_apart (term a as') (term b bs) x y e =
      let first = apart a b (codes_of as' ++ x) (codes_of bs ++ y) (sym (append_assoc (code a) (codes_of as') x) ∙ ap tail_of e ∙ append_assoc (code b) (codes_of bs) y) in
      let rest = lists_apart as' bs x y first.1 in
      ((λ i. term (first.0 i) (rest.0 i)), rest.1)

pub same_code : (a b : Term) → code a ≡ code b → a ≡ b
same_code a b e = (apart a b [] [] (ap (λ c. c ++ []) e)).0
