-- Lexemes spell one type, and what is left behind it is one.
use Rattle.std.proofs.Common.{◌≡◌, ℕ, inl, inr, List, ◌∷◌, codes, cond, refl, sym, ap, ◌∙◌, arith}
use Rattle.std.specs.Str.{bytes_eq}
use Rattle.py_tokens.specs.declared.token.Keyword.TheVariants.{KwNone}
use Rattle.py_tokens.specs.declared.token.Op.{Op}
use Rattle.py_tokens.specs.declared.token.Op.TheVariants.{Comma, Ellipsis, LeftSquare}
use Rattle.type_terms.specs.Terms.{Term, none, list, tuple, tuple_of, class_of, callable, union, Terms, no_terms, term}
use Rattle.pyi_write.specs.Lexemes.{Lexeme, name, op, word}
use Rattle.pyi_write.specs.TypeGrammar.{IsDotted, dotted_one, dotted_more, bare, Is, IsType, type_one, type_more, IsOne, one_none, one_name, one_args, IsGeneric, a_list, a_dict, no_places, places, any_length, the_class, one_of, optional, a_callable, AreTypes, types_one, types_more}

-- ---- names with dots

pub one_dotted : {c c' d d' : List Lexeme} {n n' : List ℕ} → IsDotted c n d → IsDotted c' n' d' → c ≡ c' → (n ≡ n') × (d ≡ d')
one_dotted (dotted_one is stops) (dotted_one is-2 stops-2) same = (cc, cc)
one_dotted (dotted_one is stops) (dotted_more {d = d} is-2 rest) same = absurd (stops d (cc))
one_dotted (dotted_more {d = d} is rest) (dotted_one is-2 stops) same = absurd (stops d (cc))
one_dotted (dotted_more is rest) (dotted_more is-2 rest-2) same = let r = one_dotted rest rest-2 (cc) in (cc, r.1)

-- a name alone before a bracket
before_square : {c d e : List Lexeme} {n m : List ℕ} → IsDotted c n d → c ≡ name m ∷ op LeftSquare ∷ e → d ≡ op LeftSquare ∷ e
before_square (dotted_one is stops) front = cc
before_square (dotted_more is rest) front = cc

-- ---- what a type begins with

data Begins (c : List Lexeme) : Type 0 where
  by_name : {n : List ℕ} {d : List Lexeme} → c ≡ name n ∷ d → Begins c
  by_none : {d : List Lexeme} → c ≡ word KwNone ∷ d → Begins c

no_op : {c d : List Lexeme} {o : Op} → Begins c → c ≡ op o ∷ d → ⊥
no_op (by_name is) front = absurd (cc)
no_op (by_none is) front = absurd (cc)

dotted_begins : {c d : List Lexeme} {n : List ℕ} → IsDotted c n d → Begins c
dotted_begins (dotted_one is stops) = by_name is
dotted_begins (dotted_more is rest) = by_name is

no_none : {c d e : List Lexeme} {n : List ℕ} → IsDotted c n d → c ≡ word KwNone ∷ e → ⊥
no_none (dotted_one is stops) front = absurd (cc)
no_none (dotted_more is rest) front = absurd (cc)

one_begins : {c d : List Lexeme} {t : Term} → IsOne c t d → Begins c
one_begins (one_none is) = by_none is
one_begins (one_name dotted stops is) = dotted_begins dotted
one_begins (one_args is args close) = by_name is

type_begins : {c d : List Lexeme} {t : Term} → IsType c t d → Begins c
type_begins (type_one o stops) = one_begins o
type_begins (type_more o bar rest) = one_begins o

types_begin : {c d : List Lexeme} {ts : Terms} → AreTypes c ts d → Begins c
types_begin (types_one t stops) = type_begins t
types_begin (types_more t comma rest) = type_begins t

-- ---- the names before brackets

-- a number for each name that takes arguments
abbrev tag : List ℕ → ℕ
tag n =
    cond (bytes_eq n (codes "List")) 1 (cond (bytes_eq n (codes "list")) 1 (cond (bytes_eq n (codes "Dict")) 2 (cond (bytes_eq n (codes "dict")) 2
    (cond (bytes_eq n (codes "Tuple")) 3 (cond (bytes_eq n (codes "tuple")) 3 (cond (bytes_eq n (codes "Type")) 4 (cond (bytes_eq n (codes "type")) 4
    (cond (bytes_eq n (codes "Union")) 5 (cond (bytes_eq n (codes "Optional")) 6 (cond (bytes_eq n (codes "Callable")) 7 0))))))))))

abbrev head : {n : List ℕ} {c d : List Lexeme} {t : Term} → IsGeneric n c t d → ℕ
head (a_list is t) = 1
head (a_dict is t comma u) = 2
head (no_places is front) = 3
head (places is ts) = 3
head (any_length is t dots) = 3
head (the_class is dotted) = 4
head (one_of is ts) = 5
head (optional is t) = 6
head (a_callable is dots t) = 7

tag_of : {n typed builtin : List ℕ} {k : ℕ} → Is n typed builtin → tag typed ≡ k → tag builtin ≡ k → tag n ≡ k
tag_of (inl is) first second = ap tag is ∙ first
tag_of (inr is) first second = ap tag is ∙ second

tagged : {n : List ℕ} {c d : List Lexeme} {t : Term} (g : IsGeneric n c t d) → tag n ≡ head g
tagged (a_list is t) = tag_of is refl refl
tagged (a_dict is t comma u) = tag_of is refl refl
tagged (no_places is front) = tag_of is refl refl
tagged (places is ts) = tag_of is refl refl
tagged (any_length is t dots) = tag_of is refl refl
tagged (the_class is dotted) = tag_of is refl refl
tagged (one_of is ts) = ap tag is
tagged (optional is t) = ap tag is
tagged (a_callable is dots t) = ap tag is

same_heads : {n n' : List ℕ} {c c' d d' : List Lexeme} {t t' : Term} (g : IsGeneric n c t d) (h : IsGeneric n' c' t' d') → n ≡ n' → head g ≡ head h
same_heads g h named = sym (tagged g) ∙ ap tag named ∙ tagged h

-- ---- types

mutual
  pub one_type : {c c' d d' : List Lexeme} {t t' : Term} → IsType c t d → IsType c' t' d' → c ≡ c' → (t ≡ t') × (d ≡ d')
  one_type (type_one o stops) (type_one o-2 stops-2) same = one_one o o-2 same
  one_type (type_one o stops) (type_more {e = e} o-2 bar rest) same = let r = one_one o o-2 same in absurd (stops e (r.1 ∙ bar))
  one_type (type_more {e = e} o bar rest) (type_one o-2 stops) same = let r = one_one o o-2 same in absurd (stops e (sym r.1 ∙ bar))
  one_type (type_more o bar rest) (type_more o-2 bar-2 rest-2) same =
      let r = one_one o o-2 same in
      let next = one_type rest rest-2 (cc) in (cc, next.1)

  one_one : {c c' d d' : List Lexeme} {t t' : Term} → IsOne c t d → IsOne c' t' d' → c ≡ c' → (t ≡ t') × (d ≡ d')
  one_one (one_none is) (one_none is-2) same = (refl, cc)
  one_one (one_none is) (one_name dotted stops bared) same = absurd (no_none dotted (sym same ∙ is))
  one_one (one_none is) (one_args is-2 args close) same = absurd (cc)
  one_one (one_name dotted stops bared) (one_none is) same = absurd (no_none dotted (same ∙ is))
  one_one (one_name dotted stops bared) (one_name dotted-2 stops-2 bared-2) same =
      let r = one_dotted dotted dotted-2 same in (bared ∙ ap bare r.0 ∙ sym bared-2, r.1)
  one_one (one_name dotted stops bared) (one_args {d = d} is args close) same = absurd (stops d (before_square dotted (same ∙ is)))
  one_one (one_args is args close) (one_none is-2) same = absurd (cc)
  one_one (one_args {d = d} is args close) (one_name dotted stops bared) same = absurd (stops d (before_square dotted (sym same ∙ is)))
  one_one (one_args is args close) (one_args is-2 args-2 close-2) same = let r = one_generic args args-2 (cc) (cc) in (r.0, cc)

  one_generic : {n n' : List ℕ} {c c' d d' : List Lexeme} {t t' : Term} → IsGeneric n c t d → IsGeneric n' c' t' d' → n ≡ n' → c ≡ c' → (t ≡ t') × (d ≡ d')
  one_generic (a_list is t) (a_list is-2 t-2) named same = let r = one_type t t-2 same in (ap list r.0, r.1)
  one_generic (a_dict is t comma u) (a_dict is-2 t-2 comma-2 u-2) named same =
      let r = one_type t t-2 same in
      let next = one_type u u-2 (cc) in (cc, next.1)
  one_generic (no_places is front) (no_places is-2 front-2) named same = (refl, cc)
  one_generic (no_places is front) (places is-2 ts) named same = absurd (no_op (types_begin ts) (sym same ∙ front))
  one_generic (no_places is front) (any_length is-2 t dots) named same = absurd (no_op (type_begins t) (sym same ∙ front))
  one_generic (places is ts) (no_places is-2 front) named same = absurd (no_op (types_begin ts) (same ∙ front))
  one_generic (places is ts) (places is-2 ts-2) named same = let r = one_types ts ts-2 same in (ap tuple r.0, r.1)
  one_generic (places is ts) (any_length is-2 t dots) named same = absurd (no_dots ts t dots same)
  one_generic (any_length is t dots) (no_places is-2 front) named same = absurd (no_op (type_begins t) (same ∙ front))
  one_generic (any_length {e = e} is t dots) (places is-2 (types_one t-2 stops)) named same =
      let r = one_type t t-2 same in absurd (stops (op Ellipsis ∷ e) (sym r.1 ∙ dots))
  one_generic (any_length {e = e} is t dots) (places is-2 (types_more t-2 comma rest)) named same =
      let r = one_type t t-2 same in absurd (no_op {d = e} {o = Ellipsis} (types_begin rest) (cc))
  one_generic (any_length is t dots) (any_length is-2 t-2 dots-2) named same = let r = one_type t t-2 same in (ap tuple_of r.0, cc)
  one_generic (the_class is dotted) (the_class is-2 dotted-2) named same = let r = one_dotted dotted dotted-2 same in (ap class_of r.0, r.1)
  one_generic (one_of is ts) (one_of is-2 ts-2) named same = let r = one_types ts ts-2 same in (ap union r.0, r.1)
  one_generic (optional is t) (optional is-2 t-2) named same = let r = one_type t t-2 same in (ap (λ x. union (term x (term none no_terms))) r.0, r.1)
  one_generic (a_callable is dots t) (a_callable is-2 dots-2 t-2) named same = let r = one_type t t-2 (cc) in (ap callable r.0, r.1)
  one_generic g h named same = absurd (omega (arith, same_heads g h named))

  one_types : {c c' d d' : List Lexeme} {ts ts' : Terms} → AreTypes c ts d → AreTypes c' ts' d' → c ≡ c' → (ts ≡ ts') × (d ≡ d')
  one_types (types_one t stops) (types_one t-2 stops-2) same = let r = one_type t t-2 same in (ap (λ x. term x no_terms) r.0, r.1)
  one_types (types_one t stops) (types_more {e = e} t-2 comma rest) same = let r = one_type t t-2 same in absurd (stops e (r.1 ∙ comma))
  one_types (types_more {e = e} t comma rest) (types_one t-2 stops) same = let r = one_type t t-2 same in absurd (stops e (sym r.1 ∙ comma))
  one_types (types_more t comma rest) (types_more t-2 comma-2 rest-2) same =
      let r = one_type t t-2 same in
      let next = one_types rest rest-2 (cc) in (cc, next.1)

  -- types don't go on where `...` follows the first
  no_dots : {c c' d d' e : List Lexeme} {ts : Terms} {t : Term} → AreTypes c ts d → IsType c' t d' → d' ≡ op Comma ∷ op Ellipsis ∷ e → c ≡ c' → ⊥
  no_dots {e = e} (types_one t stops) t-2 dots same = let r = one_type t t-2 same in stops (op Ellipsis ∷ e) (r.1 ∙ dots)
  no_dots {e = e} (types_more t comma rest) t-2 dots same = let r = one_type t t-2 same in no_op {d = e} {o = Ellipsis} (types_begin rest) (cc)
