-- Which lexemes spell which type: one family for each nonterminal, one case for each production (PEP 484; PEP 604 for `|`).
-- Each family goes as far as it can, so it has one reading. A type is read as it is spelled; its normal form is its meaning.
use Rattle.std.specs.Prelude.{◌≡◌, ℕ, List, [], ◌∷◌, ◌++◌, ◌⊎◌, codes, if◌then◌else◌}
use Rattle.std.specs.Str.{bytes_eq}
use Rattle.py_tokens.specs.declared.token.Keyword.TheVariants.{KwNone}
use Rattle.py_tokens.specs.declared.token.Op.TheVariants.{Bar, Comma, Dot, Ellipsis, LeftParen, LeftSquare, RightParen, RightSquare}
use Rattle.type_terms.specs.Terms.{Term, any, none, bool, int, float, str, bytes, list, dict, tuple, tuple_of, class, class_of, callable, union, Terms, no_terms, term}
use Rattle.pyi_write.specs.Lexemes.{Lexeme, name, op, word, Stops}

-- dotted: NAME ("." NAME)*, as the text of it
pub data IsDotted : List Lexeme → List ℕ → List Lexeme → Type 0 where
  dotted_one : {c d : List Lexeme} {n : List ℕ} → c ≡ name n ∷ d → Stops Dot d → IsDotted c n d
  dotted_more : {c d f : List Lexeme} {n m : List ℕ} → c ≡ name n ∷ op Dot ∷ d → IsDotted d m f → IsDotted c (n ++ 46 ∷ m) f

-- the types that a name alone stands for
abbrev pub bare_names : List (List ℕ × Term)
bare_names =
    (codes "Any", any) ∷ (codes "bool", bool) ∷ (codes "int", int) ∷ (codes "float", float) ∷ (codes "str", str) ∷ (codes "bytes", bytes)
    ∷ (codes "List", list any) ∷ (codes "list", list any) ∷ (codes "Dict", dict any any) ∷ (codes "dict", dict any any)
    ∷ (codes "Tuple", tuple_of any) ∷ (codes "tuple", tuple_of any) ∷ []

abbrev pub bare_in : List (List ℕ × Term) → List ℕ → Term
bare_in [] n = class n
bare_in (row ∷ rows) n = if bytes_eq n row.0 then row.1 else bare_in rows n

-- any other name is that of a class
abbrev pub bare : List ℕ → Term
bare n = bare_in bare_names n

-- a name of `typing`, or the builtin class that may stand for it
abbrev pub Is : List ℕ → List ℕ → List ℕ → Type 0
Is n typed builtin = (n ≡ typed) ⊎ (n ≡ builtin)

mutual
  -- type: one ("|" one)*
  pub data IsType : List Lexeme → Term → List Lexeme → Type 0 where
    type_one : {c d : List Lexeme} {t : Term} → IsOne c t d → Stops Bar d → IsType c t d
    type_more : {c d e f : List Lexeme} {t u : Term} → IsOne c t d → d ≡ op Bar ∷ e → IsType e u f → IsType c (union (term t (term u no_terms))) f

  -- one: "None" | dotted | NAME "[" args "]"
  pub data IsOne : List Lexeme → Term → List Lexeme → Type 0 where
    one_none : {c d : List Lexeme} → c ≡ word KwNone ∷ d → IsOne c none d
    one_name : {c d : List Lexeme} {n : List ℕ} {t : Term} → IsDotted c n d → Stops LeftSquare d → t ≡ bare n → IsOne c t d
    one_args : {c d e f : List Lexeme} {n : List ℕ} {t : Term} → c ≡ name n ∷ op LeftSquare ∷ d → IsGeneric n d t e → e ≡ op RightSquare ∷ f → IsOne c t f

  -- args, by the name before them
  pub data IsGeneric : List ℕ → List Lexeme → Term → List Lexeme → Type 0 where
    a_list : {n : List ℕ} {c d : List Lexeme} {t : Term} → Is n (codes "List") (codes "list") → IsType c t d → IsGeneric n c (list t) d
    a_dict : {n : List ℕ} {c d e f : List Lexeme} {t u : Term} → Is n (codes "Dict") (codes "dict") → IsType c t d → d ≡ op Comma ∷ e → IsType e u f → IsGeneric n c (dict t u) f
    no_places : {n : List ℕ} {c d : List Lexeme} → Is n (codes "Tuple") (codes "tuple") → c ≡ op LeftParen ∷ op RightParen ∷ d → IsGeneric n c (tuple no_terms) d
    places : {n : List ℕ} {c d : List Lexeme} {ts : Terms} → Is n (codes "Tuple") (codes "tuple") → AreTypes c ts d → IsGeneric n c (tuple ts) d
    any_length : {n : List ℕ} {c d e : List Lexeme} {t : Term} → Is n (codes "Tuple") (codes "tuple") → IsType c t d → d ≡ op Comma ∷ op Ellipsis ∷ e → IsGeneric n c (tuple_of t) e
    the_class : {n m : List ℕ} {c d : List Lexeme} → Is n (codes "Type") (codes "type") → IsDotted c m d → IsGeneric n c (class_of m) d
    one_of : {n : List ℕ} {c d : List Lexeme} {ts : Terms} → n ≡ codes "Union" → AreTypes c ts d → IsGeneric n c (union ts) d
    optional : {n : List ℕ} {c d : List Lexeme} {t : Term} → n ≡ codes "Optional" → IsType c t d → IsGeneric n c (union (term t (term none no_terms))) d
    a_callable : {n : List ℕ} {c d e : List Lexeme} {t : Term} → n ≡ codes "Callable" → c ≡ op Ellipsis ∷ op Comma ∷ d → IsType d t e → IsGeneric n c (callable t) e

  -- type ("," type)*
  pub data AreTypes : List Lexeme → Terms → List Lexeme → Type 0 where
    types_one : {c d : List Lexeme} {t : Term} → IsType c t d → Stops Comma d → AreTypes c (term t no_terms) d
    types_more : {c d e f : List Lexeme} {t : Term} {ts : Terms} → IsType c t d → d ≡ op Comma ∷ e → AreTypes e ts f → AreTypes c (term t ts) f
