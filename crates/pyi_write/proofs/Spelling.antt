-- How the text of a type is read, and that it spells that type.
use Rattle.std.proofs.Common.{◌≡◌, ℕ, ◌+◌, ◌-◌, ◌≤◌, max, Bool, true, false, ◌&&◌, nat_lt, inl, List, [], ◌∷◌, ◌++◌, codes, refl, sym, ap, ◌∙◌, subst, arith, append_assoc}
use Rattle.std.proofs.lemmas.Bool.Decides.{nat_tests}
use Rattle.py_tokens.specs.declared.token.Keyword.TheVariants.{KwNone}
use Rattle.py_tokens.specs.declared.token.Op.TheVariants.{Bar, Comma, Dot, Ellipsis, LeftParen, LeftSquare, RightParen, RightSquare}
use Rattle.type_terms.specs.Terms.{Term, any, none, bool, int, float, str, bytes, list, dict, tuple, tuple_of, class, class_of, callable, union, Terms, no_terms, term}
use Rattle.type_terms.specs.Texts.{text, texts, joined, after, is_none, is_optional, union_text}
use Rattle.pyi_write.specs.Lexemes.{Lexeme, name, op, word, Stops, brackets_fit}
use Rattle.pyi_write.specs.NormalStubs.{IsIdentifier, IsPath, path_one, path_more, depth, depth_of}
use Rattle.pyi_write.specs.TypeGrammar.{IsDotted, dotted_one, dotted_more, bare, type_one, IsOne, one_none, one_name, one_args, IsGeneric, a_list, a_dict, no_places, places, any_length, the_class, one_of, optional, a_callable, AreTypes, types_one, types_more}
use Rattle.pyi_write.proofs.Lexing.{InLine}
use Rattle.pyi_write.proofs.Words.{ends}
use Rattle.pyi_write.proofs.Reading.{Starts, starts_more, identifier_starts, identifier_reads, keyword_reads, ascii_word, ascii_identifier, space_reads, space_before, open_square, close_square, open_paren, close_paren, comma, dots, dot}

-- what follows a type
pub record IsClosed (ls : List Lexeme) : Type 0 where
  pub bar : Stops Bar ls
  pub square : Stops LeftSquare ls
  pub dot : Stops Dot ls

pub before_close : (ls : List Lexeme) → IsClosed (op RightSquare ∷ ls)
before_close ls = record { bar = λ more h. absurd (cc); square = λ more h. absurd (cc); dot = λ more h. absurd (cc) }

pub before_comma : (ls : List Lexeme) → IsClosed (op Comma ∷ ls)
before_comma ls = record { bar = λ more h. absurd (cc); square = λ more h. absurd (cc); dot = λ more h. absurd (cc) }

-- ---- names with dots

pub record Dotted (n : List ℕ) : Type 0 where
  pub ls : List Lexeme
  pub starts : Starts n
  pub reads : {cols : List ℕ} {k : ℕ} {rest : List ℕ} {more : List Lexeme} → ends rest ≡ true → InLine cols k rest more → InLine cols k (n ++ rest) (ls ++ more)
  pub parses : (more : List Lexeme) → Stops Dot more → IsDotted (ls ++ more) n more
  pub fits : (k : ℕ) (more : List Lexeme) → brackets_fit k (ls ++ more) ≡ brackets_fit k more

one_dotted : (n : List ℕ) → IsIdentifier n → Dotted n
one_dotted n is = record {
  ls = name n ∷ [];
  starts = identifier_starts n is;
  reads = λ {cols} {k} {rest} {more} end later. identifier_reads n is end later;
  parses = λ more stops. dotted_one refl stops;
  fits = λ k more. refl;
}

more_dotted : (n first behind : List ℕ) → n ≡ first ++ 46 ∷ behind → IsIdentifier first → Dotted behind → Dotted n
more_dotted n first behind whole is d = record {
  ls = name first ∷ op Dot ∷ d.ls;
  starts = subst Starts (sym whole) (starts_more first (46 ∷ behind) (identifier_starts first is));
  reads = λ {cols} {k} {rest} {more} end later.
      subst (λ x. InLine cols k x (name first ∷ op Dot ∷ d.ls ++ more)) (sym (ap (λ x. x ++ rest) whole ∙ append_assoc first (46 ∷ behind) rest))
      (identifier_reads first is refl (dot (starts_more behind rest d.starts) (d.reads end later)));
  parses = λ more stops. subst (λ x. IsDotted (name first ∷ op Dot ∷ d.ls ++ more) x more) (sym whole) (dotted_more refl (d.parses more stops));
  fits = λ k more. d.fits k more;
}

pub path_dotted : {n : List ℕ} → IsPath n → Dotted n
path_dotted {n} (path_one is) = one_dotted n is
path_dotted {n} (path_more {first = first} {rest = rest} whole is more) = more_dotted n first rest whole is (path_dotted more)

-- ---- types

-- each class has the form of a class's name, and each union has a member
abbrev mutual
  pub Sound : Term → Type 0
  Sound (list t) = Sound t
  Sound (dict t u) = Sound t × Sound u
  Sound (tuple ts) = AllSound ts
  Sound (tuple_of t) = Sound t
  Sound (class n) = IsPath n × (class n ≡ bare n)
  Sound (class_of n) = IsPath n
  Sound (callable t) = Sound t
  Sound (union no_terms) = ⊥
  Sound (union (term t ts)) = Sound t × AllSound ts
  Sound _ = Unit {0}

  pub AllSound : Terms → Type 0
  AllSound no_terms = Unit {0}
  AllSound (term t ts) = Sound t × AllSound ts

pub record Spelled (t : Term) : Type 0 where
  pub ls : List Lexeme
  pub starts : Starts (text t)
  pub reads : {cols : List ℕ} {k : ℕ} {rest : List ℕ} {more : List Lexeme} → ends rest ≡ true → InLine cols k rest more → InLine cols k (text t ++ rest) (ls ++ more)
  pub parses : (more : List Lexeme) → IsClosed more → IsOne (ls ++ more) t more
  pub fits : (k : ℕ) (more : List Lexeme) → k + depth t ≤ 64 → brackets_fit k (ls ++ more) ≡ brackets_fit k more

-- the types after the first, each with a comma before it
pub record SpelledAfter (ts : Terms) : Type 0 where
  pub ls : List Lexeme
  pub reads : {cols : List ℕ} {k : ℕ} {rest : List ℕ} {more : List Lexeme} → ends rest ≡ true → InLine cols k rest more → InLine cols k (after (texts ts) ++ rest) (ls ++ more)
  pub ends_too : (rest : List ℕ) → ends rest ≡ true → ends (after (texts ts) ++ rest) ≡ true
  pub closed : (more : List Lexeme) → IsClosed more → IsClosed (ls ++ more)
  pub parses : (c more : List Lexeme) (t : Term) → IsOne c t (ls ++ more) → IsClosed more → Stops Comma more → AreTypes c (term t ts) more
  pub fits : (k : ℕ) (more : List Lexeme) → k + depth_of ts ≤ 64 → brackets_fit k (ls ++ more) ≡ brackets_fit k more

-- a name alone
bare_word : (t : Term) (w : List ℕ) → text t ≡ w → t ≡ bare w → IsIdentifier w → Spelled t
bare_word t w written means is = record {
  ls = name w ∷ [];
  starts = subst Starts (sym written) (identifier_starts w is);
  reads = λ {cols} {k} {rest} {more} end later. subst (λ x. InLine cols k (x ++ rest) (name w ∷ more)) (sym written) (identifier_reads w is end later);
  parses = λ more closed. one_name (dotted_one refl closed.dot) closed.square means;
  fits = λ k more small. refl;
}

spelled_none : Spelled none
spelled_none = record {
  ls = word KwNone ∷ [];
  starts = record { first = 78; rest = 111 ∷ 110 ∷ 101 ∷ []; is = refl; a_letter = refl };
  reads = λ {cols} {k} {rest} {more} end later. keyword_reads KwNone (codes "None") (ascii_word (codes "None") refl refl) refl end later;
  parses = λ more closed. one_none refl;
  fits = λ k more small. refl;
}

spelled_class : (n : List ℕ) → Dotted n → class n ≡ bare n → Spelled (class n)
spelled_class n d means = record {
  ls = d.ls;
  starts = d.starts;
  reads = λ {cols} {k} {rest} {more} end later. d.reads end later;
  parses = λ more closed. one_name (d.parses more closed.dot) closed.square means;
  fits = λ k more small. d.fits k more;
}

plus_one : (k : ℕ) → k + 1 - 1 ≡ k
plus_one k = omega arith

-- one bracket is open
open_one : (k d : ℕ) → k + (1 + d) ≤ 64 → nat_lt k 64 ≡ true
open_one k d h = grind (arith, nat_tests)

-- a name with brackets behind it
module _ (w : List ℕ) (is : IsIdentifier w) where
  generic : (t : Term) (inner : List ℕ) (ls : List Lexeme) → text t ≡ w ++ (91 ∷ inner ++ 93 ∷ []) →
      ((cols : List ℕ) (k : ℕ) (rest : List ℕ) (more : List Lexeme) → ends rest ≡ true → InLine cols k rest more → InLine cols k (inner ++ rest) (ls ++ more)) →
      ((more : List Lexeme) → IsGeneric w (ls ++ op RightSquare ∷ more) t (op RightSquare ∷ more)) →
      (d : ℕ) → depth t ≡ 1 + d → ((k : ℕ) (more : List Lexeme) → k + d ≤ 64 → brackets_fit k (ls ++ more) ≡ brackets_fit k more) → Spelled t
  generic t inner ls written reads parses d deep fits = record {
    ls = name w ∷ op LeftSquare ∷ ls ++ op RightSquare ∷ [];
    starts = subst Starts (sym written) (starts_more w (91 ∷ inner ++ 93 ∷ []) (identifier_starts w is));
    reads = λ {cols} {k} {rest} {more} end later.
        subst (λ x. InLine cols k (x ++ rest) ((name w ∷ op LeftSquare ∷ ls ++ op RightSquare ∷ []) ++ more)) (sym written)
        (subst (λ x. InLine cols k x ((name w ∷ op LeftSquare ∷ ls ++ op RightSquare ∷ []) ++ more)) (sym (append_assoc w (91 ∷ inner ++ 93 ∷ []) rest ∙ ap (λ x. w ++ 91 ∷ x) (append_assoc inner (93 ∷ []) rest)))
        (subst (λ x. InLine cols k (w ++ 91 ∷ (inner ++ 93 ∷ rest)) (name w ∷ op LeftSquare ∷ x)) (sym (append_assoc ls (op RightSquare ∷ []) more))
        (identifier_reads w is refl (open_square (reads cols (k + 1) (93 ∷ rest) (op RightSquare ∷ more) refl (close_square (subst (λ j. InLine cols j rest more) (sym (plus_one k)) later)))))));
    parses = λ more closed. one_args refl (subst (λ x. IsGeneric w x t (op RightSquare ∷ more)) (sym (append_assoc ls (op RightSquare ∷ []) more)) (parses more)) refl;
    fits = λ k more small.
        let room : k + (1 + d) ≤ 64 = omega (arith, small, deep) in
        ap (λ b. b && brackets_fit (k + 1) ((ls ++ op RightSquare ∷ []) ++ more)) (open_one k d room)
        ∙ ap (brackets_fit (k + 1)) (append_assoc ls (op RightSquare ∷ []) more)
        ∙ fits (k + 1) (op RightSquare ∷ more) (omega (arith, room))
        ∙ ap (λ j. brackets_fit j more) (plus_one k);
  }

spelled_list : (t : Term) → Spelled t → Spelled (list t)
spelled_list t s =
    generic (codes "List") (ascii_identifier (codes "List") refl refl refl) (list t) (text t) s.ls refl
    (λ cols k rest more end later. s.reads end later)
    (λ more. a_list (inl refl) (type_one (s.parses (op RightSquare ∷ more) (before_close more)) (before_close more).bar))
    (depth t) refl s.fits

max_left : (a b : ℕ) → a ≤ max a b
max_left a b = omega arith

max_right : (a b : ℕ) → b ≤ max a b
max_right a b = omega arith

spelled_dict : (t u : Term) → Spelled t → Spelled u → Spelled (dict t u)
spelled_dict t u s v =
    generic (codes "Dict") (ascii_identifier (codes "Dict") refl refl refl) (dict t u) (text t ++ 44 ∷ 32 ∷ text u) (s.ls ++ op Comma ∷ v.ls)
    (ap (λ x. codes "Dict[" ++ (x ++ 93 ∷ [])) (append_assoc (text t) (codes ", ") (text u)))
    (λ cols k rest more end later.
    subst (λ x. InLine cols k x ((s.ls ++ op Comma ∷ v.ls) ++ more)) (sym (append_assoc (text t) (44 ∷ 32 ∷ text u) rest))
    (subst (λ x. InLine cols k (text t ++ 44 ∷ 32 ∷ (text u ++ rest)) x) (sym (append_assoc s.ls (op Comma ∷ v.ls) more))
    (s.reads refl (comma (space_reads (starts_more (text u) rest v.starts) (v.reads end later))))))
    (λ more.
    subst (λ x. IsGeneric (codes "Dict") x (dict t u) (op RightSquare ∷ more)) (sym (append_assoc s.ls (op Comma ∷ v.ls) (op RightSquare ∷ more)))
    (a_dict (inl refl) (type_one (s.parses (op Comma ∷ v.ls ++ op RightSquare ∷ more) (before_comma (v.ls ++ op RightSquare ∷ more))) (before_comma (v.ls ++ op RightSquare ∷ more)).bar) refl
    (type_one (v.parses (op RightSquare ∷ more) (before_close more)) (before_close more).bar)))
    (max (depth t) (depth u)) refl
    (λ k more small.
    ap (brackets_fit k) (append_assoc s.ls (op Comma ∷ v.ls) more)
    ∙ s.fits k (op Comma ∷ v.ls ++ more) (omega (arith, small, max_left (depth t) (depth u)))
    ∙ v.fits k more (omega (arith, small, max_right (depth t) (depth u))))

spelled_tuple_of : (t : Term) → Spelled t → Spelled (tuple_of t)
spelled_tuple_of t s =
    generic (codes "Tuple") (ascii_identifier (codes "Tuple") refl refl refl) (tuple_of t) (text t ++ codes ", ...") (s.ls ++ op Comma ∷ op Ellipsis ∷ [])
    (ap (λ x. codes "Tuple[" ++ x) (sym (append_assoc (text t) (codes ", ...") (93 ∷ []))))
    (λ cols k rest more end later.
    subst (λ x. InLine cols k x ((s.ls ++ op Comma ∷ op Ellipsis ∷ []) ++ more)) (sym (append_assoc (text t) (codes ", ...") rest))
    (subst (λ x. InLine cols k (text t ++ (codes ", ..." ++ rest)) x) (sym (append_assoc s.ls (op Comma ∷ op Ellipsis ∷ []) more))
    (s.reads refl (comma (space_before 46 (46 ∷ 46 ∷ rest) refl (dots later))))))
    (λ more.
    subst (λ x. IsGeneric (codes "Tuple") x (tuple_of t) (op RightSquare ∷ more)) (sym (append_assoc s.ls (op Comma ∷ op Ellipsis ∷ []) (op RightSquare ∷ more)))
    (any_length (inl refl) (type_one (s.parses (op Comma ∷ op Ellipsis ∷ op RightSquare ∷ more) (before_comma (op Ellipsis ∷ op RightSquare ∷ more))) (before_comma (op Ellipsis ∷ op RightSquare ∷ more)).bar) refl))
    (depth t) refl
    (λ k more small. ap (brackets_fit k) (append_assoc s.ls (op Comma ∷ op Ellipsis ∷ []) more) ∙ s.fits k (op Comma ∷ op Ellipsis ∷ more) small)

spelled_class_of : (n : List ℕ) → Dotted n → Spelled (class_of n)
spelled_class_of n d =
    generic (codes "Type") (ascii_identifier (codes "Type") refl refl refl) (class_of n) n d.ls refl
    (λ cols k rest more end later. d.reads end later)
    (λ more. the_class (inl refl) (d.parses (op RightSquare ∷ more) (before_close more).dot))
    0 refl (λ k more small. d.fits k more)

spelled_callable : (t : Term) → Spelled t → Spelled (callable t)
spelled_callable t s =
    generic (codes "Callable") (ascii_identifier (codes "Callable") refl refl refl) (callable t) (codes "..., " ++ text t) (op Ellipsis ∷ op Comma ∷ s.ls) refl
    (λ cols k rest more end later. dots (comma (space_reads (starts_more (text t) rest s.starts) (s.reads end later))))
    (λ more. a_callable refl refl (type_one (s.parses (op RightSquare ∷ more) (before_close more)) (before_close more).bar))
    (depth t) refl s.fits

spelled_no_places : Spelled (tuple no_terms)
spelled_no_places =
    generic (codes "Tuple") (ascii_identifier (codes "Tuple") refl refl refl) (tuple no_terms) (codes "()") (op LeftParen ∷ op RightParen ∷ []) refl
    (λ cols k rest more end later. open_paren (close_paren (subst (λ j. InLine cols j rest more) (sym (plus_one k)) later)))
    (λ more. no_places (inl refl) refl)
    1 refl
    (λ k more small. ap (λ b. b && brackets_fit (k + 1 - 1) more) (open_one k 0 (omega (arith, small))) ∙ ap (λ j. brackets_fit j more) (plus_one k))

-- ---- several types

no_more : SpelledAfter no_terms
no_more = record {
  ls = [];
  reads = λ {cols} {k} {rest} {more} end later. later;
  ends_too = λ rest end. end;
  closed = λ more is. is;
  parses = λ c more t first is stops. types_one (type_one first is.bar) stops;
  fits = λ k more small. refl;
}

one_more : (u : Term) (us : Terms) → Spelled u → SpelledAfter us → SpelledAfter (term u us)
one_more u us s v = record {
  ls = op Comma ∷ s.ls ++ v.ls;
  reads = λ {cols} {k} {rest} {more} end later.
      subst (λ x. InLine cols k (44 ∷ 32 ∷ x) (op Comma ∷ (s.ls ++ v.ls) ++ more)) (sym (append_assoc (text u) (after (texts us)) rest))
      (subst (λ x. InLine cols k (44 ∷ 32 ∷ (text u ++ (after (texts us) ++ rest))) (op Comma ∷ x)) (sym (append_assoc s.ls v.ls more))
      (comma (space_reads (starts_more (text u) (after (texts us) ++ rest) s.starts) (s.reads (v.ends_too rest end) (v.reads end later)))));
  ends_too = λ rest end. refl;
  closed = λ more is. before_comma ((s.ls ++ v.ls) ++ more);
  parses = λ c more t first is stops.
      types_more (type_one first (before_comma ((s.ls ++ v.ls) ++ more)).bar) refl
      (v.parses ((s.ls ++ v.ls) ++ more) more u (subst (λ x. IsOne x u (v.ls ++ more)) (sym (append_assoc s.ls v.ls more)) (s.parses (v.ls ++ more) (v.closed more is))) is stops);
  fits = λ k more small.
      ap (brackets_fit k) (append_assoc s.ls v.ls more)
      ∙ s.fits k (v.ls ++ more) (omega (arith, small, max_left (depth u) (depth_of us)))
      ∙ v.fits k more (omega (arith, small, max_right (depth u) (depth_of us)));
}

-- a name with several types in brackets
module _ (w : List ℕ) (is : IsIdentifier w) (t : Term) (ts : Terms) (s : Spelled t) (v : SpelledAfter ts) where
  several : (whole : Term) → text whole ≡ w ++ (91 ∷ joined (text t ∷ texts ts) ++ 93 ∷ []) → ((c : List Lexeme) (d : List Lexeme) → AreTypes c (term t ts) d → IsGeneric w c whole d) →
      depth whole ≡ 1 + max (depth t) (depth_of ts) → Spelled whole
  several whole written means deep =
      generic w is whole (text t ++ after (texts ts)) (s.ls ++ v.ls) written
      (λ cols k rest more end later.
      subst (λ x. InLine cols k x ((s.ls ++ v.ls) ++ more)) (sym (append_assoc (text t) (after (texts ts)) rest))
      (subst (λ x. InLine cols k (text t ++ (after (texts ts) ++ rest)) x) (sym (append_assoc s.ls v.ls more)) (s.reads (v.ends_too rest end) (v.reads end later))))
      (λ more.
      subst (λ x. IsGeneric w x whole (op RightSquare ∷ more)) (sym (append_assoc s.ls v.ls (op RightSquare ∷ more)))
      (means (s.ls ++ (v.ls ++ op RightSquare ∷ more)) (op RightSquare ∷ more)
      (v.parses (s.ls ++ (v.ls ++ op RightSquare ∷ more)) (op RightSquare ∷ more) t (s.parses (v.ls ++ op RightSquare ∷ more) (v.closed (op RightSquare ∷ more) (before_close more))) (before_close more) (λ more-2 h. absurd (cc)))))
      (max (depth t) (depth_of ts)) deep
      (λ k more small.
      ap (brackets_fit k) (append_assoc s.ls v.ls more)
      ∙ s.fits k (v.ls ++ more) (omega (arith, small, max_left (depth t) (depth_of ts)))
      ∙ v.fits k more (omega (arith, small, max_right (depth t) (depth_of ts))))

spelled_places : (t : Term) (ts : Terms) → Spelled t → SpelledAfter ts → Spelled (tuple (term t ts))
spelled_places t ts s v = several (codes "Tuple") (ascii_identifier (codes "Tuple") refl refl refl) t ts s v (tuple (term t ts)) refl (λ c d. places (inl refl)) refl

spelled_members : (t : Term) (ts : Terms) → is_optional (term t ts) ≡ false → Spelled t → SpelledAfter ts → Spelled (union (term t ts))
spelled_members t ts plain s v =
    several (codes "Union") (ascii_identifier (codes "Union") refl refl refl) t ts s v (union (term t ts)) (ap (λ b. union_text b (text t ∷ texts ts)) plain) (λ c d. one_of refl) refl

spelled_optional : (t : Term) → Spelled t → Spelled (union (term t (term none no_terms)))
spelled_optional t s =
    generic (codes "Optional") (ascii_identifier (codes "Optional") refl refl refl) (union (term t (term none no_terms))) (text t) s.ls refl
    (λ cols k rest more end later. s.reads end later)
    (λ more. optional refl (type_one (s.parses (op RightSquare ∷ more) (before_close more)) (before_close more).bar))
    (max (depth t) (max 0 0)) refl (λ k more small. s.fits k more (omega (arith, small)))

is_the_none : (u : Term) → is_none u ≡ true → u ≡ none
is_the_none none h = refl
is_the_none _ h = absurd (cc)

by_second : (t u : Term) (b : Bool) → is_none u ≡ b → Spelled t → SpelledAfter (term u no_terms) → Spelled (union (term t (term u no_terms)))
by_second t u true is s v = subst (λ x. Spelled (union (term t (term x no_terms)))) (sym (is_the_none u is)) (spelled_optional t s)
by_second t u false is s v = spelled_members t (term u no_terms) is s v

by_members : (t : Term) (ts : Terms) → Spelled t → SpelledAfter ts → Spelled (union (term t ts))
by_members t no_terms s v = spelled_members t no_terms refl s v
by_members t (term u no_terms) s v = by_second t u (is_none u) refl s v
by_members t (term u (term w ws)) s v = spelled_members t (term u (term w ws)) refl s v

mutual
  pub spelled : (t : Term) → Sound t → Spelled t
  spelled any h = bare_word any (codes "Any") refl refl (ascii_identifier (codes "Any") refl refl refl)
  spelled none h = spelled_none
  spelled bool h = bare_word bool (codes "bool") refl refl (ascii_identifier (codes "bool") refl refl refl)
  spelled int h = bare_word int (codes "int") refl refl (ascii_identifier (codes "int") refl refl refl)
  spelled float h = bare_word float (codes "float") refl refl (ascii_identifier (codes "float") refl refl refl)
  spelled str h = bare_word str (codes "str") refl refl (ascii_identifier (codes "str") refl refl refl)
  spelled bytes h = bare_word bytes (codes "bytes") refl refl (ascii_identifier (codes "bytes") refl refl refl)
  spelled (list t) h = spelled_list t (spelled t h)
  spelled (dict t u) h = spelled_dict t u (spelled t h.0) (spelled u h.1)
  spelled (tuple no_terms) h = spelled_no_places
  spelled (tuple (term t ts)) h = spelled_places t ts (spelled t h.0) (spelled_after ts h.1)
  spelled (tuple_of t) h = spelled_tuple_of t (spelled t h)
  spelled (class n) h = spelled_class n (path_dotted h.0) h.1
  spelled (class_of n) h = spelled_class_of n (path_dotted h)
  spelled (callable t) h = spelled_callable t (spelled t h)
  spelled (union no_terms) h = absurd h
  spelled (union (term t ts)) h = by_members t ts (spelled t h.0) (spelled_after ts h.1)

  pub spelled_after : (ts : Terms) → AllSound ts → SpelledAfter ts
  spelled_after no_terms h = no_more
  spelled_after (term t ts) h = one_more t ts (spelled t h.0) (spelled_after ts h.1)
