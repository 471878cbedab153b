-- How the lines of names and functions are read, and what they declare.
use Rattle.std.proofs.Common.{◌≡◌, ℕ, ◌≤◌, Bool, true, false, List, [], ◌∷◌, ◌++◌, codes, map, refl, sym, ap, ◌∙◌, subst, arith, append_assoc}
use Rattle.std.specs.List.{AllByRecursion}
use Rattle.py_tokens.specs.declared.token.Keyword.TheVariants.{KwDef}
use Rattle.py_tokens.specs.declared.token.Op.TheVariants.{Arrow, Assign, Colon, Comma, Ellipsis, LeftParen, RightParen}
use Rattle.type_terms.specs.Stubs.{Name, Param, Fun}
use Rattle.type_terms.specs.Terms.{any}
use Rattle.type_terms.specs.Texts.{text, joined, after}
use Rattle.pyi_write.specs.Layout.{default_text, param_text}
use Rattle.pyi_write.specs.Lexemes.{Lexeme, name, op, word, newline, Stops, brackets_fit}
use Rattle.pyi_write.specs.NormalStubs.{IsIdentifier, depth}
use Rattle.pyi_write.specs.StubGrammar.{IsHint, hint_none, hint_some, IsDefault, default_none, default_dots, IsParam, a_param, AreParams, params_none, params_last, params_more, IsNameLine, IsFunLine, Member, a_name, a_fun, IsMember, member_name, member_fun}
use Rattle.pyi_write.specs.StubGrammar as grammar
use Rattle.pyi_write.specs.TypeGrammar.{type_one}
use Rattle.pyi_write.proofs.Lexing.{InLine, AtStart, in_newline}
use Rattle.pyi_write.proofs.Words.{ends}
use Rattle.pyi_write.proofs.Reading.{starts_more, identifier_starts, identifier_reads, keyword_reads, ascii_word, space_reads, space_before, open_paren, close_paren, comma, dots, assign, colon_space, arrow}
use Rattle.pyi_write.proofs.Spelling.{IsClosed, Spelled}
use Rattle.pyi_write.proofs.Starting.{Opens, identifier_opens, keyword_opens}

-- a line without its margin, and the member that it declares
pub record LineOf (c : List ℕ) (m : Member) : Type 0 where
  pub ls : List Lexeme
  pub opens : (rest : List ℕ) → Opens (c ++ rest)
  pub reads : {cols : List ℕ} {rest : List ℕ} {more : List Lexeme} → AtStart cols rest more → InLine cols 0 (c ++ rest) (ls ++ more)
  pub parses : (more : List Lexeme) → IsMember (ls ++ more) m more
  pub fits : (more : List Lexeme) → brackets_fit 0 (ls ++ more) ≡ brackets_fit 0 more

before_newline : (ls : List Lexeme) → IsClosed (newline ∷ ls)
before_newline ls = record { bar = λ more h. absurd (cc); square = λ more h. absurd (cc); dot = λ more h. absurd (cc) }

before_colon : (ls : List Lexeme) → IsClosed (op Colon ∷ ls)
before_colon ls = record { bar = λ more h. absurd (cc); square = λ more h. absurd (cc); dot = λ more h. absurd (cc) }

-- ---- `NAME: TYPE`

abbrev pub name_content : Name → List ℕ
name_content n = n.name ++ (codes ": " ++ (text n.term ++ 10 ∷ []))

pub name_of_line : (n : Name) → IsIdentifier n.name → Spelled n.term → depth n.term ≤ 64 → LineOf (name_content n) (a_name n)
name_of_line n is s small = record {
  ls = name n.name ∷ op Colon ∷ s.ls ++ newline ∷ [];
  opens = λ rest. subst Opens (sym (append_assoc n.name (codes ": " ++ (text n.term ++ 10 ∷ [])) rest)) (identifier_opens n.name (58 ∷ 32 ∷ ((text n.term ++ 10 ∷ []) ++ rest)) is refl);
  reads = λ {cols} {rest} {more} later.
      subst (λ x. InLine cols 0 x (name n.name ∷ op Colon ∷ (s.ls ++ newline ∷ []) ++ more)) (sym (append_assoc n.name (codes ": " ++ (text n.term ++ 10 ∷ [])) rest ∙ ap (λ x. n.name ++ 58 ∷ 32 ∷ x) (append_assoc (text n.term) (10 ∷ []) rest)))
      (subst (λ x. InLine cols 0 (n.name ++ 58 ∷ 32 ∷ (text n.term ++ 10 ∷ rest)) (name n.name ∷ op Colon ∷ x)) (sym (append_assoc s.ls (newline ∷ []) more))
      (identifier_reads n.name is refl (colon_space (space_reads (starts_more (text n.term) (10 ∷ rest) s.starts) (s.reads refl (in_newline later))))));
  parses = λ more.
      subst (λ x. IsMember (name n.name ∷ op Colon ∷ x) (a_name n) more) (sym (append_assoc s.ls (newline ∷ []) more))
      (member_name (grammar.name_line refl (type_one (s.parses (newline ∷ more) (before_newline more)) (before_newline more).bar)));
  fits = λ more. ap (brackets_fit 0) (append_assoc s.ls (newline ∷ []) more) ∙ s.fits 0 (newline ∷ more) (omega (arith, small));
}

-- ---- parameters

default_ls : Bool → List Lexeme
default_ls true = op Assign ∷ op Ellipsis ∷ []
default_ls false = []

default_reads : {cols : List ℕ} {k : ℕ} {rest : List ℕ} {more : List Lexeme} (b : Bool) → InLine cols k rest more → InLine cols k (default_text b ++ rest) (default_ls b ++ more)
unfolding default_ls
default_reads true later = assign (dots later)
default_reads false later = later

default_ends : (b : Bool) (rest : List ℕ) → ends rest ≡ true → ends (default_text b ++ rest) ≡ true
default_ends true rest end = refl
default_ends false rest end = end

default_parses : (b : Bool) (more : List Lexeme) → Stops Assign more → IsDefault (default_ls b ++ more) b more
unfolding default_ls
default_parses true more stops = default_dots refl
default_parses false more stops = default_none stops

default_stops : (b : Bool) (more : List Lexeme) → Stops Colon more → Stops Colon (default_ls b ++ more)
unfolding default_ls
default_stops true more stops = λ more-2 h. absurd (cc)
default_stops false more stops = stops

default_fits : (b : Bool) (k : ℕ) (more : List Lexeme) → brackets_fit k (default_ls b ++ more) ≡ brackets_fit k more
unfolding default_ls
default_fits true k more = refl
default_fits false k more = refl

param_ls : Param → List Lexeme
param_ls p = name p.name ∷ default_ls p.has_default

module _ (p : Param) (is : IsIdentifier p.name) (untyped : p.term ≡ any) where
  param_reads : {cols : List ℕ} {k : ℕ} {rest : List ℕ} {more : List Lexeme} → ends rest ≡ true → InLine cols k rest more → InLine cols k (param_text p ++ rest) (param_ls p ++ more)
  unfolding param_ls
  param_reads {cols} {k} {rest} {more} end later =
      subst (λ x. InLine cols k x (name p.name ∷ default_ls p.has_default ++ more)) (sym (append_assoc p.name (default_text p.has_default) rest))
      (identifier_reads p.name is (default_ends p.has_default rest end) (default_reads p.has_default later))

  param_parses : (more : List Lexeme) → Stops Colon more → Stops Assign more → IsParam (param_ls p ++ more) p more
  unfolding param_ls
  param_parses more colon plain =
      subst (λ t. IsParam (name p.name ∷ default_ls p.has_default ++ more) (record { name = p.name; term = t; has_default = p.has_default }) more) (sym untyped)
      (a_param refl (hint_none (default_stops p.has_default more colon)) (default_parses p.has_default more plain))

  param_fits : (k : ℕ) (more : List Lexeme) → brackets_fit k (param_ls p ++ more) ≡ brackets_fit k more
  unfolding param_ls
  param_fits k more = default_fits p.has_default k more

-- the parameters after the first
record ParamsAfter (ps : List Param) : Type 0 where
  ls : List Lexeme
  reads : {cols : List ℕ} {k : ℕ} {rest : List ℕ} {more : List Lexeme} → ends rest ≡ true → InLine cols k rest more → InLine cols k (after (map param_text ps) ++ rest) (ls ++ more)
  ends_too : (rest : List ℕ) → ends rest ≡ true → ends (after (map param_text ps) ++ rest) ≡ true
  parses : (c more : List Lexeme) (p : Param) → IsParam c p (ls ++ op RightParen ∷ more) → AreParams c (p ∷ ps) more
  colon : (more : List Lexeme) → Stops Colon (ls ++ op RightParen ∷ more)
  plain : (more : List Lexeme) → Stops Assign (ls ++ op RightParen ∷ more)
  fits : (k : ℕ) (more : List Lexeme) → brackets_fit k (ls ++ more) ≡ brackets_fit k more

no_more_params : ParamsAfter []
no_more_params = record {
  ls = [];
  reads = λ {cols} {k} {rest} {more} end later. later;
  ends_too = λ rest end. end;
  parses = λ c more p is. params_last is refl;
  colon = λ more more-2 h. absurd (cc);
  plain = λ more more-2 h. absurd (cc);
  fits = λ k more. refl;
}

one_more_param : (q : Param) (ps : List Param) → IsIdentifier q.name → q.term ≡ any → ParamsAfter ps → ParamsAfter (q ∷ ps)
one_more_param q ps is untyped v = record {
  ls = op Comma ∷ param_ls q ++ v.ls;
  reads = λ {cols} {k} {rest} {more} end later.
      subst (λ x. InLine cols k (44 ∷ 32 ∷ x) (op Comma ∷ (param_ls q ++ v.ls) ++ more)) (sym (append_assoc (param_text q) (after (map param_text ps)) rest))
      (subst (λ x. InLine cols k (44 ∷ 32 ∷ (param_text q ++ (after (map param_text ps) ++ rest))) (op Comma ∷ x)) (sym (append_assoc (param_ls q) v.ls more))
      (comma (space_reads (starts_more (param_text q) (after (map param_text ps) ++ rest) (starts_more q.name (default_text q.has_default) (identifier_starts q.name is)))
      (param_reads q is untyped (v.ends_too rest end) (v.reads end later)))));
  ends_too = λ rest end. refl;
  parses = λ c more p first.
      params_more first refl
      (v.parses ((param_ls q ++ v.ls) ++ op RightParen ∷ more) more q
      (subst (λ x. IsParam x q (v.ls ++ op RightParen ∷ more)) (sym (append_assoc (param_ls q) v.ls (op RightParen ∷ more)))
      (param_parses q is untyped (v.ls ++ op RightParen ∷ more) (v.colon more) (v.plain more))));
  colon = λ more more-2 h. absurd (cc);
  plain = λ more more-2 h. absurd (cc);
  fits = λ k more. ap (brackets_fit k) (append_assoc (param_ls q) v.ls more) ∙ param_fits q is untyped k (v.ls ++ more) ∙ v.fits k more;
}

pub record ParamsOf (ps : List Param) : Type 0 where
  pub ls : List Lexeme
  pub reads : {cols : List ℕ} {k : ℕ} {rest : List ℕ} {more : List Lexeme} → ends rest ≡ true → InLine cols k rest more → InLine cols k (joined (map param_text ps) ++ rest) (ls ++ more)
  pub parses : (more : List Lexeme) → AreParams (ls ++ op RightParen ∷ more) ps more
  pub fits : (k : ℕ) (more : List Lexeme) → brackets_fit k (ls ++ more) ≡ brackets_fit k more

params_after : (ps : List Param) → AllByRecursion (λ (p : Param). IsIdentifier p.name) ps → AllByRecursion (λ (p : Param). p.term ≡ any) ps → ParamsAfter ps
params_after [] is untyped = no_more_params
params_after (p ∷ ps) is untyped = one_more_param p ps is.0 untyped.0 (params_after ps is.1 untyped.1)

pub params_of : (ps : List Param) → AllByRecursion (λ (p : Param). IsIdentifier p.name) ps → AllByRecursion (λ (p : Param). p.term ≡ any) ps → ParamsOf ps
params_of [] is untyped = record {
  ls = [];
  reads = λ {cols} {k} {rest} {more} end later. later;
  parses = λ more. params_none refl;
  fits = λ k more. refl;
}
params_of (p ∷ ps) is untyped =
    let v = params_after ps is.1 untyped.1 in
    record {
      ls = param_ls p ++ v.ls;
      reads = λ {cols} {k} {rest} {more} end later.
          subst (λ x. InLine cols k x ((param_ls p ++ v.ls) ++ more)) (sym (append_assoc (param_text p) (after (map param_text ps)) rest))
          (subst (λ x. InLine cols k (param_text p ++ (after (map param_text ps) ++ rest)) x) (sym (append_assoc (param_ls p) v.ls more))
          (param_reads p is.0 untyped.0 (v.ends_too rest end) (v.reads end later)));
      parses = λ more.
          v.parses ((param_ls p ++ v.ls) ++ op RightParen ∷ more) more p
          (subst (λ x. IsParam x p (v.ls ++ op RightParen ∷ more)) (sym (append_assoc (param_ls p) v.ls (op RightParen ∷ more)))
          (param_parses p is.0 untyped.0 (v.ls ++ op RightParen ∷ more) (v.colon more) (v.plain more)));
      fits = λ k more. ap (brackets_fit k) (append_assoc (param_ls p) v.ls more) ∙ param_fits p is.0 untyped.0 k (v.ls ++ more) ∙ v.fits k more;
    }

-- ---- `def NAME(PARAMS) -> TYPE: ...`

abbrev pub fun_content : Fun → List ℕ
fun_content f = codes "def " ++ (f.name ++ (codes "(" ++ (joined (map param_text f.params) ++ (codes ") -> " ++ (text f.answer ++ (codes ": ..." ++ 10 ∷ []))))))

module _ (f : Fun) (is : IsIdentifier f.name) (p : ParamsOf f.params) (s : Spelled f.answer) (small : depth f.answer ≤ 64) where
  fun_ls : List Lexeme
  fun_ls = word KwDef ∷ name f.name ∷ op LeftParen ∷ p.ls ++ (op RightParen ∷ op Arrow ∷ s.ls ++ (op Colon ∷ op Ellipsis ∷ newline ∷ []))

  split_ls : (more : List Lexeme) → fun_ls ++ more ≡ word KwDef ∷ name f.name ∷ op LeftParen ∷ p.ls ++ (op RightParen ∷ op Arrow ∷ s.ls ++ (op Colon ∷ op Ellipsis ∷ newline ∷ more))
  unfolding fun_ls
  split_ls more = simp append_assoc

  split_text : (rest : List ℕ) → fun_content f ++ rest
      ≡ codes "def " ++ (f.name ++ (40 ∷ (joined (map param_text f.params) ++ (41 ∷ 32 ∷ 45 ∷ 62 ∷ 32 ∷ (text f.answer ++ (58 ∷ 32 ∷ 46 ∷ 46 ∷ 46 ∷ 10 ∷ rest))))))
  split_text rest = simp append_assoc

  pub fun_of_line : LineOf (fun_content f) (a_fun f)
  fun_of_line = record {
    ls = fun_ls;
    opens = λ rest. subst Opens (sym (split_text rest)) (keyword_opens KwDef (codes "def") _ (ascii_word (codes "def") refl refl) refl refl);
    reads = λ {cols} {rest} {more} later.
        subst (λ x. InLine cols 0 x (fun_ls ++ more)) (sym (split_text rest))
        (subst (λ x. InLine cols 0 (codes "def " ++ (f.name ++ (40 ∷ (joined (map param_text f.params) ++ (41 ∷ 32 ∷ 45 ∷ 62 ∷ 32 ∷ (text f.answer ++ (58 ∷ 32 ∷ 46 ∷ 46 ∷ 46 ∷ 10 ∷ rest))))))) x) (sym (split_ls more))
        (keyword_reads KwDef (codes "def") (ascii_word (codes "def") refl refl) refl refl
        (space_reads (starts_more f.name (40 ∷ (joined (map param_text f.params) ++ (41 ∷ 32 ∷ 45 ∷ 62 ∷ 32 ∷ (text f.answer ++ (58 ∷ 32 ∷ 46 ∷ 46 ∷ 46 ∷ 10 ∷ rest))))) (identifier_starts f.name is))
        (identifier_reads f.name is refl (open_paren (p.reads refl (close_paren (space_before 45 (62 ∷ 32 ∷ (text f.answer ++ (58 ∷ 32 ∷ 46 ∷ 46 ∷ 46 ∷ 10 ∷ rest))) refl
        (arrow (space_reads (starts_more (text f.answer) (58 ∷ 32 ∷ 46 ∷ 46 ∷ 46 ∷ 10 ∷ rest) s.starts)
        (s.reads refl (colon_space (space_before 46 (46 ∷ 46 ∷ 10 ∷ rest) refl (dots (in_newline later)))))))))))))));
    parses = λ more.
        subst (λ x. IsMember x (a_fun f) more) (sym (split_ls more))
        (member_fun (grammar.fun_line refl (p.parses (op Arrow ∷ s.ls ++ (op Colon ∷ op Ellipsis ∷ newline ∷ more)))
        (hint_some refl (type_one (s.parses (op Colon ∷ op Ellipsis ∷ newline ∷ more) (before_colon (op Ellipsis ∷ newline ∷ more))) (before_colon (op Ellipsis ∷ newline ∷ more)).bar))));
    fits = λ more.
        ap (brackets_fit 0) (split_ls more)
        ∙ p.fits 1 (op RightParen ∷ op Arrow ∷ s.ls ++ (op Colon ∷ op Ellipsis ∷ newline ∷ more))
        ∙ s.fits 0 (op Colon ∷ op Ellipsis ∷ newline ∷ more) (omega (arith, small));
  }
