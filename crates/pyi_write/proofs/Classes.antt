-- How the text of a class is read, and that it declares that class.
use Rattle.std.proofs.Common.{◌≡◌, ℕ, true, List, [], ◌∷◌, ◌++◌, codes, map, Option, Some, None, refl, sym, ap, ◌∙◌, subst, append_assoc}
use Rattle.std.specs.List.{flat_map}
use Rattle.py_tokens.specs.declared.token.TokenKind.TheVariants as kind
use Rattle.py_tokens.specs.declared.token.Keyword.TheVariants.{KwClass}
use Rattle.py_tokens.specs.declared.token.Op.TheVariants.{Colon, Ellipsis, LeftParen, RightParen}
use Rattle.type_terms.specs.Stubs.{Name, Fun, Class}
use Rattle.pyi_write.specs.Layout.{name_line, fun_line, body_lines, base_text, class_body, class_text}
use Rattle.pyi_write.specs.Lexemes.{Lexeme, name, mark, op, word, newline, brackets_fit}
use Rattle.pyi_write.specs.NormalStubs.{IsIdentifier}
use Rattle.pyi_write.specs.Orders.{shown}
use Rattle.pyi_write.specs.StubGrammar.{a_class, item_class, AreItems, items_more, Member, a_name, a_fun, names_in, funs_in, AreMembers, IsClassBody, body_dots, body_block, IsBase, base_none, base_named, class_part}
use Rattle.pyi_write.proofs.Lexing.{InLine, in_newline}
use Rattle.pyi_write.proofs.Words.{ends}
use Rattle.pyi_write.proofs.Reading.{starts_more, identifier_starts, identifier_reads, keyword_reads, ascii_word, space_reads, space_before, open_paren, close_paren, dots, colon_space, colon_end}
use Rattle.pyi_write.proofs.Starting.{Opens, keyword_opens, four}
use Rattle.pyi_write.proofs.Lines.{LineOf, name_content, fun_content}
use Rattle.pyi_write.proofs.Parts.{After, Part, LinesOf, no_lines, a_line, lines_ls, lines_fit, block_text, block_reads, members_of_lines}

-- ---- the lines of a body

abbrev pub contents : List Name → List Fun → List (List ℕ)
contents ns fs = map name_content ns ++ map fun_content fs

abbrev pub members : List Name → List Fun → List Member
members ns fs = map a_name ns ++ map a_fun fs

fun_lines_are : (margin : List ℕ) (fs : List Fun) → flat_map (fun_line margin) fs ≡ flat_map (λ c. margin ++ c) (map fun_content fs)
fun_lines_are margin [] = refl
fun_lines_are margin (f ∷ fs) = ap (λ x. (margin ++ fun_content f) ++ x) (fun_lines_are margin fs)

pub body_is : (margin : List ℕ) (ns : List Name) (fs : List Fun) → body_lines margin ns fs ≡ flat_map (λ c. margin ++ c) (contents ns fs)
body_is margin [] fs = fun_lines_are margin fs
body_is margin (n ∷ ns) fs =
    append_assoc (margin ++ name_content n) (flat_map (name_line margin) ns) (flat_map (fun_line margin) fs) ∙ ap (λ x. (margin ++ name_content n) ++ x) (body_is margin ns fs)

funs_back : (fs : List Fun) → (names_in (map a_fun fs) ≡ []) × (funs_in (map a_fun fs) ≡ fs)
funs_back [] = (refl, refl)
funs_back (f ∷ fs) = let back = funs_back fs in (back.0, ap (λ x. f ∷ x) back.1)

pub members_back : (ns : List Name) (fs : List Fun) → (names_in (members ns fs) ≡ ns) × (funs_in (members ns fs) ≡ fs)
members_back [] fs = funs_back fs
members_back (n ∷ ns) fs = let back = members_back ns fs in (ap (λ x. n ∷ x) back.0, back.1)

-- ---- what stands behind a class's name and base

record BodyOf (body : List ℕ) (ms : List Member) : Type 0 where
  ls : List Lexeme
  reads : {rest : List ℕ} {more : List Lexeme} → After rest more → InLine [] 0 (58 ∷ (body ++ rest)) (op Colon ∷ ls ++ more)
  parses : (more : List Lexeme) → IsClassBody (ls ++ more) ms more
  fits : (more : List Lexeme) → brackets_fit 0 (ls ++ more) ≡ brackets_fit 0 more

body_of_none : BodyOf (codes " ..." ++ 10 ∷ []) []
body_of_none = record {
  ls = op Ellipsis ∷ newline ∷ [];
  reads = λ {rest} {more} later. colon_space (space_before 46 (46 ∷ 46 ∷ 10 ∷ rest) refl (dots (in_newline later.top)));
  parses = λ more. body_dots refl;
  fits = λ more. refl;
}

body_of_some : {c : List ℕ} {cs : List (List ℕ)} {m : Member} {ms : List Member} → LineOf c m → LinesOf cs ms → BodyOf (10 ∷ block_text (c ∷ cs)) (m ∷ ms)
body_of_some {c} {cs} {m} {ms} l lines =
    let inner = lines_ls (a_line l lines) in
    record {
      ls = newline ∷ mark kind.Indent ∷ inner ++ mark kind.Dedent ∷ [];
      reads = λ {rest} {more} later.
          subst (λ x. InLine [] 0 (58 ∷ 10 ∷ (block_text (c ∷ cs) ++ rest)) (op Colon ∷ newline ∷ mark kind.Indent ∷ x)) (sym (append_assoc inner (mark kind.Dedent ∷ []) more))
          (colon_end (in_newline (block_reads l lines later.block)));
      parses = λ more. body_block refl (subst (λ x. AreMembers x (m ∷ ms) more) (sym (append_assoc inner (mark kind.Dedent ∷ []) more)) (members_of_lines l lines more));
      fits = λ more. ap (brackets_fit 0) (append_assoc inner (mark kind.Dedent ∷ []) more) ∙ lines_fit (a_line l lines) (mark kind.Dedent ∷ more);
    }

body_of : (ns : List Name) (fs : List Fun) → LinesOf (contents ns fs) (members ns fs) → BodyOf (class_body ns fs) (members ns fs)
body_of [] [] no_lines = body_of_none
body_of [] (f ∷ fs) (a_line l lines) = subst (λ x. BodyOf (10 ∷ x) (members [] (f ∷ fs))) (sym (body_is four [] (f ∷ fs))) (body_of_some l lines)
body_of (n ∷ ns) fs (a_line l lines) = subst (λ x. BodyOf (10 ∷ x) (members (n ∷ ns) fs)) (sym (body_is four (n ∷ ns) fs)) (body_of_some l lines)

-- ---- the base

base_ls : Option (List ℕ) → List Lexeme
base_ls None = []
base_ls (Some b) = op LeftParen ∷ name b ∷ op RightParen ∷ []

abbrev pub HasName : Option (List ℕ) → Type 0
HasName None = Unit {0}
HasName (Some b) = IsIdentifier b

base_ends : (base : Option (List ℕ)) (rest : List ℕ) → ends (base_text base ++ 58 ∷ rest) ≡ true
base_ends None rest = refl
base_ends (Some b) rest = refl

base_reads : {rest : List ℕ} {more : List Lexeme} (base : Option (List ℕ)) → HasName base → InLine [] 0 (58 ∷ rest) more → InLine [] 0 (base_text base ++ 58 ∷ rest) (base_ls base ++ more)
unfolding base_ls
base_reads None is later = later
base_reads {rest} {more} (Some b) is later =
    subst (λ x. InLine [] 0 (40 ∷ x) (op LeftParen ∷ name b ∷ op RightParen ∷ more)) (sym (append_assoc b (41 ∷ []) (58 ∷ rest)))
    (open_paren (identifier_reads b is refl (close_paren later)))

base_parses : (base : Option (List ℕ)) (more : List Lexeme) → IsBase (base_ls base ++ op Colon ∷ more) base more
unfolding base_ls
base_parses None more = base_none refl
base_parses (Some b) more = base_named refl

base_fits : (base : Option (List ℕ)) (more : List Lexeme) → brackets_fit 0 (base_ls base ++ more) ≡ brackets_fit 0 more
unfolding base_ls
base_fits None more = refl
base_fits (Some b) more = refl

-- ---- the class

module _ (k : Class) (is : IsIdentifier k.name) (based : HasName k.base) (same : shown k.funs k.names ≡ k.names) (lines : LinesOf (contents k.names k.funs) (members k.names k.funs)) where
  body : BodyOf (class_body (shown k.funs k.names) k.funs) (members k.names k.funs)
  body = subst (λ x. BodyOf (class_body x k.funs) (members k.names k.funs)) (sym same) (body_of k.names k.funs lines)

  abbrev tail_text : List ℕ
  tail_text = class_body (shown k.funs k.names) k.funs

  text_split : (rest : List ℕ) → class_text k ++ rest ≡ codes "class " ++ (k.name ++ (base_text k.base ++ 58 ∷ (tail_text ++ rest)))
  text_split rest = ap (λ x. codes "class " ++ x) (append_assoc k.name (base_text k.base ++ 58 ∷ tail_text) rest ∙ ap (λ x. k.name ++ x) (append_assoc (base_text k.base) (58 ∷ tail_text) rest))

  class_ls : List Lexeme
  class_ls = word KwClass ∷ name k.name ∷ base_ls k.base ++ op Colon ∷ body.ls

  ls_split : (more : List Lexeme) → class_ls ++ more ≡ word KwClass ∷ name k.name ∷ base_ls k.base ++ op Colon ∷ (body.ls ++ more)
  unfolding class_ls
  ls_split more = ap (λ x. word KwClass ∷ name k.name ∷ x) (append_assoc (base_ls k.base) (op Colon ∷ body.ls) more)

  back : record { name = k.name; base = k.base; names = names_in (members k.names k.funs); funs = funs_in (members k.names k.funs) } ≡ k
  back = ap (λ ns. record { name = k.name; base = k.base; names = ns; funs = funs_in (members k.names k.funs) }) (members_back k.names k.funs).0
      ∙ ap (λ fs. record { name = k.name; base = k.base; names = k.names; funs = fs }) (members_back k.names k.funs).1

  pub class_part_of : Part (class_text k) (a_class k ∷ [])
  class_part_of = record {
    ls = class_ls;
    opens = λ rest. subst Opens (sym (text_split rest)) (keyword_opens KwClass (codes "class") _ (ascii_word (codes "class") refl refl) refl refl);
    reads = λ {rest} {more} later.
        subst (λ x. InLine [] 0 x (class_ls ++ more)) (sym (text_split rest))
        (subst (λ x. InLine [] 0 (codes "class " ++ (k.name ++ (base_text k.base ++ 58 ∷ (tail_text ++ rest)))) x) (sym (ls_split more))
        (keyword_reads KwClass (codes "class") (ascii_word (codes "class") refl refl) refl refl
        (space_reads (starts_more k.name (base_text k.base ++ 58 ∷ (tail_text ++ rest)) (identifier_starts k.name is))
        (identifier_reads k.name is (base_ends k.base (tail_text ++ rest)) (base_reads k.base based (body.reads later))))));
    parses = λ more others are.
        subst (λ x. AreItems x (a_class k ∷ others)) (sym (ls_split more))
        (subst (λ x. AreItems (word KwClass ∷ name k.name ∷ base_ls k.base ++ op Colon ∷ (body.ls ++ more)) (a_class x ∷ others)) back
        (items_more (item_class (class_part refl (base_parses k.base (body.ls ++ more)) (body.parses more))) are));
    fits = λ more. ap (brackets_fit 0) (ls_split more) ∙ base_fits k.base (op Colon ∷ (body.ls ++ more)) ∙ body.fits more;
  }
