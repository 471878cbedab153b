-- How the lines of the imports are read, and what they import.
use Rattle.std.proofs.Common.{◌≡◌, ℕ, true, false, cond, List, [], ◌∷◌, ◌++◌, codes, map, Option, Some, None, IfSome, refl, sym, ap, ◌∙◌, subst, append_assoc}
use Rattle.std.specs.List.{flat_map, filter_map, cons_option, AllByRecursion}
use Rattle.std.proofs.lemmas.List.{append-nil}
use Rattle.py_tokens.specs.declared.token.Keyword.TheVariants.{KwFrom, KwImport}
use Rattle.py_tokens.specs.declared.token.Op.TheVariants.{Comma}
use Rattle.type_terms.specs.Terms.{Term, any, list, dict, tuple, tuple_of, class_of, callable, union, Terms}
use Rattle.type_terms.specs.Texts.{joined, after, is_optional}
use Rattle.pyi_write.specs.Imports.{typing_named}
use Rattle.pyi_write.specs.Layout.{import_line, typing_line}
use Rattle.pyi_write.specs.Lexemes.{Lexeme, name, op, word, newline, brackets_fit}
use Rattle.pyi_write.specs.NormalStubs.{IsIdentifier}
use Rattle.pyi_write.specs.StubGrammar.{Item, a_module, of_typing, IsItem, item_import, item_typing, AreItems, items_more, AreImported, imported_last, imported_more}
use Rattle.pyi_write.proofs.Lexing.{InLine, AtStart, in_newline}
use Rattle.pyi_write.proofs.Words.{ends}
use Rattle.pyi_write.proofs.Reading.{starts_more, identifier_starts, identifier_reads, keyword_reads, ascii_word, ascii_identifier, space_reads, comma}
use Rattle.pyi_write.proofs.Spelling.{Dotted}
use Rattle.pyi_write.proofs.Starting.{Opens, keyword_opens, top_line}
use Rattle.pyi_write.proofs.Parts.{Part, Parts, an_empty_part, a_part, top_text}

-- a line at the margin, and the item that it is
record ItemLine (c : List ℕ) (i : Item) : Type 0 where
  ls : List Lexeme
  opens : (rest : List ℕ) → Opens (c ++ rest)
  reads : {rest : List ℕ} {more : List Lexeme} → AtStart [] rest more → InLine [] 0 (c ++ rest) (ls ++ more)
  parses : (more : List Lexeme) → IsItem (ls ++ more) i more
  fits : (more : List Lexeme) → brackets_fit 0 (ls ++ more) ≡ brackets_fit 0 more

-- ---- `import MODULE`

module_line : (m : List ℕ) → Dotted m → ItemLine (import_line m) (a_module m)
module_line m d = record {
  ls = word KwImport ∷ d.ls ++ newline ∷ [];
  opens = λ rest. keyword_opens KwImport (codes "import") (32 ∷ ((m ++ 10 ∷ []) ++ rest)) (ascii_word (codes "import") refl refl) refl refl;
  reads = λ {rest} {more} later.
      subst (λ x. InLine [] 0 (codes "import " ++ x) (word KwImport ∷ (d.ls ++ newline ∷ []) ++ more)) (sym (append_assoc m (10 ∷ []) rest))
      (subst (λ x. InLine [] 0 (codes "import " ++ (m ++ 10 ∷ rest)) (word KwImport ∷ x)) (sym (append_assoc d.ls (newline ∷ []) more))
      (keyword_reads KwImport (codes "import") (ascii_word (codes "import") refl refl) refl refl (space_reads (starts_more m (10 ∷ rest) d.starts) (d.reads refl (in_newline later)))));
  parses = λ more. subst (λ x. IsItem (word KwImport ∷ x) (a_module m) more) (sym (append_assoc d.ls (newline ∷ []) more)) (item_import refl (d.parses (newline ∷ more) (λ more-2 h. absurd (cc))));
  fits = λ more. ap (brackets_fit 0) (append_assoc d.ls (newline ∷ []) more) ∙ d.fits 0 (newline ∷ more);
}

-- ---- `from typing import NAMES`

names_ls : List ℕ → List (List ℕ) → List Lexeme
names_ls x [] = name x ∷ []
names_ls x (y ∷ ys) = name x ∷ op Comma ∷ names_ls y ys

names_read : {rest : List ℕ} {more : List Lexeme} (x : List ℕ) (xs : List (List ℕ)) → AllByRecursion IsIdentifier (x ∷ xs) → ends rest ≡ true → InLine [] 0 rest more → InLine [] 0 (joined (x ∷ xs) ++ rest) (names_ls x xs ++ more)
unfolding names_ls
names_read {rest} {more} x [] is end later = subst (λ v. InLine [] 0 (v ++ rest) (name x ∷ more)) (sym (append-nil x)) (identifier_reads x is.0 end later)
names_read {rest} {more} x (y ∷ ys) is end later =
    subst (λ v. InLine [] 0 v (name x ∷ op Comma ∷ names_ls y ys ++ more)) (sym (append_assoc x (44 ∷ 32 ∷ joined (y ∷ ys)) rest))
    (identifier_reads x is.0 refl (comma (space_reads (starts_more (joined (y ∷ ys)) rest (starts_more y (after ys) (identifier_starts y is.1.0))) (names_read y ys is.1 end later))))

names_parse : (x : List ℕ) (xs : List (List ℕ)) (more : List Lexeme) → AreImported (names_ls x xs ++ newline ∷ more) more
unfolding names_ls
names_parse x [] more = imported_last refl
names_parse x (y ∷ ys) more = imported_more refl (names_parse y ys more)

names_fit : (x : List ℕ) (xs : List (List ℕ)) (more : List Lexeme) → brackets_fit 0 (names_ls x xs ++ more) ≡ brackets_fit 0 more
unfolding names_ls
names_fit x [] more = refl
names_fit x (y ∷ ys) more = names_fit y ys more

typed_line : (x : List ℕ) (xs : List (List ℕ)) → AllByRecursion IsIdentifier (x ∷ xs) → ItemLine (typing_line (x ∷ xs)) of_typing
typed_line x xs is = record {
  ls = word KwFrom ∷ name (codes "typing") ∷ word KwImport ∷ names_ls x xs ++ newline ∷ [];
  opens = λ rest. keyword_opens KwFrom (codes "from") (codes " typing import " ++ ((joined (x ∷ xs) ++ 10 ∷ []) ++ rest)) (ascii_word (codes "from") refl refl) refl refl;
  reads = λ {rest} {more} later.
      subst (λ v. InLine [] 0 (codes "from typing import " ++ v) (word KwFrom ∷ name (codes "typing") ∷ word KwImport ∷ (names_ls x xs ++ newline ∷ []) ++ more)) (sym (append_assoc (joined (x ∷ xs)) (10 ∷ []) rest))
      (subst (λ v. InLine [] 0 (codes "from typing import " ++ (joined (x ∷ xs) ++ 10 ∷ rest)) (word KwFrom ∷ name (codes "typing") ∷ word KwImport ∷ v)) (sym (append_assoc (names_ls x xs) (newline ∷ []) more))
      (keyword_reads KwFrom (codes "from") (ascii_word (codes "from") refl refl) refl refl
      (space_reads (starts_more (codes "typing") (codes " import " ++ (joined (x ∷ xs) ++ 10 ∷ rest)) (identifier_starts (codes "typing") (ascii_identifier (codes "typing") refl refl refl)))
      (identifier_reads (codes "typing") (ascii_identifier (codes "typing") refl refl refl) refl
      (space_reads (record { first = 105; rest = codes "mport " ++ (joined (x ∷ xs) ++ 10 ∷ rest); is = refl; a_letter = refl })
      (keyword_reads KwImport (codes "import") (ascii_word (codes "import") refl refl) refl refl
      (space_reads (starts_more (joined (x ∷ xs)) (10 ∷ rest) (starts_more x (after xs) (identifier_starts x is.0))) (names_read x xs is refl (in_newline later)))))))));
  parses = λ more. subst (λ v. IsItem (word KwFrom ∷ name (codes "typing") ∷ word KwImport ∷ v) of_typing more) (sym (append_assoc (names_ls x xs) (newline ∷ []) more)) (item_typing refl (names_parse x xs more));
  fits = λ more. ap (brackets_fit 0) (append_assoc (names_ls x xs) (newline ∷ []) more) ∙ names_fit x xs (newline ∷ more);
}

-- ---- all lines of the imports

data ItemLines : List (List ℕ) → List Item → Type 0 where
  none_left : ItemLines [] []
  one_line : {c : List ℕ} {cs : List (List ℕ)} {i : Item} {is : List Item} → ItemLine c i → ItemLines cs is → ItemLines (c ∷ cs) (i ∷ is)

abbrev all_ls : {cs : List (List ℕ)} {is : List Item} → ItemLines cs is → List Lexeme
all_ls none_left = []
all_ls (one_line l lines) = l.ls ++ all_ls lines

all_fit : {cs : List (List ℕ)} {is : List Item} (lines : ItemLines cs is) (more : List Lexeme) → brackets_fit 0 (all_ls lines ++ more) ≡ brackets_fit 0 more
all_fit none_left more = refl
all_fit (one_line l lines) more = ap (brackets_fit 0) (append_assoc l.ls (all_ls lines) more) ∙ l.fits (all_ls lines ++ more) ∙ all_fit lines more

all_read : {cs : List (List ℕ)} {is : List Item} {rest : List ℕ} {more : List Lexeme} (lines : ItemLines cs is) → AtStart [] rest more → AtStart [] (top_text cs ++ rest) (all_ls lines ++ more)
all_read none_left later = later
all_read {rest = rest} {more = more} (one_line {c = c} {cs = cs} l lines) later =
    subst (λ x. AtStart [] x ((l.ls ++ all_ls lines) ++ more)) (sym (append_assoc c (top_text cs) rest))
    (subst (λ x. AtStart [] (c ++ (top_text cs ++ rest)) x) (sym (append_assoc l.ls (all_ls lines) more))
    (top_line (l.opens (top_text cs ++ rest)) (l.reads (all_read lines later))))

all_parse : {cs : List (List ℕ)} {is : List Item} (lines : ItemLines cs is) (more : List Lexeme) (others : List Item) → AreItems more others → AreItems (all_ls lines ++ more) (is ++ others)
all_parse none_left more others are = are
all_parse (one_line {i = i} {is = is} l lines) more others are =
    subst (λ x. AreItems x (i ∷ is ++ others)) (sym (append_assoc l.ls (all_ls lines) more)) (items_more (l.parses (all_ls lines ++ more)) (all_parse lines more others are))

lines_are_part : {c : List ℕ} {cs : List (List ℕ)} {i : Item} {is : List Item} → ItemLine c i → ItemLines cs is → Part (top_text (c ∷ cs)) (i ∷ is)
lines_are_part {c} {cs} {i} {is} l lines = record {
  ls = l.ls ++ all_ls lines;
  opens = λ rest. subst Opens (sym (append_assoc c (top_text cs) rest)) (l.opens (top_text cs ++ rest));
  reads = λ {rest} {more} later.
      subst (λ x. InLine [] 0 x ((l.ls ++ all_ls lines) ++ more)) (sym (append_assoc c (top_text cs) rest))
      (subst (λ x. InLine [] 0 (c ++ (top_text cs ++ rest)) x) (sym (append_assoc l.ls (all_ls lines) more))
      (l.reads (all_read lines later.top)));
  parses = λ more others are. all_parse (one_line l lines) more others are;
  fits = λ more. all_fit (one_line l lines) more;
}

abbrev pub typing_items : List (List ℕ) → List Item
typing_items [] = []
typing_items (x ∷ xs) = of_typing ∷ []

abbrev typing_lines : List (List ℕ) → List (List ℕ)
typing_lines [] = []
typing_lines (x ∷ xs) = typing_line (x ∷ xs) ∷ []

typed_lines : (names : List (List ℕ)) → AllByRecursion IsIdentifier names → ItemLines (typing_lines names) (typing_items names)
typed_lines [] is = none_left
typed_lines (x ∷ xs) is = one_line (typed_line x xs is) none_left

all_lines : (ms names : List (List ℕ)) → AllByRecursion Dotted ms → AllByRecursion IsIdentifier names → ItemLines (map import_line ms ++ typing_lines names) (map a_module ms ++ typing_items names)
all_lines [] names dotted is = typed_lines names is
all_lines (m ∷ ms) names dotted is = one_line (module_line m dotted.0) (all_lines ms names dotted.1 is)

typing_same : (names : List (List ℕ)) → typing_line names ≡ top_text (typing_lines names)
typing_same [] = refl
typing_same (x ∷ xs) = sym (append-nil (typing_line (x ∷ xs)))

lines_same : (ms names : List (List ℕ)) → flat_map import_line ms ++ typing_line names ≡ top_text (map import_line ms ++ typing_lines names)
lines_same [] names = typing_same names
lines_same (m ∷ ms) names = append_assoc (import_line m) (flat_map import_line ms) (typing_line names) ∙ ap (λ x. import_line m ++ x) (lines_same ms names)

lines_parts : {cs : List (List ℕ)} {is : List Item} {ps : List (List ℕ)} {others : List Item} → ItemLines cs is → Parts ps others → Parts (top_text cs ∷ ps) (is ++ others)
lines_parts none_left parts = an_empty_part parts
lines_parts (one_line l lines) parts = a_part (lines_are_part l lines) parts

pub imports_part : (ms names : List (List ℕ)) {ps : List (List ℕ)} {others : List Item} → AllByRecursion Dotted ms → AllByRecursion IsIdentifier names → Parts ps others →
    Parts ((flat_map import_line ms ++ typing_line names) ∷ ps) ((map a_module ms ++ typing_items names) ++ others)
imports_part ms names {ps} {others} dotted is parts =
    subst (λ x. Parts (x ∷ ps) ((map a_module ms ++ typing_items names) ++ others)) (sym (lines_same ms names)) (lines_parts (all_lines ms names dotted is) parts)

-- ---- the names of `typing` are identifiers

union_named : (ts : Terms) → IfSome (typing_named (union ts)) IsIdentifier
union_named ts = elim (is_optional ts) as (λ b. IsIdentifier (cond b (codes "Optional") (codes "Union"))) [
  | true ↦ ascii_identifier (codes "Optional") refl refl refl
  | false ↦ ascii_identifier (codes "Union") refl refl refl
]

typing_identifier : (t : Term) → IfSome (typing_named t) IsIdentifier
typing_identifier any = ascii_identifier (codes "Any") refl refl refl
typing_identifier (list t) = ascii_identifier (codes "List") refl refl refl
typing_identifier (dict t u) = ascii_identifier (codes "Dict") refl refl refl
typing_identifier (tuple ts) = ascii_identifier (codes "Tuple") refl refl refl
typing_identifier (tuple_of t) = ascii_identifier (codes "Tuple") refl refl refl
typing_identifier (class_of n) = ascii_identifier (codes "Type") refl refl refl
typing_identifier (callable t) = ascii_identifier (codes "Callable") refl refl refl
typing_identifier (union ts) = union_named ts
typing_identifier _ = tt

module _ {X : Type 0} (P : List ℕ → Type 0) (f : X → Option (List ℕ)) where
  cons_all : (o : Option (List ℕ)) (xs : List (List ℕ)) → IfSome o P → AllByRecursion P xs → AllByRecursion P (cons_option o xs)
  cons_all None xs h k = k
  cons_all (Some x) xs h k = (h, k)

  pub filtered_all : (xs : List X) → AllByRecursion (λ x. IfSome (f x) P) xs → AllByRecursion P (filter_map f xs)
  filtered_all [] h = tt
  filtered_all (x ∷ xs) h = cons_all (f x) (filter_map f xs) h.0 (filtered_all xs h.1)

every_typing : (ts : List Term) → AllByRecursion (λ t. IfSome (typing_named t) IsIdentifier) ts
every_typing [] = tt
every_typing (t ∷ ts) = (typing_identifier t, every_typing ts)

pub typing_identifiers : (ts : List Term) → AllByRecursion IsIdentifier (filter_map typing_named ts)
typing_identifiers ts = filtered_all IsIdentifier typing_named ts (every_typing ts)
