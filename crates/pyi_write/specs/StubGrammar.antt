-- Which lexemes are which stub: one family for each nonterminal, one case for each production (PEP 484, "Stub files").
use Rattle.std.specs.Prelude.{◌≡◌, ℕ, Bool, true, false, List, [], ◌∷◌, codes, Option, Some, None}
use Rattle.py_tokens.specs.declared.token.TokenKind.TheVariants as kind
use Rattle.py_tokens.specs.declared.token.Keyword.TheVariants.{KwClass, KwDef, KwFalse, KwFrom, KwImport, KwNone, KwPass, KwTrue}
use Rattle.py_tokens.specs.declared.token.Op.{Op}
use Rattle.py_tokens.specs.declared.token.Op.TheVariants.{Arrow, Assign, Colon, Comma, Ellipsis, LeftParen, Minus, RightParen}
use Rattle.type_terms.specs.Stubs.{Name, Param, Fun, Class}
use Rattle.type_terms.specs.Terms.{Term, any}
use Rattle.pyi_write.specs.Lexemes.{Lexeme, name, mark, op, word, newline}
use Rattle.pyi_write.specs.Lexemes.{Stops}
use Rattle.pyi_write.specs.TypeGrammar.{IsDotted, IsType}

-- a type behind an operator, or `Any` where the operator isn't there
pub data IsHint (o : Op) : List Lexeme → Term → List Lexeme → Type 0 where
  hint_none : {c : List Lexeme} → Stops o c → IsHint o c any c
  hint_some : {c d e : List Lexeme} {t : Term} → c ≡ op o ∷ d → IsType d t e → IsHint o c t e

-- STR+ | BYTES+
pub data AreStrs : List Lexeme → List Lexeme → Type 0 where
  strs_last : {c d : List Lexeme} {b : Bool} → c ≡ mark (kind.Str b) ∷ d → ((x : Bool) (more : List Lexeme) → d ≡ mark (kind.Str x) ∷ more → ⊥) → AreStrs c d
  strs_more : {c d e : List Lexeme} {b : Bool} → c ≡ mark (kind.Str b) ∷ d → AreStrs d e → AreStrs c e

pub data AreBytes : List Lexeme → List Lexeme → Type 0 where
  bytes_last : {c d : List Lexeme} {b : Bool} → c ≡ mark (kind.Bytes b) ∷ d → ((x : Bool) (more : List Lexeme) → d ≡ mark (kind.Bytes x) ∷ more → ⊥) → AreBytes c d
  bytes_more : {c d e : List Lexeme} {b : Bool} → c ≡ mark (kind.Bytes b) ∷ d → AreBytes d e → AreBytes c e

-- INT | FLOAT
pub data IsNumber : List Lexeme → List Lexeme → Type 0 where
  number_int : {c d : List Lexeme} {v : ℕ} → c ≡ mark (kind.Int v) ∷ d → IsNumber c d
  number_float : {c d : List Lexeme} → c ≡ mark kind.Float ∷ d → IsNumber c d

-- literal: "-"? (INT | FLOAT) | STR+ | BYTES+ | "None" | "True" | "False"
pub data IsLiteral : List Lexeme → List Lexeme → Type 0 where
  literal_number : {c d : List Lexeme} → IsNumber c d → IsLiteral c d
  literal_negative : {c d e : List Lexeme} → c ≡ op Minus ∷ d → IsNumber d e → IsLiteral c e
  literal_strs : {c d : List Lexeme} → AreStrs c d → IsLiteral c d
  literal_bytes : {c d : List Lexeme} → AreBytes c d → IsLiteral c d
  literal_none : {c d : List Lexeme} → c ≡ word KwNone ∷ d → IsLiteral c d
  literal_true : {c d : List Lexeme} → c ≡ word KwTrue ∷ d → IsLiteral c d
  literal_false : {c d : List Lexeme} → c ≡ word KwFalse ∷ d → IsLiteral c d

-- ("=" ("..." | literal))?, and whether it is there
pub data IsDefault : List Lexeme → Bool → List Lexeme → Type 0 where
  default_none : {c : List Lexeme} → Stops Assign c → IsDefault c false c
  default_dots : {c d : List Lexeme} → c ≡ op Assign ∷ op Ellipsis ∷ d → IsDefault c true d
  default_literal : {c d e : List Lexeme} → c ≡ op Assign ∷ d → IsLiteral d e → IsDefault c true e

-- par: NAME (":" type)? ("=" ("..." | literal))?
pub data IsParam : List Lexeme → Param → List Lexeme → Type 0 where
  a_param : {c d e f : List Lexeme} {n : List ℕ} {t : Term} {b : Bool} → c ≡ name n ∷ d → IsHint Colon d t e → IsDefault e b f → IsParam c (record { name = n; term = t; has_default = b }) f

-- (par ("," par)* ","?)? ")"
pub data AreParams : List Lexeme → List Param → List Lexeme → Type 0 where
  params_none : {c d : List Lexeme} → c ≡ op RightParen ∷ d → AreParams c [] d
  params_last : {c d e : List Lexeme} {p : Param} → IsParam c p d → d ≡ op RightParen ∷ e → AreParams c (p ∷ []) e
  params_more : {c d e f : List Lexeme} {p : Param} {ps : List Param} → IsParam c p d → d ≡ op Comma ∷ e → AreParams e ps f → AreParams c (p ∷ ps) f

-- name: NAME ":" type ("=" "...")? NEWLINE
pub data IsNameLine : List Lexeme → Name → List Lexeme → Type 0 where
  name_line : {c d e : List Lexeme} {n : List ℕ} {t : Term} → c ≡ name n ∷ op Colon ∷ d → IsType d t (newline ∷ e) → IsNameLine c (record { name = n; term = t }) e
  name_dots : {c d e : List Lexeme} {n : List ℕ} {t : Term} → c ≡ name n ∷ op Colon ∷ d → IsType d t (op Assign ∷ op Ellipsis ∷ newline ∷ e) → IsNameLine c (record { name = n; term = t }) e

-- fun: "def" NAME "(" (par ("," par)* ","?)? ")" ("->" type)? ":" "..." NEWLINE
pub data IsFunLine : List Lexeme → Fun → List Lexeme → Type 0 where
  fun_line : {c d e f : List Lexeme} {n : List ℕ} {ps : List Param} {t : Term} →
      c ≡ word KwDef ∷ name n ∷ op LeftParen ∷ d → AreParams d ps e → IsHint Arrow e t (op Colon ∷ op Ellipsis ∷ newline ∷ f) → IsFunLine c (record { name = n; params = ps; answer = t }) f

-- what stands in a body: a name, a function, or a line that declares nothing
pub data Member : Type 0 where
  a_name : Name → Member
  a_fun : Fun → Member
  nothing : Member

-- name | fun | "..." NEWLINE | STR NEWLINE
pub data IsMember : List Lexeme → Member → List Lexeme → Type 0 where
  member_name : {c d : List Lexeme} {n : Name} → IsNameLine c n d → IsMember c (a_name n) d
  member_fun : {c d : List Lexeme} {f : Fun} → IsFunLine c f d → IsMember c (a_fun f) d
  member_dots : {c d : List Lexeme} → c ≡ op Ellipsis ∷ newline ∷ d → IsMember c nothing d
  member_str : {c d : List Lexeme} {b : Bool} → c ≡ mark (kind.Str b) ∷ newline ∷ d → IsMember c nothing d

-- a member of a class may also be "pass" NEWLINE
pub data IsClassMember : List Lexeme → Member → List Lexeme → Type 0 where
  class_member : {c d : List Lexeme} {m : Member} → IsMember c m d → IsClassMember c m d
  member_pass : {c d : List Lexeme} → c ≡ word KwPass ∷ newline ∷ d → IsClassMember c nothing d

-- members up to a DEDENT
pub data AreMembers : List Lexeme → List Member → List Lexeme → Type 0 where
  members_last : {c d : List Lexeme} {m : Member} → IsClassMember c m (mark kind.Dedent ∷ d) → AreMembers c (m ∷ []) d
  members_more : {c d e : List Lexeme} {m : Member} {ms : List Member} → IsClassMember c m d → AreMembers d ms e → AreMembers c (m ∷ ms) e

-- ("..." | "pass") NEWLINE | NEWLINE INDENT member+ DEDENT
pub data IsClassBody : List Lexeme → List Member → List Lexeme → Type 0 where
  body_dots : {c d : List Lexeme} → c ≡ op Ellipsis ∷ newline ∷ d → IsClassBody c [] d
  body_pass : {c d : List Lexeme} → c ≡ word KwPass ∷ newline ∷ d → IsClassBody c [] d
  body_block : {c d e : List Lexeme} {ms : List Member} → c ≡ newline ∷ mark kind.Indent ∷ d → AreMembers d ms e → IsClassBody c ms e

-- ("(" NAME? ")")? ":"
pub data IsBase : List Lexeme → Option (List ℕ) → List Lexeme → Type 0 where
  base_none : {c d : List Lexeme} → c ≡ op Colon ∷ d → IsBase c None d
  base_empty : {c d : List Lexeme} → c ≡ op LeftParen ∷ op RightParen ∷ op Colon ∷ d → IsBase c None d
  base_named : {c d : List Lexeme} {n : List ℕ} → c ≡ op LeftParen ∷ name n ∷ op RightParen ∷ op Colon ∷ d → IsBase c (Some n) d

abbrev pub names_in : List Member → List Name
names_in [] = []
names_in (a_name n ∷ ms) = n ∷ names_in ms
names_in (other ∷ ms) = names_in ms

abbrev pub funs_in : List Member → List Fun
funs_in [] = []
funs_in (a_fun f ∷ ms) = f ∷ funs_in ms
funs_in (other ∷ ms) = funs_in ms

-- class: "class" NAME ("(" NAME? ")")? ":" body
pub data IsClassPart : List Lexeme → Class → List Lexeme → Type 0 where
  class_part : {c d e f : List Lexeme} {n : List ℕ} {base : Option (List ℕ)} {ms : List Member} →
      c ≡ word KwClass ∷ name n ∷ d → IsBase d base e → IsClassBody e ms f → IsClassPart c (record { name = n; base = base; names = names_in ms; funs = funs_in ms }) f

-- NAME ("," NAME)* NEWLINE
pub data AreImported : List Lexeme → List Lexeme → Type 0 where
  imported_last : {c d : List Lexeme} {n : List ℕ} → c ≡ name n ∷ newline ∷ d → AreImported c d
  imported_more : {c d e : List Lexeme} {n : List ℕ} → c ≡ name n ∷ op Comma ∷ d → AreImported d e → AreImported c e

-- what stands in a stub
pub data Item : Type 0 where
  a_module : List ℕ → Item
  of_typing : Item
  a_member : Member → Item
  a_class : Class → Item

-- import | name | fun | class | "..." NEWLINE | STR NEWLINE, where
-- import: "import" dotted NEWLINE | "from" "typing" "import" NAME ("," NAME)* NEWLINE
pub data IsItem : List Lexeme → Item → List Lexeme → Type 0 where
  item_import : {c d e : List Lexeme} {m : List ℕ} → c ≡ word KwImport ∷ d → IsDotted d m (newline ∷ e) → IsItem c (a_module m) e
  item_typing : {c d e : List Lexeme} → c ≡ word KwFrom ∷ name (codes "typing") ∷ word KwImport ∷ d → AreImported d e → IsItem c of_typing e
  item_member : {c d : List Lexeme} {m : Member} → IsMember c m d → IsItem c (a_member m) d
  item_class : {c d : List Lexeme} {k : Class} → IsClassPart c k d → IsItem c (a_class k) d

-- stub: item* END
pub data AreItems : List Lexeme → List Item → Type 0 where
  items_end : {c : List Lexeme} → c ≡ mark kind.End ∷ [] → AreItems c []
  items_more : {c d : List Lexeme} {i : Item} {is : List Item} → IsItem c i d → AreItems d is → AreItems c (i ∷ is)

-- ---- what the items declare

abbrev pub modules_of : List Item → List (List ℕ)
modules_of [] = []
modules_of (a_module m ∷ is) = m ∷ modules_of is
modules_of (other ∷ is) = modules_of is

abbrev pub members_of : List Item → List Member
members_of [] = []
members_of (a_member m ∷ is) = m ∷ members_of is
members_of (other ∷ is) = members_of is

abbrev pub classes_of : List Item → List Class
classes_of [] = []
classes_of (a_class k ∷ is) = k ∷ classes_of is
classes_of (other ∷ is) = classes_of is
