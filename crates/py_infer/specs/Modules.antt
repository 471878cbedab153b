-- Which texts are plain modules, and with which lines.
use Rattle.std.specs.Prelude.{◌≡◌, ℕ, ◌≤◌, true, false, List, [], ◌∷◌, length, slice_get, Option, None, Some}
use Rattle.std.specs.Str.{IsUtf8}
use Rattle.py_tokens.specs.declared.token.Token.{Token}
use Rattle.py_tokens.specs.Readings.{HasTokens}
use Rattle.py_tree.specs.declared.literal.Literal.{Literal}
use Rattle.py_tree.specs.declared.literal.Literal.TheVariants as lit
use Rattle.py_grammar.specs.Names.{text_in}
use Rattle.py_tree.specs.Tree as tree
use Rattle.py_tree.specs.Tree.{Expr, node, StmtKind, assign, Stmts, no_stmts, stmt, statement, Module}
use Rattle.py_parse.specs.Parses.{IsReading}
use Rattle.scope_rules.specs.Faults.{first, faults}
use Rattle.built_forms.specs.Forms.{single_name}
use Rattle.built_forms.specs.Unbuilt.{unbuilt}
use Rattle.py_infer.specs.Lines.{Value, nothing, truth, number, fraction, text, octets, Expression, literal, name, Line}

-- the text of a name of a module
abbrev pub text_of : List (List ℕ) → ℕ → List ℕ
text_of names n = text_in (slice_get names n)

-- the value that a literal stands for
abbrev pub value_of : Literal → Value
value_of lit.NoneValue = nothing
value_of lit.TrueValue = truth true
value_of lit.FalseValue = truth false
value_of (lit.Int negative n) = number n
value_of lit.Float = fraction
value_of (lit.Str empty) = text empty
value_of (lit.Bytes empty) = octets empty

-- what an expression assigns, where its form is one of a plain module
abbrev pub expression_of : List (List ℕ) → Expr → Option Expression
expression_of names (node (tree.literal l) line site) = Some (literal (value_of l))
expression_of names (node (tree.name n) line site) = Some (name (text_of names n))
expression_of names _ = None

-- the line of a target and a value, where there are both
abbrev pub line_from : List (List ℕ) → Option ℕ → Option Expression → Option Line
line_from names (Some n) (Some e) = Some (record { target = text_of names n; value = e })
line_from names (Some n) None = None
line_from names None value = None

-- the line that a statement is, where its form is one of a plain module
abbrev pub line_of : List (List ℕ) → StmtKind → Option Line
line_of names (assign targets value) = line_from names (single_name targets) (expression_of names value)
line_of names _ = None

abbrev pub with_line : Option Line → List Line → List Line
with_line None lines = lines
with_line (Some line) lines = line ∷ lines

abbrev pub lines_from : List (List ℕ) → Stmts → List Line
lines_from names no_stmts = []
lines_from names (stmt (statement kind line) rest) = with_line (line_of names kind) (lines_from names rest)

-- the lines that a module's statements are
abbrev pub lines_of : Module → List Line
lines_of m = lines_from m.names m.body

-- The bytes are those of a plain module with these lines: its tokens have a tree, which keeps the static rules and has only
-- forms that are built.
pub record IsModule (bytes : List ℕ) (lines : List Line) : Type 0 where
  pub short : length bytes ≤ 262144
  pub utf8 : IsUtf8 bytes
  pub tokens : List Token
  pub names : List (List ℕ)
  pub reads : HasTokens bytes tokens names
  pub tree : Module
  pub reading : IsReading (record { tokens = tokens; names = names }) tree
  pub lawful : first (faults tree) ≡ None
  pub built : unbuilt tree ≡ []
  pub lines_are : lines ≡ lines_of tree
