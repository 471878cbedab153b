-- The descent and the grammar say the same of every list of tokens.
use Rattle.std.specs.Prelude.{◌≡◌, true}
use Rattle.py_tokens.specs.declared.token.TokenKind.TheVariants as kind
use Rattle.py_tokens.specs.TokenList.{TokenList}
use Rattle.py_grammar.specs.Cursor.{Cursor, Begins}
use Rattle.py_grammar.specs.Modules.{start}
use Rattle.py_grammar.specs.Statements.{AreStatements}
use Rattle.py_tree.specs.Tree.{Stmts, no_stmts}
use Rattle.py_descent.specs.Descent.{descent}
use Rattle.py_descent.specs.Goals.{statements}
use Rattle.py_descent.specs.Programs.{gives}

-- what it finds from the first token on, the grammar has
abbrev pub IsSound : Type 0
IsSound = (t : TokenList) (ss : Stmts) (d : Cursor) → descent (statements true no_stmts) (start t) ≡ gives ss d → AreStatements true (start t) ss d

-- what the grammar has up to the end, it finds
abbrev pub IsComplete : Type 0
IsComplete = (t : TokenList) (ss : Stmts) (d : Cursor) → AreStatements true (start t) ss d → Begins kind.End d → descent (statements true no_stmts) (start t) ≡ gives ss d
