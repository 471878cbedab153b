-- Which tokens are a module, and its tree.
use Rattle.std.specs.Prelude.{◌≡◌, ℕ, ◌+◌, true, false, List, length}
use Rattle.py_tokens.specs.declared.token.Token.{Token}
use Rattle.py_tokens.specs.declared.token.TokenKind.TheVariants as kind
use Rattle.py_tokens.specs.TokenList.{TokenList}
use Rattle.py_tree.specs.Tree.{Module}
use Rattle.py_grammar.specs.Cursor.{Cursor, Begins}
use Rattle.py_grammar.specs.Statements.{AreStatements}

-- before the first token; functions, classes and expressions are numbered from 0
abbrev pub start : TokenList → Cursor
start t = record { tokens = t.tokens; names = t.names; place = 0; in_class = false; funs = 0; classes = 0; sites = 0 }

-- module: statement* END. The module's names are those of the tokens.
pub record IsModuleOf (t : TokenList) (m : Module) : Type 0 where
  pub end : Cursor
  pub body : AreStatements true (start t) m.body end
  pub ends : Begins kind.End end
  pub whole : end.place + 1 ≡ length t.tokens
  pub names : m.names ≡ t.names
