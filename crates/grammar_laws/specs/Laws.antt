-- What holds of trees of the grammar.
use Rattle.std.specs.Prelude.{◌≡◌, ℕ, List, []}
use Rattle.py_tokens.specs.Readings.{HasTokens}
use Rattle.py_tokens.specs.TokenList.{TokenList}
use Rattle.py_tree.specs.Tree.{Module}
use Rattle.py_grammar.specs.Modules.{IsModuleOf}
use Rattle.scope_rules.specs.Faults.{faults}
use Rattle.scope_rules.specs.WellFormed.{IsWellFormed}

-- The tree of a text's tokens, where it has no fault, is as runs and code take it.
abbrev pub TreesAreWellFormed : Type 0
TreesAreWellFormed = (text : List ℕ) (t : TokenList) (m : Module) → HasTokens text t.tokens t.names → IsModuleOf t m → faults m ≡ [] → IsWellFormed m

-- The tokens of a module have no other tree.
abbrev pub TokensHaveOneTree : Type 0
TokensHaveOneTree = (t : TokenList) (m n : Module) → IsModuleOf t m → IsModuleOf t n → m ≡ n
