-- Which modules are covered, and what their worlds are made of.
use Rattle.std.specs.Prelude.{◌≡◌, ℕ, Bool, List, []}
use Rattle.py_grammar.specs.Modules.{IsModuleOf}
use Rattle.py_tokens.specs.Readings.{HasTokens}
use Rattle.py_tokens.specs.TokenList.{TokenList}
use Rattle.py_tree.specs.Tree.{Module}
use Rattle.scope_rules.specs.Faults.{faults}
use Rattle.scope_rules.specs.Scoped.{scoped}
use Rattle.tree_code.specs.Programs.{program_of}
use Rattle.type_terms.specs.Stubs.{Stub}
use Rattle.world_rules.specs.Sources.{Source}
use Rattle.world_covering.specs.Forms.{IsPlainBody}

-- the grammar gives the module for a text, it breaks no rule, and it has the covered forms alone
pub record IsPlainModule (text : List ℕ) (t : TokenList) (m : Module) : Type 0 where
  pub tokens : HasTokens text t.tokens t.names
  pub tree : IsModuleOf t m
  pub faultless : faults m ≡ []
  pub plain : IsPlainBody m.body

-- how long a chain of calls gets, how many states a query may reach, and whether every function is entered from outside
pub record Settings : Type 0 where
  pub depth : ℕ
  pub budget : ℕ
  pub library : Bool

module _ (m : Module) (given : List (List ℕ × Stub)) (by : Settings) where
  -- the program of the module, and what its names stand for
  abbrev pub source_of : Source
  source_of = record { program = program_of m; scopes = scoped m; stubs = given; depth = by.depth; budget = by.budget; library = by.library }
