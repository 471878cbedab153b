-- Where statements leave a loop from outside of all loops, and where they return ("The break statement", "The return statement").
use Rattle.std.specs.Prelude.{ℕ, Bool, true, false, List, [], ◌∷◌, ◌++◌, Option, Some, None}
use Rattle.py_tree.specs.Tree.{Expr, statement, StmtKind, break, continue, return, if, while, for, try, Stmts, no_stmts, stmt, Arms, no_arms, arm, Handlers, no_handlers, handler}
use Rattle.scope_rules.specs.declared.jump.Jump.{Jump}
use Rattle.scope_rules.specs.declared.jump.JumpSort.{JumpSort}
use Rattle.scope_rules.specs.declared.jump.JumpSort.TheVariants as sort

abbrev pub jump_at : JumpSort → ℕ → Jump
jump_at s line = record { sort = s; line = line }

-- a `break` or a `continue`, and whether a loop is around it
abbrev pub exits : Bool → ℕ → List Jump
exits true line = []
exits false line = jump_at sort.Exit line ∷ []

abbrev pub returns : Option Expr → ℕ → List Jump
returns None line = jump_at sort.Return line ∷ []
returns (Some x) line = jump_at sort.ReturnValue line ∷ []

-- A loop is around its body, and not around what stands in a `def` or a `class`.
abbrev mutual
  pub jumps_of : Bool → StmtKind → ℕ → List Jump
  jumps_of looped break line = exits looped line
  jumps_of looped continue line = exits looped line
  jumps_of looped (return o) line = returns o line
  jumps_of looped (if arms otherwise) line = jumps_of_arms looped arms ++ jumps looped otherwise
  jumps_of looped (while test body) line = jumps true body
  jumps_of looped (for target through body) line = jumps true body
  jumps_of looped (try body handlers otherwise) line = jumps looped body ++ jumps_of_handlers looped handlers ++ jumps looped otherwise
  jumps_of looped _ line = []

  pub jumps : Bool → Stmts → List Jump
  jumps looped no_stmts = []
  jumps looped (stmt (statement kind line) rest) = jumps_of looped kind line ++ jumps looped rest

  pub jumps_of_arms : Bool → Arms → List Jump
  jumps_of_arms looped no_arms = []
  jumps_of_arms looped (arm test body rest) = jumps looped body ++ jumps_of_arms looped rest

  pub jumps_of_handlers : Bool → Handlers → List Jump
  jumps_of_handlers looped no_handlers = []
  jumps_of_handlers looped (handler caught name body line rest) = jumps looped body ++ jumps_of_handlers looped rest

abbrev pub is_exit : JumpSort → Bool
is_exit sort.Exit = true
is_exit _ = false

abbrev pub is_return : JumpSort → Bool
is_return sort.Exit = false
is_return _ = true

abbrev pub is_return_value : JumpSort → Bool
is_return_value sort.ReturnValue = true
is_return_value _ = false
