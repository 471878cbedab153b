-- The names that code sees.
use Rattle.std.specs.Prelude.{ℕ, List, [], Option, Some, None, slice_get}
use Rattle.scope_rules.specs.Scoped.{Scoped}

abbrev pub locals_at : Option (List ℕ) → List ℕ
locals_at None = []
locals_at (Some names) = names

-- the locals of a function, by its number; a module's body has none
abbrev pub locals_in : Scoped → Option ℕ → List ℕ
locals_in scopes None = []
locals_in scopes (Some fun) = locals_at (slice_get scopes.locals fun)
