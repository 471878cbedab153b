-- What a module's scopes tell.
use Rattle.std.specs.Prelude.{ℕ, Bool, false, List, [], Option, Some, None, slice_get}
use Rattle.std.specs.Option.{option_and_then}
use Rattle.py_tree.specs.Tree.{Module}
use Rattle.scope_rules.specs.NameLists.{has_name, place_of}
use Rattle.scope_rules.specs.Named.{named}
use Rattle.scope_rules.specs.Printed.{printed_of}
use Rattle.scope_rules.specs.Roles.{binds as binds_name, is_store}
use Rattle.scope_rules.specs.Tables.{ClassScope, everything, locals, classes_from, chain_in, method_named}
use Rattle.scope_rules.specs.Uses.{uses}

-- the names that a module binds, the attributes that it stores to anywhere, the names that its stub prints, and its functions'
-- names and its classes by their numbers
pub record Scoped : Type 0 where
  pub bound : List ℕ
  pub stored : List ℕ
  pub printed : List ℕ
  pub locals : List (List ℕ)
  pub classes : List ClassScope

abbrev pub scoped : Module → Scoped
scoped m =
    record {
      bound = named binds_name [] (uses m.body);
      stored = named is_store [] (everything m.body);
      printed = printed_of m.names (uses m.body);
      locals = locals m.body;
      classes = classes_from m.names [] m.body;
    }

-- a class and its bases, from the nearest on
abbrev pub chain : Scoped → ℕ → List ℕ
chain s class = chain_in (slice_get s.classes class)

-- the number of a name in a function
abbrev pub local : Scoped → ℕ → ℕ → Option ℕ
local s fun name = option_and_then (λ names. place_of names name) (slice_get s.locals fun)

-- the text of the builtin exception class at the end of a class's chain
abbrev pub base_row : Scoped → ℕ → Option (List ℕ)
base_row s class = option_and_then (λ row. row.native) (slice_get s.classes class)

-- the method of a name in a class's own body
abbrev pub method : Scoped → ℕ → ℕ → Option ℕ
method s class name = option_and_then (λ row. method_named row.methods name) (slice_get s.classes class)

abbrev pub binds_in : Option ClassScope → ℕ → Bool
binds_in None name = false
binds_in (Some row) name = has_name row.bound name

-- whether a class's own body binds a name
abbrev pub binds : Scoped → ℕ → ℕ → Bool
binds s class name = binds_in (slice_get s.classes class) name
