-- The names that a module has assigned so far, each once, in the order in which they came.
use Rattle.std.specs.Prelude.{ℕ, Bool, nat_eq, List, [], ◌∷◌, ◌++◌, Option, Some, None, if◌then◌else◌}
use Rattle.std.specs.List.{list_any}

abbrev pub is_known : List ℕ → ℕ → Bool
is_known known n = list_any (nat_eq n) known

-- a name that isn't there yet goes last
abbrev pub with_name : List ℕ → ℕ → List ℕ
with_name known n = if is_known known n then known else known ++ n ∷ []

-- the same of the name that a statement assigns, if it assigns one
abbrev pub with_option : List ℕ → Option ℕ → List ℕ
with_option known None = known
with_option known (Some n) = with_name known n
