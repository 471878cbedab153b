-- The names that are mentioned in some roles.
use Rattle.std.specs.Prelude.{ℕ, Bool, ◌&&◌, nat_eq, List, [], ◌∷◌}
use Rattle.std.specs.List.{list_any}
use Rattle.scope_rules.specs.declared.mention.Mention.{Mention}
use Rattle.scope_rules.specs.declared.mention.Role.{Role}
use Rattle.scope_rules.specs.NameLists.{with_name_if}

-- each once, in the order of their first mention, after those that are there already
abbrev pub named : (Role → Bool) → List ℕ → List Mention → List ℕ
named wanted names [] = names
named wanted names (m ∷ ms) = named wanted (with_name_if (wanted m.role) names m.name) ms

-- whether a name is mentioned so
abbrev pub mentioned : (Role → Bool) → ℕ → List Mention → Bool
mentioned wanted n ms = list_any (λ m. wanted m.role && nat_eq n m.name) ms
