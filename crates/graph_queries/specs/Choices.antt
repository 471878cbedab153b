-- Choices of shapes for variables.
use Rattle.std.specs.Prelude.{ℕ, List, [], ◌∷◌}
use Rattle.typegraph.specs.declared.goals.Binding.{Binding}
use Rattle.typegraph.specs.Graphs.{GraphTables, IsGiven}

-- a shape for each variable, which some fact gives it
abbrev pub AreGiven : GraphTables → (vars shapes : List ℕ) → Type 0
AreGiven g [] [] = Unit {0}
AreGiven g (v ∷ vs) (s ∷ ss) = IsGiven g v s × AreGiven g vs ss
AreGiven g _ _ = ⊥

-- each variable with its shape
abbrev pub bindings : (vars shapes : List ℕ) → List Binding
bindings (v ∷ vs) (s ∷ ss) = record { var = v; shape = s } ∷ bindings vs ss
bindings _ _ = []
