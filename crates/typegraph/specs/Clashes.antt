-- The first binding whose variable has another shape before it.
use Rattle.std.specs.Prelude.{◌≡◌, ◌≢◌, ℕ, List, ◌∷◌, ◌++◌}
use Rattle.std.specs.List.{Contains}
use Rattle.typegraph.specs.declared.goals.Binding.{Binding}

-- no two of the bindings give one variable two shapes
abbrev pub IsConsistent : List Binding → Type 0
IsConsistent list = (v s t : ℕ) → Contains list (record { var = v; shape = s }) → Contains list (record { var = v; shape = t }) → s ≡ t

-- one of the bindings gives its variable another shape
pub record ClashesWith (before : List Binding) (b : Binding) : Type 0 where
  pub shape : ℕ
  pub stands : Contains before (record { var = b.var; shape = shape })
  pub differ : shape ≢ b.shape

-- it stands after bindings that are consistent, of which one gives its variable another shape
pub record IsFirstClash (list : List Binding) (var : ℕ) : Type 0 where
  pub before : List Binding
  pub shape : ℕ
  pub after : List Binding
  pub is : list ≡ before ++ (record { var = var; shape = shape } ∷ after)
  pub consistent : IsConsistent before
  pub other : ℕ
  pub stands : Contains before (record { var = var; shape = other })
  pub differ : other ≢ shape
