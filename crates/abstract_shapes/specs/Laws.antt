-- What holds of all printed types.
use Rattle.std.specs.Prelude.{◌≡◌, ◌↔◌, ℕ, List}
use Rattle.std.specs.List.{Contains}
use Rattle.type_terms.specs.Terms.{Term}
use Rattle.abstract_shapes.specs.declared.place.Place.{Place}
use Rattle.abstract_shapes.specs.Shapes.{Shape}
use Rattle.abstract_shapes.specs.Printed.{Scene, IsPrinted}

-- two lists are one set
abbrev pub SameSet : List Shape → List Shape → Type 0
SameSet shapes more = (s : Shape) → Contains shapes s ↔ Contains more s

-- the classes have the same names, and each place the same set of shapes
pub record SameScene (scene other : Scene) : Type 0 where
  pub names : (c : ℕ) → scene.class_name c ≡ other.class_name c
  pub joined : (p : Place) → SameSet (scene.joined p) (other.joined p)

-- a set of shapes has at most one printed type at a depth
abbrev pub OnePrintedType : Type 0
OnePrintedType =
    (depth : ℕ) (scene other : Scene) (shapes more : List Shape) (t u : Term) →
    SameScene scene other → SameSet shapes more → IsPrinted scene depth shapes t → IsPrinted other depth more u → t ≡ u
