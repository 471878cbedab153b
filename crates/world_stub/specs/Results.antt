-- What is inferred of a program, by the numbers of its names and shapes.
use Rattle.std.specs.Prelude.{◌≡◌, ◌↔◌, ◌≤◌, ℕ, true, List, [], ◌∷◌, length, take}
use Rattle.std.specs.FinSet as finite
use Rattle.std.specs.List.{IsDistinct}
use Rattle.std.specs.Ordering.{nat_cmp}
use Rattle.type_terms.specs.Stubs.{Name}
use Rattle.type_terms.specs.Terms.{Term}
use Rattle.scope_rules.specs.NameLists.{text_of}
use Rattle.abstract_shapes.specs.declared.shape.Shape.{Shape as ShapeRow}
use Rattle.abstract_shapes.specs.Numbering.{structures}
use Rattle.abstract_shapes.specs.Places.{same_place}
use Rattle.abstract_shapes.specs.Tables.{places_of}
use Rattle.abstract_shapes.specs.Printed.{IsPrinted}
use Rattle.abstract_shapes.specs.Scenes.{scene_of, shapes_in}
use Rattle.program_tables.specs.Programs.{Compiled}
use Rattle.world_tables.specs.Tables.{HaveOneNumber}
use Rattle.abstract_vm.specs.Worlds.{WorldState}
use Rattle.world_stub.specs.Ends.{HasShape}

-- the type that is printed for the shapes that a global is seen to have at one of the points. The shapes of the world are the first of those that are kept
pub record IsTypeAt (compiled : Compiled) (w : WorldState) (points : List ℕ) (name : ℕ) (term : Term) : Type 0 where
  pub rows : List ShapeRow
  pub many : length w.rows.graph.truths ≤ length rows
  pub first : take (length w.rows.graph.truths) rows ≡ w.rows.shapes
  pub members : finite.FinSet nat_cmp
  pub has : HaveOneNumber w.rows.variables → (shape : ℕ) → (finite.contains members shape ≡ true) ↔ HasShape w points name shape
  pub apart : IsDistinct same_place (places_of w.rows.joined)
  pub printed : IsPrinted (scene_of (structures rows) w.rows.joined compiled.program.names compiled.class_names) 3 (shapes_in members (structures rows)) term

pub record IsRowOf (compiled : Compiled) (w : WorldState) (points : List ℕ) (name : ℕ) (row : Name) : Type 0 where
  pub text : row.name ≡ text_of compiled.program.names name
  pub type_is : IsTypeAt compiled w points name row.term

-- a row for each name
pub data AreRowsOf (compiled : Compiled) (w : WorldState) (points : List ℕ) : List ℕ → List Name → Type 0 where
  no_rows : AreRowsOf compiled w points [] []
  a_row : {n : ℕ} {ns : List ℕ} {row : Name} {rows : List Name} → IsRowOf compiled w points n row → AreRowsOf compiled w points ns rows → AreRowsOf compiled w points (n ∷ ns) (row ∷ rows)
