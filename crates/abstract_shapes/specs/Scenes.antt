-- What tables of shapes, of places and of names say of classes and places, and which shapes a set of ids has.
use Rattle.std.specs.Prelude.{ℕ, zero, suc, List, [], ◌∷◌, ◌++◌, length, map, slice_get, Option, Some, None, if◌then◌else◌}
use Rattle.std.specs.Option.{unwrap_or}
use Rattle.std.specs.Ordering.{nat_cmp}
use Rattle.std.specs.FinSet as finite
use Rattle.abstract_shapes.specs.declared.table.TableRow.{TableRow}
use Rattle.abstract_shapes.specs.declared.sources.Sources.{Sources}
use Rattle.abstract_shapes.specs.Numbering.{shape_at, structures}
use Rattle.abstract_shapes.specs.Printed.{Scene}
use Rattle.abstract_shapes.specs.Shapes.{Shape}
use Rattle.abstract_shapes.specs.Tables.{table_at}

-- the name under an id, if there is one
abbrev pub name_at : List (List ℕ) → Option ℕ → List ℕ
name_at names None = []
name_at names (Some id) = unwrap_or (slice_get names id) []

-- the name of a class, where these ids are the classes' names in order
abbrev pub class_name : List (List ℕ) → List ℕ → ℕ → List ℕ
class_name names classes c = name_at names (slice_get classes c)

-- the shapes under ids
abbrev pub shapes_under : List Shape → List ℕ → List Shape
shapes_under shapes ids = map (shape_at shapes) ids

abbrev pub scene_of : List Shape → List TableRow → List (List ℕ) → List ℕ → Scene
scene_of shapes rows names classes = record { class_name = class_name names classes; joined = λ place. shapes_under shapes (table_at rows place) }

-- the ids below a count that are in a set
abbrev pub ids_below : finite.FinSet nat_cmp → ℕ → List ℕ
ids_below members zero = []
ids_below members (suc n) = if finite.contains members n then ids_below members n ++ n ∷ [] else ids_below members n

-- the shapes whose ids are in a set
abbrev pub shapes_in : finite.FinSet nat_cmp → List Shape → List Shape
shapes_in members shapes = shapes_under shapes (ids_below members (length shapes))

-- what is printed from
abbrev pub scene_from : Sources → Scene
scene_from s = scene_of (structures s.shapes.now) s.joined.now s.names.now s.classes.now
