-- Joined tables: the shapes of each place, as sets.
use Rattle.std.specs.Prelude.{◌≡◌, ℕ, suc, Bool, nat_eq, List, [], ◌∷◌, ◌++◌, length, map, Option, Some, None, option_map, if◌then◌else◌}
use Rattle.std.specs.List.{list_any, flat_map, IsDistinct}
use Rattle.abstract_shapes.specs.declared.place.Place.{Place}
use Rattle.abstract_shapes.specs.declared.table.TableRow.{TableRow}
use Rattle.abstract_shapes.specs.Places.{same_place}

-- the ids of a place's shapes
abbrev pub table_at : List TableRow → Place → List ℕ
table_at [] p = []
table_at (row ∷ rows) p = if same_place p row.place then row.shapes else table_at rows p

abbrev pub has_shape : ℕ → List ℕ → Bool
has_shape shape shapes = list_any (nat_eq shape) shapes

-- a table with a shape, which stands once
abbrev pub with_shape : ℕ → List ℕ → List ℕ
with_shape shape shapes = if has_shape shape shapes then shapes else shapes ++ shape ∷ []

-- where the row of a place stands
abbrev pub row_number : Place → List TableRow → Option ℕ
row_number p [] = None
row_number p (row ∷ rows) = if same_place p row.place then Some 0 else option_map suc (row_number p rows)

-- a row with a shape in its table
abbrev pub grown : ℕ → TableRow → TableRow
grown shape row = record { place = row.place; shapes = with_shape shape row.shapes }

-- the places that have a row
abbrev pub places_of : List TableRow → List Place
places_of rows = map (λ row. row.place) rows

-- what rows stand for: each place with each of its shapes
abbrev pub entries : List TableRow → List (Place × ℕ)
entries rows = flat_map (λ row. map (λ shape. (row.place, shape)) row.shapes) rows

-- rows with an index of their places, of which no two are one, and a count of their entries
pub record IsIndexed (rows : List TableRow) (places : List Place) (count : ℕ) : Type 0 where
  pub places_are : places ≡ places_of rows
  pub apart : IsDistinct same_place (places_of rows)
  pub counted : count ≡ length (entries rows)
