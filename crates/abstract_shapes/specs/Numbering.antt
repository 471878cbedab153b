-- Shapes under the ids that number them from 0.
use Rattle.std.specs.Prelude.{◌≡◌, ℕ, ◌<◌, ◌≤◌, ◌^◌, ◌-◌, Bool, true, false, not, codes, List, [], ◌∷◌, ◌++◌, length, slice_get, Some}
use Rattle.std.specs.Str.{bytes_eq}
use Rattle.type_terms.specs.Normal.{IsNormal}
use Rattle.type_terms.specs.Terms as term
use Rattle.type_terms.specs.Terms.{Term}
use Rattle.std.specs.Option.{unwrap_or}
use Rattle.abstract_shapes.specs.declared.shape.Shape as rust
use Rattle.abstract_shapes.specs.declared.shape.Shape.TheVariants as shape
use Rattle.type_terms.specs.View.{term_view}
use Rattle.abstract_shapes.specs.Shapes.{Shape, none, true_value, false_value, int, float, str, bytes, list, dict, tuple, pair, view, fun, bound, bound_native, class, inst, native, stub_module, given, ext, any}

-- the shape under an id
abbrev pub shape_at : List Shape → ℕ → Shape
shape_at shapes id = unwrap_or (slice_get shapes id) any

-- what a shape is by structure, where this gives the shape of a receiver by its id
abbrev pub structure_by : (ℕ → Shape) → rust.Shape → Shape
structure_by at shape.NoneValue = none
structure_by at shape.TrueValue = true_value
structure_by at shape.FalseValue = false_value
structure_by at shape.Int = int
structure_by at shape.Float = float
structure_by at shape.Str = str
structure_by at shape.Bytes = bytes
structure_by at (shape.List site) = list site
structure_by at (shape.Dict site) = dict site
structure_by at (shape.Tuple site places) = tuple site places
structure_by at (shape.Pair site) = pair site
structure_by at (shape.View site) = view site
structure_by at (shape.Fun f) = fun f
structure_by at (shape.Bound c f) = bound c f
structure_by at (shape.BoundNative id row) = bound_native (at id) row
structure_by at (shape.Class c) = class c
structure_by at (shape.Inst c) = inst c
structure_by at (shape.Native row) = native row
structure_by at (shape.Module m) = stub_module m
structure_by at (shape.Given t) = given (term_view t)
structure_by at shape.Ext = ext
structure_by at shape.Any = any

-- the same, where these shapes are numbered already
abbrev pub structure : List Shape → rust.Shape → Shape
structure shapes row = structure_by (shape_at shapes) row

-- the shapes that rows are, each by those before it
abbrev pub structures_from : List Shape → List rust.Shape → List Shape
structures_from shapes [] = shapes
structures_from shapes (row ∷ rows) = structures_from (shapes ++ structure shapes row ∷ []) rows

abbrev pub structures : List rust.Shape → List Shape
structures rows = structures_from [] rows

-- the receiver of a bound native has one of so many ids
abbrev pub IsThere : ℕ → rust.Shape → Type 0
IsThere count (shape.BoundNative id row) = id < count
IsThere count _ = Unit {0}

-- Whether a type from outside has a shape of its own: a union's parts have theirs, and the basic types, `Any`, `object`
-- and classes have others.
abbrev pub is_outer : Term → Bool
is_outer (term.list t) = true
is_outer (term.dict t u) = true
is_outer (term.tuple ts) = true
is_outer (term.tuple_of t) = true
is_outer (term.class name) = not (bytes_eq (codes "object") name)
is_outer (term.callable t) = true
is_outer _ = false

-- a value from outside has a type in normal form that has a shape of its own
abbrev pub IsOuter : rust.Shape → Type 0
IsOuter (shape.Given t) = IsNormal (term_view t) × (is_outer (term_view t) ≡ true)
IsOuter _ = Unit {0}

-- some id stands for a shape
abbrev pub HasId : List Shape → Shape → Type 0
HasId shapes s = (id : ℕ) × (slice_get shapes id ≡ Some s)

-- no shape has two ids
abbrev pub HaveOneId : List Shape → Type 0
HaveOneId shapes = (i j : ℕ) (s : Shape) → slice_get shapes i ≡ Some s → slice_get shapes j ≡ Some s → i ≡ j

pub record IsNumbering (rows : List rust.Shape) : Type 0 where
  -- the receiver of a bound native stands before it
  pub receivers : (id : ℕ) (row : rust.Shape) → slice_get rows id ≡ Some row → IsThere id row
  pub givens : (id : ℕ) (row : rust.Shape) → slice_get rows id ≡ Some row → IsOuter row
  pub once : HaveOneId (structures rows)
  pub few : length rows ≤ 2 ^ 32 - 1
