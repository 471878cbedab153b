-- Which kinds the cells of the tables of operators take, and the first row that fits.
use Rattle.std.specs.Prelude.{List, [], ◌∷◌, ◌&&◌, Option, Some, None, if◌then◌else◌}
use Rattle.std.specs.Prelude as std
use Rattle.builtin_stubs.specs.declared.basic.Basic.{Basic}
use Rattle.builtin_stubs.specs.declared.basic.Basic.TheVariants.{NoneKind, Bool, Int, Float, Str, Bytes, List as ListKind, Dict, Tuple, View, Range}
use Rattle.builtin_stubs.specs.declared.operand.Operand.{Operand}
use Rattle.builtin_stubs.specs.declared.operand.Operand.TheVariants as operand

abbrev pub fits : Operand → Basic → std.Bool
fits operand.Nothing NoneKind = std.true
fits operand.Truth Bool = std.true
fits operand.Whole Bool = std.true
fits operand.Whole Int = std.true
fits operand.Number Bool = std.true
fits operand.Number Int = std.true
fits operand.Number Float = std.true
fits operand.Text Str = std.true
fits operand.Binary Bytes = std.true
fits operand.Row ListKind = std.true
fits operand.Fixed Tuple = std.true
fits operand.Mapping Dict = std.true
fits operand.Viewed View = std.true
fits operand.Span Range = std.true
fits operand.Key ListKind = std.false
fits operand.Key Dict = std.false
fits operand.Key k = std.true
fits operand.Anything k = std.true
fits _ _ = std.false

-- the cell of the first row that fits
abbrev pub first_of : {X : Type 0} → List (Operand × X) → Basic → Option X
first_of [] k = None
first_of (r ∷ rs) k = if fits r.0 k then Some r.1 else first_of rs k

-- the same, of rows of two operands
abbrev pub first_of_two : {X : Type 0} → List (Operand × Operand × X) → Basic → Basic → Option X
first_of_two [] left right = None
first_of_two (r ∷ rs) left right = if fits r.0 left && fits r.1 right then Some r.2 else first_of_two rs left right
