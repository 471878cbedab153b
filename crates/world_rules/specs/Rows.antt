-- What a rule makes of the shapes that are read.
use Rattle.std.specs.Prelude.{ℕ, Bool, true, Option, Some, None, List, [], ◌∷◌, slice_get}
use Rattle.std.specs.List.{Contains}
use Rattle.abstract_shapes.specs.declared.place.Place.TheVariants as place
use Rattle.abstract_shapes.specs.declared.shape.Row.TheVariants.{Builtin}
use Rattle.abstract_shapes.specs.Shapes.{Shape, none, true_value, false_value, int, float, str, bytes, native, ext, any}
use Rattle.world_rules.specs.declared.finding.Fault.TheVariants as fault
use Rattle.world_rules.specs.declared.row.TransferRow.{TransferRow}
use Rattle.world_rules.specs.declared.row.Yield.{Yield}
use Rattle.world_rules.specs.declared.row.Yield.TheVariants as yields
use Rattle.world_rules.specs.declared.traits.ShapeTraits.{ShapeTraits}
use Rattle.world_rules.specs.declared.transfer.Transfer.{Transfer}
use Rattle.world_rules.specs.declared.transfer.Transfer.TheVariants as transfer
use Rattle.world_rules.specs.Traits.{traits_of}
use Rattle.world_rules.specs.Operators.{no_row, gives, unary, binary, compare, inverted}

-- A row may have results and a fault: of a name of which nothing is known a value from outside comes
abbrev pub missed : (name : ℕ) → TransferRow
missed name = record (gives (yields.Ext ∷ [])) { fault = Some (fault.Name name) }

-- the shape that is read comes, and enters the table of the name
abbrev pub stored : (name : ℕ) → TransferRow
stored name = record (gives (yields.Read 0 ∷ [])) { entries = record { place = place.Global name; given = yields.Read 0 } ∷ [] }

-- where nothing is read
abbrev pub row_of_none : Transfer → TransferRow
row_of_none (transfer.Makes made) = gives (made ∷ [])
row_of_none (transfer.Misses name) = missed name
row_of_none _ = no_row

-- where one shape is read, and where two are
abbrev pub row_of_one : Transfer → ShapeTraits → TransferRow
row_of_one transfer.Copies t = gives (yields.Read 0 ∷ [])
row_of_one (transfer.Stores name) t = stored name
row_of_one transfer.Negates t = gives (inverted t.truth)
row_of_one (transfer.Applies op) t = unary op t
row_of_one _ t = no_row

abbrev pub row_of_two : Transfer → ShapeTraits → ShapeTraits → TransferRow
row_of_two (transfer.Combines op site) t u = binary (fault.Binary op) op t u
row_of_two (transfer.Changes op site) t u = binary (fault.InPlace op) op t u
row_of_two (transfer.Compares op) t u = compare op t u
row_of_two _ t u = no_row

-- of another number of shapes than the rule reads nothing comes
abbrev pub row_of : Transfer → List Shape → TransferRow
row_of rule [] = row_of_none rule
row_of rule (t ∷ []) = row_of_one rule (traits_of t)
row_of rule (t ∷ u ∷ []) = row_of_two rule (traits_of t) (traits_of u)
row_of rule _ = no_row

-- whether these shapes are looked at together: all are
abbrev pub asks : Transfer → List Shape → Bool
asks rule shapes = true

-- the shape that is given, where it is one of those that are read or has no parts
abbrev pub made : List Shape → Yield → Option Shape
made shapes (yields.Read i) = slice_get shapes i
made shapes yields.NoneValue = Some none
made shapes yields.TrueValue = Some true_value
made shapes yields.FalseValue = Some false_value
made shapes yields.Int = Some int
made shapes yields.Float = Some float
made shapes yields.Str = Some str
made shapes yields.Bytes = Some bytes
made shapes (yields.Native id) = Some (native (Builtin id))
made shapes yields.Ext = Some ext
made shapes yields.Any = Some any
made shapes (yields.Each place) = None
