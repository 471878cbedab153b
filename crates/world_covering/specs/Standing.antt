-- Which values a shape has.
use Rattle.std.specs.Prelude.{◌≡◌, ℕ, ℤ, Bool, true, false, Some, List, slice_get}
use Rattle.type_terms.specs.Terms as type
use Rattle.builtin_stubs.specs.Meanings.{Native}
use Rattle.builtin_stubs.specs.Natives.{natives}
use Rattle.abstract_shapes.specs.declared.shape.Row.TheVariants.{Builtin}
use Rattle.abstract_shapes.specs.Shapes as shape
use Rattle.abstract_shapes.specs.Shapes.{Shape}
use Rattle.py_meaning.specs.Values as value
use Rattle.py_meaning.specs.Values.{Value, ref}
use Rattle.py_meaning.specs.Objects as object
use Rattle.py_meaning.specs.Objects.{Object}

-- A value stands for a shape, where the heap has these objects. Shapes with parts have no values yet
pub data Stands (heap : List Object) : Value → Shape → Type 0 where
  a_none : Stands heap value.none shape.none
  a_true : Stands heap (value.truth true) shape.true_value
  a_false : Stands heap (value.truth false) shape.false_value
  an_int : {n : ℤ} → Stands heap (value.whole n) shape.int
  a_float : Stands heap value.float shape.float
  a_text : {empty : Bool} → Stands heap (value.text empty) shape.str
  some_bytes : {empty : Bool} → Stands heap (value.octets empty) shape.bytes
  from_outside : {place : ℕ} → slice_get heap place ≡ Some (object.outside type.any) → Stands heap (ref place) shape.ext
  a_native : {place number : ℕ} {row : Native} →
      slice_get heap place ≡ Some (object.foreign (object.builtin number)) → slice_get natives number ≡ Some row → Stands heap (ref place) (shape.native (Builtin number))

-- An object of which no step changes anything
abbrev pub IsFixed : Object → Type 0
IsFixed (object.outside t) = Unit {0}
IsFixed (object.foreign f) = Unit {0}
IsFixed _ = ⊥

-- The later heap has each object that stays what it is
pub record Grows (heap later : List Object) : Type 0 where
  pub has : (place : ℕ) (o : Object) → IsFixed o → slice_get heap place ≡ Some o → slice_get later place ≡ Some o
