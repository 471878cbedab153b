-- The values of a run (language reference, "Objects, values and types", "The standard type hierarchy").
use Rattle.std.specs.Prelude.{ℕ, ℤ, pos, neg_ℤ, Bool, true, false, List, [], ◌∷◌, Option, Some, None, if◌then◌else◌, ◌==◌}
use Rattle.py_tree.specs.declared.literal.Literal.{Literal}
use Rattle.py_tree.specs.declared.literal.Literal.TheVariants as lit

pub data Value : Type 0 where
  none : Value
  truth : Bool → Value
  whole : ℤ → Value
  -- no float's number is read
  float : Value
  -- of a text and of bytes a run knows whether they are empty
  text : (empty : Bool) → Value
  octets : (empty : Bool) → Value
  -- the place of an object in the heap
  ref : ℕ → Value

-- the value of a constant; digits may have a sign before them in a default
abbrev pub literal_value : Literal → Value
literal_value lit.NoneValue = none
literal_value lit.TrueValue = truth true
literal_value lit.FalseValue = truth false
literal_value (lit.Int negative n) = whole (if negative then neg_ℤ (pos n) else pos n)
literal_value lit.Float = float
literal_value (lit.Str empty) = text empty
literal_value (lit.Bytes empty) = octets empty

-- what stands under a name, by the name's number
abbrev pub Entries : Type 0
Entries = List (ℕ × Value)

abbrev pub entry : Entries → ℕ → Option Value
entry [] name = None
entry (e ∷ es) name = if e.0 == name then Some e.1 else entry es name

-- A new value takes the old one's place, and one under a new name comes last.
abbrev pub with_entry : Entries → ℕ → Value → Entries
with_entry [] name v = (name, v) ∷ []
with_entry (e ∷ es) name v = if e.0 == name then (name, v) ∷ es else e ∷ with_entry es name v

-- without any under this name
abbrev pub without_entry : Entries → ℕ → Entries
without_entry [] name = []
without_entry (e ∷ es) name = if e.0 == name then without_entry es name else e ∷ without_entry es name
