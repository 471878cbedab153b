-- Lines `NAME = VALUE`, and what carrying them out in their order does.
use Rattle.std.specs.Prelude.{◌≡◌, ℕ, Bool, if◌then◌else◌, ◌⊎◌, List, [], ◌∷◌, Option, None, Some}
use Rattle.std.specs.Str.{bytes_eq}
use Rattle.py_infer.specs.declared.plain_type.PlainType.{PlainType}
use Rattle.py_infer.specs.declared.plain_type.PlainType.TheVariants as type

-- Values: None, truth values, whole numbers, fractions, and texts and bytes, of which only matters whether they are empty.
pub data Value : Type 0 where
  nothing : Value
  truth : Bool → Value
  number : ℕ → Value
  fraction : Value
  text : Bool → Value
  octets : Bool → Value

-- What a line assigns: a literal, which stands for its value, or what a name holds.
pub data Expression : Type 0 where
  literal : Value → Expression
  name : List ℕ → Expression

-- A line `NAME = VALUE`: the name that it assigns, and what it assigns to it.
pub record Line : Type 0 where
  pub target : List ℕ
  pub value : Expression

-- What stands for each name, where there is something.
abbrev pub Held : Type 0 → Type 0
Held A = List ℕ → Option A

-- what an expression stands for, where a literal stands for what `of` gives its value
abbrev pub meaning : {A : Type 0} → (Value → A) → Held A → Expression → Option A
meaning of held (literal value) = Some (of value)
meaning of held (name n) = held n

-- what the names stand for after one line
abbrev pub assigned : {A : Type 0} → (Value → A) → Held A → Line → Held A
assigned of held line n = if bytes_eq line.target n then meaning of held line.value else held n

-- what the names stand for after the lines are carried out in their order
abbrev pub carried : {A : Type 0} → (Value → A) → Held A → List Line → Held A
carried of held [] = held
carried of held (line ∷ lines) = carried of (assigned of held line) lines

-- no name stands for anything, as before the first line
abbrev pub nothing_held : {A : Type 0} → Held A
nothing_held n = None

-- the value that each name holds after the lines
abbrev pub values_after : List Line → Held Value
values_after lines = carried (λ value. value) nothing_held lines

-- the type that a stub prints for a value
abbrev pub type_of : Value → PlainType
type_of nothing = type.NoneType
type_of (truth b) = type.Bool
type_of (number n) = type.Int
type_of fraction = type.Float
type_of (text empty) = type.Str
type_of (octets empty) = type.Bytes

-- the type of each name after the lines: that of its last value, where a name as value has the type that it has at its line
abbrev pub types_after : List Line → Held PlainType
types_after lines = carried type_of nothing_held lines

-- A value belongs to a type. A truth value is a whole number too, as `bool` is a subclass of `int`.
abbrev pub Belongs : Value → PlainType → Type 0
Belongs value type.NoneType = value ≡ nothing
Belongs value type.Bool = (b : Bool) × (value ≡ truth b)
Belongs value type.Int = ((n : ℕ) × (value ≡ number n)) ⊎ ((b : Bool) × (value ≡ truth b))
Belongs value type.Float = value ≡ fraction
Belongs value type.Str = (empty : Bool) × (value ≡ text empty)
Belongs value type.Bytes = (empty : Bool) × (value ≡ octets empty)
