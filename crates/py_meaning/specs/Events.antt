-- What a run shows to whoever watches it: what functions return, what names hold at the end, and its faults.
use Rattle.std.specs.Prelude.{ℕ, Option}
use Rattle.py_meaning.specs.Values.{Value}

-- the faults that a run reports, by their kinds
pub data FaultKind : Type 0 where
  attribute_error : FaultKind
  unsupported_operands : FaultKind
  not_iterable : FaultKind
  not_callable : FaultKind
  wrong_arg_count : FaultKind
  missing_parameter : FaultKind
  wrong_keyword_args : FaultKind
  duplicate_keyword : FaultKind

-- the number of a kind among the kinds of findings
abbrev pub kind_number : FaultKind → ℕ
kind_number attribute_error = 3
kind_number unsupported_operands = 4
kind_number not_iterable = 5
kind_number not_callable = 6
kind_number wrong_arg_count = 7
kind_number missing_parameter = 8
kind_number wrong_keyword_args = 9
kind_number duplicate_keyword = 10

-- what an attribute was looked for on: an instance of a class of the module, such a class itself, or any other value
pub data Holder : Type 0 where
  on_instance : (class : ℕ) → Holder
  on_class : (class : ℕ) → Holder
  on_another : Holder

pub data Event : Type 0 where
  returned : (function : ℕ) → Value → Event
  held : (name : ℕ) → Value → Event
  -- an attribute fault has the attribute's name
  fault : (line : ℕ) → FaultKind → Holder → (attribute : Option ℕ) → Event
