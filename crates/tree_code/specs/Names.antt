-- How names and constants are read and stored. A function's names are its locals, by their numbers; a module's body has none.
use Rattle.std.specs.Prelude.{ℕ, List, Option, Some, None}
use Rattle.py_tree.specs.declared.literal.Literal.{Literal}
use Rattle.py_tree.specs.declared.literal.Literal.TheVariants as literal
use Rattle.stack_code.specs.declared.op.Op.{Op}
use Rattle.stack_code.specs.declared.op.Op.TheVariants.{LoadLocal, StoreLocal, ForgetLocal, LoadName, StoreName, ForgetName}
use Rattle.stack_code.specs.declared.op.ConstKind.{ConstKind}
use Rattle.stack_code.specs.declared.op.ConstKind.TheVariants as kind
use Rattle.scope_rules.specs.NameLists.{place_of}

abbrev pub kind_of : Literal → ConstKind
kind_of literal.NoneValue = kind.NoneValue
kind_of literal.TrueValue = kind.TrueValue
kind_of literal.FalseValue = kind.FalseValue
kind_of (literal.Int minus value) = kind.Int
kind_of literal.Float = kind.Float
kind_of (literal.Str empty) = kind.Str
kind_of (literal.Bytes empty) = kind.Bytes

abbrev pub load_at : ℕ → Option ℕ → Op
load_at n None = LoadName n
load_at n (Some local) = LoadLocal local

abbrev pub store_at : ℕ → Option ℕ → Op
store_at n None = StoreName n
store_at n (Some local) = StoreLocal local

abbrev pub forget_at : ℕ → Option ℕ → Op
forget_at n None = ForgetName n
forget_at n (Some local) = ForgetLocal local

abbrev pub load : List ℕ → ℕ → Op
load locals n = load_at n (place_of locals n)

abbrev pub store : List ℕ → ℕ → Op
store locals n = store_at n (place_of locals n)

abbrev pub forget : List ℕ → ℕ → Op
forget locals n = forget_at n (place_of locals n)
