-- What holds of the kinds of values: of fresh ones, of what operators give, and of what has a slice, takes a store and is true.
use Rattle.std.specs.Prelude.{◌≡◌, ℕ, ◌⊎◌, Bool, true, false, List, Some, Contains}
use Rattle.place_ids.specs.declared.operators.BinOp.{BinOp}
use Rattle.place_ids.specs.declared.operators.UnaryOp.{UnaryOp}
use Rattle.builtin_stubs.specs.declared.basic.Basic.{Basic}
use Rattle.builtin_stubs.specs.declared.basic.Basic.TheVariants as kind
use Rattle.builtin_stubs.specs.Kinds.{kind_of_term}
use Rattle.builtin_stubs.specs.Operators.{op_kinds, unary_kinds, order_kinds}
use Rattle.type_terms.specs.Terms.{Term, union, Terms, no_terms, term}
use Rattle.py_meaning.specs.Values.{Value}
use Rattle.py_meaning.specs.Objects.{Object, outside, kind_of_object, kind_of, is_unfollowed_at}
use Rattle.py_meaning.specs.Events.{unsupported_operands}
use Rattle.py_meaning.specs.Operators.{binary, unary, ordered}
use Rattle.py_meaning.specs.Subscripts.{read_slice, store_item}
use Rattle.py_meaning.specs.Programs.{Program}
use Rattle.py_meaning.specs.Fresh.{fresh}
use Rattle.py_meaning.specs.Actions.{Flow, Request, Action, gives, fails}
use Rattle.py_meaning.specs.Contents.{contents, pairs}
use Rattle.py_meaning.specs.Truth.{by_choice, has_parts, truth_of_object}
use Rattle.py_meaning.specs.Laws.{reached}
use Rattle.py_meaning.specs.Runs.{State, Answer, gave, carry_out}

-- a kind that values of a type have: of a union that of a member, and of one without members that of what may be anything
abbrev mutual
  pub HasKind : Term → Basic → Type 0
  HasKind (union no_terms) k = k ≡ kind.Other
  HasKind (union ts) k = IsKindOfOne ts k
  HasKind t k = k ≡ kind_of_term t

  pub IsKindOfOne : Terms → Basic → Type 0
  IsKindOfOne no_terms k = ⊥
  IsKindOfOne (term t ts) k = HasKind t k ⊎ IsKindOfOne ts k

-- a fresh value of a type is of a kind that the type has
abbrev pub FreshIsOfAKind : Type 0
FreshIsOfAKind =
    (p : Program) (turns_in : Request → State → Answer Flow) (t : Term) (v : Value) (s u : State) →
    carry_out turns_in (fresh p t) s ≡ gave v u → HasKind t (kind_of u.memory.heap v)

-- what an operator gives of values that are followed is of a kind of its row
abbrev pub OperatorsKeepTheirRows : Type 0
OperatorsKeepTheirRows =
    (p : Program) (turns_in : Request → State → Answer Flow) (op : BinOp) (site line : ℕ) (v w x : Value) (s t : State) →
    is_unfollowed_at s.memory.heap v ≡ false → is_unfollowed_at s.memory.heap w ≡ false → carry_out turns_in (binary p op site line v w) s ≡ gave x t →
    (kinds : List Basic) × (op_kinds op (kind_of s.memory.heap v) (kind_of s.memory.heap w) ≡ Some kinds) × Contains kinds (kind_of t.memory.heap x)

abbrev pub SignsKeepTheirRows : Type 0
SignsKeepTheirRows =
    (turns_in : Request → State → Answer Flow) (op : UnaryOp) (line : ℕ) (v x : Value) (s t : State) →
    is_unfollowed_at s.memory.heap v ≡ false → carry_out turns_in (unary op line v) s ≡ gave x t →
    (kinds : List Basic) × (unary_kinds op (kind_of s.memory.heap v) ≡ Some kinds) × Contains kinds (kind_of t.memory.heap x)

abbrev pub OrdersKeepTheirRows : Type 0
OrdersKeepTheirRows =
    (turns_in : Request → State → Answer Flow) (line : ℕ) (v w x : Value) (s t : State) →
    is_unfollowed_at s.memory.heap v ≡ false → is_unfollowed_at s.memory.heap w ≡ false → carry_out turns_in (ordered line v w) s ≡ gave x t →
    (kinds : List Basic) × (order_kinds (kind_of s.memory.heap v) (kind_of s.memory.heap w) ≡ Some kinds) × Contains kinds (kind_of t.memory.heap x)

-- ---- what can be sliced and stored to, by the kind alone

abbrev pub has_slice : Basic → Bool
has_slice kind.Str = true
has_slice kind.Bytes = true
has_slice kind.List = true
has_slice kind.Tuple = true
has_slice _ = false

abbrev pub takes_items : Basic → Bool
takes_items kind.List = true
takes_items kind.Dict = true
takes_items _ = false

-- A value that is followed, and of a kind that has no slice, is an operand fault.
abbrev pub OtherKindsHaveNoSlice : Type 0
OtherKindsHaveNoSlice =
    (p : Program) (turns_in : Request → State → Answer Flow) (site line : ℕ) (v : Value) (s : State) →
    is_unfollowed_at s.memory.heap v ≡ false → has_slice (kind_of s.memory.heap v) ≡ false →
    carry_out turns_in (read_slice p site line v) s ≡ carry_out turns_in (fails line unsupported_operands) s

abbrev pub OtherKindsTakeNoItems : Type 0
OtherKindsTakeNoItems =
    (turns_in : Request → State → Answer Flow) (line : ℕ) (v i x : Value) (s : State) →
    is_unfollowed_at s.memory.heap v ≡ false → takes_items (kind_of s.memory.heap v) ≡ false →
    carry_out turns_in (store_item line v i x) s ≡ carry_out turns_in (fails line unsupported_operands) s

-- What a slice gives of a value that is followed is of the value's kind.
abbrev pub SlicesKeepTheirKind : Type 0
SlicesKeepTheirKind =
    (p : Program) (turns_in : Request → State → Answer Flow) (site line : ℕ) (v x : Value) (s t : State) →
    is_unfollowed_at s.memory.heap v ≡ false → carry_out turns_in (read_slice p site line v) s ≡ gave x t → kind_of t.memory.heap x ≡ kind_of s.memory.heap v

-- A store by an index into what takes one is no fault.
abbrev pub StoresAreNoFaults : Type 0
StoresAreNoFaults =
    (turns_in : Request → State → Answer Flow) (line : ℕ) (v i x : Value) (s : State) →
    takes_items (kind_of s.memory.heap v) ≡ true → (reached (carry_out turns_in (store_item line v i x) s)).events ≡ s.events

-- ---- truth

abbrev pub is_outside : Object → Bool
is_outside (outside t) = true
is_outside _ = false

-- what says whether an object of the module is true, by its kind: whether it has parts, or a choice; of no kind, nothing
abbrev pub truth_by_kind : Basic → Object → Action Bool
truth_by_kind kind.List o = gives (has_parts (contents o))
truth_by_kind kind.Tuple o = gives (has_parts (contents o))
truth_by_kind kind.Dict o = gives (has_parts (pairs o))
truth_by_kind kind.View o = by_choice
truth_by_kind _ o = gives true

-- Of what is outside a choice says it, whatever its kind.
pub record TruthIsByKind : Type 0 where
  pub own : (o : Object) → is_outside o ≡ false → truth_of_object o ≡ truth_by_kind (kind_of_object o) o
  pub from_outside : (t : Term) → truth_of_object (outside t) ≡ by_choice
