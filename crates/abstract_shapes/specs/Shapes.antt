-- What an abstract value is, by structure: apart from the numbers under which a program keeps it.
use Rattle.std.specs.Prelude.{ℕ, List, Option}
use Rattle.builtin_stubs.specs.declared.basic.Basic.{Basic}
use Rattle.builtin_stubs.specs.declared.basic.Basic.TheVariants as kind
use Rattle.builtin_stubs.specs.Kinds.{kind_of_term}
use Rattle.flow_graph.specs.declared.edge.Truth.{Truth}
use Rattle.flow_graph.specs.declared.edge.Truth.TheVariants.{Yes, No, Both}
use Rattle.type_terms.specs.Terms.{Term}
use Rattle.abstract_shapes.specs.declared.shape.Row.{Row}

-- sites, functions and classes are their numbers in the order of the text
pub data Shape : Type 0 where
  none : Shape
  true_value : Shape
  false_value : Shape
  int : Shape
  float : Shape
  str : Shape
  bytes : Shape
  list : ℕ → Shape
  dict : ℕ → Shape
  -- the site of a display, and how many places it has; any other site has one element table
  tuple : ℕ → Option ℕ → Shape
  -- the tuple of two places that a view gives
  pair : ℕ → Shape
  view : ℕ → Shape
  fun : ℕ → Shape
  -- a class, and a method that is bound to an instance of it
  bound : ℕ → ℕ → Shape
  -- the receiver, and what is bound to it
  bound_native : Shape → Row → Shape
  class : ℕ → Shape
  inst : ℕ → Shape
  native : Row → Shape
  stub_module : List ℕ → Shape
  -- a value from outside of a declared type
  given : Term → Shape
  -- a value from outside of no declared type
  ext : Shape
  -- every value
  any : Shape
  deriving Discrete as shape-discrete

-- whether the values of a shape are true (language reference, "Truth value testing")
abbrev pub truth_of : Shape → Truth
truth_of none = No
truth_of false_value = No
truth_of true_value = Yes
truth_of (fun f) = Yes
truth_of (bound c f) = Yes
truth_of (bound_native s row) = Yes
truth_of (class c) = Yes
truth_of (inst c) = Yes
truth_of (native row) = Yes
truth_of (stub_module m) = Yes
truth_of _ = Both

-- The kind of a shape's values. Nothing is known of the values of `ext` and `any`.
abbrev pub kind_of : Shape → Basic
kind_of none = kind.NoneKind
kind_of true_value = kind.Bool
kind_of false_value = kind.Bool
kind_of int = kind.Int
kind_of float = kind.Float
kind_of str = kind.Str
kind_of bytes = kind.Bytes
kind_of (list site) = kind.List
kind_of (dict site) = kind.Dict
kind_of (tuple site places) = kind.Tuple
kind_of (pair site) = kind.Tuple
kind_of (view site) = kind.View
kind_of (given t) = kind_of_term t
kind_of _ = kind.Other
