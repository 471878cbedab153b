-- What holds of the tables.
use Rattle.std.specs.Prelude.{◌≡◌, ℕ, Bool, true, false, ◌||◌, IsTrue, nat_lt, List, [], ◌∷◌, ◌++◌, Some, ◌⊎◌, codes, map, option_map, is_some}
use Rattle.std.specs.List.{list_all, list_any}
use Rattle.type_terms.specs.BuiltinNames.{builtin_functions, builtin_classes, builtin_texts}
use Rattle.type_terms.specs.Exceptions.{exception_names}
use Rattle.place_ids.specs.declared.operators.BinOp.{BinOp}
use Rattle.place_ids.specs.declared.operators.CompareOp.{CompareOp}
use Rattle.place_ids.specs.declared.operators.UnaryOp.{UnaryOp}
use Rattle.builtin_stubs.specs.declared.basic.Basic.{Basic}
use Rattle.builtin_stubs.specs.declared.basic.Basic.TheVariants as kind
use Rattle.builtin_stubs.specs.declared.operand.Operand.{Operand}
use Rattle.builtin_stubs.specs.declared.parts.Effect.{Effect}
use Rattle.builtin_stubs.specs.declared.parts.Part.{Part}
use Rattle.builtin_stubs.specs.declared.parts.Part.TheVariants as part
use Rattle.builtin_stubs.specs.declared.parts.Place.TheVariants as place
use Rattle.builtin_stubs.specs.Meanings.{effects_of}
use Rattle.builtin_stubs.specs.Natives.{natives, methods_of, function_natives, function_number, method_number, native_head}
use Rattle.builtin_stubs.specs.Operands.{fits}
use Rattle.builtin_stubs.specs.Operators.{op_rows, op_kinds, unary_kinds, compare_kinds, order_kinds}
use Rattle.builtin_stubs.specs.Kinds.{takes_index}

-- the functions and classes are the names that no class of a stub has, and `base_init`
abbrev pub NamesAreTaken : Type 0
NamesAreTaken = map (λ n. n.name) function_natives ≡ builtin_functions ++ builtin_classes ++ exception_names ++ codes "base_init" ∷ builtin_texts

-- a number that a name leads to is that of a row with this name
abbrev pub NumbersLeadBack : Type 0
NumbersLeadBack =
    ((name : List ℕ) (n : ℕ) → function_number name ≡ Some n → option_map (λ h. h.name) (native_head n) ≡ Some name)
    × ((k : Basic) (name : List ℕ) (n : ℕ) → method_number k name ≡ Some n → option_map (λ h. h.name) (native_head n) ≡ Some name)

-- ---- operators

-- no row of operators gives nothing
abbrev pub NoRowIsEmpty : Type 0
NoRowIsEmpty =
    ((op : BinOp) (left right : Basic) → op_kinds op left right ≡ Some [] → ⊥)
    × ((op : UnaryOp) (k : Basic) → unary_kinds op k ≡ Some [] → ⊥)
    × ((op : CompareOp) (left right : Basic) → compare_kinds op left right ≡ Some [] → ⊥)

-- a row of an operator that two kinds fit, with what it gives
pub record FitsRow (op : BinOp) (left right : Basic) (kinds : List Basic) : Type 0 where
  pub left_cell : Operand
  pub right_cell : Operand
  pub before : List (Operand × Operand × List Basic)
  pub after : List (Operand × Operand × List Basic)
  pub stands : op_rows op ≡ before ++ (left_cell, right_cell, kinds) ∷ after
  pub fits_left : IsTrue (fits left_cell left)
  pub fits_right : IsTrue (fits right_cell right)

-- what an operator gives is what some row gives whose cells the two kinds fit
abbrev pub KindsAreOfARow : Type 0
KindsAreOfARow = (op : BinOp) (left right : Basic) (kinds : List Basic) → op_kinds op left right ≡ Some kinds → FitsRow op left right kinds

abbrev pub is_container : Basic → Bool
is_container kind.List = true
is_container kind.Tuple = true
is_container _ = false

-- an operator makes a list or a tuple only of one
abbrev pub ContainersComeOfContainers : Type 0
ContainersComeOfContainers =
    (op : BinOp) (left right : Basic) (kinds : List Basic) → op_kinds op left right ≡ Some kinds → IsTrue (list_any is_container kinds) →
    IsTrue (is_container left || is_container right)

abbrev pub is_number : Basic → Bool
is_number kind.Bool = true
is_number kind.Int = true
is_number kind.Float = true
is_number _ = false

-- numbers are in order with numbers, and any other value with those of its kind
abbrev pub OrderIsOfOneKind : Type 0
OrderIsOfOneKind =
    (left right : Basic) → IsTrue (is_some (order_kinds left right)) → (IsTrue (is_number left) × IsTrue (is_number right)) ⊎ (left ≡ right)

abbrev pub is_whole : Basic → Bool
is_whole kind.Bool = true
is_whole kind.Int = true
is_whole _ = false

-- but for a dict an index is a whole number
abbrev pub IndicesAreWhole : Type 0
IndicesAreWhole = (container index : Basic) → IsTrue (takes_index container index) → (container ≡ kind.Dict) ⊎ IsTrue (is_whole index)

-- ---- natives

abbrev pub is_of_list : Effect → Bool
is_of_list e = elim e.place [ place.Elements ↦ true | _ ↦ false ]

abbrev pub is_of_dict : Effect → Bool
is_of_dict e = elim e.place [ place.Elements ↦ false | _ ↦ true ]

-- whether the effects of a kind's methods are such as the kind has places for
abbrev pub effects_have_places : Basic → Effect → Bool
effects_have_places kind.List e = is_of_list e
effects_have_places kind.Dict e = is_of_dict e
effects_have_places _ e = false

-- what enters a list enters its elements, what enters a dict its keys and values, and nothing enters any other receiver
abbrev pub EffectsHavePlaces : Type 0
EffectsHavePlaces =
    IsTrue (list_all (λ n. list_all (λ e. false) (effects_of n.deed)) function_natives)
    × ((k : Basic) → IsTrue (list_all (λ n. list_all (effects_have_places k) (effects_of n.deed)) (methods_of k)))

-- whether a part is of an argument that each call gives
abbrev pub is_given : (least : ℕ) → Part → Bool
is_given least (part.Argument i) = nat_lt i least
is_given least (part.Items i) = nat_lt i least
is_given least (part.Keys i) = nat_lt i least
is_given least (part.Values i) = nat_lt i least
is_given least _ = false

-- what enters a receiver is of an argument that each call gives
abbrev pub EffectsAreGiven : Type 0
EffectsAreGiven = IsTrue (list_all (λ n. list_all (λ e. is_given n.arguments.least e.part) (effects_of n.deed)) natives)
