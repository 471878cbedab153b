-- All natives in the order of their numbers, and the number under a name.
use Rattle.std.specs.Prelude.{ℕ, suc, false, ◌+◌, List, [], ◌∷◌, ◌++◌, Option, Some, None, option_map, map, length, slice_get, if◌then◌else◌}
use Rattle.std.specs.Str.{bytes_eq}
use Rattle.builtin_stubs.specs.declared.basic.Basic.{Basic}
use Rattle.builtin_stubs.specs.declared.basic.Basic.TheVariants as kinds
use Rattle.builtin_stubs.specs.declared.bytes_methods.TheConstants.{BYTES_METHODS, INT_METHODS, FLOAT_METHODS, EXCEPTION_METHODS}
use Rattle.builtin_stubs.specs.declared.container_methods.TheConstants.{LIST_METHODS, DICT_METHODS, TUPLE_METHODS}
use Rattle.builtin_stubs.specs.declared.deed.Deed.{Deed}
use Rattle.builtin_stubs.specs.declared.deed.Deed.TheVariants as deeds
use Rattle.builtin_stubs.specs.declared.functions.TheConstants.{FUNCTIONS, OTHERS}
use Rattle.builtin_stubs.specs.declared.native.NativeRow.{NativeRow}
use Rattle.builtin_stubs.specs.declared.native.NativeSort.{NativeSort}
use Rattle.builtin_stubs.specs.declared.native.NativeSort.TheVariants as sorts
use Rattle.builtin_stubs.specs.declared.native.Takes.{Takes}
use Rattle.builtin_stubs.specs.declared.parts.Effects.TheVariants as effects
use Rattle.builtin_stubs.specs.declared.parts.Outcome.TheVariants as outcomes
use Rattle.builtin_stubs.specs.declared.str_methods.TheConstants.{STR_METHODS}
use Rattle.builtin_stubs.specs.Meanings.{Native}
use Rattle.type_terms.specs.Exceptions.{exception_names}

-- ---- the tables

abbrev pub native : List ℕ → NativeSort → Takes → (words : List (List ℕ)) → Deed → Native
native name sort takes words deed =
    record { name = name; sort = sort; arguments = record { least = takes.least; most = takes.most; words = words; any_words = takes.any_words }; deed = deed }

-- an exception class takes any arguments by position, and gives an instance of itself
abbrev pub exception_native : List ℕ → Native
exception_native name =
    native name sorts.Class (record { least = 0; most = None; any_words = false }) [] (deeds.ByParts effects.Nothing outcomes.InstanceOfIt)

-- what stands before the exceptions
abbrev pub first_natives : List Native
first_natives = map (λ e. native e.0.now e.1 e.2 (map (λ word. word.now) e.3.now) e.4) FUNCTIONS.now

-- what stands behind them
abbrev pub other_natives : List Native
other_natives = map (λ e. native e.0.now e.1 e.2 (map (λ word. word.now) e.3.now) e.4) OTHERS.now

-- the functions and classes, with the exceptions in the order in which their hierarchy mentions them
abbrev pub function_natives : List Native
function_natives = first_natives ++ map exception_native exception_names ++ other_natives

abbrev pub list_natives : List Native
list_natives = map (λ e. native e.0.now e.1 e.2 (map (λ word. word.now) e.3.now) e.4) LIST_METHODS.now

abbrev pub dict_natives : List Native
dict_natives = map (λ e. native e.0.now e.1 e.2 (map (λ word. word.now) e.3.now) e.4) DICT_METHODS.now

abbrev pub tuple_natives : List Native
tuple_natives = map (λ e. native e.0.now e.1 e.2 (map (λ word. word.now) e.3.now) e.4) TUPLE_METHODS.now

abbrev pub str_natives : List Native
str_natives = map (λ e. native e.0.now e.1 e.2 (map (λ word. word.now) e.3.now) e.4) STR_METHODS.now

abbrev pub bytes_natives : List Native
bytes_natives = map (λ e. native e.0.now e.1 e.2 (map (λ word. word.now) e.3.now) e.4) BYTES_METHODS.now

abbrev pub int_natives : List Native
int_natives = map (λ e. native e.0.now e.1 e.2 (map (λ word. word.now) e.3.now) e.4) INT_METHODS.now

abbrev pub float_natives : List Native
float_natives = map (λ e. native e.0.now e.1 e.2 (map (λ word. word.now) e.3.now) e.4) FLOAT_METHODS.now

abbrev pub exception_natives : List Native
exception_natives = map (λ e. native e.0.now e.1 e.2 (map (λ word. word.now) e.3.now) e.4) EXCEPTION_METHODS.now

-- the functions and classes first, then the methods kind by kind; ints and truth values share one
abbrev pub natives : List Native
natives =
    function_natives ++ list_natives ++ dict_natives ++ tuple_natives ++ str_natives ++ bytes_natives ++ int_natives ++ float_natives ++ exception_natives

abbrev pub methods_of : Basic → List Native
methods_of kinds.List = list_natives
methods_of kinds.Dict = dict_natives
methods_of kinds.Tuple = tuple_natives
methods_of kinds.Str = str_natives
methods_of kinds.Bytes = bytes_natives
methods_of kinds.Int = int_natives
methods_of kinds.Bool = int_natives
methods_of kinds.Float = float_natives
methods_of kinds.Exception = exception_natives
methods_of _ = []

-- how many natives stand before the methods of a kind
abbrev pub before_methods : Basic → ℕ
before_methods kinds.List = length function_natives
before_methods kinds.Dict = length (function_natives ++ list_natives)
before_methods kinds.Tuple = length (function_natives ++ list_natives ++ dict_natives)
before_methods kinds.Str = length (function_natives ++ list_natives ++ dict_natives ++ tuple_natives)
before_methods kinds.Bytes = length (function_natives ++ list_natives ++ dict_natives ++ tuple_natives ++ str_natives)
before_methods kinds.Int = length (function_natives ++ list_natives ++ dict_natives ++ tuple_natives ++ str_natives ++ bytes_natives)
before_methods kinds.Bool = length (function_natives ++ list_natives ++ dict_natives ++ tuple_natives ++ str_natives ++ bytes_natives)
before_methods kinds.Float = length (function_natives ++ list_natives ++ dict_natives ++ tuple_natives ++ str_natives ++ bytes_natives ++ int_natives)
before_methods kinds.Exception = length (function_natives ++ list_natives ++ dict_natives ++ tuple_natives ++ str_natives ++ bytes_natives ++ int_natives ++ float_natives)
before_methods _ = 0

-- ---- look-ups

-- all that a row says
abbrev pub Head : Type 0
Head = Native

abbrev pub row_head : NativeRow → Head
row_head r =
    record { name = r.name.now; sort = r.sort; arguments = record { least = r.least; most = r.most; words = map (λ word. word.now) r.words.now; any_words = r.any_words }; deed = r.deed }

-- the place of the first of some rows with a name
abbrev pub place_named : List Native → List ℕ → Option ℕ
place_named [] name = None
place_named (first ∷ rows) name = if bytes_eq name first.name then Some 0 else option_map suc (place_named rows name)

-- its number, where so many natives stand before the rows
abbrev pub number_in : ℕ → List Native → List ℕ → Option ℕ
number_in before rows name = option_map (λ place. before + place) (place_named rows name)

-- the number of a function or a class
abbrev pub function_number : List ℕ → Option ℕ
function_number name = number_in 0 function_natives name

-- the number of a method, or of another attribute, of a kind
abbrev pub method_number : Basic → List ℕ → Option ℕ
method_number k name = number_in (before_methods k) (methods_of k) name

abbrev pub native_head : ℕ → Option Head
native_head number = slice_get natives number
