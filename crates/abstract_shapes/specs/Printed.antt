-- The types that are printed for sets of shapes (PEP 484), where the joined tables say what containers hold.
use Rattle.std.specs.Prelude.{◌≡◌, ℕ, zero, suc, ◌+◌, List, [], ◌∷◌, ◌++◌, Option, Some, None}
use Rattle.std.specs.List.{Contains}
use Rattle.builtin_stubs.specs.declared.native.NativeSort.{NativeSort}
use Rattle.builtin_stubs.specs.declared.native.NativeSort.TheVariants as sort
use Rattle.builtin_stubs.specs.Natives.{Head, native_head}
use Rattle.type_terms.specs.Normal.{IsAmong, IsNormalOf}
use Rattle.type_terms.specs.Terms as type
use Rattle.type_terms.specs.Terms.{Term, terms_of}
use Rattle.abstract_shapes.specs.declared.place.Place.{Place}
use Rattle.abstract_shapes.specs.declared.place.Place.TheVariants.{Element, Key, Value, Part}
use Rattle.abstract_shapes.specs.declared.shape.Row.{Row}
use Rattle.abstract_shapes.specs.declared.shape.Row.TheVariants.{Builtin, StubFun, StubClass, StubMethod}
use Rattle.abstract_shapes.specs.Shapes.{Shape, none, true_value, false_value, int, float, str, bytes, list, dict, tuple, pair, view, fun, bound, bound_native, class, inst, native, stub_module, given, ext, any}

-- the names of the module's classes, and the shapes of each place
pub record Scene : Type 0 where
  pub class_name : ℕ → List ℕ
  pub joined : Place → List Shape

-- functions are callables of any arguments
abbrev pub a_callable : Term
a_callable = type.callable type.any

-- the type of a class or function of Python itself
abbrev pub by_sort : NativeSort → List ℕ → Term
by_sort sort.Class name = type.class_of name
by_sort _ name = a_callable

abbrev pub native_type : Option Head → Term
native_type None = a_callable
native_type (Some head) = by_sort head.sort head.name

-- a stub's class has the name of the stub's module before it
abbrev pub row_type : Row → Term
row_type (Builtin id) = native_type (native_head id)
row_type (StubFun m f) = a_callable
row_type (StubClass m c) = type.class_of (m ++ 46 ∷ c)
row_type (StubMethod m c f) = a_callable

-- the type of a shape that has no parts to print
abbrev pub plain_type : (ℕ → List ℕ) → Shape → Option Term
plain_type names none = Some type.none
plain_type names true_value = Some type.bool
plain_type names false_value = Some type.bool
plain_type names int = Some type.int
plain_type names float = Some type.float
plain_type names str = Some type.str
plain_type names bytes = Some type.bytes
plain_type names (list site) = None
plain_type names (dict site) = None
plain_type names (tuple site places) = None
plain_type names (pair site) = None
plain_type names (view site) = Some type.any
plain_type names (fun f) = Some a_callable
plain_type names (bound c f) = Some a_callable
plain_type names (bound_native s row) = Some a_callable
plain_type names (class c) = Some (type.class_of (names c))
plain_type names (inst c) = Some (type.class (names c))
plain_type names (native row) = Some (row_type row)
plain_type names (stub_module m) = Some type.any
plain_type names (given t) = Some t
plain_type names ext = Some type.any
plain_type names any = Some type.any

-- the types of so many places of a tuple, from one on, where these are the types of sets
pub data ArePlaces (scene : Scene) (IsTypeOf : List Shape → Term → Type 0) (site : ℕ) : ℕ → ℕ → List Term → Type 0 where
  no_place : {from : ℕ} → ArePlaces scene IsTypeOf site from 0 []
  a_place : {from n : ℕ} {t : Term} {ts : List Term} → IsTypeOf (scene.joined (Part site from)) t → ArePlaces scene IsTypeOf site (from + 1) n ts → ArePlaces scene IsTypeOf site from (suc n) (t ∷ ts)

-- the type of one shape, where containers print what they hold by the types of these sets
pub data IsShapeType (scene : Scene) (IsTypeOf : List Shape → Term → Type 0) : Shape → Term → Type 0 where
  of_plain : {s : Shape} {t : Term} → plain_type scene.class_name s ≡ Some t → IsShapeType scene IsTypeOf s t
  of_list : {site : ℕ} {t : Term} → IsTypeOf (scene.joined (Element site)) t → IsShapeType scene IsTypeOf (list site) (type.list t)
  of_dict : {site : ℕ} {t u : Term} → IsTypeOf (scene.joined (Key site)) t → IsTypeOf (scene.joined (Value site)) u → IsShapeType scene IsTypeOf (dict site) (type.dict t u)
  of_display : {site n : ℕ} {ts : List Term} → ArePlaces scene IsTypeOf site 0 n ts → IsShapeType scene IsTypeOf (tuple site (Some n)) (type.tuple (terms_of ts))
  of_tuple : {site : ℕ} {t : Term} → IsTypeOf (scene.joined (Element site)) t → IsShapeType scene IsTypeOf (tuple site None) (type.tuple_of t)
  of_pair : {site : ℕ} {ts : List Term} → ArePlaces scene IsTypeOf site 0 2 ts → IsShapeType scene IsTypeOf (pair site) (type.tuple (terms_of ts))

-- The type of a set of shapes: the normal form of the union of their types. Nothing depends on an order or a number.
-- A set with no shapes has the union of no types, which is `Any`.
pub record IsUnionType (IsTypeOf : Shape → Term → Type 0) (shapes : List Shape) (t : Term) : Type 0 where
  pub terms : List Term
  pub each : (u : Term) → IsAmong u terms → (s : Shape) × Contains shapes s × IsTypeOf s u
  pub all : (s : Shape) → Contains shapes s → (u : Term) × IsAmong u terms × IsTypeOf s u
  pub normal : IsNormalOf (type.union (terms_of terms)) t

-- The printed type of a set of shapes at a depth. At depth 0 it is `Any`; what a container holds is printed at one depth less.
abbrev pub IsPrinted : Scene → ℕ → List Shape → Term → Type 0
IsPrinted scene zero shapes t = t ≡ type.any
IsPrinted scene (suc depth) shapes t = IsUnionType (IsShapeType scene (IsPrinted scene depth)) shapes t
