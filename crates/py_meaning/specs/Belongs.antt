-- Which values belong to which types (PEP 484; library reference, "typing"), by recursion on the type alone. The heap is the last
-- heap of a run.
use Rattle.std.specs.Prelude.{ℕ, Bool, true, false, ◌&&◌, ◌⊎◌, List, [], ◌∷◌, ◌++◌, map, Option, Some, None, slice_get, if◌then◌else◌, codes, IsTrue}
use Rattle.std.specs.List.{list_any}
use Rattle.std.specs.Str.{bytes_eq}
use Rattle.builtin_stubs.specs.declared.native.NativeSort.TheVariants as sort
use Rattle.builtin_stubs.specs.Meanings.{Native}
use Rattle.builtin_stubs.specs.Natives.{natives}
use Rattle.type_terms.specs.BuiltinNames.{has_name}
use Rattle.type_terms.specs.Normal.{is_any, parts}
use Rattle.type_terms.specs.Terms.{Term, any, none, bool, int, float, str, bytes, list, dict, tuple, tuple_of, class, class_of, callable, union, Terms, no_terms, term}
use Rattle.py_meaning.specs.Values as value
use Rattle.py_meaning.specs.Values.{Value, ref}
use Rattle.py_meaning.specs.Objects as object
use Rattle.py_meaning.specs.Objects.{Object, Foreign, builtin, stub_fun, stub_class, stub_method, object_at}
use Rattle.py_meaning.specs.Programs.{Program, class_text, chain, exception_base}
use Rattle.py_meaning.specs.StubItems.{dotted}
use Rattle.py_meaning.specs.ClassTests.{exceptions_of, chain_named}

-- ---- the classes of an instance and of a class, by their names

-- of a class of the module: its own and its bases, and the builtin exception classes above them
abbrev pub names_of_class : Program → (class : ℕ) → List (List ℕ)
names_of_class p c = map (class_text p) (chain p c) ++ exceptions_of (exception_base p c)

-- of a builtin class or one of a stub; a truth value is a whole number
abbrev pub names_above : Program → List ℕ → List (List ℕ)
names_above p name = name ∷ (if bytes_eq name (codes "bool") then codes "int" ∷ [] else chain_named p name)

-- ---- types from outside: whether all values of a declared type belong to a type

abbrev pub is_none : Term → Bool
is_none none = true
is_none m = is_any m

abbrev pub is_bool : Term → Bool
is_bool bool = true
is_bool int = true
is_bool m = is_any m

abbrev pub is_int : Term → Bool
is_int int = true
is_int m = is_any m

abbrev pub is_float : Term → Bool
is_float float = true
is_float m = is_any m

abbrev pub is_str : Term → Bool
is_str str = true
is_str m = is_any m

abbrev pub is_bytes : Term → Bool
is_bytes bytes = true
is_bytes m = is_any m

abbrev pub is_list : (Term → Bool) → Term → Bool
is_list f (list t) = f t
is_list f m = is_any m

abbrev pub is_dict : (Term → Bool) → (Term → Bool) → Term → Bool
is_dict f g (dict t u) = f t && g u
is_dict f g m = is_any m

abbrev pub is_tuple : (Terms → Bool) → (Term → Bool) → Term → Bool
is_tuple f g (tuple ts) = f ts
is_tuple f g (tuple_of t) = g t
is_tuple f g m = is_any m

abbrev pub is_tuple_of : (Term → Bool) → Term → Bool
is_tuple_of f (tuple_of t) = f t
is_tuple_of f m = is_any m

abbrev pub is_instance : List (List ℕ) → Term → Bool
is_instance names (class name) = has_name names name
is_instance names m = is_any m

abbrev pub is_class : List (List ℕ) → Term → Bool
is_class names (class_of name) = has_name names name
is_class names m = is_any m

abbrev pub is_callable : (Term → Bool) → Term → Bool
is_callable f (callable t) = f t
is_callable f m = is_any m

-- by recursion on the declared type: some member of the type has all its values
abbrev mutual
  pub within : Program → (declared : Term) → Term → Bool
  within p any t = list_any is_any (parts t)
  within p none t = list_any is_none (parts t)
  within p bool t = list_any is_bool (parts t)
  within p int t = list_any is_int (parts t)
  within p float t = list_any is_float (parts t)
  within p str t = list_any is_str (parts t)
  within p bytes t = list_any is_bytes (parts t)
  within p (list d) t = list_any (is_list (λ u. within p d u)) (parts t)
  within p (dict d e) t = list_any (is_dict (λ u. within p d u) (λ u. within p e u)) (parts t)
  within p (tuple ds) t = list_any (is_tuple (λ us. places_within p ds us) (λ u. all_within p ds u)) (parts t)
  within p (tuple_of d) t = list_any (is_tuple_of (λ u. within p d u)) (parts t)
  within p (class name) t = list_any (is_instance (names_above p name)) (parts t)
  within p (class_of name) t = list_any (is_class (names_above p name)) (parts t)
  within p (callable d) t = list_any (is_callable (λ u. within p d u)) (parts t)
  within p (union ds) t = all_within p ds t

  -- all members in one type
  pub all_within : Program → (declared : Terms) → Term → Bool
  all_within p no_terms t = true
  all_within p (term d ds) t = within p d t && all_within p ds t

  -- place by place
  pub places_within : Program → (declared : Terms) → Terms → Bool
  places_within p no_terms no_terms = true
  places_within p (term d ds) (term t ts) = within p d t && places_within p ds ts
  places_within p _ _ = false

-- ---- values of the simple types

abbrev pub IsNone : Value → Type 0
IsNone value.none = Unit {0}
IsNone _ = ⊥

abbrev pub IsTruth : Value → Type 0
IsTruth (value.truth b) = Unit {0}
IsTruth _ = ⊥

-- truth values are whole numbers
abbrev pub IsWhole : Value → Type 0
IsWhole (value.truth b) = Unit {0}
IsWhole (value.whole n) = Unit {0}
IsWhole _ = ⊥

abbrev pub IsFloat : Value → Type 0
IsFloat value.float = Unit {0}
IsFloat _ = ⊥

abbrev pub IsText : Value → Type 0
IsText (value.text empty) = Unit {0}
IsText _ = ⊥

abbrev pub IsOctets : Value → Type 0
IsOctets (value.octets empty) = Unit {0}
IsOctets _ = ⊥

-- ---- objects: what the module made by its parts, and what is from outside by its declared type

-- a fact of the object that a value refers to
abbrev pub At : List Object → Value → (Object → Type 0) → Type 0
At heap (ref place) P = P (object_at heap place)
At heap _ P = ⊥

abbrev pub Each : {A : Type 0} → (A → Type 0) → List A → Type 0
Each P [] = Unit {0}
Each P (x ∷ xs) = P x × Each P xs

abbrev pub IsListOf : Program → Term → (Value → Type 0) → Object → Type 0
IsListOf p t P (object.list site vs) = Each P vs
IsListOf p t P (object.outside d) = IsTrue (within p d t)
IsListOf p t P _ = ⊥

abbrev pub IsDictOf : Program → Term → (Value × Value → Type 0) → Object → Type 0
IsDictOf p t P (object.dict site qs) = Each P qs
IsDictOf p t P (object.outside d) = IsTrue (within p d t)
IsDictOf p t P _ = ⊥

abbrev pub IsTupleOf : Program → Term → (List Value → Type 0) → Object → Type 0
IsTupleOf p t P (object.tuple site layout vs) = P vs
IsTupleOf p t P (object.outside d) = IsTrue (within p d t)
IsTupleOf p t P _ = ⊥

-- an instance of the class or of a subclass
abbrev pub IsInstanceOf : Program → (name : List ℕ) → Object → Type 0
IsInstanceOf p name (object.instance c es) = IsTrue (has_name (names_of_class p c) name)
IsInstanceOf p name (object.outside d) = IsTrue (within p d (class name))
IsInstanceOf p name _ = ⊥

abbrev pub native_names : Program → Option Native → List (List ℕ)
native_names p None = []
native_names p (Some n) = elim n.sort [ sort.Class ↦ names_above p n.name | _ ↦ [] ]

abbrev pub foreign_names : Program → Foreign → List (List ℕ)
foreign_names p (builtin n) = native_names p (slice_get natives n)
foreign_names p (stub_class home name) = chain_named p (dotted home name)
foreign_names p _ = []

-- the class or a subclass
abbrev pub IsClassOf : Program → (name : List ℕ) → Object → Type 0
IsClassOf p name (object.class c es) = IsTrue (has_name (names_of_class p c) name)
IsClassOf p name (object.foreign f) = IsTrue (has_name (foreign_names p f) name)
IsClassOf p name (object.outside d) = IsTrue (within p d (class_of name))
IsClassOf p name _ = ⊥

abbrev pub is_function : Option Native → Bool
is_function None = false
is_function (Some n) = elim n.sort [ sort.Class ↦ false | _ ↦ true ]

abbrev pub is_foreign_function : Foreign → Bool
is_foreign_function (builtin n) = is_function (slice_get natives n)
is_foreign_function (stub_class home name) = false
is_foreign_function _ = true

-- A callable of any result is every function and every bound method, but no class.
abbrev pub IsCallableOf : Program → (answer : Term) → Object → Type 0
IsCallableOf p t (object.function f) = IsTrue (is_any t)
IsCallableOf p t (object.bound v f) = IsTrue (is_any t)
IsCallableOf p t (object.foreign f) = IsTrue (is_any t && is_foreign_function f)
IsCallableOf p t (object.bound_foreign v f) = IsTrue (is_any t)
IsCallableOf p t (object.outside d) = IsTrue (within p d (callable t))
IsCallableOf p t _ = ⊥

-- ---- any value

abbrev mutual
  pub Belongs : Program → List Object → Term → Value → Type 0
  Belongs p heap any v = Unit {0}
  Belongs p heap none v = IsNone v
  Belongs p heap bool v = IsTruth v
  Belongs p heap int v = IsWhole v
  Belongs p heap float v = IsFloat v
  Belongs p heap str v = IsText v
  Belongs p heap bytes v = IsOctets v
  Belongs p heap (list t) v = At heap v (IsListOf p (list t) (λ w. Belongs p heap t w))
  Belongs p heap (dict t u) v = At heap v (IsDictOf p (dict t u) (λ q. Belongs p heap t q.0 × Belongs p heap u q.1))
  Belongs p heap (tuple ts) v = At heap v (IsTupleOf p (tuple ts) (λ ws. BelongInOrder p heap ts ws))
  Belongs p heap (tuple_of t) v = At heap v (IsTupleOf p (tuple_of t) (λ ws. Each (λ w. Belongs p heap t w) ws))
  Belongs p heap (class name) v = At heap v (IsInstanceOf p name)
  Belongs p heap (class_of name) v = At heap v (IsClassOf p name)
  Belongs p heap (callable t) v = At heap v (IsCallableOf p t)
  Belongs p heap (union ts) v = BelongsToOne p heap ts v

  -- to one of the members
  pub BelongsToOne : Program → List Object → Terms → Value → Type 0
  BelongsToOne p heap no_terms v = ⊥
  BelongsToOne p heap (term t ts) v = Belongs p heap t v ⊎ BelongsToOne p heap ts v

  -- each to the type of its place
  pub BelongInOrder : Program → List Object → Terms → List Value → Type 0
  BelongInOrder p heap no_terms [] = Unit {0}
  BelongInOrder p heap (term t ts) (v ∷ vs) = Belongs p heap t v × BelongInOrder p heap ts vs
  BelongInOrder p heap _ _ = ⊥
