-- Which references point into a heap.
use Rattle.std.specs.Prelude.{ℕ, ◌<◌, List, [], ◌∷◌, length, Option, Some, None}
use Rattle.type_terms.specs.Stubs.{Stub}
use Rattle.py_tree.specs.Tree.{Module}
use Rattle.py_meaning.specs.Values.{Value, none, truth, whole, float, text, octets, ref, Entries}
use Rattle.py_meaning.specs.Objects as object
use Rattle.py_meaning.specs.Objects.{Object}
use Rattle.py_meaning.specs.Actions.{OutsideCall}
use Rattle.py_meaning.specs.Runs.{run}

-- a reference to one of so many objects
abbrev pub IsWithin : (size : ℕ) → Value → Type 0
IsWithin size none = Unit {0}
IsWithin size (truth b) = Unit {0}
IsWithin size (whole n) = Unit {0}
IsWithin size float = Unit {0}
IsWithin size (text empty) = Unit {0}
IsWithin size (octets empty) = Unit {0}
IsWithin size (ref place) = place < size

abbrev pub AreWithin : (size : ℕ) → List Value → Type 0
AreWithin size [] = Unit {0}
AreWithin size (v ∷ vs) = IsWithin size v × AreWithin size vs

abbrev pub EntriesWithin : (size : ℕ) → Entries → Type 0
EntriesWithin size [] = Unit {0}
EntriesWithin size (e ∷ es) = IsWithin size e.1 × EntriesWithin size es

abbrev pub PairsWithin : (size : ℕ) → List (Value × Value) → Type 0
PairsWithin size [] = Unit {0}
PairsWithin size (q ∷ qs) = IsWithin size q.0 × IsWithin size q.1 × PairsWithin size qs

abbrev pub OptionWithin : (size : ℕ) → Option Value → Type 0
OptionWithin size None = Unit {0}
OptionWithin size (Some v) = IsWithin size v

abbrev pub ObjectWithin : (size : ℕ) → Object → Type 0
ObjectWithin size (object.list site vs) = AreWithin size vs
ObjectWithin size (object.tuple site layout vs) = AreWithin size vs
ObjectWithin size (object.dict site qs) = PairsWithin size qs
ObjectWithin size (object.view site native receiver vs) = OptionWithin size receiver × AreWithin size vs
ObjectWithin size (object.instance c es) = EntriesWithin size es
ObjectWithin size (object.class c es) = EntriesWithin size es
ObjectWithin size (object.function f) = Unit {0}
ObjectWithin size (object.bound receiver f) = IsWithin size receiver
ObjectWithin size (object.foreign f) = Unit {0}
ObjectWithin size (object.bound_foreign receiver f) = IsWithin size receiver
ObjectWithin size (object.imported home) = Unit {0}
ObjectWithin size (object.outside t) = Unit {0}

abbrev pub ObjectsWithin : (size : ℕ) → List Object → Type 0
ObjectsWithin size [] = Unit {0}
ObjectsWithin size (o ∷ os) = ObjectWithin size o × ObjectsWithin size os

-- each reference in the last heap of a run points into it
abbrev pub ReferencesPointIn : Type 0
ReferencesPointIn =
    (m : Module) (stubs : List (List ℕ × Stub)) (n : ℕ) (choices : List ℕ) (calls : List OutsideCall) →
    let heap = (run m stubs n choices calls).heap in ObjectsWithin (length heap) heap
