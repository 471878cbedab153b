-- What is told of a module's classes where each is kept with the place of its base.
use Rattle.std.specs.Prelude.{◌≡◌, ℕ, suc, ◌<◌, nat_eq, List, [], ◌∷◌, ◌++◌, map, Option, Some, None, option_map, slice_get, if◌then◌else◌}
use Rattle.std.specs.Option.{option_and_then}
use Rattle.py_scope.specs.declared.kept_class.KeptClass.{KeptClass}
use Rattle.scope_rules.specs.Tables.{ClassScope, chain_in}
use Rattle.type_terms.specs.Exceptions.{exception_names}

-- the class at a place, if there is a place
abbrev pub base_in : List ClassScope → Option ℕ → Option ClassScope
base_in classes place = option_and_then (slice_get classes) place

-- a class after those that its base is among
abbrev pub scope_of : List ClassScope → KeptClass → ClassScope
scope_of earlier class =
    record {
      name = class.name;
      chain = class.id ∷ chain_in (base_in earlier class.base);
      native = option_and_then (slice_get exception_names) class.native;
      bound = class.bound;
      methods = class.methods;
    }

-- classes in their order, after those that are told already
abbrev pub told_from : List ClassScope → List KeptClass → List ClassScope
told_from earlier [] = earlier
told_from earlier (class ∷ rest) = told_from (earlier ++ scope_of earlier class ∷ []) rest

-- Each base stands before its class.
abbrev pub HaveBasesBefore : List KeptClass → Type 0
HaveBasesBefore classes = (k place : ℕ) (class : KeptClass) → slice_get classes k ≡ Some class → class.base ≡ Some place → place < k

abbrev pub name_of : KeptClass → ℕ
name_of class = class.name

-- the first place of a name
abbrev pub place_in : List ℕ → ℕ → Option ℕ
place_in [] name = None
place_in (other ∷ others) name = if nat_eq name other then Some 0 else option_map (λ place. suc place) (place_in others name)

-- Each name has the place of the first class of it.
abbrev pub AreFirstPlaces : (ℕ → Option ℕ) → List KeptClass → Type 0
AreFirstPlaces places classes = (name : ℕ) → places name ≡ place_in (map name_of classes) name
