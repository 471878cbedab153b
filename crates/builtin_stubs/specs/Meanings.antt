-- What a row of the tables of natives says: the arguments, what enters the receiver, and what comes back.
use Rattle.std.specs.Prelude.{ℕ, Bool, false, List, [], ◌∷◌, Option, Some, None}
use Rattle.builtin_stubs.specs.declared.basic.Basic.TheVariants.{NoneKind}
use Rattle.builtin_stubs.specs.declared.deed.Deed.{Deed}
use Rattle.builtin_stubs.specs.declared.deed.Deed.TheVariants as deed
use Rattle.builtin_stubs.specs.declared.native.NativeSort.{NativeSort}
use Rattle.builtin_stubs.specs.declared.parts.Effect.{Effect}
use Rattle.builtin_stubs.specs.declared.parts.Effects as several
use Rattle.builtin_stubs.specs.declared.parts.Effects.TheVariants as effects
use Rattle.builtin_stubs.specs.declared.parts.Outcome.{Outcome}
use Rattle.builtin_stubs.specs.declared.parts.Outcome.TheVariants as outcome
use Rattle.builtin_stubs.specs.declared.parts.Part.{Part}
use Rattle.builtin_stubs.specs.declared.parts.Part.TheVariants as part
use Rattle.builtin_stubs.specs.declared.parts.Parts.{Parts}
use Rattle.builtin_stubs.specs.declared.parts.Parts.TheVariants as parts
use Rattle.builtin_stubs.specs.declared.parts.Place.{Place}
use Rattle.builtin_stubs.specs.declared.parts.Place.TheVariants as place

-- ---- arguments

pub record Arguments : Type 0 where
  pub least : ℕ
  -- none where there is no bound
  pub most : Option ℕ
  -- those given by name alone
  pub words : List (List ℕ)
  pub any_words : Bool

abbrev pub between : ℕ → ℕ → Arguments
between least most = record { least = least; most = Some most; words = []; any_words = false }

abbrev pub exactly : ℕ → Arguments
exactly n = between n n

abbrev pub at_least : ℕ → Arguments
at_least n = record { least = n; most = None; words = []; any_words = false }

-- ---- what enters and what comes back

abbrev pub parts_of : Parts → List Part
parts_of (parts.One p) = p ∷ []
parts_of (parts.Two p q) = p ∷ q ∷ []

abbrev pub effects_in : several.Effects → List Effect
effects_in effects.Nothing = []
effects_in (effects.One e) = e ∷ []
effects_in (effects.Two e f) = e ∷ f ∷ []

abbrev pub enters : Place → Part → Effect
enters place part = record { place = place; part = part }

-- all that may enter the receiver
abbrev pub effects_of : Deed → List Effect
effects_of (deed.ByParts es o) = effects_in es
effects_of deed.Inserts = enters place.Elements (part.Argument 1) ∷ []
effects_of deed.SetsDefault = enters place.Keys (part.Argument 0) ∷ enters place.Values (part.Argument 1) ∷ []
effects_of deed.Updates = enters place.Keys (part.Keys 0) ∷ enters place.Values (part.Values 0) ∷ []
effects_of _ = []

abbrev pub gives_none : Outcome
gives_none = outcome.Gives (parts.One (part.Kind NoneKind))

-- all that may come back
abbrev pub outcome_of : Deed → Outcome
outcome_of (deed.ByParts es o) = o
outcome_of deed.PopsPart = outcome.Gives (parts.One part.OwnElements)
outcome_of deed.GetsValue = outcome.Gives (parts.Two part.OwnValues (part.ArgumentOrNone 1))
outcome_of deed.PopsPair = outcome.Gives (parts.Two part.OwnValues (part.Argument 1))
outcome_of deed.SetsDefault = outcome.Gives (parts.Two part.OwnValues (part.Argument 1))
outcome_of _ = gives_none

-- ---- a row

pub record Native : Type 0 where
  pub name : List ℕ
  pub sort : NativeSort
  pub arguments : Arguments
  pub deed : Deed
