-- The stubs of modules as a map from names.
use Rattle.std.specs.Prelude.{◌≡◌, ℕ, false, List, [], ◌∷◌, Option, Some, None, map, if◌then◌else◌}
use Rattle.std.specs.List.{list_any}
use Rattle.std.specs.Str.{bytes_eq}
use Rattle.type_terms.specs.declared.given.GivenStub.{GivenStub}
use Rattle.type_terms.specs.ProperStubs.{IsProperStub}
use Rattle.type_terms.specs.Stubs.{Stub, stub_view}

abbrev pub given_view : GivenStub → List ℕ × Stub
given_view g = (g.name, stub_view g.stub)

-- what was given, each stub with the name of its module
abbrev pub given : List GivenStub → List (List ℕ × Stub)
given gs = map given_view gs

-- the stub under a name
abbrev pub stub_named : List (List ℕ × Stub) → List ℕ → Option Stub
stub_named [] name = None
stub_named (g ∷ gs) name = if bytes_eq name g.0 then Some g.1 else stub_named gs name

pub data IsGiven : List (List ℕ × Stub) → List ℕ → Stub → Type 0 where
  first : {name : List ℕ} {s : Stub} {gs : List (List ℕ × Stub)} → IsGiven ((name, s) ∷ gs) name s
  later : {g : List ℕ × Stub} {gs : List (List ℕ × Stub)} {name : List ℕ} {s : Stub} → IsGiven gs name s → IsGiven (g ∷ gs) name s

-- each name has one stub, and each stub is proper
abbrev pub AreGiven : List (List ℕ × Stub) → Type 0
AreGiven [] = Unit {0}
AreGiven (g ∷ gs) = (list_any (λ h. bytes_eq g.0 h.0) gs ≡ false) × IsProperStub g.1 × AreGiven gs
