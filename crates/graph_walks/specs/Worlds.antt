-- A world: edges between points, and the facts that hold at points. P are its points, V its variables and S its shapes.
use Rattle.std.specs.Prelude.{◌≡◌, Bool, cond, Option, Some, None, List, ◌⊎◌}
use Rattle.std.specs.List.{Contains}

-- a finite map from variables to shapes; two are equal where they answer alike for each variable
abbrev pub Memory : Type 0 → Type 0 → Type 0
Memory V S = V → Option S

abbrev pub nothing : {V S : Type 0} → Memory V S
nothing v = None

-- the pairs of the one are pairs of the other
pub record Within {V S : Type 0} (goals memory : Memory V S) : Type 0 where
  pub at : (v : V) (s : S) → goals v ≡ Some s → memory v ≡ Some s

-- whether the values of a shape are true
pub data Truth : Type 0 where
  Yes : Truth
  No : Truth
  Both : Truth

pub data Test (S : Type 0) : Type 0 where
  MayBeTrue : Test S
  MayBeFalse : Test S
  Is : S → Test S

pub record Ask (V S : Type 0) : Type 0 where
  pub var : V
  pub test : Test S

pub record Edge (P V S : Type 0) : Type 0 where
  pub from : P
  pub to : P
  pub assigns : Bool
  pub asks : Option (Ask V S)

-- at the point the target gets the shape, where the source set holds
pub record Fact (P V S : Type 0) : Type 0 where
  pub point : P
  pub shape : S
  pub source : Memory V S

pub record World (P V S : Type 0) : Type 0 where
  pub edges : List (Edge P V S)
  pub facts : List (Fact P V S)
  -- the variable that a point's facts are about
  pub target : P → Option V
  -- whether walks start at the point
  pub root : P → Bool
  pub truth : S → Option Truth

-- what each test lets pass, where each shape has this truth
abbrev pub PassesBy : {S : Type 0} → (S → Option Truth) → Test S → S → Type 0
PassesBy truth MayBeTrue s = (truth s ≡ Some Yes) ⊎ (truth s ≡ Some Both)
PassesBy truth MayBeFalse s = (truth s ≡ Some No) ⊎ (truth s ≡ Some Both)
PassesBy truth (Is t) s = s ≡ t

module _ {P V S : Type 0} (w : World P V S) where
  abbrev pub HasFact : P → S → Memory V S → Type 0
  HasFact p s source = Contains w.facts (record { point = p; shape = s; source = source })

  -- the variable that the edge assigns
  abbrev pub assigned : Edge P V S → Option V
  assigned e = cond e.assigns (w.target e.from) None

  -- some fact gives the variable the shape
  pub record FactGives (v : V) (s : S) : Type 0 where
    pub point : P
    pub source : Memory V S
    pub target : w.target point ≡ Some v
    pub fact : HasFact point s source

  pub record AllGiven (goals : Memory V S) : Type 0 where
    pub at : (v : V) (s : S) → goals v ≡ Some s → FactGives v s
