-- Bindings as a map from variables to shapes.
use Rattle.std.specs.Prelude.{◌≡◌, ◌≢◌, ℕ, ◌<◌, Bool, true, false, cond, Option, Some, None, List, [], ◌∷◌, ◌++◌, nat_eq, ◌⊎◌, ◌↔◌}
use Rattle.std.specs.List.{All, AllPairs, Contains}
use Rattle.typegraph.specs.declared.goals.Binding.{Binding}

-- the shape that the first binding of a variable gives it
abbrev pub look : List Binding → ℕ → Option ℕ
look [] v = None
look (b ∷ bs) v = cond (nat_eq b.var v) (Some b.shape) (look bs v)

-- no variable stands twice
abbrev pub IsOnce : List Binding → Type 0
IsOnce bs = AllPairs (λ a b. a.var ≢ b.var) bs

-- the bindings stand in the order of their variables, none of which stands twice
abbrev pub IsRising : List Binding → Type 0
IsRising bs = AllPairs (λ a b. a.var < b.var) bs

-- the map, or one of these bindings, gives the variable the shape
abbrev pub HasPair : List Binding → List Binding → ℕ → ℕ → Type 0
HasPair map list v s = (look map v ≡ Some s) ⊎ Contains list (record { var = v; shape = s })

pub record HasTwoShapes (map list : List Binding) : Type 0 where
  pub var : ℕ
  pub one : ℕ
  pub other : ℕ
  pub differ : one ≢ other
  pub has_one : HasPair map list var one
  pub has_other : HasPair map list var other

-- the map of its own pairs and those of the list, or none where two shapes of one variable meet
pub data IsJoined (map list : List Binding) : Option (List Binding) → Type 0 where
  joined : {all : List Binding} → ((v s : ℕ) → look all v ≡ Some s ↔ HasPair map list v s) → IsJoined map list (Some all)
  clash : HasTwoShapes map list → IsJoined map list None

-- a binding after those whose variables aren't greater: it is put last, was there already, or has another shape than its variable
pub data IsPutLast (old : List Binding) (b : Binding) : Bool → List Binding → Type 0 where
  last : All (λ a. a.var < b.var) old → IsPutLast old b true (old ++ b ∷ [])
  there : Contains old b → IsPutLast old b true old
  clashes : (shape : ℕ) → Contains old (record { var = b.var; shape = shape }) → shape ≢ b.shape → IsPutLast old b false old
