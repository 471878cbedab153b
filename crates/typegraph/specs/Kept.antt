-- What a graph keeps beside its tables, to answer at once.
use Rattle.std.specs.Prelude.{◌≡◌, ◌≢◌, ℕ, ◌-◌, ◌^◌, ◌<◌, ◌≤◌, Some, List, [], ◌∷◌, ◌++◌, length, slice_get, nat_eq, if◌then◌else◌}
use Rattle.std.specs.List.{Contains, AllPairs, list_any}
use Rattle.typegraph.specs.declared.fact.Fact.{Fact}
use Rattle.typegraph.specs.Graphs.{GraphTables, row_of, IsGiven, item_total}
use Rattle.typegraph.specs.Validity.{IsValid}

-- the facts of each point, and the shapes that some fact gives each variable
pub record FactTables : Type 0 where
  pub rows : List (List Fact)
  pub given : List (List ℕ)

-- shapes, and a list of places for each
pub record PlaceTables : Type 0 where
  pub shapes : List ℕ
  pub lists : List (List ℕ)

abbrev pub list_in : List ℕ → List (List ℕ) → ℕ → List ℕ
list_in [] lists s = []
list_in (shape ∷ shapes) [] s = []
list_in (shape ∷ shapes) (list ∷ lists) s = if nat_eq s shape then list else list_in shapes lists s

-- the first place of a list at which the number stands
pub record IsFirstAt (list : List ℕ) (number place : ℕ) : Type 0 where
  pub at : slice_get list place ≡ Some number
  pub before : (k : ℕ) → k < place → slice_get list k ≡ Some number → ⊥

-- the places of a shape
abbrev pub places_in : PlaceTables → ℕ → List ℕ
places_in p s = list_in p.shapes p.lists s

-- a row with a shape, which stands once
abbrev pub push_shape : ℕ → List ℕ → List ℕ
push_shape shape row = if list_any (nat_eq shape) row then row else row ++ shape ∷ []

-- how many contexts there are, and how many items, as far as 32 bits count
pub record CountPair : Type 0 where
  pub contexts : ℕ
  pub items : ℕ

-- a count that stops at the greatest number of 32 bits
pub record IsCapped (count total : ℕ) : Type 0 where
  pub few : total < 2 ^ 32 → count ≡ total
  pub many : 2 ^ 32 ≤ total → count ≡ 2 ^ 32 - 1

pub record AreGiven (g : GraphTables) (given : List (List ℕ)) : Type 0 where
  pub size : length given ≡ g.flow.vars
  pub sound : (v s : ℕ) → Contains (row_of (slice_get given v)) s → IsGiven g v s
  pub complete : (v s : ℕ) → IsGiven g v s → Contains (row_of (slice_get given v)) s
  pub once : (v : ℕ) → AllPairs (λ s t. s ≢ t) (row_of (slice_get given v))

pub record IsKept (g : GraphTables) (shapes : List (List ℕ)) (counts : CountPair) : Type 0 where
  pub valid : IsValid g
  pub given : AreGiven g shapes
  pub contexts : counts.contexts ≡ length g.flow.contexts
  pub items : IsCapped counts.items (item_total g)
