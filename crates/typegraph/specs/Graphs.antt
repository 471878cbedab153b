-- What a graph holds, and what it is after something is added.
use Rattle.std.specs.Prelude.{◌≡◌, ℕ, ◌+◌, Option, Some, None, List, [], ◌∷◌, ◌++◌, length, slice_get, nat_eq, map}
use Rattle.std.specs.List.{Contains, filter}
use Rattle.flow_graph.specs.declared.edge.Truth.{Truth}
use Rattle.flow_graph.specs.Flows.{FlowTables, target_of, changed_at}
use Rattle.typegraph.specs.declared.fact.Fact.{Fact}
use Rattle.typegraph.specs.declared.goals.Binding.{Binding}
use Rattle.typegraph.specs.Maps.{look, IsRising, IsJoined}

-- the flow, the truth of each shape, and the facts of each point in the order of adding
pub record GraphTables : Type 0 where
  pub flow : FlowTables
  pub truths : List Truth
  pub facts : List (List Fact)

-- a row that may be there
abbrev pub row_of : {X : Type 0} → Option (List X) → List X
row_of None = []
row_of (Some row) = row

abbrev pub push_fact : Fact → List Fact → List Fact
push_fact fact row = row ++ fact ∷ []

abbrev pub with_flow : FlowTables → GraphTables → GraphTables
with_flow flow g = record g { flow = flow }

abbrev pub with_shape : Truth → GraphTables → GraphTables
with_shape truth g = record g { truths = g.truths ++ truth ∷ [] }

-- a new point has no facts
abbrev pub with_row : FlowTables → GraphTables → GraphTables
with_row flow g = record g { flow = flow; facts = g.facts ++ [] ∷ [] }

-- a new fact stands last among those of its point
abbrev pub with_fact : ℕ → Fact → GraphTables → GraphTables
with_fact point fact g = record g { facts = changed_at (push_fact fact) g.facts point }

-- one of the facts has this shape, and this source set as a map
pub record IsAmong (facts : List Fact) (shape : ℕ) (source : List Binding) : Type 0 where
  pub fact : Fact
  pub is : Contains facts fact
  pub shape_is : fact.shape ≡ shape
  pub source_is : look fact.source ≡ look source

abbrev pub HasFact : GraphTables → ℕ → ℕ → List Binding → Type 0
HasFact g point shape source = IsAmong (row_of (slice_get g.facts point)) shape source

abbrev pub facts_of : ℕ → List Fact → List Fact
facts_of shape facts = filter (λ f. nat_eq f.shape shape) facts

-- at these places, one after the other, stand the facts of the shape
abbrev pub ArePlacesOf : List Fact → ℕ → List ℕ → Type 0
ArePlacesOf facts shape places = map (slice_get facts) places ≡ map Some (facts_of shape facts)

-- some fact gives the variable the shape
pub record IsGiven (g : GraphTables) (var shape : ℕ) : Type 0 where
  pub point : ℕ
  pub fact : Fact
  pub target : target_of (slice_get g.flow.points point) ≡ Some var
  pub is : Contains (row_of (slice_get g.facts point)) fact
  pub shape_is : fact.shape ≡ shape

abbrev pub total : {X : Type 0} → (X → ℕ) → List X → ℕ
total size [] = 0
total size (x ∷ xs) = size x + total size xs

-- the contexts, edges and facts, each counted once
abbrev pub item_total : GraphTables → ℕ
item_total g = length g.flow.contexts + total (λ p. length p.into) g.flow.points + total length g.facts

-- one fact more, whose source set is the map of the bindings
pub record IsWithFact (old : GraphTables) (point shape : ℕ) (source : List Binding) (new : GraphTables) : Type 0 where
  pub map : List Binding
  pub joined : IsJoined [] source (Some map)
  pub rising : IsRising map
  pub is : new ≡ with_fact point (record { shape = shape; source = map }) old
