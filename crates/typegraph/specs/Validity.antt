-- When a graph is valid: each id is there, each fact's point has a target, and each source set is a map.
use Rattle.std.specs.Prelude.{◌≡◌, ℕ, ◌<◌, Option, Some, None, length, slice_get}
use Rattle.std.specs.List.{Contains, AllPairs}
use Rattle.flow_graph.specs.declared.edge.Ask.{Ask}
use Rattle.flow_graph.specs.declared.edge.Edge.{Edge}
use Rattle.flow_graph.specs.declared.edge.Test.{Test}
use Rattle.flow_graph.specs.declared.edge.Test.TheVariants.{MayBeTrue, MayBeFalse, Is}
use Rattle.flow_graph.specs.Flows.{target_of, into_of}
use Rattle.typegraph.specs.declared.fact.Fact.{Fact}
use Rattle.typegraph.specs.declared.goals.Binding.{Binding}
use Rattle.typegraph.specs.Maps.{look, IsOnce, IsRising}
use Rattle.typegraph.specs.Graphs.{GraphTables, row_of}

abbrev pub IsTestThere : Test → ℕ → Type 0
IsTestThere MayBeTrue shapes = Unit {0}
IsTestThere MayBeFalse shapes = Unit {0}
IsTestThere (Is shape) shapes = shape < shapes

-- a shape that is asked for is there
abbrev pub IsShapeAskThere : Option Ask → ℕ → Type 0
IsShapeAskThere None shapes = Unit {0}
IsShapeAskThere (Some ask) shapes = IsTestThere ask.test shapes

pub record IsBindingThere (vars shapes : ℕ) (b : Binding) : Type 0 where
  pub var : b.var < vars
  pub shape : b.shape < shapes

pub record IsFactAt (g : GraphTables) (point : ℕ) (fact : Fact) : Type 0 where
  pub var : ℕ
  pub target : target_of (slice_get g.flow.points point) ≡ Some var
  pub shape : fact.shape < length g.truths
  pub source : (b : Binding) → Contains fact.source b → IsBindingThere g.flow.vars (length g.truths) b
  pub once : IsOnce fact.source
  pub rising : IsRising fact.source

-- two facts differ, in their shapes or in their source sets as maps
abbrev pub Differ : Fact → Fact → Type 0
Differ a b = a.shape ≡ b.shape → look a.source ≡ look b.source → ⊥

pub record IsValid (g : GraphTables) : Type 0 where
  pub rows : length g.facts ≡ length g.flow.points
  pub facts : (point : ℕ) (fact : Fact) → Contains (row_of (slice_get g.facts point)) fact → IsFactAt g point fact
  pub once : (point : ℕ) → AllPairs Differ (row_of (slice_get g.facts point))
  pub asks : (point : ℕ) (e : Edge) → Contains (into_of (slice_get g.flow.points point)) e → IsShapeAskThere e.asks (length g.truths)
