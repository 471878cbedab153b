-- When a flow is valid: each id is there, and nothing stands twice.
use Rattle.std.specs.Prelude.{◌≡◌, ◌≢◌, ℕ, ◌<◌, ◌≤◌, ◌-◌, ◌^◌, Option, Some, None, length, slice_get}
use Rattle.std.specs.List.{Contains, AllPairs}
use Rattle.flow_graph.specs.declared.edge.Edge.{Edge}
use Rattle.flow_graph.specs.declared.edge.Ask.{Ask}
use Rattle.flow_graph.specs.declared.context.Context.{Context}
use Rattle.flow_graph.specs.Flows.{PointRow, FlowTables}

-- an id that is given is there
abbrev pub IsThere : Option ℕ → ℕ → Type 0
IsThere None count = Unit {0}
IsThere (Some id) count = id < count

abbrev pub IsAskThere : Option Ask → ℕ → Type 0
IsAskThere None vars = Unit {0}
IsAskThere (Some ask) vars = ask.var < vars

-- the edge ends at this point, and its ids are there
pub record IsEdgeAt (vars points place : ℕ) (edge : Edge) : Type 0 where
  pub to : edge.to ≡ place
  pub from : edge.from < points
  pub asks : IsAskThere edge.asks vars

pub record IsPoint (vars points place : ℕ) (row : PointRow) : Type 0 where
  pub target : IsThere row.target vars
  pub edges : (e : Edge) → Contains row.into e → IsEdgeAt vars points place e
  pub once : AllPairs (λ a b. a ≢ b) row.into

pub record IsContext (contexts points : ℕ) (context : Context) : Type 0 where
  pub parent : IsThere context.parent contexts
  pub call : IsThere context.call points

pub record IsValid (flow : FlowTables) : Type 0 where
  pub vars : flow.vars ≤ 2 ^ 32 - 1
  pub point_count : length flow.points ≤ 2 ^ 32 - 1
  pub context_count : length flow.contexts ≤ 2 ^ 32 - 1
  pub points : (place : ℕ) (row : PointRow) → slice_get flow.points place ≡ Some row → IsPoint flow.vars (length flow.points) place row
  pub contexts : (context : Context) → Contains flow.contexts context → IsContext (length flow.contexts) (length flow.points) context
  pub once : AllPairs (λ a b. a ≢ b) flow.contexts
