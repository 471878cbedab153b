-- What a flow holds, and what it is after something is added.
use Rattle.std.specs.Prelude.{ℕ, suc, zero, ◌+◌, Bool, Option, Some, None, List, [], ◌∷◌, ◌++◌, slice_get, false}
use Rattle.std.specs.List.{Contains}
use Rattle.flow_graph.specs.declared.edge.Edge.{Edge}
use Rattle.flow_graph.specs.declared.context.Context.{Context}

-- a point: the variable that its facts are about, whether walks start there, and the edges into it, in the order of adding
pub record PointRow : Type 0 where
  pub target : Option ℕ
  pub root : Bool
  pub into : List Edge

-- points and contexts stand under the ids that number them from 0. Of variables only the number is kept
pub record FlowTables : Type 0 where
  pub vars : ℕ
  pub points : List PointRow
  pub contexts : List Context

-- what is told of a point that may be there
abbrev pub into_of : Option PointRow → List Edge
into_of None = []
into_of (Some p) = p.into

abbrev pub target_of : Option PointRow → Option ℕ
target_of None = None
target_of (Some p) = p.target

abbrev pub root_of : Option PointRow → Bool
root_of None = false
root_of (Some p) = p.root

-- the list with the element at a place changed
abbrev pub changed_at : {X : Type 0} → (X → X) → List X → ℕ → List X
changed_at f [] i = []
changed_at f (x ∷ xs) zero = f x ∷ xs
changed_at f (x ∷ xs) (suc i) = x ∷ changed_at f xs i

abbrev pub with_var : FlowTables → FlowTables
with_var flow = record flow { vars = flow.vars + 1 }

abbrev pub with_point : Option ℕ → Bool → FlowTables → FlowTables
with_point target root flow = record flow { points = flow.points ++ record { target = target; root = root; into = [] } ∷ [] }

abbrev pub with_context : Context → FlowTables → FlowTables
with_context context flow = record flow { contexts = flow.contexts ++ context ∷ [] }

-- a new edge stands last among those into its end
abbrev pub with_edge : Edge → FlowTables → FlowTables
with_edge edge flow = record flow { points = changed_at (λ p. record p { into = p.into ++ edge ∷ [] }) flow.points edge.to }

-- whether the flow has the edge, or the context
abbrev pub HasEdge : FlowTables → Edge → Type 0
HasEdge flow edge = Contains (into_of (slice_get flow.points edge.to)) edge

abbrev pub HasContext : FlowTables → Context → Type 0
HasContext flow context = Contains flow.contexts context
