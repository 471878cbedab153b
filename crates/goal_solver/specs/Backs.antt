-- The back states of a state, as the code comes to them.
use Rattle.std.specs.Prelude.{◌≡◌, ℕ, Bool, true, false, not, cond, Option, Some, None, List, [], ◌++◌, nat_eq, slice_get}
use Rattle.std.specs.List.{Contains, filter}
use Rattle.std.specs.Option.{option_to_list}
use Rattle.graph_walks.specs.Worlds as worlds
use Rattle.graph_walks.specs.Backs.{Asks, BackState}
use Rattle.flow_graph.specs.declared.edge.Truth.{Truth}
use Rattle.flow_graph.specs.declared.edge.Truth.TheVariants.{Yes, No, Both}
use Rattle.flow_graph.specs.declared.edge.Test.{Test}
use Rattle.flow_graph.specs.declared.edge.Test.TheVariants.{MayBeTrue, MayBeFalse, Is}
use Rattle.flow_graph.specs.declared.edge.Ask.{Ask}
use Rattle.flow_graph.specs.declared.edge.Edge.{Edge}
use Rattle.flow_graph.specs.Flows.{target_of}
use Rattle.typegraph.specs.declared.fact.Fact.{Fact}
use Rattle.typegraph.specs.declared.goals.Binding.{Binding}
use Rattle.typegraph.specs.Maps.{look, IsJoined}
use Rattle.typegraph.specs.Graphs.{GraphTables}
use Rattle.goal_solver.specs.declared.state.State.{State}
use Rattle.goal_solver.specs.Graphs.{world_of, ask_as, edge_as}

abbrev pub may_be_true : Option Truth → Bool
may_be_true None = false
may_be_true (Some Yes) = true
may_be_true (Some No) = false
may_be_true (Some Both) = true

abbrev pub may_be_false : Option Truth → Bool
may_be_false None = false
may_be_false (Some Yes) = false
may_be_false (Some No) = true
may_be_false (Some Both) = true

abbrev pub passes_test : List Truth → Test → ℕ → Bool
passes_test truths MayBeTrue s = may_be_true (slice_get truths s)
passes_test truths MayBeFalse s = may_be_false (slice_get truths s)
passes_test truths (Is t) s = nat_eq s t

abbrev pub is_var : Option ℕ → ℕ → Bool
is_var None v = false
is_var (Some u) v = nat_eq u v

abbrev pub pair_of : Option Binding → Option (ℕ × ℕ)
pair_of None = None
pair_of (Some b) = Some (b.var, b.shape)

-- the pairs that are asked for, each one of the list
pub record AreAsked (g : GraphTables) (asks : Option Ask) (pairs : List (Option Binding)) : Type 0 where
  pub sound : (pair : Option Binding) → Contains pairs pair → Asks (world_of g) (ask_as asks) (pair_of pair)
  pub complete : (pair : Option (ℕ × ℕ)) → Asks (world_of g) (ask_as asks) pair → (b : Option Binding) × Contains pairs b × (pair_of b ≡ pair)

-- the goals but for the target's, the source set, and the asked pair
abbrev pub wanted_list : Option ℕ → List Binding → List Binding → Option Binding → List Binding
wanted_list target goals source pair = filter (λ b. not (is_var target b.var)) goals ++ (source ++ option_to_list pair)

-- an item of the list gives the state
pub record FromSome {X : Type 0} (xs : List X) (Q : X → State → Type 0) (y : State) : Type 0 where
  pub item : X
  pub is : Contains xs item
  pub at : Q item y

-- the state at the point in which exactly this is wanted, if no variable has two shapes there
pub record IsBefore (from : ℕ) (target : Option ℕ) (goals source : List Binding) (pair : Option Binding) (y : State) : Type 0 where
  pub point : y.point ≡ from
  pub joined : IsJoined [] (wanted_list target goals source pair) (Some y.goals)

abbrev pub BySource : ℕ → Option ℕ → List Binding → List (Option Binding) → List Binding → State → Type 0
BySource from target goals pairs source = FromSome pairs (IsBefore from target goals source)

-- by a fact at one of the places
pub record IsByPlace (from : ℕ) (target : Option ℕ) (goals : List Binding) (pairs : List (Option Binding)) (facts : List Fact) (place : ℕ) (y : State) : Type 0 where
  pub fact : Fact
  pub at : slice_get facts place ≡ Some fact
  pub by : BySource from target goals pairs fact.source y

abbrev pub ByFact : ℕ → Option ℕ → List Binding → List (Option Binding) → List Fact → List ℕ → State → Type 0
ByFact from target goals pairs facts places = FromSome places (IsByPlace from target goals pairs facts)

abbrev pub look_at : List Binding → Option ℕ → Option ℕ
look_at goals None = None
look_at goals (Some v) = look goals v

abbrev pub assigned_by : GraphTables → Edge → Option ℕ
assigned_by g e = cond e.assigns (target_of (slice_get g.flow.points e.from)) None

-- a back state over an edge
pub record IsOverEdge (g : GraphTables) (goals : List Binding) (e : Edge) (y : State) : Type 0 where
  pub point : y.point ≡ e.from
  pub is : BackState (world_of g) (edge_as e) (look goals) (look y.goals)

-- a back state over an edge that leads to the state's point
pub record IsBackOf (g : GraphTables) (x y : State) : Type 0 where
  pub edge : worlds.Edge ℕ ℕ ℕ
  pub to : edge.to ≡ x.point
  pub from : edge.from ≡ y.point
  pub is : BackState (world_of g) edge (look x.goals) (look y.goals)
