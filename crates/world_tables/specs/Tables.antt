-- The tables of a world, in which all that it speaks of has a number, and the items that they stand for.
use Rattle.std.specs.Prelude.{◌≡◌, ◌≢◌, ℕ, suc, ◌<◌, ◌≤◌, Bool, Option, Some, None, List, [], ◌∷◌, ◌++◌, length, map, take, slice_get, option_map}
use Rattle.std.specs.Option.{unwrap_or}
use Rattle.std.specs.List.{Contains, AllPairs, flat_map}
use Rattle.graph_walks.specs.Worlds as worlds
use Rattle.graph_walks.specs.Worlds.{Memory, Ask as AskBetween, Edge as EdgeBetween}
use Rattle.flow_graph.specs.declared.edge.Test.{Test}
use Rattle.flow_graph.specs.declared.edge.Test.TheVariants.{MayBeTrue, MayBeFalse, Is}
use Rattle.flow_graph.specs.declared.edge.Ask.{Ask}
use Rattle.flow_graph.specs.declared.edge.Edge.{Edge}
use Rattle.flow_graph.specs.Flows as flows
use Rattle.flow_graph.specs.Validity as flow_validity
use Rattle.typegraph.specs.declared.fact.Fact.{Fact}
use Rattle.typegraph.specs.declared.goals.Binding.{Binding}
use Rattle.typegraph.specs.Graphs.{GraphTables}
use Rattle.typegraph.specs.Validity as graph_validity
use Rattle.stack_code.specs.declared.op.Op.{Op}
use Rattle.abstract_shapes.specs.declared.place.Place.{Place}
use Rattle.abstract_shapes.specs.Shapes.{Shape, any, truth_of}
use Rattle.world_rules.specs.declared.transfer.SeatReading.{SeatReading}
use Rattle.world_rules.specs.Places.{Context, main, Variable, global, Point, at, written, target_of}
use Rattle.world_rules.specs.Sources.{Source}
use Rattle.world_rules.specs.Items.{Item, a_context, an_edge, a_fact, an_entry, is_root, map_of, variables}
use Rattle.world_rules.specs.Rules.{IsPoint, Stands, Leads, AreDerived, readings_at}

-- contexts, points, variables and shapes stand under their numbers, which are those of the graph's rows; the entries of the joined tables; and how many contexts, from the first on, have all their points and edges
pub record Tables : Type 0 where
  pub graph : GraphTables
  pub contexts : List Context
  pub finished : ℕ
  pub points : List Point
  pub variables : List Variable
  pub shapes : List Shape
  pub entries : List (Place × ℕ)

abbrev pub no_tables : Tables
no_tables = record { graph = record { flow = record { vars = 0; points = []; contexts = [] }; truths = []; facts = [] }; contexts = []; finished = 0; points = []; variables = []; shapes = []; entries = [] }

-- ---- what a number stands for

abbrev pub the_point : Tables → ℕ → Point
the_point t id = unwrap_or (slice_get t.points id) (at main 0 0)

abbrev pub the_variable : Tables → ℕ → Variable
the_variable t id = unwrap_or (slice_get t.variables id) (global 0)

abbrev pub the_shape : Tables → ℕ → Shape
the_shape t id = unwrap_or (slice_get t.shapes id) any

abbrev pub test_at : Tables → Test → worlds.Test Shape
test_at t MayBeTrue = worlds.MayBeTrue
test_at t MayBeFalse = worlds.MayBeFalse
test_at t (Is shape) = worlds.Is (the_shape t shape)

abbrev pub ask_at : Tables → Option Ask → Option (worlds.Ask Variable Shape)
ask_at t None = None
ask_at t (Some a) = Some (record { var = the_variable t a.var; test = test_at t a.test })

abbrev pub edge_at : Tables → Edge → worlds.Edge Point Variable Shape
edge_at t e = record { from = the_point t e.from; to = the_point t e.to; assigns = e.assigns; asks = ask_at t e.asks }

abbrev pub memory_at : Tables → List Binding → Memory Variable Shape
memory_at t bs = map_of (map (λ b. the_variable t b.var) bs) (map (λ b. the_shape t b.shape) bs)

abbrev pub fact_at : Tables → ℕ → Fact → worlds.Fact Point Variable Shape
fact_at t point f = record { point = the_point t point; shape = the_shape t f.shape; source = memory_at t f.source }

-- the facts of rows, of which the first is this point's
abbrev pub facts_from : Tables → ℕ → List (List Fact) → List (worlds.Fact Point Variable Shape)
facts_from t point [] = []
facts_from t point (row ∷ rows) = map (fact_at t point) row ++ facts_from t (suc point) rows

-- all that the tables stand for
abbrev pub items_of : Tables → List Item
items_of t =
    map a_context t.contexts
    ++ (map an_edge (map (edge_at t) (flat_map (λ p. p.into) t.graph.flow.points))
    ++ (map a_fact (facts_from t 0 t.graph.facts)
    ++ map (λ e. an_entry e.0 (the_shape t e.1)) t.entries))

-- ---- what a context needs

-- a variable that an instruction of the context writes, reads, or asks on one of its edges
pub data IsUsed (s : Source) (c : Context) : Variable → Type 0 where
  used_written : {place depth : ℕ} {o : Op} {x : Variable} → Stands s c place depth o → written s.program c depth o ≡ Some x → IsUsed s c x
  used_read : {place depth : ℕ} {o : Op} {r : SeatReading} {x : Variable} → Stands s c place depth o → Contains (readings_at s c depth o) r → Contains (variables c r.seats) x → IsUsed s c x
  used_asked : {place depth : ℕ} {o : Op} {e : EdgeBetween Point Variable Shape} {a : AskBetween Variable Shape} → Stands s c place depth o → Leads c place depth o e → IsPoint s e.to → e.asks ≡ Some a → IsUsed s c a.var

-- it is used in one of the contexts
pub record IsUsedIn (s : Source) (contexts : List Context) (x : Variable) : Type 0 where
  pub context : Context
  pub known : Contains contexts context
  pub used : IsUsed s context x

-- all that a context needs is there
pub record HasAll (s : Source) (t : Tables) (c : Context) : Type 0 where
  pub points : (place depth : ℕ) → IsPoint s (at c place depth) → Contains t.points (at c place depth)
  pub variables : (x : Variable) → IsUsed s c x → Contains t.variables x
  pub edges : (place depth : ℕ) (o : Op) (e : EdgeBetween Point Variable Shape) → Stands s c place depth o → Leads c place depth o e → IsPoint s e.to → Contains (items_of t) (an_edge e)

-- what a new point of a context has to be
pub record IsNewPoint (s : Source) (t : Tables) (c : Context) (place depth : ℕ) (target : Option ℕ) (root : Bool) : Type 0 where
  pub is_point : IsPoint s (at c place depth)
  pub before : (earlier its_depth : ℕ) → earlier < place → IsPoint s (at c earlier its_depth) → Contains t.points (at c earlier its_depth)
  pub target_is : option_map (the_variable t) target ≡ target_of s.program (at c place depth)
  pub root_is : root ≡ is_root s.program (items_of t) (at c place depth)

-- ---- when they are a world's

-- nothing has two numbers
abbrev pub HaveOneNumber : {A : Type 0} → List A → Type 0
HaveOneNumber xs = (i j : ℕ) (x : _) → slice_get xs i ≡ Some x → slice_get xs j ≡ Some x → i ≡ j

-- the contexts that have all their points and edges
abbrev pub finished_contexts : Tables → List Context
finished_contexts t = take t.finished t.contexts

abbrev pub AreFinished : Tables → Type 0
AreFinished t = t.finished ≡ length t.contexts

-- the graph's rows are those of what has these numbers
pub record IsNumbering (s : Source) (t : Tables) : Type 0 where
  pub flow_valid : flow_validity.IsValid t.graph.flow
  pub graph_valid : graph_validity.IsValid t.graph
  pub context_count : length t.contexts ≡ length t.graph.flow.contexts
  pub point_count : length t.points ≡ length t.graph.flow.points
  pub variable_count : length t.variables ≡ t.graph.flow.vars
  pub shape_count : length t.shapes ≡ length t.graph.truths
  pub points_once : HaveOneNumber t.points
  pub variables_once : HaveOneNumber t.variables
  pub shapes_once : HaveOneNumber t.shapes
  pub targets : (id : ℕ) (p : Point) → slice_get t.points id ≡ Some p → option_map (the_variable t) (flows.target_of (slice_get t.graph.flow.points id)) ≡ target_of s.program p
  pub roots : (id : ℕ) (p : Point) → slice_get t.points id ≡ Some p → flows.root_of (slice_get t.graph.flow.points id) ≡ is_root s.program (items_of t) p
  pub truths : (id : ℕ) (x : Shape) → slice_get t.shapes id ≡ Some x → slice_get t.graph.truths id ≡ Some (truth_of x)
  -- each place with a depth of a finished context is a point, each point is one of a context, and the places before it are points
  pub points_are : (c : Context) (place depth : ℕ) → Contains (finished_contexts t) c → IsPoint s (at c place depth) → Contains t.points (at c place depth)
  pub are_points : (c : Context) (place depth : ℕ) → Contains t.points (at c place depth) → Contains t.contexts c × IsPoint s (at c place depth)
  pub points_before : (c : Context) (place depth : ℕ) → Contains t.points (at c place depth) → (earlier its_depth : ℕ) → earlier < place → IsPoint s (at c earlier its_depth) → Contains t.points (at c earlier its_depth)
  -- what a finished context uses is a variable, and each variable is used in a context
  pub variables_are : (c : Context) (x : Variable) → Contains (finished_contexts t) c → IsUsed s c x → Contains t.variables x
  pub are_variables : (x : Variable) → Contains t.variables x → IsUsedIn s t.contexts x

-- the tables of a world of a source: numbered, with the edges of each finished context, all of it built by the rules, and nothing twice
pub record AreTables (s : Source) (t : Tables) : Type 0 where
  pub numbering : IsNumbering s t
  pub contexts_once : AllPairs (λ c d. c ≢ d) t.contexts
  pub entries_once : AllPairs (λ e f. e ≢ f) t.entries
  pub entries_there : (e : Place × ℕ) → Contains t.entries e → e.1 < length t.shapes
  pub finished_there : t.finished ≤ length t.contexts
  pub leads : (c : Context) (place depth : ℕ) (o : Op) (e : worlds.Edge Point Variable Shape) →
      Contains (finished_contexts t) c → Stands s c place depth o → Leads c place depth o e → IsPoint s e.to → Contains (items_of t) (an_edge e)
  pub derived : AreDerived s (items_of t)

-- the bindings are between variables and shapes that have a number
abbrev pub AreBindings : Tables → List Binding → Type 0
AreBindings t goals = (b : Binding) → Contains goals b → graph_validity.IsBindingThere (length t.variables) (length t.shapes) b
