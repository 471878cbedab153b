-- What the tables keep, by numbers, and what it stands for.
use Rattle.std.specs.Prelude.{◌≡◌, ◌⊎◌, ℕ, ◌<◌, ◌≤◌, Bool, Option, Some, None, List, [], ◌∷◌, ◌++◌, length, map, slice_get, option_map}
use Rattle.std.specs.Option.{option_and_then, unwrap_or}
use Rattle.std.specs.List.{AllPairs, Contains}
use Rattle.flow_graph.specs.declared.context.Context.{Context as ContextRow}
use Rattle.flow_graph.specs.Flows.{with_var, with_point}
use Rattle.typegraph.specs.Graphs.{GraphTables, with_flow, with_row}
use Rattle.abstract_shapes.specs.declared.shape.Shape.{Shape as ShapeRow}
use Rattle.abstract_shapes.specs.declared.table.TableRow.{TableRow}
use Rattle.abstract_shapes.specs.Numbering.{structures}
use Rattle.abstract_shapes.specs.Shapes.{Shape, truth_of}
use Rattle.abstract_shapes.specs.Tables.{entries}
use Rattle.world_rules.specs.Places.{Context, main, entry, called, Variable, local, slot, global, Point, at}
use Rattle.world_tables.specs.declared.spot.PointSpot.{PointSpot}
use Rattle.world_tables.specs.declared.spot.VariableSpot.{VariableSpot}
use Rattle.world_tables.specs.declared.spot.VariableSpot.TheVariants.{Local, Slot, Global}
use Rattle.world_tables.specs.Tables.{Tables}

-- the graph, how many contexts are finished, and the spots of points and variables under their ids, the shapes that the graph has too, and the joined tables
pub record WorldRows : Type 0 where
  pub graph : GraphTables
  pub finished : ℕ
  pub points : List PointSpot
  pub variables : List VariableSpot
  pub shapes : List ShapeRow
  pub joined : List TableRow

abbrev pub no_rows : WorldRows
no_rows = record { graph = record { flow = record { vars = 0; points = []; contexts = [] }; truths = []; facts = [] }; finished = 0; points = []; variables = []; shapes = []; joined = [] }

-- ---- contexts by structure

-- a context that is called has the spot of the call in its parent
abbrev pub context_by : List Context → Option PointSpot → (parent fun : Option ℕ) → Context
context_by known spot parent None = main
context_by known (Some spot) (Some parent) (Some f) = called (unwrap_or (slice_get known parent) main) spot.place spot.depth f
context_by known spot parent (Some f) = entry f

abbrev pub context_of : List Context → List PointSpot → ContextRow → Context
context_of known spots row = context_by known (option_and_then (λ call. slice_get spots call) row.call) row.parent row.fun

-- each context is told by those before it
abbrev pub contexts_from : List Context → List PointSpot → List ContextRow → List Context
contexts_from known spots [] = known
contexts_from known spots (row ∷ rows) = contexts_from (known ++ context_of known spots row ∷ []) spots rows

abbrev pub contexts_of : WorldRows → List Context
contexts_of rows = contexts_from [] rows.points rows.graph.flow.contexts

-- ---- points and variables by structure

abbrev pub the_context : List Context → ℕ → Context
the_context contexts id = unwrap_or (slice_get contexts id) main

abbrev pub point_of : List Context → PointSpot → Point
point_of contexts spot = at (the_context contexts spot.context) spot.place spot.depth

abbrev pub variable_of : List Context → VariableSpot → Variable
variable_of contexts (Local c i) = local (the_context contexts c) i
variable_of contexts (Slot c i) = slot (the_context contexts c) i
variable_of contexts (Global n) = global n

abbrev pub tables_of : WorldRows → Tables
tables_of rows =
    record {
      graph = rows.graph;
      contexts = contexts_of rows;
      finished = rows.finished;
      points = map (point_of (contexts_of rows)) rows.points;
      variables = map (variable_of (contexts_of rows)) rows.variables;
      shapes = structures rows.shapes;
      entries = entries rows.joined;
    }

-- ---- what they are after something is added

abbrev pub with_graph : GraphTables → WorldRows → WorldRows
with_graph graph rows = record rows { graph = graph }

abbrev pub with_new_point : PointSpot → Option ℕ → Bool → WorldRows → WorldRows
with_new_point spot target root rows = record rows { graph = with_row (with_point target root rows.graph.flow) rows.graph; points = rows.points ++ spot ∷ [] }

abbrev pub with_new_variable : VariableSpot → WorldRows → WorldRows
with_new_variable spot rows = record rows { graph = with_flow (with_var rows.graph.flow) rows.graph; variables = rows.variables ++ spot ∷ [] }

-- shapes more, which are named after those of before; the rest stays
pub record IsWithShapes (old new : WorldRows) : Type 0 where
  pub more : List Shape
  pub shapes : structures new.shapes ≡ structures old.shapes ++ more
  pub rest : new ≡ record old { graph = record old.graph { truths = map truth_of (structures new.shapes) }; shapes = new.shapes }

-- ---- when they are kept well

-- a spot's context is there
abbrev pub IsSpotThere : VariableSpot → ℕ → Type 0
IsSpotThere (Local c i) contexts = c < contexts
IsSpotThere (Slot c i) contexts = c < contexts
IsSpotThere (Global n) contexts = Unit {0}

-- points come in the order of their contexts, and those of a context in the order of their places; so their numbers are consecutive
abbrev pub IsBefore : PointSpot → PointSpot → Type 0
IsBefore a b = (a.context < b.context) ⊎ ((a.context ≡ b.context) × (a.place < b.place))

-- A context has no parent and no call, or it is called at a point of its parent, which is one of the first contexts
abbrev pub IsCall : (spots : List PointSpot) (contexts : ℕ) (parent call fun : Option ℕ) → Type 0
IsCall spots contexts None None fun = Unit {0}
IsCall spots contexts (Some parent) (Some call) (Some f) = (parent < contexts) × (option_map (λ spot. spot.context) (slice_get spots call) ≡ Some parent)
IsCall spots contexts _ _ _ = ⊥

-- the spots are those of the graph's points and variables, and points are of contexts that are finished or the next to be
pub record IsKept (rows : WorldRows) : Type 0 where
  pub point_count : length rows.points ≡ length rows.graph.flow.points
  pub variable_count : length rows.variables ≡ rows.graph.flow.vars
  pub truths_are : rows.graph.truths ≡ map truth_of (structures rows.shapes)
  pub points_there : (spot : PointSpot) → Contains rows.points spot → spot.context < length rows.graph.flow.contexts
  pub points_begun : (spot : PointSpot) → Contains rows.points spot → spot.context ≤ rows.finished
  pub points_in_order : AllPairs IsBefore rows.points
  pub variables_there : (spot : VariableSpot) → Contains rows.variables spot → IsSpotThere spot (length rows.graph.flow.contexts)
  pub calls : (id : ℕ) (row : ContextRow) → slice_get rows.graph.flow.contexts id ≡ Some row → IsCall rows.points id row.parent row.call row.fun
