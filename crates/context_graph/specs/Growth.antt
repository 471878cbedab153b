-- What finishing a context adds, and what it leaves as it was.
use Rattle.std.specs.Prelude.{◌≡◌, ◌⊎◌, ℕ, Some, List, slice_get}
use Rattle.std.specs.List.{Contains}
use Rattle.graph_walks.specs.Worlds.{Edge}
use Rattle.typegraph.specs.Graphs.{row_of}
use Rattle.stack_code.specs.declared.op.Op.{Op}
use Rattle.abstract_shapes.specs.Shapes.{Shape}
use Rattle.world_rules.specs.Places.{Context, Variable, Point}
use Rattle.world_rules.specs.Sources.{Source}
use Rattle.world_rules.specs.Items.{Item, an_edge}
use Rattle.world_rules.specs.Rules.{IsContained, IsPoint, Stands, Leads}
use Rattle.world_tables.specs.declared.spot.PointSpot.{PointSpot}
use Rattle.world_tables.specs.declared.spot.VariableSpot.{VariableSpot}
use Rattle.world_tables.specs.Tables.{items_of, AreTables}
use Rattle.world_tables.specs.Rows.{WorldRows, contexts_of, the_context, tables_of}

-- contexts, shapes and joined tables are the same, each point has the facts that it had, and points and variables keep their numbers
pub record IsGrown (old new : WorldRows) : Type 0 where
  pub rows : new.graph.flow.contexts ≡ old.graph.flow.contexts
  pub contexts : contexts_of new ≡ contexts_of old
  pub truths : new.graph.truths ≡ old.graph.truths
  pub shapes : new.shapes ≡ old.shapes
  pub joined : new.joined ≡ old.joined
  pub facts : (point : ℕ) → row_of (slice_get new.graph.facts point) ≡ row_of (slice_get old.graph.facts point)
  pub points : (id : ℕ) (spot : PointSpot) → slice_get old.points id ≡ Some spot → slice_get new.points id ≡ Some spot
  pub variables : (id : ℕ) (spot : VariableSpot) → slice_get old.variables id ≡ Some spot → slice_get new.variables id ≡ Some spot

-- and no context more is finished
pub record IsStep (old new : WorldRows) : Type 0 where
  pub grown : IsGrown old new
  pub finished : new.finished ≡ old.finished

-- an edge of an instruction of the context
pub data IsEdgeOf (s : Source) (c : Context) : Item → Type 0 where
  edge_of : {place depth : ℕ} {o : Op} {e : Edge Point Variable Shape} → Stands s c place depth o → Leads c place depth o e → IsPoint s e.to → IsEdgeOf s c (an_edge e)

-- all items are still there, and each one more is an edge of the context
pub record IsWithEdges (s : Source) (c : Context) (old new : List Item) : Type 0 where
  pub contained : IsContained old new
  pub more : (i : Item) → Contains new i → Contains old i ⊎ IsEdgeOf s c i

-- a part of the work on a context of a world: the tables are still a world's
pub record IsPart (s : Source) (context : ℕ) (old new : WorldRows) : Type 0 where
  pub tables : AreTables s (tables_of new)
  pub items : IsWithEdges s (the_context (contexts_of old) context) (items_of (tables_of old)) (items_of (tables_of new))
