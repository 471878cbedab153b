-- An edge from a spot, and where walks start.
use Rattle.std.specs.Prelude.{ℕ, Bool, true, false, Option, option_map}
use Rattle.graph_walks.specs.Worlds as worlds
use Rattle.flow_graph.specs.declared.edge.Test.{Test}
use Rattle.abstract_shapes.specs.Shapes.{Shape}
use Rattle.world_rules.specs.Places.{Context, main, entry, called, Variable, Point}
use Rattle.world_rules.specs.Branches.{ask_top}
use Rattle.world_tables.specs.declared.spot.PointSpot.{PointSpot}
use Rattle.world_tables.specs.Tables.{the_point, test_at}
use Rattle.world_tables.specs.Rows.{WorldRows, contexts_of, the_context, point_of, tables_of}

-- the edge that asks this of the top of the stack
abbrev pub edge_from : WorldRows → PointSpot → (to : ℕ) → (assigns : Bool) → Option Test → worlds.Edge Point Variable Shape
edge_from rows spot to assigns test =
    record {
      from = point_of (contexts_of rows) spot;
      to = the_point (tables_of rows) to;
      assigns = assigns;
      asks = ask_top (the_context (contexts_of rows) spot.context) spot.depth (option_map (test_at (tables_of rows)) test);
    }

-- nothing calls the context
abbrev pub is_uncalled : Context → Bool
is_uncalled main = true
is_uncalled (entry f) = true
is_uncalled (called c place depth f) = false
