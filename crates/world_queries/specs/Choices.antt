-- Choices of shapes for variables, all by numbers, and the maps that they are by structure.
use Rattle.std.specs.Prelude.{◌≡◌, ℕ, Some, List, [], map, slice_get}
use Rattle.graph_walks.specs.Worlds.{AllGiven}
use Rattle.typegraph.specs.declared.goals.Binding.{Binding}
use Rattle.typegraph.specs.Graphs.{GraphTables}
use Rattle.typegraph.specs.Maps.{look, IsJoined, IsRising}
use Rattle.goal_solver.specs.Graphs as numbers
use Rattle.graph_queries.specs.Choices.{AreGiven, bindings}
use Rattle.abstract_shapes.specs.Shapes.{Shape}
use Rattle.world_rules.specs.Places.{Variable}
use Rattle.world_rules.specs.Sources.{Source}
use Rattle.world_rules.specs.Items.{map_of, Agree, world_of}
use Rattle.world_tables.specs.Tables.{Tables, the_shape, items_of, memory_at, AreBindings}

-- the variables under these numbers
abbrev pub AreNumbersOf : Tables → List ℕ → List Variable → Type 0
AreNumbersOf t vars xs = map (slice_get t.variables) vars ≡ map Some xs

-- the shapes under these numbers
abbrev pub shapes_by : Tables → List ℕ → List Shape
shapes_by t ids = map (the_shape t) ids

-- shapes for variables, each given by some fact of the graph, and the map of both, in order
pub record IsChoice (g : GraphTables) (vars ids : List ℕ) (goals : List Binding) : Type 0 where
  pub given : AreGiven g vars ids
  pub joined : IsJoined [] (bindings vars ids) (Some goals)
  pub rising : IsRising goals

-- some choice for the variables has these shapes
pub record HasChoice (t : Tables) (vars : List ℕ) (shapes : List Shape) : Type 0 where
  pub ids : List ℕ
  pub goals : List Binding
  pub is : IsChoice t.graph vars ids goals
  pub shapes_are : shapes_by t ids ≡ shapes

-- the goals are the map that gives each variable its shape, and facts give all of it, by numbers and by structure
pub record AreMap (s : Source) (t : Tables) (goals : List Binding) (xs : List Variable) (shapes : List Shape) : Type 0 where
  pub there : AreBindings t goals
  pub map_is : memory_at t goals ≡ map_of xs shapes
  pub agree : Agree xs shapes (map_of xs shapes)
  pub given : AllGiven (numbers.world_of t.graph) (look goals)
  pub items_give : AllGiven (world_of s (items_of t)) (map_of xs shapes)
