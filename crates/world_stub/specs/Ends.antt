-- What names have where the module ends, by the numbers of points, variables and shapes.
use Rattle.std.specs.Prelude.{◌≡◌, ℕ, Some, List, [], ◌∷◌, slice_get}
use Rattle.std.specs.List.{Contains}
use Rattle.graph_walks.specs.Worlds.{Memory}
use Rattle.graph_walks.specs.Backs.{Seen}
use Rattle.stack_code.specs.declared.op.Op.TheVariants as op
use Rattle.typegraph.specs.declared.goals.Binding.{Binding}
use Rattle.typegraph.specs.Graphs.{GraphTables, IsGiven}
use Rattle.typegraph.specs.Maps.{look}
use Rattle.goal_solver.specs.Graphs as numbers
use Rattle.program_tables.specs.Programs.{Compiled}
use Rattle.world_rules.specs.Places.{main}
use Rattle.world_tables.specs.declared.spot.PointSpot.{PointSpot}
use Rattle.world_tables.specs.declared.spot.VariableSpot.TheVariants.{Global}
use Rattle.world_tables.specs.Rows.{WorldRows, contexts_of, the_context}
use Rattle.abstract_vm.specs.Worlds.{WorldState}

-- the number of a point of the module's context where its code ends
pub record IsEnd (compiled : Compiled) (rows : WorldRows) (id : ℕ) : Type 0 where
  pub spot : PointSpot
  pub stands : slice_get rows.points id ≡ Some spot
  pub in_main : the_context (contexts_of rows) spot.context ≡ main
  pub ends : slice_get compiled.program.body.ops spot.place ≡ Some op.End

-- the goals that one variable has one shape
abbrev pub goal_of : (var shape : ℕ) → List Binding
goal_of var shape = record { var = var; shape = shape } ∷ []

-- the goals are seen at one of the points
pub record IsSeenAtOne (g : GraphTables) (budget : ℕ) (points : List ℕ) (goals : Memory ℕ ℕ) : Type 0 where
  pub point : ℕ
  pub is_point : Contains points point
  pub seen : Seen (numbers.world_of g) point goals budget

-- some fact gives the variable the shape, and it is seen to have it at one of the points
pub record IsSeenAt (g : GraphTables) (budget : ℕ) (points : List ℕ) (var shape : ℕ) : Type 0 where
  pub given : IsGiven g var shape
  pub at_one : IsSeenAtOne g budget points (look (goal_of var shape))

-- the global is seen to have the shape at one of the points
pub record HasShape (w : WorldState) (points : List ℕ) (name shape : ℕ) : Type 0 where
  pub var : ℕ
  pub number_is : slice_get w.rows.variables var ≡ Some (Global name)
  pub seen : IsSeenAt w.rows.graph w.solver.budget points var shape
