-- What firing a point knows of its readings.
use Rattle.std.specs.Prelude.{◌≡◌, ℕ, Some, List, slice_get}
use Rattle.std.specs.List.{Contains}
use Rattle.graph_walks.specs.Backs.{Seen}
use Rattle.stack_code.specs.declared.op.Op.{Op}
use Rattle.typegraph.specs.declared.goals.Binding.{Binding}
use Rattle.typegraph.specs.Maps.{look}
use Rattle.goal_solver.specs.Graphs as numbers
use Rattle.program_tables.specs.Programs.{Compiled}
use Rattle.world_rules.specs.declared.transfer.SeatReading.{SeatReading}
use Rattle.world_rules.specs.Places.{Context}
use Rattle.world_rules.specs.Sources.{Source}
use Rattle.world_rules.specs.Rules.{Stands, readings_at}
use Rattle.world_tables.specs.declared.spot.PointSpot.{PointSpot}
use Rattle.world_tables.specs.Rows.{contexts_of, the_context, tables_of}
use Rattle.context_code.specs.Sources.{IsSourceOf}
use Rattle.world_queries.specs.Choices.{IsChoice}
use Rattle.world_queries.specs.Queries.{StandsAt, IsReadBy}
use Rattle.abstract_vm.specs.Worlds.{WorldState}

-- a source of the program with the world's own budget
pub record IsSourceIn (s : Source) (compiled : Compiled) (w : WorldState) : Type 0 where
  pub program : IsSourceOf s compiled
  pub budget : s.budget ≡ w.solver.budget

-- a reading of the instruction at the point of this number, by the spot where it stands
pub record IsReadAt (s : Source) (w : WorldState) (point : ℕ) (spot : PointSpot) (r : SeatReading) : Type 0 where
  pub op : Op
  pub is_spot : slice_get w.rows.points point ≡ Some spot
  pub stands : Stands s (the_context (contexts_of w.rows) spot.context) spot.place spot.depth op
  pub is_reading : Contains (readings_at s (the_context (contexts_of w.rows) spot.context) spot.depth op) r
  pub budget : s.budget ≡ w.solver.budget

-- a reading of the instruction at the point, and the numbers of the variables that it reads
pub record IsReadingOf (s : Source) (w : WorldState) (point : ℕ) (r : SeatReading) (vars : List ℕ) : Type 0 where
  pub context : Context
  pub place : ℕ
  pub depth : ℕ
  pub op : Op
  pub stands : StandsAt s (tables_of w.rows) point context place depth op
  pub read : IsReadBy s (tables_of w.rows) context depth op r vars
  pub budget : s.budget ≡ w.solver.budget

-- a choice of shapes for them, and its goals
pub record IsQueryOf (s : Source) (w : WorldState) (point : ℕ) (r : SeatReading) (choice : List ℕ) (goals : List Binding) : Type 0 where
  pub vars : List ℕ
  pub reading : IsReadingOf s w point r vars
  pub is_choice : IsChoice w.rows.graph vars choice goals

-- which is seen there
pub record IsSeenQuery (s : Source) (w : WorldState) (point : ℕ) (r : SeatReading) (choice : List ℕ) (goals : List Binding) : Type 0 where
  pub query : IsQueryOf s w point r choice goals
  pub seen : Seen (numbers.world_of w.rows.graph) point (look goals) s.budget
