-- The queries of a point that has a number, by numbers: which choices are seen there, and which are heavy.
use Rattle.std.specs.Prelude.{◌≡◌, ℕ, Some, List, [], ◌∷◌, slice_get}
use Rattle.std.specs.List.{Contains}
use Rattle.graph_walks.specs.Worlds.{Memory}
use Rattle.graph_walks.specs.Backs.{Heavy, Seen}
use Rattle.stack_code.specs.declared.op.Op.{Op}
use Rattle.stack_code.specs.declared.op.Op.TheVariants as op
use Rattle.typegraph.specs.declared.goals.Binding.{Binding}
use Rattle.typegraph.specs.Maps.{look}
use Rattle.goal_solver.specs.Graphs as numbers
use Rattle.abstract_shapes.specs.Shapes.{Shape}
use Rattle.world_rules.specs.declared.transfer.SeatReading.{SeatReading}
use Rattle.world_rules.specs.Places.{Context, main, Variable, global, slot, at, below_top}
use Rattle.world_rules.specs.Sources.{Source}
use Rattle.world_rules.specs.Items.{Item, variables, world_of}
use Rattle.world_rules.specs.Rules.{Stands, readings_at}
use Rattle.world_rules.specs.Findings.{IsQuery, OutputQuery}
use Rattle.world_tables.specs.Tables.{Tables}
use Rattle.world_queries.specs.Choices.{AreNumbersOf, shapes_by, IsChoice}

-- an instruction that stands at the point of this number
pub record StandsAt (s : Source) (t : Tables) (id : ℕ) (c : Context) (place depth : ℕ) (o : Op) : Type 0 where
  pub point : slice_get t.points id ≡ Some (at c place depth)
  pub stands : Stands s c place depth o

-- one of its readings, and the numbers of the variables that it reads
pub record IsReadBy (s : Source) (t : Tables) (c : Context) (depth : ℕ) (o : Op) (r : SeatReading) (vars : List ℕ) : Type 0 where
  pub is_reading : Contains (readings_at s c depth o) r
  pub numbers_are : AreNumbersOf t vars (variables c r.seats)

-- some choice for the variables has these shapes, and is seen at the point
pub record HasSeenChoice (s : Source) (t : Tables) (id : ℕ) (vars : List ℕ) (shapes : List Shape) : Type 0 where
  pub ids : List ℕ
  pub goals : List Binding
  pub is : IsChoice t.graph vars ids goals
  pub shapes_are : shapes_by t ids ≡ shapes
  pub seen : Seen (numbers.world_of t.graph) id (look goals) s.budget

-- some choice for the variables is heavy at the point
pub record HasHeavyChoice (s : Source) (t : Tables) (id : ℕ) (vars : List ℕ) : Type 0 where
  pub ids : List ℕ
  pub goals : List Binding
  pub is : IsChoice t.graph vars ids goals
  pub heavy : Heavy (numbers.world_of t.graph) id (look goals) s.budget

-- ---- readings

-- a query of a reading that is heavy
pub record HasHeavyQuery (s : Source) (items : List Item) (c : Context) (place depth : ℕ) : Type 0 where
  pub goals : Memory Variable Shape
  pub query : IsQuery s items c place depth goals
  pub heavy : Heavy (world_of s items) (at c place depth) goals s.budget

-- the same by numbers
pub record HasHeavyReading (s : Source) (t : Tables) (id : ℕ) (c : Context) (depth : ℕ) (o : Op) : Type 0 where
  pub reading : SeatReading
  pub vars : List ℕ
  pub is : IsReadBy s t c depth o reading vars
  pub choice : HasHeavyChoice s t id vars

-- ---- the output

-- the variables that the output asks for at an instruction: each global at the module's End, and at a Return what it returns
pub data IsOutput (depth : ℕ) : Context → Op → Variable → Type 0 where
  at_end : (n : ℕ) → IsOutput depth main op.End (global n)
  at_return : (c : Context) → IsOutput depth c op.Return (slot c (below_top depth 0))

-- a query of the output that is heavy
pub record HasHeavyOutput (s : Source) (items : List Item) (c : Context) (place depth : ℕ) : Type 0 where
  pub goals : Memory Variable Shape
  pub query : OutputQuery s items c place depth goals
  pub heavy : Heavy (world_of s items) (at c place depth) goals s.budget

-- the same by numbers
pub record HasHeavyShape (s : Source) (t : Tables) (id : ℕ) (c : Context) (depth : ℕ) (o : Op) : Type 0 where
  pub variable : Variable
  pub is_output : IsOutput depth c o variable
  pub var : ℕ
  pub number_is : slice_get t.variables var ≡ Some variable
  pub choice : HasHeavyChoice s t id (var ∷ [])

-- a shape that a global is seen to have at an End of the module, by numbers
pub record HasEnd (s : Source) (t : Tables) (n : ℕ) (shape : Shape) : Type 0 where
  pub id : ℕ
  pub place : ℕ
  pub depth : ℕ
  pub stands : StandsAt s t id main place depth op.End
  pub var : ℕ
  pub number_is : slice_get t.variables var ≡ Some (global n)
  pub choice : HasSeenChoice s t id (var ∷ []) (shape ∷ [])
