-- What the readings of a point and the output tell of it.
use Rattle.std.specs.Prelude.{◌≡◌, ◌⊎◌, ℕ, Some, List, [], ◌∷◌, slice_get}
use Rattle.stack_code.specs.declared.op.Op.{Op}
use Rattle.abstract_shapes.specs.Shapes.{Shape}
use Rattle.world_rules.specs.declared.transfer.SeatReading.{SeatReading}
use Rattle.world_rules.specs.Places.{Context, Variable, op_at}
use Rattle.world_rules.specs.Sources.{Source}
use Rattle.world_rules.specs.Rows.{row_of}
use Rattle.world_rules.specs.Rules.{Fires}
use Rattle.world_tables.specs.declared.spot.PointSpot.{PointSpot}
use Rattle.world_tables.specs.declared.spot.VariableSpot.{VariableSpot}
use Rattle.world_tables.specs.declared.spot.VariableSpot.TheVariants.{Global}
use Rattle.world_tables.specs.Tables.{Tables, items_of, AreTables}
use Rattle.world_tables.specs.Rows.{contexts_of, tables_of, the_context}
use Rattle.world_queries.specs.Queries.{StandsAt, IsReadBy, IsOutput, HasHeavyChoice, HasHeavyShape}
use Rattle.context_code.specs.Readings.{readings_of}
use Rattle.context_code.specs.Sources.{IsSourceOf}
use Rattle.abstract_vm.specs.declared.judging.Judging.{Judging}
use Rattle.abstract_vm.specs.Marks.{Mark, a_fault, is_unchecked, is_heavy, AnyTells}
use Rattle.abstract_vm.specs.Telling.{RowTells}

-- the tables are those of a world of the source, and the point stands at the spot
pub record IsAsked (s : Source) (j : Judging) (budget : ℕ) (spot : PointSpot) : Type 0 where
  pub source : IsSourceOf s j.program.now
  pub budget_is : s.budget ≡ budget
  pub tables : AreTables s (tables_of j.tables.now)
  pub stands : slice_get j.tables.now.points j.point ≡ Some spot

-- the same of a point whose spot isn't named
pub record IsAskedOf (s : Source) (j : Judging) (budget : ℕ) : Type 0 where
  pub source : IsSourceOf s j.program.now
  pub budget_is : s.budget ≡ budget
  pub tables : AreTables s (tables_of j.tables.now)

abbrev pub tables_in : Judging → Tables
tables_in j = tables_of j.tables.now

abbrev pub context_at : Judging → PointSpot → Context
context_at j spot = the_context (contexts_of j.tables.now) spot.context

-- the number of a global
pub record IsGlobalNumber (variables : List VariableSpot) (var : ℕ) : Type 0 where
  pub name : ℕ
  pub is : slice_get variables var ≡ Some (Global name)

-- a number, if its spot is a global's
abbrev pub global_number : ℕ → VariableSpot → List ℕ
global_number var (Global name) = var ∷ []
global_number var _ = []

-- the variables of the output at a point, by their numbers
pub record IsOutputNumber (j : Judging) (spot : PointSpot) (var : ℕ) : Type 0 where
  pub op : Op
  pub op_is : op_at j.program.now.program (context_at j spot) spot.place ≡ Some op
  pub variable : Variable
  pub is_output : IsOutput spot.depth (context_at j spot) op variable
  pub number_is : slice_get (tables_in j).variables var ≡ Some variable

module _ (s : Source) (j : Judging) (spot : PointSpot) where
  -- ---- readings

  -- shapes for which the reading fires, and whose row tells it
  pub record FiresTelling (reading : SeatReading) (m : Mark) : Type 0 where
    pub shapes : List Shape
    pub fires : Fires s (items_of (tables_in j)) (context_at j spot) spot.place spot.depth reading shapes
    pub tells : RowTells s.program (row_of reading.transfer shapes) shapes m

  -- a choice for the reading's variables that is heavy
  pub record HeavyReading (reading : SeatReading) : Type 0 where
    pub op : Op
    pub stands : StandsAt s (tables_in j) j.point (context_at j spot) spot.place spot.depth op
    pub vars : List ℕ
    pub is : IsReadBy s (tables_in j) (context_at j spot) spot.depth op reading vars
    pub choice : HasHeavyChoice s (tables_in j) j.point vars

  abbrev pub ReadingTells : SeatReading → Mark → Type 0
  ReadingTells reading (a_fault f) = FiresTelling reading (a_fault f)
  ReadingTells reading is_unchecked = FiresTelling reading is_unchecked
  ReadingTells reading is_heavy = HeavyReading reading

  -- some reading of the instruction tells it
  abbrev pub RulesTell : Mark → Type 0
  RulesTell = AnyTells ReadingTells (readings_of j.program.now (contexts_of j.tables.now) spot)

  -- ---- the output

  pub record HeavyOutput : Type 0 where
    pub op : Op
    pub stands : StandsAt s (tables_in j) j.point (context_at j spot) spot.place spot.depth op
    pub shape : HasHeavyShape s (tables_in j) j.point (context_at j spot) spot.depth op

  abbrev pub OutputTells : Mark → Type 0
  OutputTells is_heavy = HeavyOutput
  OutputTells _ = ⊥

  abbrev pub PointTells : Mark → Type 0
  PointTells m = RulesTell m ⊎ OutputTells m
