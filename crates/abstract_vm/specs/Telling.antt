-- What choices of shapes tell of a point, by numbers.
use Rattle.std.specs.Prelude.{◌≡◌, ◌⊎◌, ℕ, true, Some, List, [], ◌∷◌}
use Rattle.graph_walks.specs.Worlds.{Memory}
use Rattle.graph_walks.specs.Backs.{Heavy, Seen}
use Rattle.tree_code.specs.Programs.{Program}
use Rattle.typegraph.specs.declared.goals.Binding.{Binding}
use Rattle.typegraph.specs.Graphs.{IsGiven}
use Rattle.typegraph.specs.Maps.{look, IsJoined, IsRising}
use Rattle.goal_solver.specs.Graphs as numbers
use Rattle.graph_queries.specs.Choices.{bindings}
use Rattle.abstract_shapes.specs.Shapes.{Shape}
use Rattle.world_rules.specs.declared.finding.Fault.{Fault}
use Rattle.world_rules.specs.declared.finding.FaultText.{FaultText}
use Rattle.world_rules.specs.declared.row.TransferRow.{TransferRow}
use Rattle.world_rules.specs.declared.transfer.Transfer.{Transfer}
use Rattle.world_rules.specs.Rows.{row_of}
use Rattle.world_rules.specs.Texts.{fault_text}
use Rattle.world_tables.specs.Rows.{WorldRows, tables_of}
use Rattle.world_queries.specs.Choices.{shapes_by, IsChoice}
use Rattle.abstract_vm.specs.declared.judging.Judging.{Judging}
use Rattle.abstract_vm.specs.Marks.{Mark, a_fault, is_unchecked, is_heavy}

-- ---- rows

-- a fault of a row, as it is told of the shapes
pub record HasFault (program : Program) (row : TransferRow) (shapes : List Shape) (f : FaultText) : Type 0 where
  pub fault : Fault
  pub has_fault : row.fault ≡ Some fault
  pub told : f ≡ fault_text program fault shapes

abbrev pub FaultTells : Program → TransferRow → List Shape → Mark → Type 0
FaultTells program row shapes (a_fault f) = HasFault program row shapes f
FaultTells program row shapes _ = ⊥

abbrev pub RowTells : Program → TransferRow → List Shape → Mark → Type 0
RowTells program row shapes (a_fault f) = HasFault program row shapes f
RowTells program row shapes is_unchecked = row.unchecked ≡ true
RowTells program row shapes is_heavy = ⊥

-- ---- choices

-- a point's number, and what its queries are asked in
pub record Asked : Type 0 where
  pub program : Program
  pub rows : WorldRows
  pub budget : ℕ
  pub point : ℕ

abbrev pub asked : Judging → (budget : ℕ) → Asked
asked j budget = record { program = j.program.now.program; rows = j.tables.now; budget = budget; point = j.point }

-- the row of shapes that are seen
abbrev pub SeenTells : Asked → Transfer → (ids : List ℕ) → Memory ℕ ℕ → Mark → Type 0
SeenTells a rule ids goals m =
    Seen (numbers.world_of a.rows.graph) a.point goals a.budget × RowTells a.program (row_of rule (shapes_by (tables_of a.rows) ids)) (shapes_by (tables_of a.rows) ids) m

abbrev pub Weighs : Asked → Memory ℕ ℕ → Mark → Type 0
Weighs a goals is_heavy = Heavy (numbers.world_of a.rows.graph) a.point goals a.budget
Weighs a goals _ = ⊥

abbrev pub GoalsTell : Asked → Transfer → (ids : List ℕ) → Memory ℕ ℕ → Mark → Type 0
GoalsTell a rule ids goals m = SeenTells a rule ids goals m ⊎ Weighs a goals m

-- shapes for variables tell nothing where one variable would get two
pub record IdsTell (a : Asked) (rule : Transfer) (vars ids : List ℕ) (m : Mark) : Type 0 where
  pub goals : List Binding
  pub joined : IsJoined [] (bindings vars ids) (Some goals)
  pub rising : IsRising goals
  pub tells : GoalsTell a rule ids (look goals) m

-- some choice for the variables tells it
pub record ChoicesTell (a : Asked) (rule : Transfer) (vars : List ℕ) (m : Mark) : Type 0 where
  pub ids : List ℕ
  pub goals : List Binding
  pub is : IsChoice a.rows.graph vars ids goals
  pub tells : GoalsTell a rule ids (look goals) m

-- ---- shapes of one variable

-- one shape of a variable, as a query
abbrev pub ShapeWeighs : Asked → (var shape : ℕ) → Mark → Type 0
ShapeWeighs a var shape = Weighs a (look (record { var = var; shape = shape } ∷ []))

pub record VarWeighs (a : Asked) (var : ℕ) (m : Mark) : Type 0 where
  pub shape : ℕ
  pub given : IsGiven a.rows.graph var shape
  pub weighs : ShapeWeighs a var shape m
