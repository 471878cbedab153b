-- What the choices that are seen at a point give and tell there, by numbers.
use Rattle.std.specs.Prelude.{◌≡◌, ℕ, true, Some, List}
use Rattle.std.specs.List.{Contains}
use Rattle.graph_walks.specs.Backs.{Seen}
use Rattle.stack_code.specs.declared.op.Op.{Op}
use Rattle.typegraph.specs.declared.goals.Binding.{Binding}
use Rattle.typegraph.specs.Maps.{look}
use Rattle.goal_solver.specs.Graphs as numbers
use Rattle.abstract_shapes.specs.Shapes.{Shape}
use Rattle.world_rules.specs.declared.finding.Fault.{Fault}
use Rattle.world_rules.specs.declared.finding.FaultText.{FaultText}
use Rattle.world_rules.specs.declared.row.TableEntry.{TableEntry}
use Rattle.world_rules.specs.declared.row.Yield.{Yield}
use Rattle.world_rules.specs.declared.transfer.SeatReading.{SeatReading}
use Rattle.world_rules.specs.Places.{Context}
use Rattle.world_rules.specs.Sources.{Source}
use Rattle.world_rules.specs.Items.{Item, a_fact, an_entry}
use Rattle.world_rules.specs.Rows.{row_of}
use Rattle.world_rules.specs.Rules.{Yields}
use Rattle.world_rules.specs.Texts.{fault_text}
use Rattle.world_tables.specs.Tables.{Tables, the_point, items_of, memory_at}
use Rattle.world_queries.specs.Choices.{shapes_by, IsChoice}
use Rattle.world_queries.specs.Queries.{IsReadBy}

module _ (s : Source) (t : Tables) (id : ℕ) (c : Context) (depth : ℕ) (o : Op) where
  -- a choice for the variables of a reading of the instruction, which is seen at the point
  pub record IsSeenChoice (r : SeatReading) (ids : List ℕ) (goals : List Binding) : Type 0 where
    pub vars : List ℕ
    pub is_read : IsReadBy s t c depth o r vars
    pub is : IsChoice t.graph vars ids goals
    pub seen : Seen (numbers.world_of t.graph) id (look goals) s.budget

  -- what its row gives: facts of the point, and entries
  pub data GivenBy : Item → Type 0 where
    a_result : {r : SeatReading} {ids : List ℕ} {goals : List Binding} {shape : Shape} (y : Yield) → IsSeenChoice r ids goals →
        Contains (row_of r.transfer (shapes_by t ids)).results y → Yields s (items_of t) (shapes_by t ids) y shape →
        GivenBy (a_fact (record { point = the_point t id; shape = shape; source = memory_at t goals }))
    entered : {r : SeatReading} {ids : List ℕ} {goals : List Binding} {shape : Shape} (e : TableEntry) → IsSeenChoice r ids goals →
        Contains (row_of r.transfer (shapes_by t ids)).entries e → Yields s (items_of t) (shapes_by t ids) e.given shape → GivenBy (an_entry e.place shape)

  -- what its row tells: a fault, and that an operand isn't followed
  pub record HasFault (found : FaultText) : Type 0 where
    pub reading : SeatReading
    pub ids : List ℕ
    pub goals : List Binding
    pub choice : IsSeenChoice reading ids goals
    pub fault : Fault
    pub has_fault : (row_of reading.transfer (shapes_by t ids)).fault ≡ Some fault
    pub told : found ≡ fault_text s.program fault (shapes_by t ids)

  pub record HasUnchecked : Type 0 where
    pub reading : SeatReading
    pub ids : List ℕ
    pub goals : List Binding
    pub choice : IsSeenChoice reading ids goals
    pub unchecked : (row_of reading.transfer (shapes_by t ids)).unchecked ≡ true
