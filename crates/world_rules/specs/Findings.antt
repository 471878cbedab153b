-- What is read off a world: its findings, the lines that are not checked, and the lines with a heavy query.
use Rattle.std.specs.Prelude.{◌≡◌, ◌↔◌, ◌⊎◌, ℕ, true, Option, Some, None, List, [], ◌∷◌, slice_get}
use Rattle.std.specs.Cmp.Lexicographic.{slice_cmp}
use Rattle.std.specs.List.{Contains}
use Rattle.std.specs.List.Sorted.{IsStrictlySortedBy}
use Rattle.std.specs.Option.{option_and_then}
use Rattle.std.specs.Ordering.{nat_cmp}
use Rattle.std.specs.declared.cmp.Ordering.{Ordering}
use Rattle.graph_walks.specs.Worlds.{Memory, AllGiven}
use Rattle.graph_walks.specs.Backs.{Heavy}
use Rattle.stack_code.specs.declared.op.Op.{Op}
use Rattle.stack_code.specs.declared.op.Op.TheVariants as op
use Rattle.abstract_shapes.specs.Shapes.{Shape}
use Rattle.world_rules.specs.declared.finding.Fault.{Fault}
use Rattle.world_rules.specs.declared.finding.FaultText.{FaultText}
use Rattle.world_rules.specs.declared.finding.Finding.{Finding}
use Rattle.world_rules.specs.declared.row.TransferRow.{TransferRow}
use Rattle.world_rules.specs.declared.transfer.SeatReading.{SeatReading}
use Rattle.world_rules.specs.Places.{Context, main, Variable, global, slot, Point, at, code_of, below_top}
use Rattle.world_rules.specs.Sources.{Source}
use Rattle.world_rules.specs.Items.{Item, a_context, map_of, Agree, variables, world_of}
use Rattle.world_rules.specs.Rows.{row_of, asks}
use Rattle.world_rules.specs.Rules.{Stands, readings_at, Fires}
use Rattle.world_rules.specs.Texts.{fault_text, kind_number}

abbrev pub line_of : Source → Point → Option ℕ
line_of s (at c place depth) = option_and_then (λ code. slice_get code.lines place) (code_of s.program c)

-- the order of a report: by line, then by the number of the kind, then by the bytes of the text
abbrev pub finding_order : Finding → Finding → Ordering
finding_order f g = slice_cmp nat_cmp (f.line ∷ kind_number f.kind ∷ f.text) (g.line ∷ kind_number g.kind ∷ g.text)

module _ (s : Source) (items : List Item) where
  -- ---- of one point

  -- a fault of an instruction, for shapes that are seen there
  pub record FindsAt (c : Context) (place depth : ℕ) (found : FaultText) : Type 0 where
    pub reading : SeatReading
    pub shapes : List Shape
    pub fires : Fires s items c place depth reading shapes
    pub fault : Fault
    pub has_fault : (row_of reading.transfer shapes).fault ≡ Some fault
    pub told : found ≡ fault_text s.program fault shapes

  -- an operand that isn't followed is seen there
  pub record UnchecksAt (c : Context) (place depth : ℕ) : Type 0 where
    pub reading : SeatReading
    pub shapes : List Shape
    pub fires : Fires s items c place depth reading shapes
    pub unchecked : (row_of reading.transfer shapes).unchecked ≡ true

  -- a query of a point: a choice of shapes for the seats of one reading, each given by some fact
  pub record IsQuery (c : Context) (place depth : ℕ) (goals : Memory Variable Shape) : Type 0 where
    pub context : Contains items (a_context c)
    pub op : Op
    pub stands : Stands s c place depth op
    pub reading : SeatReading
    pub is_reading : Contains (readings_at s c depth op) reading
    pub shapes : List Shape
    pub asked : asks reading.transfer shapes ≡ true
    pub goals_are : goals ≡ map_of (variables c reading.seats) shapes
    pub agree : Agree (variables c reading.seats) shapes goals
    pub given : AllGiven (world_of s items) goals

  -- a query of the output: a global at the module's End, or what a Return returns, with a shape that some fact gives it
  pub data OutputQuery : Context → (place depth : ℕ) → Memory Variable Shape → Type 0 where
    at_end : {place depth : ℕ} (n : ℕ) (t : Shape) → Contains items (a_context main) → Stands s main place depth op.End →
        AllGiven (world_of s items) (map_of (global n ∷ []) (t ∷ [])) → OutputQuery main place depth (map_of (global n ∷ []) (t ∷ []))
    at_return : {c : Context} {place depth : ℕ} (t : Shape) → Contains items (a_context c) → Stands s c place depth op.Return →
        AllGiven (world_of s items) (map_of (slot c (below_top depth 0) ∷ []) (t ∷ [])) → OutputQuery c place depth (map_of (slot c (below_top depth 0) ∷ []) (t ∷ []))

  pub record IsHeavyAt (c : Context) (place depth : ℕ) : Type 0 where
    pub goals : Memory Variable Shape
    pub query : IsQuery c place depth goals ⊎ OutputQuery c place depth goals
    pub heavy : Heavy (world_of s items) (at c place depth) goals s.budget

  -- ---- of lines

  pub record IsFinding (f : Finding) : Type 0 where
    pub context : Context
    pub place : ℕ
    pub depth : ℕ
    pub on_line : line_of s (at context place depth) ≡ Some f.line
    pub finds : FindsAt context place depth (record { kind = f.kind; text = f.text })

  pub record IsUnchecked (line : ℕ) : Type 0 where
    pub context : Context
    pub place : ℕ
    pub depth : ℕ
    pub on_line : line_of s (at context place depth) ≡ Some line
    pub unchecks : UnchecksAt context place depth

  pub record IsHeavyLine (line : ℕ) : Type 0 where
    pub context : Context
    pub place : ℕ
    pub depth : ℕ
    pub on_line : line_of s (at context place depth) ≡ Some line
    pub heavy : IsHeavyAt context place depth

  -- a line with a finding, or an unchecked one
  pub data IsReported (line : ℕ) : Type 0 where
    by_finding : (f : Finding) → f.line ≡ line → IsFinding f → IsReported line
    by_operand : IsUnchecked line → IsReported line

  -- ---- as lists in the order of a report

  pub record AreFindings (fs : List Finding) : Type 0 where
    pub members : (f : Finding) → Contains fs f ↔ IsFinding f
    pub rise : IsStrictlySortedBy finding_order fs

  pub record AreUnchecked (lines : List ℕ) : Type 0 where
    pub members : (line : ℕ) → Contains lines line ↔ IsUnchecked line
    pub rise : IsStrictlySortedBy nat_cmp lines

  pub record AreHeavy (lines : List ℕ) : Type 0 where
    pub members : (line : ℕ) → Contains lines line ↔ IsHeavyLine line
    pub rise : IsStrictlySortedBy nat_cmp lines
