-- What is of a program: its contexts, its points, and the variables that its instructions name.
use Rattle.std.specs.Prelude.{◌≡◌, ℕ, ◌<◌, Option, Some, None, List, length}
use Rattle.std.specs.List.{Contains}
use Rattle.graph_walks.specs.Worlds.{Test, Ask, Edge, Fact}
use Rattle.stack_code.specs.declared.op.Op.{Op}
use Rattle.abstract_shapes.specs.declared.place.Place.{Place}
use Rattle.abstract_shapes.specs.Shapes.{Shape}
use Rattle.world_rules.specs.declared.row.TableEntry.{TableEntry}
use Rattle.world_rules.specs.declared.row.TransferRow.{TransferRow}
use Rattle.world_rules.specs.declared.transfer.SeatReading.{SeatReading}
use Rattle.world_rules.specs.Places.{Context, main, entry, called, Variable, slot, Point, at, below_top, target_of}
use Rattle.world_rules.specs.Sources.{Source}
use Rattle.world_rules.specs.Branches.{Branch, branch, fall_test}
use Rattle.world_rules.specs.Items.{Item, a_context, an_edge, a_fact, an_entry, variables}
use Rattle.world_rules.specs.Rows.{row_of}
use Rattle.world_rules.specs.Rules.{HasPlace, IsPoint, Stands, readings_at}

-- a called context is called at a point, and its function is one of the program's
abbrev pub IsContext : Source → Context → Type 0
IsContext s main = Unit {0}
IsContext s (entry f) = f < length s.program.codes
IsContext s (called c place depth f) = IsContext s c × HasPlace s c place depth × (f < length s.program.codes)

-- what an instruction at a point writes, reads, or asks
pub data IsVariable (s : Source) : Variable → Type 0 where
  is_written : {x : Variable} (p : Point) → IsPoint s p → target_of s.program p ≡ Some x → IsVariable s x
  is_read : {c : Context} {place depth : ℕ} {o : Op} {r : SeatReading} {x : Variable} →
      Stands s c place depth o → Contains (readings_at s c depth o) r → Contains (variables c r.seats) x → IsVariable s x
  is_asked : {c : Context} {place depth : ℕ} {o : Op} {b : Branch} → Stands s c place depth o → branch o ≡ Some b → IsVariable s (slot c (below_top depth 0))

-- the table that an instruction at a point stores to
pub data IsStoredTo (s : Source) : Place → Type 0 where
  stored : {c : Context} {place depth : ℕ} {o : Op} {r : SeatReading} (shapes : List Shape) (e : TableEntry) →
      Stands s c place depth o → Contains (readings_at s c depth o) r → Contains (row_of r.transfer shapes).entries e → IsStoredTo s e.place

abbrev pub AsksVariable : Source → Option (Ask Variable Shape) → Type 0
AsksVariable s None = Unit {0}
AsksVariable s (Some ask) = IsVariable s ask.var

pub record IsEdgeOf (s : Source) (e : Edge Point Variable Shape) : Type 0 where
  pub from : IsPoint s e.from
  pub to : IsPoint s e.to
  pub asks : AsksVariable s e.asks

pub record IsFactOf (s : Source) (f : Fact Point Variable Shape) : Type 0 where
  pub point : IsPoint s f.point
  pub target : Variable
  pub has_target : target_of s.program f.point ≡ Some target
  pub source : (x : Variable) (t : Shape) → f.source x ≡ Some t → IsVariable s x

abbrev pub IsOfProgram : Source → Item → Type 0
IsOfProgram s (a_context c) = IsContext s c
IsOfProgram s (an_edge e) = IsEdgeOf s e
IsOfProgram s (a_fact f) = IsFactOf s f
IsOfProgram s (an_entry place t) = IsStoredTo s place
