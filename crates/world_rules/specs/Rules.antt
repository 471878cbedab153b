-- The rules of a world, the worlds that are closed under them, and the least one.
use Rattle.std.specs.Prelude.{◌≡◌, ◌≢◌, ℕ, suc, ◌<◌, true, false, Option, Some, List, length, slice_get}
use Rattle.std.specs.List.{Contains, AllPairs}
use Rattle.graph_walks.specs.Worlds.{Memory, Edge}
use Rattle.graph_walks.specs.Backs.{Seen}
use Rattle.stack_code.specs.declared.code.Code.{Code}
use Rattle.stack_code.specs.declared.op.Op.{Op}
use Rattle.stack_code.specs.Depths.{HasDepth}
use Rattle.stack_code.specs.Effects.{falls, depth_after, depth_at_goal}
use Rattle.abstract_shapes.specs.declared.place.Place.{Place}
use Rattle.abstract_shapes.specs.Shapes.{Shape}
use Rattle.world_rules.specs.declared.row.TableEntry.{TableEntry}
use Rattle.world_rules.specs.declared.row.TransferRow.{TransferRow}
use Rattle.world_rules.specs.declared.row.Yield.{Yield}
use Rattle.world_rules.specs.declared.row.Yield.TheVariants as yields
use Rattle.world_rules.specs.declared.transfer.SeatReading.{SeatReading}
use Rattle.world_rules.specs.Places.{Context, main, Variable, Point, at, thread_of, code_of}
use Rattle.world_rules.specs.Sources.{Source}
use Rattle.world_rules.specs.Branches.{Branch, branch, fall_test, ask_top, is_call}
use Rattle.world_rules.specs.Items.{Item, a_context, an_edge, a_fact, an_entry, map_of, Agree, variables, world_of}
use Rattle.world_rules.specs.Readings.{readings}
use Rattle.world_rules.specs.Rows.{row_of, asks, made}

-- ---- points and instructions

-- a place of a context's code, with a depth that it has there
pub record HasPlace (s : Source) (c : Context) (place depth : ℕ) : Type 0 where
  pub code : Code
  pub of : code_of s.program c ≡ Some code
  pub has_depth : HasDepth code place depth

abbrev pub IsPoint : Source → Point → Type 0
IsPoint s (at c place depth) = HasPlace s c place depth

-- an instruction of a context, and the depth that it has there
pub record Stands (s : Source) (c : Context) (place depth : ℕ) (o : Op) : Type 0 where
  pub code : Code
  pub of : code_of s.program c ≡ Some code
  pub op : slice_get code.ops place ≡ Some o
  pub has_depth : HasDepth code place depth

abbrev pub readings_at : Source → Context → (depth : ℕ) → Op → List SeatReading
readings_at s c depth o = readings s.program s.scopes (thread_of c) depth o

-- ---- edges within a context

abbrev pub fall_edge : Context → (place depth : ℕ) → Op → Edge Point Variable Shape
fall_edge c place depth o = record { from = at c place depth; to = at c (suc place) (depth_after o depth); assigns = true; asks = ask_top c depth (fall_test o) }

abbrev pub jump_edge : Context → (place depth : ℕ) → Op → Branch → Edge Point Variable Shape
jump_edge c place depth o b = record { from = at c place depth; to = at c b.goal (depth_at_goal o depth); assigns = false; asks = ask_top c depth b.on_jump }

-- an instruction goes on to the next place, which assigns its target, and jumps, which assigns nothing
pub data Leads (c : Context) (place depth : ℕ) (o : Op) : Edge Point Variable Shape → Type 0 where
  on : falls o ≡ true → is_call o ≡ false → Leads c place depth o (fall_edge c place depth o)
  off : {b : Branch} → branch o ≡ Some b → Leads c place depth o (jump_edge c place depth o b)

-- ---- what the rules give

module _ (s : Source) (items : List Item) where
  abbrev pub IsSeen : Point → Memory Variable Shape → Type 0
  IsSeen p goals = Seen (world_of s items) p goals s.budget

  -- the shapes that a rule gives: one of those that are read, one without parts, or each of a joined table
  pub data Yields (shapes : List Shape) : Yield → Shape → Type 0 where
    it : {y : Yield} {t : Shape} → made shapes y ≡ Some t → Yields shapes y t
    one : {place : Place} {t : Shape} → Contains items (an_entry place t) → Yields shapes (yields.Each place) t

  -- an instruction of a context of the world, one of its readings, and shapes for its seats that are looked at together and seen there
  pub record Fires (c : Context) (place depth : ℕ) (reading : SeatReading) (shapes : List Shape) : Type 0 where
    pub context : Contains items (a_context c)
    pub op : Op
    pub stands : Stands s c place depth op
    pub is_reading : Contains (readings_at s c depth op) reading
    pub asked : asks reading.transfer shapes ≡ true
    pub agree : Agree (variables c reading.seats) shapes (map_of (variables c reading.seats) shapes)
    pub seen : IsSeen (at c place depth) (map_of (variables c reading.seats) shapes)

  -- what the rules of one point give: its target's shapes, whose source set is what was read, and entries of joined tables
  pub data GivesAt : Point → Item → Type 0 where
    result : {c : Context} {place depth : ℕ} {r : SeatReading} {t : Shape} (shapes : List Shape) (y : Yield) →
        Fires c place depth r shapes → Contains (row_of r.transfer shapes).results y → Yields shapes y t →
        GivesAt (at c place depth) (a_fact (record { point = at c place depth; shape = t; source = map_of (variables c r.seats) shapes }))
    enter : {c : Context} {place depth : ℕ} {r : SeatReading} {t : Shape} (shapes : List Shape) (e : TableEntry) →
        Fires c place depth r shapes → Contains (row_of r.transfer shapes).entries e → Yields shapes e.given t →
        GivesAt (at c place depth) (an_entry e.place t)

  -- the module's context is in every world; a context has its edges between points; and what the rules of a point give
  pub data Gives : Item → Type 0 where
    of_module : Gives (a_context main)
    leads : {c : Context} {place depth : ℕ} {o : Op} {e : Edge Point Variable Shape} →
        Contains items (a_context c) → Stands s c place depth o → Leads c place depth o e → IsPoint s e.to → Gives (an_edge e)
    of_point : {p : Point} {i : Item} → GivesAt p i → Gives i

  pub record IsClosed : Type 0 where
    pub has : (i : Item) → Gives i → Contains items i

-- ---- the least world

pub record IsContained (items more : List Item) : Type 0 where
  pub at : (i : Item) → Contains items i → Contains more i

-- built by the rules: some items that were built give it
pub data IsDerived (s : Source) : Item → Type 0 where
  derived : {i : Item} (items : List Item) → ((j : Item) → Contains items j → IsDerived s j) → Gives s items i → IsDerived s i

pub record AreDerived (s : Source) (items : List Item) : Type 0 where
  pub each : (i : Item) → Contains items i → IsDerived s i

-- the closed world that is contained in each closed world
pub record IsLeast (s : Source) (items : List Item) : Type 0 where
  pub closed : IsClosed s items
  pub least : (other : List Item) → IsClosed s other → IsContained items other

-- each item counted once, the least world has more items than the limit
pub record IsLarger (s : Source) (limit : ℕ) : Type 0 where
  pub items : List Item
  pub apart : AllPairs (λ i j. i ≢ j) items
  pub derived : AreDerived s items
  pub many : limit < length items
