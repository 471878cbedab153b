-- The places of a context's code, and what they have among the tables.
use Rattle.std.specs.Prelude.{◌≡◌, ◌⊎◌, ℕ, suc, ◌<◌, true, false, Some, List, length, slice_get}
use Rattle.std.specs.List.{Contains}
use Rattle.graph_walks.specs.Worlds.{Edge}
use Rattle.stack_code.specs.declared.code.Code.{Code}
use Rattle.stack_code.specs.declared.op.Op.{Op}
use Rattle.stack_code.specs.Depths.{HasDepth}
use Rattle.stack_code.specs.Effects.{falls, depth_after, depth_at_goal}
use Rattle.abstract_shapes.specs.Shapes.{Shape}
use Rattle.program_tables.specs.Programs.{Compiled}
use Rattle.world_rules.specs.declared.transfer.SeatReading.{SeatReading}
use Rattle.world_rules.specs.Places.{Context, Variable, Point, at, code_of}
use Rattle.world_rules.specs.Sources.{Source}
use Rattle.world_rules.specs.Items.{an_edge}
use Rattle.world_rules.specs.Branches.{Branch, branch, is_call}
use Rattle.world_rules.specs.Rules.{HasPlace, IsPoint, Stands, Leads, fall_edge, jump_edge}
use Rattle.world_tables.specs.declared.spot.PointSpot.{PointSpot}
use Rattle.world_tables.specs.declared.spot.VariableSpot.{VariableSpot}
use Rattle.world_tables.specs.Tables.{Tables, items_of}
use Rattle.world_tables.specs.Rows.{WorldRows, contexts_of, the_context, IsBefore}
use Rattle.context_code.specs.Readings.{readings_of}
use Rattle.context_code.specs.Seats.{owned_spots}

-- the context is there, and this is its code
pub record IsCodeOf (compiled : Compiled) (rows : WorldRows) (context : ℕ) (code : Code) : Type 0 where
  pub there : context < length rows.graph.flow.contexts
  pub of : code_of compiled.program (the_context (contexts_of rows) context) ≡ Some code

-- the spot of a place of the code with a depth
pub record IsSpotAt (code : Code) (context place : ℕ) (spot : PointSpot) : Type 0 where
  pub context_is : spot.context ≡ context
  pub place_is : spot.place ≡ place
  pub has_depth : HasDepth code place spot.depth

-- the spot is one of the context's places
pub record IsPlaceOf (compiled : Compiled) (rows : WorldRows) (spot : PointSpot) : Type 0 where
  pub code : Code
  pub is_code : IsCodeOf compiled rows spot.context code
  pub has_depth : HasDepth code spot.place spot.depth

-- the instruction at a spot, by the code of its context
pub record IsOpOf (s : Source) (rows : WorldRows) (code : Code) (spot : PointSpot) (o : Op) : Type 0 where
  pub of : code_of s.program (the_context (contexts_of rows) spot.context) ≡ Some code
  pub op : slice_get code.ops spot.place ≡ Some o
  pub has_depth : HasDepth code spot.place spot.depth

-- the number of the point at a place of the code
pub record IsPointAt (code : Code) (rows : WorldRows) (context place id : ℕ) : Type 0 where
  pub spot : PointSpot
  pub is_spot : IsSpotAt code context place spot
  pub number : slice_get rows.points id ≡ Some spot

-- each point comes before this one, or is it
pub record IsLast (spots : List PointSpot) (last : PointSpot) : Type 0 where
  pub each : (other : PointSpot) → Contains spots other → (other ≡ last) ⊎ IsBefore other last
  pub is : Contains spots last

-- ---- what places have

-- a place has one depth alone
pub record HaveOneDepth (s : Source) (c : Context) : Type 0 where
  pub agree : (place one other : ℕ) → HasPlace s c place one → HasPlace s c place other → one ≡ other

-- each place before this one that has a depth is a point
pub record HavePoints (s : Source) (t : Tables) (c : Context) (place : ℕ) : Type 0 where
  pub each : (earlier depth : ℕ) → earlier < place → IsPoint s (at c earlier depth) → Contains t.points (at c earlier depth)

-- what the instruction at a spot reads are variables
pub record HasReads (compiled : Compiled) (rows : WorldRows) (spot : PointSpot) : Type 0 where
  pub each : (reading : SeatReading) (variable : VariableSpot) → Contains (readings_of compiled (contexts_of rows) spot) reading →
      Contains (owned_spots spot.context reading.seats) variable → Contains rows.variables variable

pub record HaveReads (compiled : Compiled) (rows : WorldRows) (code : Code) (context place : ℕ) : Type 0 where
  pub each : (spot : PointSpot) → IsSpotAt code context spot.place spot → spot.place < place → HasReads compiled rows spot

-- the edge to the next place is there, and the edge to where it jumps, as far as these are points
abbrev pub HasFall : Source → Tables → Context → (place depth : ℕ) → Op → Type 0
HasFall s t c place depth o =
    falls o ≡ true → is_call o ≡ false → IsPoint s (at c (suc place) (depth_after o depth)) → Contains (items_of t) (an_edge (fall_edge c place depth o))

abbrev pub HasJump : Source → Tables → Context → (place depth : ℕ) → Op → Type 0
HasJump s t c place depth o =
    (b : Branch) → branch o ≡ Some b → IsPoint s (at c b.goal (depth_at_goal o depth)) → Contains (items_of t) (an_edge (jump_edge c place depth o b))

-- the instruction at a place has its edges
pub record HasEdges (s : Source) (t : Tables) (c : Context) (place : ℕ) : Type 0 where
  pub each : (depth : ℕ) (o : Op) (e : Edge Point Variable Shape) → Stands s c place depth o → Leads c place depth o e → IsPoint s e.to → Contains (items_of t) (an_edge e)

pub record HaveEdges (s : Source) (t : Tables) (c : Context) (place : ℕ) : Type 0 where
  pub each : (earlier : ℕ) → earlier < place → HasEdges s t c earlier
