-- Where points stand, and which variables seats are, by the numbers of contexts.
use Rattle.std.specs.Prelude.{◌≡◌, ℕ, Some, slice_get}
use Rattle.flow_graph.specs.declared.context.Context.{Context as ContextRow}
use Rattle.world_rules.specs.declared.seat.Seat.{Seat}
use Rattle.world_rules.specs.declared.seat.Seat.TheVariants as seat
use Rattle.world_tables.specs.declared.spot.PointSpot.{PointSpot}
use Rattle.world_tables.specs.declared.spot.VariableSpot.{VariableSpot}
use Rattle.world_tables.specs.declared.spot.VariableSpot.TheVariants.{Local, Slot, Global}
use Rattle.world_tables.specs.Rows.{WorldRows}
use Rattle.abstract_vm.specs.declared.spot.Spot.{Spot}

-- the context and the place of a point, and the function of its context
pub record IsSpotOf (rows : WorldRows) (point : ℕ) (spot : Spot) : Type 0 where
  pub at : PointSpot
  pub row : ContextRow
  pub stands : slice_get rows.points point ≡ Some at
  pub is_context : slice_get rows.graph.flow.contexts at.context ≡ Some row
  pub told : spot ≡ record { context = at.context; fun = row.fun; place = at.place }

-- the variable that a seat of a context is
abbrev pub seat_spot : (context : ℕ) → Seat → VariableSpot
seat_spot c (seat.Local i) = Local c i
seat_spot c (seat.Slot i) = Slot c i
seat_spot c (seat.Global n) = Global n
