-- The variables that seats are, by the numbers of contexts.
use Rattle.std.specs.Prelude.{ℕ, List, map}
use Rattle.std.specs.List.{Contains}
use Rattle.world_rules.specs.declared.seat.OwnedSeat.{OwnedSeat}
use Rattle.world_rules.specs.declared.seat.Seat.{Seat}
use Rattle.world_rules.specs.declared.seat.Seat.TheVariants as seat
use Rattle.world_rules.specs.declared.seat.SeatOwner.{SeatOwner}
use Rattle.world_rules.specs.declared.seat.SeatOwner.TheVariants.{Own}
use Rattle.world_tables.specs.declared.spot.VariableSpot.{VariableSpot}
use Rattle.world_tables.specs.declared.spot.VariableSpot.TheVariants.{Local, Slot, Global}

-- the variable that a seat of a context is
abbrev pub spot_of : (context : ℕ) → Seat → VariableSpot
spot_of c (seat.Local i) = Local c i
spot_of c (seat.Slot i) = Slot c i
spot_of c (seat.Global n) = Global n

-- whose seat it is, for an instruction of a context
abbrev pub owner_of : (context : ℕ) → SeatOwner → ℕ
owner_of c Own = c

abbrev pub owned_spot : (context : ℕ) → OwnedSeat → VariableSpot
owned_spot c s = spot_of (owner_of c s.owner) s.seat

abbrev pub owned_spots : (context : ℕ) → List OwnedSeat → List VariableSpot
owned_spots c seats = map (owned_spot c) seats

-- one of the spots is no variable
pub record IsOneMissing (variables spots : List VariableSpot) : Type 0 where
  pub spot : VariableSpot
  pub asked : Contains spots spot
  pub missing : Contains variables spot → ⊥
