-- What seats are as variables.
use Rattle.std.proofs.Common.{◌≡◌, ℕ, List, [], ◌∷◌, map, refl}
use Rattle.world_rules.specs.declared.seat.OwnedSeat.{OwnedSeat}
use Rattle.world_rules.specs.declared.seat.Seat.{Seat}
use Rattle.world_rules.specs.declared.seat.Seat.TheVariants as seat
use Rattle.world_rules.specs.declared.seat.SeatOwner.{SeatOwner}
use Rattle.world_rules.specs.declared.seat.SeatOwner.TheVariants.{Own}
use Rattle.world_rules.specs.Places as places
use Rattle.world_rules.specs.Places.{Context, owner, variable_at}
use Rattle.world_rules.specs.Items.{variables}
use Rattle.world_tables.specs.Rows.{the_context, variable_of}
use Rattle.context_code.specs.Seats.{spot_of, owner_of, owned_spot, owned_spots}

pub seat_stands : (contexts : List Context) (context : ℕ) (s : Seat) → variable_of contexts (spot_of context s) ≡ variable_at (the_context contexts context) s
seat_stands contexts context (seat.Local i) = refl
seat_stands contexts context (seat.Slot i) = refl
seat_stands contexts context (seat.Global n) = refl

pub owned_stands : (contexts : List Context) (context : ℕ) (s : OwnedSeat) → variable_of contexts (owned_spot context s) ≡ places.variable_of (the_context contexts context) s
owned_stands contexts context s = go s.owner
  where
    go : (o : SeatOwner) → variable_of contexts (spot_of (owner_of context o) s.seat) ≡ variable_at (owner (the_context contexts context) o) s.seat
    go Own = seat_stands contexts context s.seat

pub all_stand : (contexts : List Context) (context : ℕ) (seats : List OwnedSeat) → map (variable_of contexts) (owned_spots context seats) ≡ variables (the_context contexts context) seats
all_stand contexts context [] = refl
all_stand contexts context (s ∷ seats) = λ i. owned_stands contexts context s i ∷ all_stand contexts context seats i
