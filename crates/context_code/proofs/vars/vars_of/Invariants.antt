-- The numbers of the seats so far.
use Rattle.std.proofs.Common.{◌≡◌, Some, map, take, slice_get}
use Rattle.context_code.specs.Seats.{owned_spots}
use Rattle.context_code.proofs.vars.vars_of.Given as goal

abbrev pub invariant-loop-seat : goal.invariant-loop-seat
invariant-loop-seat l = map (slice_get l.tables.variables) l.vars ≡ map Some (owned_spots l.context (take l.seat-index l.seats))
