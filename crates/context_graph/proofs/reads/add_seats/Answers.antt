use Rattle.std.proofs.Common.{length, refl, sym, subst}
use Rattle.std.specs.List.{Contains}
use Rattle.std.proofs.lemmas.Option.{slice_get_read}
use Rattle.graph_walks.proofs.Lists.{got}
use Rattle.world_tables.specs.Tables.{IsUsedIn}
use Rattle.world_tables.specs.Rows.{contexts_of, variable_of}
use Rattle.context_code.specs.Seats.{owned_spots}
use Rattle.context_graph.proofs.Lists.{take_all}
use Rattle.context_graph.proofs.Parts.{there_stays}
use Rattle.context_graph.proofs.ReadSteps.{no_seats, next_seat, seat_refused}
use Rattle.context_graph.proofs.reads.add_seats.Goals as goal

pub loop-seat-init : goal.loop-seat-init
loop-seat-init c = no_seats c.args.tables.now c.args.context c.args.seats.now

pub loop-seat-preserved : goal.loop-seat-preserved
loop-seat-preserved c =
    next_seat c.args.tables.now c.loop-seat.tables c.add_variable.new.tables c.args.context c.args.seats.now c.loop-seat.seat-index c.seat-item.result c.loop-seat.invariant
    (slice_get_read c.args.seats.now (length c.args.seats.now) c.loop-seat.seat-index c.seat-item.result refl c.loop-seat-test.true c.seat-item.is)
    c.in_ok-_var.ensures.step
    (λ s a used. c.add_variable.ensures.keeps s c.args.context a (subst (λ v. IsUsedIn s (contexts_of c.loop-seat.tables) (variable_of (contexts_of c.loop-seat.tables) v)) (sym c.owned_spot.ensures.is) used))
    (subst (λ v. Contains c.add_variable.new.tables.variables v) c.owned_spot.ensures.is (got c.add_variable.new.tables.variables c.in_ok-_var._var c.owned_spot.result c.in_ok-_var.ensures.numbered))

pub add_variable-requires : goal.add_variable-requires
add_variable-requires c =
    record { there = c.owned_spot.ensures.there (length c.loop-seat.tables.graph.flow.contexts) (there_stays c.args.tables.now c.loop-seat.tables c.loop-seat.invariant.step.grown c.args.context c.requires.there) }

pub returns-in_err-_var-clause-keeps : goal.returns-in_err-_var-clause-keeps
returns-in_err-_var-clause-keeps c = λ s a used.
    seat_refused s c.args.tables.now c.loop-seat.tables c.add_variable.new.tables c.args.context c.args.seats.now c.loop-seat.seat-index c.seat-item.result c.loop-seat.invariant
    (slice_get_read c.args.seats.now (length c.args.seats.now) c.loop-seat.seat-index c.seat-item.result refl c.loop-seat-test.true c.seat-item.is)
    (λ s a used. c.add_variable.ensures.keeps s c.args.context a (subst (λ v. IsUsedIn s (contexts_of c.loop-seat.tables) (variable_of (contexts_of c.loop-seat.tables) v)) (sym c.owned_spot.ensures.is) used))
    a used

pub returns-clause-known : goal.returns-clause-known
returns-clause-known c =
    record { each = λ spot k. c.loop-seat.invariant.known spot (subst (λ xs. Contains (owned_spots c.args.context xs) spot) (sym (take_all c.loop-seat.seat-index c.args.seats.now c.loop-seat-test.false)) k) }
