use Rattle.std.proofs.Common.{length, refl, sym, subst, ◌∙◌}
use Rattle.std.proofs.lemmas.Option.{slice_get_read}
use Rattle.context_code.specs.Seats.{owned_spots}
use Rattle.context_graph.specs.Worlds.{AreUsed, AreKnown}
use Rattle.context_graph.proofs.Lists.{take_all}
use Rattle.context_graph.proofs.Parts.{there_stays}
use Rattle.context_graph.proofs.ReadSteps.{no_readings, next_reading, reading_keeps, all_readings}
use Rattle.context_graph.proofs.reads.add_read.Goals as goal

pub loop-reading-init : goal.loop-reading-init
loop-reading-init c = no_readings c.args.program.now c.args.tables.now c.args.at.now c.as_slice-reading-items.result.now

pub loop-reading-preserved : goal.loop-reading-preserved
loop-reading-preserved c =
    next_reading c.args.program.now c.args.tables.now c.loop-reading.tables c.add_seats.new.tables c.args.at.now c.as_slice-reading-items.result.now c.loop-reading.reading-index c.reading-item.result
    c.kept.ensures.kept c.requires.place (c.as_slice-reading-items.ensures ∙ c.in_ok-readings.ensures) c.loop-reading.invariant
    (slice_get_read c.as_slice-reading-items.result.now (length c.as_slice-reading-items.result.now) c.loop-reading.reading-index c.reading-item.result refl c.loop-reading-test.true c.reading-item.is)
    (λ s a used. c.add_seats.ensures.keeps s a (subst (λ xs. AreUsed s c.loop-reading.tables (owned_spots c.args.at.now.context xs)) (sym c.as_slice.ensures) used))
    c.in_ok-add_seats.ensures.step
    (subst (λ xs. AreKnown c.add_seats.new.tables (owned_spots c.args.at.now.context xs)) c.as_slice.ensures c.in_ok-add_seats.ensures.known)

pub add_seats-requires : goal.add_seats-requires
add_seats-requires c = record { there = there_stays c.args.tables.now c.loop-reading.tables c.loop-reading.invariant.step.grown c.args.at.now.context c.requires.place.is_code.there }

pub returns-in_err-add_seats-clause-keeps : goal.returns-in_err-add_seats-clause-keeps
returns-in_err-add_seats-clause-keeps c =
    reading_keeps c.args.program.now c.args.tables.now c.loop-reading.tables c.add_seats.new.tables c.args.at.now c.as_slice-reading-items.result.now c.loop-reading.reading-index c.reading-item.result
    c.kept.ensures.kept c.requires.place (c.as_slice-reading-items.ensures ∙ c.in_ok-readings.ensures) c.loop-reading.invariant
    (slice_get_read c.as_slice-reading-items.result.now (length c.as_slice-reading-items.result.now) c.loop-reading.reading-index c.reading-item.result refl c.loop-reading-test.true c.reading-item.is)
    (λ s a used. c.add_seats.ensures.keeps s a (subst (λ xs. AreUsed s c.loop-reading.tables (owned_spots c.args.at.now.context xs)) (sym c.as_slice.ensures) used))

pub returns-clause-reads : goal.returns-clause-reads
returns-clause-reads c =
    all_readings c.args.program.now c.args.tables.now c.loop-reading.tables c.args.at.now c.as_slice-reading-items.result.now c.loop-reading.reading-index (c.as_slice-reading-items.ensures ∙ c.in_ok-readings.ensures) c.loop-reading.invariant
    (take_all c.loop-reading.reading-index c.as_slice-reading-items.result.now c.loop-reading-test.false)
