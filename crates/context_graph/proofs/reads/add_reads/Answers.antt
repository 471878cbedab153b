use Rattle.context_graph.proofs.ReadSteps.{no_places_read, next_place_read, place_keeps, code_on}
use Rattle.context_graph.proofs.reads.add_reads.Goals as goal

pub loop-place-init : goal.loop-place-init
loop-place-init c = no_places_read c.args.program.now c.args.tables.now c.args.code.now c.args.context

pub loop-place-preserved : goal.loop-place-preserved
loop-place-preserved c =
    next_place_read c.args.program.now c.args.tables.now c.loop-place.tables c.add_reads_at.new.tables c.args.code.now c.args.context c.loop-place.place c.loop-place.invariant c.add_reads_at.ensures.keeps c.in_ok-add_reads_at.ensures.step c.in_ok-add_reads_at.ensures.reads

pub add_reads_at-requires : goal.add_reads_at-requires
add_reads_at-requires c = record { code = code_on c.args.program.now c.args.tables.now c.loop-place.tables c.args.context c.args.code.now c.loop-place.invariant.step.grown c.requires.code }

pub returns-in_err-add_reads_at-clause-keeps : goal.returns-in_err-add_reads_at-clause-keeps
returns-in_err-add_reads_at-clause-keeps c =
    place_keeps c.args.program.now c.args.tables.now c.loop-place.tables c.add_reads_at.new.tables c.args.code.now c.args.context c.loop-place.place c.loop-place.invariant c.add_reads_at.ensures.keeps
