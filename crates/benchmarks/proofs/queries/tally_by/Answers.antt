use Rattle.benchmarks.proofs.queries.tally_by.Goals as goal

pub loop-number-init : goal.loop-number-init
loop-number-init g c = c.before.new-solver.ensures.sound _

pub tell-requires : goal.tell-requires
tell-requires g c = c.loop-number.invariant

pub loop-number-preserved : goal.loop-number-preserved
loop-number-preserved g c = c.tell.ensures
