use Rattle.std.proofs.Common.{List, ℕ}
use Rattle.type_terms.specs.StubSets.{given}
use Rattle.infer_driver.proofs.Telling.{solved, solved_further, solved_world, told_then}
use Rattle.infer_driver.proofs.tell.tell.Goals as goal

pub judge-requires-clause-world : goal.judge-requires-clause-world
judge-requires-clause-world g c = solved_world c.args.program.now (given c.args.stubs.now) c.args.depth c.args.world.now c.loop-number.world c.loop-number.invariant.1 c.requires

pub loop-number-preserved : goal.loop-number-preserved
loop-number-preserved g c = (
  told_then c.args.program.now (given c.args.stubs.now) c.args.depth c.args.world.now c.loop-number.world c.loop-number.invariant.1 c.loop-number.number c.new-point.result c.new-point.ensures
      c.line_at-line.result c.in_ok-verdict.verdict c.loop-number.told c.add_verdict.new.told (c.line_at-line.ensures (given c.args.stubs.now) c.args.depth) c.in_ok-verdict.ensures.judged c.in_ok-add_verdict.ensures c.loop-number.invariant.0,
  solved_further c.args.world.now c.loop-number.world c.judge.new.self c.loop-number.invariant.1 (solved c.loop-number.world c.judge.new.self c.judge.ensures.same c.judge.ensures.budget),
)
