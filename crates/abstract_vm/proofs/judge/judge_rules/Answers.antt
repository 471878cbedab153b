use Rattle.std.proofs.Common.{sym, subst, ◌∙◌, arith}
use Rattle.std.specs.List.{Contains}
use Rattle.abstract_vm.specs.Marks.{SaysToo, AnyTells}
use Rattle.abstract_vm.specs.Asking.{IsAsked, ReadingTells}
use Rattle.abstract_vm.proofs.Memory.{kept_on}
use Rattle.abstract_vm.proofs.Saying.{one_more_told, all_told}
use Rattle.abstract_vm.proofs.judge.judge_rules.Goals as goal

pub judge_reading-requires-clause-reading : goal.judge_reading-requires-clause-reading
judge_reading-requires-clause-reading g c =
    subst (λ rs. Contains rs c.reading-item.result) (c.as_slice-reading-items.ensures ∙ c.in_ok-readings.ensures) (c.loop-reading.reading-index, omega arith, sym c.reading-item.is)

pub loop-reading-preserved : goal.loop-reading-preserved
loop-reading-preserved g c = record {
  told = λ s known.
      one_more_told (ReadingTells s c.args.judging.now c.args.spot.now) c.as_slice-reading-items.result.now c.loop-reading.reading-index c.reading-item.result (omega arith) c.reading-item.is c.args.verdict.now c.loop-reading.verdict c.judge_reading.new.verdict
      (c.loop-reading.invariant.told s known)
      (c.in_ok-judge_reading.ensures.told s (subst (λ b. IsAsked s c.args.judging.now b c.args.spot.now) (sym c.loop-reading.invariant.kept.budget) known));
  kept = kept_on c.args.judging.now.tables.now.graph c.args.solver.now c.loop-reading.solver c.judge_reading.new.solver c.loop-reading.invariant.kept c.in_ok-judge_reading.ensures.kept;
}

pub returns-clause-told : goal.returns-clause-told
returns-clause-told g c = λ s known.
    subst (λ rs. SaysToo (AnyTells (ReadingTells s c.args.judging.now c.args.spot.now) rs) c.args.verdict.now c.loop-reading.verdict) (c.as_slice-reading-items.ensures ∙ c.in_ok-readings.ensures)
    (all_told (ReadingTells s c.args.judging.now c.args.spot.now) c.as_slice-reading-items.result.now c.loop-reading.reading-index (omega arith) c.args.verdict.now c.loop-reading.verdict (c.loop-reading.invariant.told s known))
