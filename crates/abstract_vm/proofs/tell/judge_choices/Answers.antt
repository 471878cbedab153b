use Rattle.std.proofs.Common.{◌↔◌, ℕ, List, sym, subst, arith}
use Rattle.std.specs.List.{Contains}
use Rattle.typegraph.specs.Graphs.{GraphTables}
use Rattle.graph_queries.specs.Choices.{AreGiven}
use Rattle.abstract_vm.specs.Marks.{SaysToo, AnyTells}
use Rattle.abstract_vm.specs.Telling.{asked, IdsTell}
use Rattle.abstract_vm.proofs.Memory.{kept_on}
use Rattle.abstract_vm.proofs.Saying.{one_more_told, all_told}
use Rattle.abstract_vm.proofs.Choosing.{choices_more}
use Rattle.abstract_vm.proofs.tell.judge_choices.Goals as goal

pub judge_choice-requires-clause-given : goal.judge_choice-requires-clause-given
judge_choice-requires-clause-given g c =
    subst (λ (gr : GraphTables). AreGiven gr c.args.vars.now c.as_slice.result.now) c.graph.ensures.graph
    (subst (AreGiven c.graph.result.now c.args.vars.now) (sym c.as_slice.ensures)
    ((c.in_ok-chosen.ensures c.choice-item.result).0 (subst (λ xs. Contains xs c.choice-item.result) c.as_slice-choice-items.ensures (c.loop-choice.choice-index, omega arith, sym c.choice-item.is))))

pub loop-choice-preserved : goal.loop-choice-preserved
loop-choice-preserved g c = record {
  told = one_more_told (IdsTell (asked c.args.judging.now c.args.solver.now.budget) c.args.transfer.now c.args.vars.now) c.as_slice-choice-items.result.now c.loop-choice.choice-index c.choice-item.result (omega arith) c.choice-item.is c.args.verdict.now c.loop-choice.verdict c.judge_choice.new.verdict c.loop-choice.invariant.told
      (subst (λ ids. SaysToo (IdsTell (asked c.args.judging.now c.args.solver.now.budget) c.args.transfer.now c.args.vars.now ids) c.loop-choice.verdict c.judge_choice.new.verdict) c.as_slice.ensures
      (subst (λ b. SaysToo (IdsTell (asked c.args.judging.now b) c.args.transfer.now c.args.vars.now c.as_slice.result.now) c.loop-choice.verdict c.judge_choice.new.verdict) c.loop-choice.invariant.kept.budget c.in_ok-judge_choice.ensures.told));
  kept = kept_on c.args.judging.now.tables.now.graph c.args.solver.now c.loop-choice.solver c.judge_choice.new.solver c.loop-choice.invariant.kept c.in_ok-judge_choice.ensures.kept;
}

pub returns-clause-told : goal.returns-clause-told
returns-clause-told g c =
    choices_more (asked c.args.judging.now c.args.solver.now.budget) c.args.transfer.now c.args.vars.now c.in_ok-chosen.chosen
    (subst (λ (gr : GraphTables). (ids : List ℕ) → Contains c.in_ok-chosen.chosen ids ↔ AreGiven gr c.args.vars.now ids) c.graph.ensures.graph c.in_ok-chosen.ensures) c.args.verdict.now c.loop-choice.verdict
    (subst (λ xs. SaysToo (AnyTells (IdsTell (asked c.args.judging.now c.args.solver.now.budget) c.args.transfer.now c.args.vars.now) xs) c.args.verdict.now c.loop-choice.verdict) c.as_slice-choice-items.ensures
    (all_told (IdsTell (asked c.args.judging.now c.args.solver.now.budget) c.args.transfer.now c.args.vars.now) c.as_slice-choice-items.result.now c.loop-choice.choice-index (omega arith) c.args.verdict.now c.loop-choice.verdict c.loop-choice.invariant.told))
