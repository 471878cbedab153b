use Rattle.std.proofs.Common.{sym, subst}
use Rattle.abstract_vm.specs.Asking.{IsAsked, RulesTell, OutputTells}
use Rattle.abstract_vm.proofs.Saying.{on_ok, both_more}
use Rattle.abstract_vm.proofs.judge.judge_spot.Goals as goal

pub returns-clause-told : goal.returns-clause-told
returns-clause-told g c = λ s known.
    on_ok c.judge_output.result _ _
    (both_more (RulesTell s c.args.judging.now c.args.spot.now) (OutputTells s c.args.judging.now c.args.spot.now) c.args.verdict.now c.judge_rules.new.verdict c.judge_output.new.verdict (c.in_ok-judge_rules.ensures.told s known))
    (c.judge_output.ensures.told s (subst (λ b. IsAsked s c.args.judging.now b c.args.spot.now) (sym c.in_ok-judge_rules.ensures.kept.budget) known))
