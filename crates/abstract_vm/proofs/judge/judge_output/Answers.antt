use Rattle.std.proofs.Common.{sym, subst}
use Rattle.abstract_vm.specs.Marks.{SaysToo, AnyTells}
use Rattle.abstract_vm.specs.Telling.{asked, VarWeighs}
use Rattle.abstract_vm.specs.Asking.{IsAsked}
use Rattle.abstract_vm.proofs.Saying.{on_ok}
use Rattle.abstract_vm.proofs.Outputs.{output_more}
use Rattle.abstract_vm.proofs.judge.judge_output.Goals as goal

pub returns-clause-told : goal.returns-clause-told
returns-clause-told g c = λ s known.
    on_ok c.weigh_vars.result _ _
    (λ t. output_more s c.args.judging.now c.args.spot.now (subst (λ b. IsAsked s c.args.judging.now b c.args.spot.now) (sym known.budget_is) known) c.in_ok-vars.vars (c.in_ok-vars.ensures s c.args.solver.now.budget known)
    c.args.verdict.now c.weigh_vars.new.verdict
    (subst (λ b. SaysToo (AnyTells (VarWeighs (asked c.args.judging.now b)) c.in_ok-vars.vars) c.args.verdict.now c.weigh_vars.new.verdict) (sym known.budget_is)
    (subst (λ vars. SaysToo (AnyTells (VarWeighs (asked c.args.judging.now c.args.solver.now.budget)) vars) c.args.verdict.now c.weigh_vars.new.verdict) c.as_slice.ensures t)))
    c.weigh_vars.ensures.told
