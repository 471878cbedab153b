use Rattle.std.proofs.Common.{subst, arith}
use Rattle.abstract_vm.specs.Marks.{SaysToo}
use Rattle.abstract_vm.specs.Telling.{asked, VarWeighs}
use Rattle.abstract_vm.proofs.Memory.{kept_on}
use Rattle.abstract_vm.proofs.Saying.{one_more_told}
use Rattle.abstract_vm.proofs.tell.weigh_vars.Goals as goal

pub loop-var-preserved : goal.loop-var-preserved
loop-var-preserved g c = record {
  told = one_more_told (VarWeighs (asked c.args.judging.now c.args.solver.now.budget)) c.args.vars.now c.loop-var.var-index c.var-item.result (omega arith) c.var-item.is c.args.verdict.now c.loop-var.verdict c.weigh_var.new.verdict c.loop-var.invariant.told
      (subst (λ b. SaysToo (VarWeighs (asked c.args.judging.now b) c.var-item.result) c.loop-var.verdict c.weigh_var.new.verdict) c.loop-var.invariant.kept.budget c.in_ok-weigh_var.ensures.told);
  kept = kept_on c.args.judging.now.tables.now.graph c.args.solver.now c.loop-var.solver c.weigh_var.new.solver c.loop-var.invariant.kept c.in_ok-weigh_var.ensures.kept;
}
