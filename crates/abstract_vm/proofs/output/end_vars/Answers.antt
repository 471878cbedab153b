use Rattle.std.proofs.Common.{sym, ◌∙◌}
use Rattle.goal_solver.proofs.Sets.{if_ok_map}
use Rattle.abstract_vm.proofs.OutputVars.{main_is}
use Rattle.abstract_vm.proofs.output.end_vars.Goals as goal

pub returns-in-None : goal.returns-in-None
returns-in-None c =
    if_ok_map c.globals.result _ _
    (λ vars all var. (λ h. (main_is _ (sym c.fun_of.ensures ∙ c.in-None.is), (all var).0 h), λ h. (all var).1 h.1)) c.globals.ensures
