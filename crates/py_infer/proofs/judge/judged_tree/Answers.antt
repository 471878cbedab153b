-- What the first broken rule tells of the tree.
use Rattle.std.proofs.Common.{sym, ◌∙◌}
use Rattle.py_tree.specs.View.{module_view}
use Rattle.py_infer.proofs.Judged.{none_broken, rule_broken}
use Rattle.py_infer.proofs.judge.judged_tree.Goals as goal

pub judged_forms-requires : goal.judged_forms-requires
judged_forms-requires c = none_broken (module_view c.args.module.now) (sym c.in-None.is ∙ c.in_ok-fault.ensures)

pub returns-in_ok-scope_report-in-Some : goal.returns-in_ok-scope_report-in-Some
returns-in_ok-scope_report-in-Some c =
    rule_broken (module_view c.args.module.now) c.in-Some.fault _ (sym c.in-Some.is ∙ c.in_ok-fault.ensures) c.in_ok-scope_report-in-Some.ensures.said
