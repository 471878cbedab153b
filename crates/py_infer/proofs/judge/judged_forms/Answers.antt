-- Where no line is found, each form is built.
use Rattle.std.proofs.Common.{sym, ap, ◌∙◌}
use Rattle.built_forms.specs.Unbuilt.{unbuilt}
use Rattle.py_tree.specs.View.{module_view}
use Rattle.pyi_write.specs.Layout.{stub_text}
use Rattle.py_infer.specs.Reports.{for_form}
use Rattle.py_infer.proofs.Judged.{none_of_least, stub_of_tree}
use Rattle.py_infer.proofs.judge.judged_forms.Goals as goal

pub types_of-requires : goal.types_of-requires
types_of-requires c = none_of_least (unbuilt (module_view c.args.module.now)) (sym c.in-None.is ∙ c.in_ok-line.ensures)

pub returns-in_ok-line_report-in-Some : goal.returns-in_ok-line_report-in-Some
returns-in_ok-line_report-in-Some c = for_form c.in-Some.line c.requires (sym c.in_ok-line.ensures ∙ c.in-Some.is) (rw c.number.ensures at c.in_ok-line_report-in-Some.ensures)

pub returns-in_ok-stub_text-in-None : goal.returns-in_ok-stub_text-in-None
returns-in_ok-stub_text-in-None c =
    stub_of_tree (module_view c.args.module.now) c.in_ok-types-in-None.types _ c.requires
    (none_of_least (unbuilt (module_view c.args.module.now)) (sym c.in-None.is ∙ c.in_ok-line.ensures)) c.in_ok-types-in-None.ensures (c.in_ok-stub_text-in-None.ensures ∙ ap stub_text c.in_ok-stub-in-None.ensures)
