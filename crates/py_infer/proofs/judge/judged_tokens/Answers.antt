-- What the tree tells of its tokens.
use Rattle.py_tree.specs.View.{module_view}
use Rattle.py_infer.specs.Reports.{for_tokens}
use Rattle.py_infer.proofs.Judged.{from_tree}
use Rattle.py_infer.proofs.judge.judged_tokens.Goals as goal

pub returns-in-Ok : goal.returns-in-Ok
returns-in-Ok c = from_tree c.args.tokens.now (module_view c.in-Ok.module) c.in-Ok.ensures.read c.judged_tree.result c.judged_tree.ensures

pub returns-in_ok-parse_report-in-Err : goal.returns-in_ok-parse_report-in-Err
returns-in_ok-parse_report-in-Err c =
    for_tokens c.in-Err.fault c.in_ok-parse_report-in-Err.ensures.found c.in-Err.ensures.refused c.in_ok-parse_report-in-Err.ensures.said
