-- The name and the line are those of the fault that was met.
use Rattle.py_infer.proofs.report.parse_report.Goals as goal

pub returns-in-Unexpected-clause-said : goal.returns-in-Unexpected-clause-said
returns-in-Unexpected-clause-said c = rw c.in-Unexpected.is c.line_report.ensures

pub returns-in-OutOfProfile-clause-said : goal.returns-in-OutOfProfile-clause-said
returns-in-OutOfProfile-clause-said c = rw c.in-OutOfProfile.is c.form_report.ensures
