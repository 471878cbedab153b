-- By induction on the steps of the scan.
use Rattle.py_tokens.proofs.OneAnswer as one
use Rattle.py_tokens.proofs.laws.one_answer.Goals as goal

pub returns-clause-one_reading : goal.returns-clause-one_reading
returns-clause-one_reading c = λ text tokens others names more first second. one.one_reading first second

pub returns-clause-one_fault : goal.returns-clause-one_fault
returns-clause-one_fault c = λ text found other first second. one.one_fault first second

pub returns-clause-never_both : goal.returns-clause-never_both
returns-clause-never_both c = λ text tokens names found first second. one.never_both first second

pub returns-clause-answered : goal.returns-clause-answered
returns-clause-answered c = λ text. one.answered _ _
