-- What the tokens tell of the bytes.
use Rattle.py_infer.proofs.Judged.{at_fault, from_tokens}
use Rattle.py_infer.proofs.judge.judged.Goals as goal

pub returns-in-Err-tokens : goal.returns-in-Err-tokens
returns-in-Err-tokens c =
    at_fault c.args.bytes.now c.requires c.in-Ok.text.now c.in-Ok.ensures.cases.0 c.in-Ok.ensures.cases.1 c.in-Err-tokens.fault _
    (c.in-Err-tokens.ensures.refused c.in_ok-fault_report-in-Err-tokens.ensures.found) c.in_ok-fault_report-in-Err-tokens.ensures.said

pub returns : goal.returns
returns c =
    from_tokens c.args.bytes.now c.requires c.in-Ok.text.now c.in-Ok.ensures.cases.0 c.in-Ok.ensures.cases.1 c.in-Ok-tokens.tokens c.in-Ok-tokens.ensures.read c.judged_tokens.result c.judged_tokens.ensures
