-- Each answer of the shelf asks for one answer of the call.
use Rattle.std.proofs.Common.{ap, Err}
use Rattle.py_infer.specs.Words.{texts_of}
use Rattle.py_infer.proofs.Asking.{asks_clean, asks_refused, asks_too_long, asks_unread}
use Rattle.py_infer.proofs.run.asked.Goals as goal

pub returns-in-Ok-clause-asked : goal.returns-in-Ok-clause-asked
returns-in-Ok-clause-asked g c =
    let given = rw c.in-Ok-Whole.field-0-is at c.in-Ok-Whole.ensures.given in
    let stub = rw c.in-Ok.is at c.in_ok-stub-in-Ok-Whole.ensures in
    asks_clean (texts_of c.args.words.now) _ _ _ _ c.in-Some.file.now c.in-Some.ensures c.in-Ok-Whole.bytes c.as_slice.result.now c.in-Ok.stub c.clean.result
    c.as_slice.ensures.value stub given c.clean.ensures

pub returns-in-Ok-Whole-clause-asked : goal.returns-in-Ok-Whole-clause-asked
returns-in-Ok-Whole-clause-asked g c =
    let given = rw c.in-Ok-Whole.field-0-is at c.in-Ok-Whole.ensures.given in
    let refuses = rw c.in-Err.is at c.in_ok-stub-in-Ok-Whole.ensures in
    asks_refused (texts_of c.args.words.now) _ _ _ _ c.in-Some.file.now c.in-Some.ensures c.in-Ok-Whole.bytes c.as_slice.result.now c.in-Err.report c.refused.result
    c.as_slice.ensures.value refuses given c.refused.ensures

pub returns-in-Ok-TooLong-clause-asked : goal.returns-in-Ok-TooLong-clause-asked
returns-in-Ok-TooLong-clause-asked g c =
    let given = rw c.in-Ok-TooLong.field-0-is at c.in-Ok-TooLong.ensures.given in
    asks_too_long (texts_of c.args.words.now) _ _ _ _ c.in-Some.file.now c.in-Some.ensures c.in_ok-report-in-Ok-TooLong.report c.refused-in-Ok-TooLong.result
    c.in_ok-report-in-Ok-TooLong.ensures given c.refused-in-Ok-TooLong.ensures

pub returns-in-Err-Failed-clause-asked : goal.returns-in-Err-Failed-clause-asked
returns-in-Err-Failed-clause-asked g c =
    let failed = c.in-Err-Failed.ensures.failed (ap Err c.in-Err-Failed.field-0-is) in
    asks_unread (texts_of c.args.words.now) _ _ _ _ c.in-Some.file.now c.in-Some.ensures c.unread.result failed c.unread.ensures
