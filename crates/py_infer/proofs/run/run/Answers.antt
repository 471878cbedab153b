-- What a call that ended so wrote, and how a call has to end.
use Rattle.py_infer.specs.Words.{texts_of}
use Rattle.py_infer.proofs.Covering.{clean_covers, clean_says, refused_says}
use Rattle.py_infer.proofs.Ending.{refused_ends, clean_ends, complete_ends}
use Rattle.py_infer.proofs.run.run.Goals as goal

pub returns-in-Ok-clause-refused : goal.returns-in-Ok-clause-refused
returns-in-Ok-clause-refused g c = λ is.
    refused_says (texts_of c.args.words.now) _ _ _ c.in-Ok.answer _ _ c.deliver.result _ c.in-Ok.ensures.asked c.deliver.ensures is

pub returns-in-Ok-clause-clean : goal.returns-in-Ok-clause-clean
returns-in-Ok-clause-clean g c = λ is.
    clean_says (texts_of c.args.words.now) _ _ _ c.in-Ok.answer _ _ c.deliver.result _ c.in-Ok.ensures.asked c.deliver.ensures is

pub returns-in-Ok-clause-covered : goal.returns-in-Ok-clause-covered
returns-in-Ok-clause-covered g c = λ is.
    clean_covers (texts_of c.args.words.now) _ _ _ c.in-Ok.answer _ _ c.deliver.result _ c.in-Ok.ensures.asked c.deliver.ensures is

pub returns-in-Ok-clause-refused_always : goal.returns-in-Ok-clause-refused_always
returns-in-Ok-clause-refused_always g c =
    refused_ends c.one_answer.ensures.one_reading c.one_answer.ensures.never_both c.descent_is_complete.ensures (texts_of c.args.words.now) _ _ _ c.in-Ok.answer _ _ c.deliver.result _ c.in-Ok.ensures.asked c.deliver.ensures

pub returns-in-Ok-clause-clean_always : goal.returns-in-Ok-clause-clean_always
returns-in-Ok-clause-clean_always g c =
    clean_ends c.one_answer.ensures.one_reading c.one_answer.ensures.never_both c.descent_is_complete.ensures (texts_of c.args.words.now) _ _ _ c.in-Ok.answer _ _ c.deliver.result _ c.in-Ok.ensures.asked c.deliver.ensures

pub returns-in-Ok-clause-complete : goal.returns-in-Ok-clause-complete
returns-in-Ok-clause-complete g c =
    complete_ends c.one_answer.ensures.one_reading c.one_answer.ensures.never_both c.descent_is_complete.ensures (texts_of c.args.words.now) _ _ _ c.in-Ok.answer _ _ c.deliver.result _ c.in-Ok.ensures.asked c.deliver.ensures
