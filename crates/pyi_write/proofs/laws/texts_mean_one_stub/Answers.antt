use Rattle.pyi_write.proofs.OneMeaning.{one_meaning}
use Rattle.pyi_write.proofs.laws.texts_mean_one_stub.Goals as goal

pub returns : goal.returns
returns c = one_meaning c.one_normal_form.ensures c.one_answer.ensures.one_reading
