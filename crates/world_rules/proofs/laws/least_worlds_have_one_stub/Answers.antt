-- The types of names are printed from the same sets.
use Rattle.world_rules.proofs.OneStub.{one_stub}
use Rattle.world_rules.proofs.laws.least_worlds_have_one_stub.Goals as goal

pub returns : goal.returns
returns c = λ s items more l m one other. one_stub c.one_printed_type.ensures s items more l m one other
