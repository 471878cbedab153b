use Rattle.abstract_shapes.proofs.Once.{one_type}
use Rattle.abstract_shapes.proofs.laws.one_printed_type.Goals as goal

pub returns : goal.returns
returns c = one_type c.same_members_same_form.ensures
