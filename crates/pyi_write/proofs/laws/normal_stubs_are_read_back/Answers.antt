use Rattle.pyi_write.proofs.Back.{read_back}
use Rattle.pyi_write.proofs.laws.normal_stubs_are_read_back.Goals as goal

pub returns : goal.returns
returns c = read_back
