use Rattle.pyi_write.proofs.Small.{small}
use Rattle.pyi_write.proofs.laws.a_small_stub_is_normal.Goals as goal

pub returns : goal.returns
returns c = small
