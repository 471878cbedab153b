use Rattle.std.proofs.Common.{refl}
use Rattle.builtin_stubs.proofs.laws.names_are_taken.Goals as goal

pub returns : goal.returns
returns c = refl
