use Rattle.std.proofs.Common.{arith}
use Rattle.place_ids.proofs.NamesLemmas.{IsDistinct-empty}
use Rattle.place_ids.proofs.names.Names.new.Goals as goal

pub invariant_of-result : goal.invariant_of-result
invariant_of-result c = rw c.new.ensures.empty (IsDistinct-empty, omega arith)
