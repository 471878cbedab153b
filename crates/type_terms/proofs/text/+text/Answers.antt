use Rattle.std.proofs.Common.{arith}
use Rattle.type_terms.proofs.TextLemmas.{some_places}
use Rattle.type_terms.proofs.text.+text.Goals as goal

pub write_tuple-returns-in_default : goal.write_tuple-returns-in_default
write_tuple-returns-in_default t c = rw (← some_places c.args.places.now (omega arith)) c.write_joined.ensures
