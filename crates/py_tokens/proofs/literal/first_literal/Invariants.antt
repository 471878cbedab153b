-- What is left of the literal decides how it ends.
use Rattle.std.proofs.Common.{◌-◌, length}
use Rattle.py_tokens.proofs.LiteralLemmas.{Continues}
use Rattle.py_tokens.proofs.literal.first_literal.Given as goal

abbrev pub invariant-loop-len : goal.invariant-loop-len
invariant-loop-len l = Continues l.bytes l.prefix l.quotes l.empty l.at

abbrev pub decreases-loop-len : goal.decreases-loop-len
decreases-loop-len l = length l.bytes - l.at
