-- Each read asks for no more than one byte above the limit.
use Rattle.std.proofs.Common.{◌+◌, arith}
use Rattle.std.proofs.lemmas.List.{length-take}
use Rattle.outside_io.proofs.ReadingLemmas.{ReadsUpTo-kept, ReadsUpTo-more}
use Rattle.outside_io.proofs.reading.read_within.Goals as goal

pub returns-in_default-clause-most : goal.returns-in_default-clause-most
returns-in_default-clause-most g c =
    ReadsUpTo-kept _ _ _ _ _ c.loop-count.invariant.read c.in_default.ensures.bytes
    (omega (arith, c.loop-count.bytes.ok.0))

pub returns-then-count-eq0-clause-most : goal.returns-then-count-eq0-clause-most
returns-then-count-eq0-clause-most g c =
    ReadsUpTo-more _ _ _ _ _ _ _ c.loop-count.invariant.read c.in-Ok.ensures.bytes.0
    (omega (arith, c.read.auto.buf, c.loop-count.bytes.ok.0, length-take (c.min.result + 1) c.loop-count.buffer))

pub returns-then-count-left-clause-most : goal.returns-then-count-left-clause-most
returns-then-count-left-clause-most g c =
    ReadsUpTo-more _ _ _ _ _ _ _ c.loop-count.invariant.read c.in-Ok.ensures.bytes.0
    (omega (arith, c.read.auto.buf, c.loop-count.bytes.ok.0, length-take (c.min.result + 1) c.loop-count.buffer))

pub returns-then-is_err-clause-most : goal.returns-then-is_err-clause-most
returns-then-is_err-clause-most g c =
    ReadsUpTo-more _ _ _ _ _ _ _ c.loop-count.invariant.read c.in-Ok.ensures.bytes.0
    (omega (arith, c.read.auto.buf, c.loop-count.bytes.ok.0, length-take (c.min.result + 1) c.loop-count.buffer))
