-- The digits go on, or end.
use Rattle.std.proofs.Common.{◌∙◌, sym, drop, arith}
use Rattle.std.proofs.lemmas.List.{take_rest}
use Rattle.py_tokens.proofs.NumeralLemmas.{more_stops, more_goes_on}
use Rattle.py_tokens.proofs.numeral.more_len.Goals as goal

pub loop-len-preserved : goal.loop-len-preserved
loop-len-preserved c =
    let goes = rw take_rest at c.goes_on.ensures in
    omega (arith, c.loop-len.invariant, more_goes_on c.args.radix c.loop-len.len c.args.bytes.now (sym goes ∙ c.if-not-goes_on.false))

pub returns-then-not-goes_on-clause-exact : goal.returns-then-not-goes_on-clause-exact
returns-then-not-goes_on-clause-exact c =
    let goes = rw take_rest at c.goes_on.ensures in
    omega (arith, c.loop-len.invariant, more_stops c.args.radix (drop c.loop-len.len c.args.bytes.now) (sym goes ∙ c.if-not-goes_on.true))
