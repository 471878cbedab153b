-- The piece that comes next says how the literal ends, or is passed.
use Rattle.std.proofs.Common.{sym, subst, arith}
use Rattle.py_tokens.specs.declared.literal.Piece.TheVariants as piece
use Rattle.py_tokens.specs.Literals.{Lies}
use Rattle.py_tokens.proofs.LiteralLemmas.{literal_lies, goes_on, closes, passed_within, continues_past}
use Rattle.py_tokens.proofs.literal.first_literal.Goals as goal

pub returns-in-Close-clause-exact : goal.returns-in-Close-clause-exact
returns-in-Close-clause-exact c = closes _ _ _ _ _ c.loop-len.invariant c.quotes-quotes.ensures c.requires c.in-Close.ensures

pub returns-in-Close-clause-within : goal.returns-in-Close-clause-within
returns-in-Close-clause-within c = subst (Lies c.args.bytes.now) (sym (returns-in-Close-clause-exact c)) (literal_lies c.args.bytes.now c.args.prefix c.requires)

pub overflow_add-at : goal.overflow_add-at
overflow_add-at c = let inside = passed_within _ _ _ _ _ c.loop-len.invariant c.in-Passed.len c.in-Passed.still c.in-Passed.ensures in omega (arith, inside.1)

pub loop-len-smaller : goal.loop-len-smaller
loop-len-smaller c = let inside = passed_within _ _ _ _ _ c.loop-len.invariant c.in-Passed.len c.in-Passed.still c.in-Passed.ensures in omega (arith, inside.0, inside.1)

pub loop-len-preserved : goal.loop-len-preserved
loop-len-preserved c = continues_past _ _ _ _ _ c.loop-len.invariant c.in-Passed.len c.in-Passed.still c.in-Passed.ensures

pub returns-in-End-clause-exact : goal.returns-in-End-clause-exact
returns-in-End-clause-exact c = goes_on _ _ _ _ _ c.loop-len.invariant piece.End c.in-End.ensures

pub returns-in-End-clause-within : goal.returns-in-End-clause-within
returns-in-End-clause-within c = subst (Lies c.args.bytes.now) (sym (returns-in-End-clause-exact c)) (literal_lies c.args.bytes.now c.args.prefix c.requires)

pub returns-in-Bad-clause-exact : goal.returns-in-Bad-clause-exact
returns-in-Bad-clause-exact c = goes_on _ _ _ _ _ c.loop-len.invariant (piece.Bad c.in-Bad.after) c.in-Bad.ensures

pub returns-in-Bad-clause-within : goal.returns-in-Bad-clause-within
returns-in-Bad-clause-within c = subst (Lies c.args.bytes.now) (sym (returns-in-Bad-clause-exact c)) (literal_lies c.args.bytes.now c.args.prefix c.requires)

pub overflow_add-result-in-Bad : goal.overflow_add-result-in-Bad
overflow_add-result-in-Bad c = let inside = (returns-in-Bad-clause-within c).0 in omega (arith, inside)
