use Rattle.std.proofs.Common.{sym, ◌∙◌, rules}
use Rattle.py_scope.proofs.KeptLemmas.{chain_ends, chain_goes}
use Rattle.py_scope.proofs.chain.ChainIterator.next.Goals as goal

pub returns-in-Some-clause-steps : goal.returns-in-Some-clause-steps
returns-in-Some-clause-steps c = sym c.self.view_is ∙ chain_goes c.self.inside.rows.now c.self.inside.place c.in-Some.class.now c.self.invariant c.in-Some.ensures

pub returns-in-None-clause-steps : goal.returns-in-None-clause-steps
returns-in-None-clause-steps c = let e = sym c.self.view_is ∙ chain_ends c.self.inside.rows.now c.self.inside.place c.in-None.ensures in (e, e)

pub returns-in-Some-clause-goes : goal.returns-in-Some-clause-goes
returns-in-Some-clause-goes c = rw (returns-in-Some-clause-steps c) (search rules)
