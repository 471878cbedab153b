use Rattle.std.proofs.Common.{refl}
use Rattle.context_graph.proofs.Firsts.{before_behind, behind_last}
use Rattle.context_graph.proofs.first.first_place.Goals as goal

pub returns-in-Some-clause-order : goal.returns-in-Some-clause-order
returns-in-Some-clause-order c = before_behind c.args.tables.now c.kept.ensures.kept c.args.context c.requires.next c.in-Some.last c.in-Some.ensures.last c.behind.result c.behind.ensures.same

pub returns-in-Some-clause-points : goal.returns-in-Some-clause-points
returns-in-Some-clause-points c = λ s a one.
    behind_last s c.args.tables.now c.kept.ensures.kept c.args.context c.requires.next c.in-Some.last c.in-Some.ensures.last c.behind.result c.behind.ensures.same c.behind.ensures.other a one

pub returns-in-None-clause-order : goal.returns-in-None-clause-order
returns-in-None-clause-order c = λ other m e. absurd (c.in-None.ensures.none refl other m)
