use Rattle.std.proofs.Common.{◌++◌, if◌then◌else◌, subst}
use Rattle.typegraph.proofs.Results.{so_ok}
use Rattle.goal_solver.specs.Searches.{IsWhole}
use Rattle.goal_solver.proofs.Answering.{whole_union}
use Rattle.goal_solver.proofs.solver.take_whole.Goals as goal

pub returns-then-with_list-clause-whole : goal.returns-then-with_list-clause-whole
returns-then-with_list-clause-whole c =
    so_ok _ _
    (λ u g query budget w.
    whole_union g query budget c.args.states c.args.list.now c.absorb.new.self u
    (subst (λ b. IsWhole g query budget (if b then c.args.states ++ c.args.list.now else c.args.states)) c.if-with_list.true w))
    c.absorb.result c.absorb.ensures.all
