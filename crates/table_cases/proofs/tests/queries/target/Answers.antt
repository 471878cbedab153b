use Rattle.std.proofs.Common.{◌<◌, sym, subst}
use Rattle.std.specs.Option.{IfSome}
use Rattle.table_cases.proofs.Targets.{target_there}
use Rattle.table_cases.proofs.tests.queries.target.Goals as goal

pub returns : goal.returns
returns c =
    subst (λ f. IfSome c.target.result (λ var. var < f.vars)) c.flow.ensures.flow
    (subst (λ o. IfSome o (λ var. var < c.flow.result.now.vars)) (sym c.target.ensures.told) (target_there c.flow.result.now c.target.ensures.valid c.args.point))
