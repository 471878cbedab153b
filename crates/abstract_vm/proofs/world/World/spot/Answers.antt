-- The context of a point that is there is there.
use Rattle.std.proofs.Common.{ap, sym, ◌∙◌}
use Rattle.abstract_vm.proofs.Spots.{context_there}
use Rattle.abstract_vm.proofs.world.World.spot.Goals as goal

pub returns-in_err-row-clause-none : goal.returns-in_err-row-clause-none
returns-in_err-row-clause-none c =
    λ e. absurd (context_there c.self.inside.tables c.graph.ensures.kept c.args.point c.in_ok-at.at (sym c.point_spot.ensures ∙ c.in_ok-at.was)
    c.flow-flow.result.now.contexts (ap (λ f. f.contexts) (c.flow-flow.ensures.flow ∙ ap (λ g. g.flow) c.graph.ensures.graph)) (sym c.context.ensures ∙ c.in_err-row.was))
