use Rattle.std.proofs.Common.{◌∙◌, sym, ap, slice_get}
use Rattle.flow_graph.proofs.Same.{found_at, context_exact}
use Rattle.flow_graph.proofs.flow.Flow.find_context.Goals as goal

pub returns-in-Some-clause-found : goal.returns-in-Some-clause-found
returns-in-Some-clause-found c =
    ap (λ t. slice_get t.contexts c.new.result) (sym c.self.view_is) ∙ found_at _ context_exact c.self.inside.contexts.keys c.args.context.now _ _ c.new.ensures (sym c.get_index_of.ensures.index ∙ c.in-Some.is)
