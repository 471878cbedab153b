use Rattle.std.proofs.Common.{slice_get, sym, ap, ◌∙◌}
use Rattle.flow_graph.specs.Flows.{FlowTables}
use Rattle.typegraph.specs.Graphs.{GraphTables}
use Rattle.context_graph.proofs.RootSpots.{uncalled_is, row_there}
use Rattle.context_graph.proofs.roots.is_uncalled.Goals as goal

pub returns-in-Some : goal.returns-in-Some
returns-in-Some c =
    uncalled_is c.args.tables.now c.graph.ensures.kept c.args.context c.in-Some.row c.is_none.result
    (ap (λ (f : FlowTables). slice_get f.contexts c.args.context) (sym (c.flow.ensures.flow ∙ ap (λ (g : GraphTables). g.flow) c.graph.ensures.graph)) ∙ sym c.in-Some.ensures) c.is_none.ensures

pub returns-in-None : goal.returns-in-None
returns-in-None c =
    row_there c.args.tables.now.graph.flow.contexts c.args.context c.requires
    (c.in-None.ensures ∙ ap (λ (f : FlowTables). slice_get f.contexts c.args.context) (c.flow.ensures.flow ∙ ap (λ (g : GraphTables). g.flow) c.graph.ensures.graph))
