use Rattle.std.proofs.Common.{◌<◌, length, sym, subst}
use Rattle.world_tables.specs.Tables.{HasAll, AreTables}
use Rattle.world_tables.specs.Rows.{contexts_of, the_context, tables_of}
use Rattle.world_tables.specs.contracts.tables.Tables as tables
use Rattle.world_tables.proofs.Growth.{finishing_keeps}
use Rattle.world_tables.proofs.tables.Tables.finish_next.Goals as goal

pub returns-clause-keeps : goal.returns-clause-keeps
returns-clause-keeps c = λ s a all.
    finishing_keeps (tables.the_view c.self.inside) c.self.invariant.0 s (subst (λ w. AreTables s (tables_of w)) (sym c.self.view_is) a) (subst (λ w. w.finished < length w.graph.flow.contexts) (sym c.self.view_is) c.requires)
    (subst (λ w. HasAll s (tables_of w) (the_context (contexts_of w) w.finished)) (sym c.self.view_is) all)
