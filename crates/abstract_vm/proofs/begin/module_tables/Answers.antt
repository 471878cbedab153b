-- The module's context, finished.
use Rattle.world_tables.specs.Rows.{contexts_of, the_context, tables_of}
use Rattle.world_tables.specs.Tables.{items_of}
use Rattle.context_graph.specs.Growth.{IsWithEdges}
use Rattle.abstract_vm.proofs.Beginnings.{begun}
use Rattle.abstract_vm.proofs.begin.module_tables.Goals as goal

pub returns-clause-begun : goal.returns-clause-begun
returns-clause-begun c = λ s is.
    let before = c.in_ok-context.ensures.tables s in
    let after = c.finish_context.ensures.keeps s is before in
    begun s c.add_module.new.tables c.finish_context.new.tables c.in_ok-context.ensures.module after c.finish_context.ensures.grown c.in_ok-finish_context.ensures.done
    (rw c.in_ok-context.ensures.first at (c.finish_context.ensures.items s is before)) (c.items_are_counted.ensures.once s (tables_of c.finish_context.new.tables) after)
