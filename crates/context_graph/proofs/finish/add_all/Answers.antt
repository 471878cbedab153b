use Rattle.std.proofs.Common.{sym, ap, ◌∙◌}
use Rattle.world_rules.specs.Places.{code_of}
use Rattle.world_tables.specs.Rows.{contexts_of, the_context, tables_of}
use Rattle.context_graph.proofs.Finished.{needs_nothing}
use Rattle.context_graph.proofs.Parts.{part_same}
use Rattle.context_graph.proofs.finish.add_all.Goals as goal

pub add_parts-requires-clause-code : goal.add_parts-requires-clause-code
add_parts-requires-clause-code c = record { there = c.requires.there; of = sym c.in-Some.ensures }

pub returns-in-None-clause-keeps : goal.returns-in-None-clause-keeps
returns-in-None-clause-keeps c = λ s w. part_same s c.args.context c.args.tables.now w.tables

pub returns-in-None-clause-all : goal.returns-in-None-clause-all
returns-in-None-clause-all c = λ s w.
    needs_nothing s (tables_of c.args.tables.now) (the_context (contexts_of c.args.tables.now) c.args.context)
    (ap (λ p. code_of p (the_context (contexts_of c.args.tables.now) c.args.context)) w.source.program ∙ sym c.in-None.ensures)
