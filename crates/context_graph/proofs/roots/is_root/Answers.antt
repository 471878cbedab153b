use Rattle.std.proofs.Common.{◌&&◌, ◌==◌, is_some, sym, ap, ◌∙◌}
use Rattle.world_tables.specs.Rows.{contexts_of, the_context}
use Rattle.context_graph.specs.Edges.{is_uncalled}
use Rattle.context_graph.proofs.RootSpots.{root_is, some_copied}
use Rattle.context_graph.proofs.roots.is_root.Goals as goal

pub returns : goal.returns
returns c =
    c.are_all.ensures
    ∙ (ap (λ b. (c.args.at.now.place == 0) && ((c.args.at.now.depth == 0) && (b && c.is_some-there.result))) c.is_uncalled-uncalled.ensures
    ∙ (ap (λ b. (c.args.at.now.place == 0) && ((c.args.at.now.depth == 0) && (is_uncalled (the_context (contexts_of c.args.tables.now) c.args.at.now.context) && b)))
    (c.is_some-there.ensures ∙ (some_copied c.op_at.result ∙ ap (λ o. is_some o) c.op_at.ensures))
    ∙ sym (root_is c.args.program.now.program c.args.tables.now c.args.at.now c.kept.ensures.kept c.requires)))
