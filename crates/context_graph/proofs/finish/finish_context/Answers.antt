use Rattle.std.proofs.Common.{◌+◌, ◌<◌, Result, Ok, Err, length, sym, subst, ap, ◌∙◌}
use Rattle.std.specs.Result.{OnErr}
use Rattle.world_tables.specs.Tables.{items_of}
use Rattle.world_tables.specs.Rows.{WorldRows, contexts_of, the_context, tables_of}
use Rattle.context_graph.specs.Growth.{IsGrown, IsWithEdges}
use Rattle.context_graph.proofs.Finished.{grown_finished, all_of_next}
use Rattle.context_graph.proofs.finish.finish_context.Goals as goal

pub finish_next-requires : goal.finish_next-requires
finish_next-requires c =
    subst (λ rows. c.add_all.new.tables.finished < length rows) (sym c.in_ok-add_all.ensures.step.grown.rows)
    (subst (λ n. n < length c.args.tables.now.graph.flow.contexts) (c.requires.next ∙ sym c.in_ok-add_all.ensures.step.finished) c.requires.there)

pub returns-clause-grown : goal.returns-clause-grown
returns-clause-grown c =
    subst (λ w. IsGrown c.args.tables.now w) (sym c.finish_next.ensures.finished) (grown_finished c.args.tables.now c.add_all.new.tables (c.add_all.new.tables.finished + 1) c.in_ok-add_all.ensures.step.grown)

pub returns-clause-done : goal.returns-clause-done
returns-clause-done c = ap (λ (w : WorldRows). w.finished) c.finish_next.ensures.finished ∙ ap (λ n. n + 1) c.in_ok-add_all.ensures.step.finished

pub returns-clause-keeps : goal.returns-clause-keeps
returns-clause-keeps c = λ s source a.
    let p = c.add_all.ensures.keeps s (record { source = source; tables = a }) in
    c.finish_next.ensures.keeps s p.tables (all_of_next s c.args.tables.now c.add_all.new.tables c.args.context c.in_ok-add_all.ensures.step c.requires.next (c.in_ok-add_all.ensures.all s (record { source = source; tables = a })))

pub returns-clause-items : goal.returns-clause-items
returns-clause-items c = λ s source a.
    let p = c.add_all.ensures.keeps s (record { source = source; tables = a }) in
    subst (λ w. IsWithEdges s (the_context (contexts_of c.args.tables.now) c.args.context) (items_of (tables_of c.args.tables.now)) (items_of (tables_of w))) (sym c.finish_next.ensures.finished) p.items

pub returns-in_err-add_all-clause-grown : goal.returns-in_err-add_all-clause-grown
returns-in_err-add_all-clause-grown c = c.in_err-add_all.ensures.step.grown

err_always : {T E Q : Type 0} (r : Result T E) → Q → OnErr r Q
err_always (Ok x) q = tt
err_always (Err e) q = q

pub returns-in_err-add_all-clause-refused : goal.returns-in_err-add_all-clause-refused
returns-in_err-add_all-clause-refused c = err_always c.from_residual.result c.in_err-add_all.ensures.step.finished

pub returns-in_err-add_all-clause-keeps : goal.returns-in_err-add_all-clause-keeps
returns-in_err-add_all-clause-keeps c = λ s source a. (c.add_all.ensures.keeps s (record { source = source; tables = a })).tables

pub returns-in_err-add_all-clause-items : goal.returns-in_err-add_all-clause-items
returns-in_err-add_all-clause-items c = λ s source a. (c.add_all.ensures.keeps s (record { source = source; tables = a })).items
