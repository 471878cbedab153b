use Rattle.std.proofs.Common.{ap, Ok, ◌∙◌, sym, subst}
use Rattle.std.specs.List.{Contains}
use Rattle.typegraph.specs.Graphs.{push_fact}
use Rattle.typegraph.specs.Kept.{push_shape}
use Rattle.typegraph.proofs.Rows.{row_changed, row_undone, row_stays, row_read}
use Rattle.typegraph.proofs.facts.Facts.push.Goals as goal

pub push-requires : goal.push-requires
push-requires c = λ d. c.requires.fresh (subst (λ row. Contains row c.args.fact) (sym (row_read _ _ _ c.args.point c.index_mut-2.result.now (ap (λ t. t.rows) c.self.view_is) c.number-2.ensures c.requires.point c.index_mut-2.ensures.value)) d)

pub returns-in-Ok-clause-pushed : goal.returns-in-Ok-clause-pushed
returns-in-Ok-clause-pushed c =
    λ i. record {
      rows = row_changed (push_fact c.args.fact) _ _ _ _ c.index_mut-2.result.now _ (ap (λ t. t.rows) c.self.view_is) c.number-2.ensures c.requires.point c.index_mut-2.ensures.value c.in-Ok.ensures.pushed i;
      given = row_changed (push_shape c.args.fact.shape) _ _ _ _ c.index_mut.result.now _ (ap (λ t. t.given) c.self.view_is) c.number.ensures c.requires.var c.index_mut.ensures.value c.in_ok-fresh.ensures.added i;
    }

pub returns-then-fresh-clause-refused : goal.returns-then-fresh-clause-refused
returns-then-fresh-clause-refused c =
    λ i. record {
      rows = row_stays _ _ _ c.index_mut-2.result.now _ (ap (λ t. t.rows) c.self.view_is) c.index_mut-2.ensures.value c.in-Err.ensures.refused i;
      given = row_undone _ _ _ _ _ c.index_mut.result.now _ c.index_mut-then-fresh.result.now _ (ap (λ t. t.given) c.self.view_is) c.number.ensures c.number-then-fresh.ensures c.requires.var c.index_mut.ensures.value c.index_mut-then-fresh.ensures.value
          (λ e. c.remove_last.ensures _ _ (e ∙ c.in_ok-fresh.ensures.fresh (ap Ok c.if-fresh.true))) i;
    }
