use Rattle.std.proofs.Common.{◌≡◌, ◌<◌, ◌∙◌, ◌∷◌, true, false, Ok, length, refl, sym, ap, subst}
use Rattle.std.specs.List.{Contains}
use Rattle.std.specs.List.Sorted.{IsPermutation}
use Rattle.abstract_shapes.specs.Tables.{entries}
use Rattle.world_rules.specs.Items.{an_entry}
use Rattle.world_rules.specs.Rules.{GivesAt}
use Rattle.world_tables.specs.Tables.{the_shape, items_of, AreTables}
use Rattle.world_tables.specs.Rows.{tables_of}
use Rattle.world_tables.specs.contracts.tables.Tables as tables
use Rattle.world_tables.proofs.Answered.{by_answer}
use Rattle.world_tables.proofs.Entries.{answers_new, answers_known, answers_more, answers_same}
use Rattle.world_tables.proofs.WithEntry.{entry_keeps}
use Rattle.world_tables.proofs.tables.Tables.add_entry.Goals as goal

pub returns-clause-fresh : goal.returns-clause-fresh
returns-clause-fresh c = λ e. (
  subst (λ w. Contains (entries w.joined) (c.args.place, c.args.shape) → ⊥) c.self.view_is (answers_new c.add.result c.self.inside.joined c.add.new.self c.args.place c.args.shape c.add.ensures.grown c.entry_count-count.ensures.apart e),
  subst (λ w. IsPermutation ((c.args.place, c.args.shape) ∷ entries w.joined) (entries c.add.new.self)) c.self.view_is (answers_more c.add.result c.self.inside.joined c.add.new.self c.args.place c.args.shape c.add.ensures.grown c.add.ensures.entry e),
  λ i. record (c.self.view_is i) { joined = c.add.new.self },
)

pub returns-clause-known : goal.returns-clause-known
returns-clause-known c = λ e. (
  subst (λ w. Contains (entries w.joined) (c.args.place, c.args.shape)) c.self.view_is (answers_known c.add.result c.self.inside.joined c.add.new.self c.args.place c.args.shape c.add.ensures.grown e),
  ap (λ j. tables.the_view (record c.self.inside { joined = j })) (answers_same c.add.result c.self.inside.joined c.add.new.self c.args.place c.args.shape c.add.ensures.grown c.add.ensures.same e) ∙ c.self.view_is,
)

pub returns-clause-keeps : goal.returns-clause-keeps
returns-clause-keeps c = λ s p a g.
    let rows = tables.the_view c.self.inside in
    let b : AreTables s (tables_of rows) = subst (λ w. AreTables s (tables_of w)) (sym c.self.view_is) a in
    let h : GivesAt s (items_of (tables_of rows)) p (an_entry c.args.place (the_shape (tables_of rows) c.args.shape)) =
    subst (λ w. GivesAt s (items_of (tables_of w)) p (an_entry c.args.place (the_shape (tables_of w) c.args.shape))) (sym c.self.view_is) g in
    let l : c.args.shape < length rows.graph.truths = subst (λ w. c.args.shape < length w.graph.truths) (sym c.self.view_is) c.requires.shape in
    let there : c.args.shape < length (tables_of rows).shapes = subst (λ n. c.args.shape < n) (sym b.numbering.shape_count) l in
    let fresh : c.add.result ≡ Ok true → ((Contains (entries c.self.inside.joined) (c.args.place, c.args.shape) → ⊥) × IsPermutation ((c.args.place, c.args.shape) ∷ entries c.self.inside.joined) (entries c.add.new.self)) × (c.add.new.self ≡ c.add.new.self) =
    λ e. ((answers_new c.add.result c.self.inside.joined c.add.new.self c.args.place c.args.shape c.add.ensures.grown c.entry_count-count.ensures.apart e, answers_more c.add.result c.self.inside.joined c.add.new.self c.args.place c.args.shape c.add.ensures.grown c.add.ensures.entry e), refl) in
    let known : c.add.result ≡ Ok false → Unit {0} × (c.add.new.self ≡ c.self.inside.joined) = λ e. (tt, answers_same c.add.result c.self.inside.joined c.add.new.self c.args.place c.args.shape c.add.ensures.grown c.add.ensures.same e) in
    by_answer c.add.result c.self.inside.joined c.add.new.self c.add.new.self fresh known c.add.ensures.refused _
    (λ n _. entry_keeps s (tables_of rows) b c.args.place c.args.shape there p h (entries c.add.new.self) n.0 n.1)
    (λ e. subst (λ j. AreTables s (tables_of (tables.the_view (record c.self.inside { joined = j })))) (sym e) b)
