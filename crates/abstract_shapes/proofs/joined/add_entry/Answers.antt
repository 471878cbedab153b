use Rattle.std.proofs.Common.{◌≡◌, ◌∙◌, ◌∷◌, ap, sym, subst, Some, None}
use Rattle.std.proofs.lemmas.Result.{IfOk-weaker}
use Rattle.std.specs.List.Sorted.{IsPermutation}
use Rattle.abstract_shapes.specs.Tables.{table_at, row_number, entries}
use Rattle.abstract_shapes.proofs.Rows.{row_added, row_kept, row_entry, row_places, place_new, place_kept, entry_new}
use Rattle.abstract_shapes.proofs.joined.add_entry.Goals as goal

there : (c : goal.In_ok-_grown-in-Some) → row_number c.args.place c.args.rows.now.items ≡ Some c.in-Some.row
there c = sym (rw c.deref.ensures.value at c.in-Some.ensures.number)

absent : (c : goal.After-add_row) → row_number c.args.place c.args.rows.now.items ≡ None
absent c = sym (rw c.deref.ensures.value at c.in-None.ensures.number)

pub returns-in_ok-_grown-in-Some-clause-added : goal.returns-in_ok-_grown-in-Some-clause-added
returns-in_ok-_grown-in-Some-clause-added c =
    row_added c.args.place c.args.shape c.in-Some.row c.args.rows.now.items c.index_mut.result.now c.add.new.self (there c) c.index_mut.ensures.value c.in_ok-_grown-in-Some.ensures.added

pub returns-in_ok-_grown-in-Some-clause-kept : goal.returns-in_ok-_grown-in-Some-clause-kept
returns-in_ok-_grown-in-Some-clause-kept c =
    row_kept c.args.place c.args.shape c.in-Some.row c.args.rows.now.items c.index_mut.result.now c.add.new.self (there c) c.index_mut.ensures.value c.in_ok-_grown-in-Some.ensures.added

pub returns-in_ok-_grown-in-Some-clause-entry : goal.returns-in_ok-_grown-in-Some-clause-entry
returns-in_ok-_grown-in-Some-clause-entry c =
    row_entry c.args.place c.args.shape c.in-Some.row c.args.rows.now.items c.index_mut.result.now c.add.new.self (there c) c.index_mut.ensures.value c.in_ok-_grown-in-Some.ensures.added c.requires.fresh

pub returns-in_ok-_grown-in-Some-clause-indexed : goal.returns-in_ok-_grown-in-Some-clause-indexed
returns-in_ok-_grown-in-Some-clause-indexed c =
    c.requires.indexed ∙ sym (row_places c.args.place c.args.shape c.in-Some.row c.args.rows.now.items c.index_mut.result.now c.add.new.self (there c) c.index_mut.ensures.value c.in_ok-_grown-in-Some.ensures.added)

pub returns-in-None-clause-added : goal.returns-in-None-clause-added
returns-in-None-clause-added c =
    IfOk-weaker c.add_row.result _ _ (λ _ items. ap (λ rs. table_at rs c.args.place) items ∙ place_new c.args.place c.args.shape c.args.rows.now.items (absent c)) c.add_row.ensures.added

pub returns-in-None-clause-kept : goal.returns-in-None-clause-kept
returns-in-None-clause-kept c =
    IfOk-weaker c.add_row.result _ _ (λ _ items other apart. ap (λ rs. table_at rs other) items ∙ place_kept other c.args.place c.args.shape c.args.rows.now.items apart) c.add_row.ensures.added

pub returns-in-None-clause-entry : goal.returns-in-None-clause-entry
returns-in-None-clause-entry c =
    IfOk-weaker c.add_row.result _ _
    (λ _ items. subst (λ rs. IsPermutation ((c.args.place, c.args.shape) ∷ entries c.args.rows.now.items) (entries rs)) (sym items) (entry_new c.args.place c.args.shape c.args.rows.now.items)) c.add_row.ensures.added
