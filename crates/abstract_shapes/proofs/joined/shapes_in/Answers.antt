use Rattle.std.proofs.Common.{◌≡◌, ◌∙◌, ap, sym, Some, None}
use Rattle.abstract_shapes.specs.Tables.{row_number}
use Rattle.abstract_shapes.proofs.Rows.{row_holds, none_there}
use Rattle.abstract_shapes.proofs.TableLemmas.{distinct_none}
use Rattle.abstract_shapes.proofs.joined.shapes_in.Goals as goal

pub returns-in-Some-clause-table : goal.returns-in-Some-clause-table
returns-in-Some-clause-table c =
    let there : row_number c.args.place.now c.args.rows.now ≡ Some c.in-Some.row = cc in
    c.items.ensures.shapes ∙ ap (λ r. r.shapes) (sym c.index-rows-row.is) ∙ row_holds c.args.place.now c.in-Some.row c.args.rows.now c.index-rows-row.result there c.index-rows-row.is

pub returns-in-None-clause-table : goal.returns-in-None-clause-table
returns-in-None-clause-table c =
    let absent : row_number c.args.place.now c.args.rows.now ≡ None = cc in
    sym (none_there c.args.place.now c.args.rows.now absent)

pub returns-in-None-clause-once : goal.returns-in-None-clause-once
returns-in-None-clause-once c = distinct_none
