use Rattle.std.proofs.Common.{◌≡◌, ◌∙◌, ap, sym, Some, None}
use Rattle.abstract_shapes.specs.Tables.{row_number, has_shape}
use Rattle.abstract_shapes.proofs.Rows.{row_holds, none_there}
use Rattle.abstract_shapes.proofs.joined.has_entry.Goals as goal

pub returns-in-Some : goal.returns-in-Some
returns-in-Some c =
    let there : row_number c.args.place.now c.args.rows.now ≡ Some c.in-Some.row = cc in
    c.has.ensures ∙ ap (λ r. has_shape c.args.shape r.shapes) (sym c.index-rows-row.is)
    ∙ ap (has_shape c.args.shape) (row_holds c.args.place.now c.in-Some.row c.args.rows.now c.index-rows-row.result there c.index-rows-row.is)

pub returns-in-None : goal.returns-in-None
returns-in-None c =
    let absent : row_number c.args.place.now c.args.rows.now ≡ None = cc in
    ap (has_shape c.args.shape) (sym (none_there c.args.place.now c.args.rows.now absent))
