use Rattle.std.proofs.Common.{◌∙◌, ap, position}
use Rattle.abstract_shapes.specs.Places.{same_place}
use Rattle.abstract_shapes.proofs.Rows.{position_row}
use Rattle.abstract_shapes.proofs.joined.row_of.Goals as goal

pub returns-clause-number : goal.returns-clause-number
returns-clause-number c =
    c.get_index_of.ensures.index ∙ ap (position (same_place c.args.place.now)) c.requires ∙ position_row c.args.place.now c.args.rows.now
