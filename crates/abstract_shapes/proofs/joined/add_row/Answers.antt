use Rattle.std.proofs.Common.{◌∙◌, ◌++◌, ◌∷◌, ap, sym, []}
use Rattle.indexmap.specs.IndexSet.{insert_key}
use Rattle.abstract_shapes.specs.Places.{same_place}
use Rattle.abstract_shapes.specs.Tables.{places_of}
use Rattle.abstract_shapes.proofs.Rows.{place_last, places_push}
use Rattle.abstract_shapes.proofs.joined.add_row.Goals as goal

pub returns-in-Ok-clause-indexed : goal.returns-in-Ok-clause-indexed
returns-in-Ok-clause-indexed c =
    c.in-Ok.ensures.keys ∙ ap (λ ps. insert_key same_place ps c.args.place) c.requires.indexed ∙ place_last c.args.place c.args.rows.now.items c.requires.fresh
    ∙ sym (ap places_of c.in_ok-push.ensures.items ∙ places_push c.args.rows.now.items c.in_ok-row.row ∙ ap (λ r. places_of c.args.rows.now.items ++ r.place ∷ []) c.in_ok-row.ensures)
