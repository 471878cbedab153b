use Rattle.std.proofs.Common.{◌≡◌, ◌∙◌, ap, sym, subst, length, IfOk}
use Rattle.type_terms.specs.View.{term_view}
use Rattle.abstract_shapes.specs.Numbering.{structures}
use Rattle.abstract_shapes.specs.Printed.{IsPrinted}
use Rattle.abstract_shapes.specs.Scenes.{scene_of, shapes_under, ids_below}
use Rattle.abstract_shapes.proofs.NumberLemmas.{long}
use Rattle.abstract_shapes.proofs.printed.type_of.Goals as goal

pub type_at-requires : goal.type_at-requires
type_at-requires c = record { kept = c.new-kept.ensures (scene_of (structures c.args.shapes.now) c.args.joined.now c.args.names.now c.args.classes.now) }

pub returns : goal.returns
returns c =
    let shapes = structures c.args.shapes.now in
    let all : c.deref.result.now ≡ ids_below c.args.set.now.members (length c.args.shapes.now) =
    c.deref.ensures.value ∙ c.in_ok-ids.ensures ∙ ap (ids_below c.args.set.now.members) c.len.ensures in
    subst (λ ids. IfOk c.type_at.result (λ made. IsPrinted (scene_of shapes c.args.joined.now c.args.names.now c.args.classes.now) c.args.depth (shapes_under shapes ids) (term_view made)))
    (all ∙ ap (ids_below c.args.set.now.members) (sym (long c.args.shapes.now))) c.type_at.ensures.made
