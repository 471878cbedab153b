use Rattle.std.proofs.Common.{◌+◌, ◌<◌, ◌||◌, ◌∙◌, ap, sym, length, drop, map, arith}
use Rattle.std.proofs.Math.Bool.{or-false}
use Rattle.std.specs.List.{list_any}
use Rattle.std.specs.Str.{bytes_eq}
use Rattle.type_terms.specs.Normal.{has_class}
use Rattle.type_terms.specs.View.{term_view}
use Rattle.type_terms.proofs.AbsorbLemmas.{told_more, has_named}
use Rattle.type_terms.proofs.PartLemmas.{next_part}
use Rattle.type_terms.proofs.absorbed.exceptions_among.Goals as goal
use Rattle.type_terms.proofs.absorbed.exceptions_among.Goals.{in-Some+in_ok-add_name, in_default}

pub loop-part-preserved : goal.loop-part-preserved
loop-part-preserved c = λ name e.
    let within : c.loop-part.part-index < length c.args.parts.now = omega arith in
    let next = next_part c.args.parts.now c.loop-part.part-index c.part-item.result within c.part-item.is in
    let old = map (λ known. known.now) c.loop-part.names.items in
    let left = map term_view (drop (c.loop-part.part-index + 1) c.args.parts.now) in
    let all = map term_view c.args.parts.now in
    let before = ap (λ ts. list_any (bytes_eq name) old || has_class ts name) (sym next) ∙ c.loop-part.invariant name e in
    elim c.match-exception_name.branch [
      | in-Some+in_ok-add_name w ↦
          told_more old (map (λ known. known.now) c.match-exception_name.names.items) (term_view c.part-item.result) left all name e
          (ap (λ names. list_any (bytes_eq name) (map (λ known. known.now) names.items)) w.names-is ∙ w.in_ok-add_name.ensures name
          ∙ ap (λ o. list_any (bytes_eq name) old || has_named o name) w.in-Some.ensures)
          before
      | in_default w ↦
          told_more old (map (λ known. known.now) c.match-exception_name.names.items) (term_view c.part-item.result) left all name e
          (ap (λ names. list_any (bytes_eq name) (map (λ known. known.now) names.items)) w.names-is ∙ sym (or-false (list_any (bytes_eq name) old))
          ∙ ap (λ o. list_any (bytes_eq name) old || has_named o name) w.in_default.ensures)
          before
    ]
