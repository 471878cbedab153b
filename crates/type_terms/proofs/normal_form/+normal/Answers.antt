use Rattle.std.proofs.Common.{◌<◌, ◌+◌, ◌∙◌, take, ap, sym, ◌∷◌, [], ◌++◌, length, arith}
use Rattle.std.proofs.lemmas.List.{take_more}
use Rattle.type_terms.proofs.PartLemmas.{are_normal_more}
use Rattle.type_terms.proofs.normal_form.+normal.Goals as goal

pub normal_terms-loop-term-preserved : goal.normal_terms-loop-term-preserved
normal_terms-loop-term-preserved t c =
    let terms = c.args.terms.now in
    let i = c.loop-term.term-index in
    let within : i < length terms = omega arith in
    are_normal_more (take i terms) c.loop-term.made.items (take (i + 1) terms) c.push.new.self.items c.term-item.result c.in_ok-normal_of.field-0 c.loop-term.invariant
    c.in_ok-normal_of.ensures (take_more terms i c.term-item.result within ∙ ap (λ u. take i terms ++ u ∷ []) (sym c.term-item.is)) c.in_ok-push.ensures.items
