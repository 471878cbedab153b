use Rattle.std.proofs.Common.{◌≡◌, ◌++◌, drop, map}
use Rattle.type_terms.specs.View.{term_view, terms_view}
use Rattle.pyi_write.specs.Imports.{all_within}
use Rattle.pyi_write.proofs.written.+within.Given as goal

abbrev pub invariant-add_all_within-loop-term : goal.invariant-add_all_within-loop-term
invariant-add_all_within-loop-term l =
    map (λ part. term_view part.now) l.all.items ++ all_within (terms_view (drop l.term-index l.terms)) ≡ map (λ part. term_view part.now) l.initial.all.items ++ all_within (terms_view l.terms)
