use Rattle.std.proofs.Common.{◌≡◌, ◌++◌, fold, drop}
use Rattle.std.specs.Hash as fed
use Rattle.type_terms.specs.View.{terms_view}
use Rattle.abstract_shapes.specs.Marks.{all_marks}
use Rattle.abstract_shapes.proofs.hashed_term.+hash.Given as goal

abbrev pub invariant-hash_terms-loop-term : goal.invariant-hash_terms-loop-term
invariant-hash_terms-loop-term g l =
    fold g.H.Hasher.write l.state (all_marks (terms_view (drop l.term-index l.terms))) ≡ fold g.H.Hasher.write l.fn.state (fed.u8 l.mark ++ all_marks (terms_view l.terms))
