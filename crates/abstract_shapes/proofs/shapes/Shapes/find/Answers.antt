use Rattle.std.proofs.Common.{◌≡◌, ◌∙◌, ap, sym, subst, length, slice_get, position, Some, false}
use Rattle.std.specs.List.{list_any}
use Rattle.abstract_shapes.specs.Numbering.{structures, IsThere}
use Rattle.abstract_shapes.specs.Same.{same_shape}
use Rattle.abstract_shapes.proofs.NumberLemmas.{found, not_found}
use Rattle.abstract_shapes.proofs.shapes.Shapes.find.Goals as goal

pub returns-clause-found : goal.returns-clause-found
returns-clause-found c =
    let h : position (same_shape c.args.shape.now) c.self.inside.rows.keys ≡ Some c.in_ok-place.place = sym c.in_ok-place.ensures.index in
    rw (← c.self.view_is) (ap (slice_get (structures c.self.inside.rows.keys)) c.new.ensures ∙ found c.self.inside.rows.keys c.self.invariant c.args.shape.now c.in_ok-place.place h)

pub returns-in_err-place-clause-none : goal.returns-in_err-place-clause-none
returns-in_err-place-clause-none c = λ e there.
    let h : list_any (same_shape c.args.shape.now) c.self.inside.rows.keys ≡ false = sym c.in_err-place.ensures.found in
    rw (← c.self.view_is) (not_found c.self.inside.rows.keys c.self.invariant c.args.shape.now (subst (λ t. IsThere (length t) c.args.shape.now) (sym c.self.view_is) there) h)
