use Rattle.std.proofs.Common.{◌<◌, ◌≡◌, length, slice_set, true, arith, sym, ap, ◌∙◌}
use Rattle.std.proofs.Math.ListN.{length-set}
use Rattle.std.specs.FinSet.{insert}
use Rattle.shape_sets.specs.Planes.{members_of}
use Rattle.shape_sets.proofs.PlaneLemmas.{members-set, set_or_not, grown, same_value, holds-read}
use Rattle.shape_sets.proofs.set.ShapeSet.insert.Goals as goal

pub returns-clause-inserted : goal.returns-clause-inserted
returns-clause-inserted c =
    let before = c.self.inside.held.items in
    let here = rw (← c.self.view_is) at c.requires in
    let within : c.number-place.result < length before = omega (arith, c.number-place.ensures, here) in
    let wide : length (slice_set before c.number-place.result true) ≡ length before = length-set before c.number-place.result true in
    let members = members-set before c.number-place.result within ∙ ap (λ n. insert (members_of before) n) c.number-place.ensures in
    rw (← c.self.view_is) (same_value _ _ wide members)

pub returns-clause-grown : goal.returns-clause-grown
returns-clause-grown c =
    let before = c.self.inside.held.items in
    let here = rw (← c.self.view_is) at c.requires in
    let within : c.number-place.result < length before = omega (arith, c.number-place.ensures, here) in
    rw (← c.self.view_is) (grown before _ _ (set_or_not before c.number-place.result c.index.result.now within (holds-read before c.number-place.result c.index.result.now within (sym c.index.ensures))))
