use Rattle.std.proofs.Common.{◌≡◌, ◌-◌, ◌∙◌, ◌++◌, false, length, max, replicate, ap, arith}
use Rattle.std.proofs.lemmas.List.{take_all}
use Rattle.shape_sets.proofs.PlaneLemmas.{members-more_room, same_value}
use Rattle.shape_sets.proofs.set.ShapeSet.reserve.Goals as goal

pub returns-in_ok-resize-clause-reserved : goal.returns-in_ok-resize-clause-reserved
returns-in_ok-resize-clause-reserved c =
    let before = c.self.inside.held.items in
    let after = c.resize.new.self.items in
    let all = take_all c.args.width before (omega (arith, c.self.inside.held.ok)) in
    let wide : length after ≡ max (length before) c.args.width = omega (arith, c.resize.new.self.ok, c.self.inside.held.ok, c.in_ok-resize.ensures.len) in
    let items : after ≡ before ++ replicate (c.args.width - length before) false = c.in_ok-resize.ensures.items ∙ rw all (ap (λ n. before ++ replicate (c.args.width - n) false) (omega (arith, c.self.inside.held.ok))) in
    rw (← c.self.view_is) (same_value _ _ wide (members-more_room before after _ items))
