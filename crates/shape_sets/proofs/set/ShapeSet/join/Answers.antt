use Rattle.std.proofs.Common.{refl, arith}
use Rattle.shape_sets.proofs.PlaneLemmas.{members-union, union_grows, union_of_subset, within_is_subset, grown, same_value, written}
use Rattle.shape_sets.proofs.set.ShapeSet.join.Goals as goal

pub returns-then-grows-clause-joined : goal.returns-then-grows-clause-joined
returns-then-grows-clause-joined c =
    let before = c.self.inside.held.items in
    let union = rw (c.deref_mut.ensures.value, c.deref-then-grows.ensures.value) at c.add_all.ensures in
    let same = written c.self.inside.held.len before c.add_all.new.held (omega (arith, c.self.inside.held.ok)) union.long in
    rw (← c.self.view_is, ← c.other.view_is) (same_value _ _ (rw same union.long) (rw same (members-union before c.other.inside.held.items c.add_all.new.held union)))

pub returns-then-grows-clause-grown : goal.returns-then-grows-clause-grown
returns-then-grows-clause-grown c =
    let before = c.self.inside.held.items in
    let union = rw (c.deref_mut.ensures.value, c.deref-then-grows.ensures.value) at c.add_all.ensures in
    let more = rw (c.deref.ensures.value, c.deref-2.ensures.value) at c.if-grows.ensures in
    let same = written c.self.inside.held.len before c.add_all.new.held (omega (arith, c.self.inside.held.ok)) union.long in
    rw (← c.self.view_is, c.if-grows.true, same) (grown before c.add_all.new.held _ (union_grows before c.other.inside.held.items c.add_all.new.held union more))

pub returns-else-grows-clause-joined : goal.returns-else-grows-clause-joined
returns-else-grows-clause-joined c =
    let within = rw (c.deref.ensures.value, c.deref-2.ensures.value) at c.if-grows.ensures in
    rw (← c.self.view_is, ← c.other.view_is) (same_value _ _ refl (union_of_subset _ _ (within_is_subset _ _ within)))

pub returns-else-grows-clause-grown : goal.returns-else-grows-clause-grown
returns-else-grows-clause-grown c = rw (← c.self.view_is, c.if-grows.false) (grown c.self.inside.held.items c.self.inside.held.items _ (record { each = λ k one. one }))
