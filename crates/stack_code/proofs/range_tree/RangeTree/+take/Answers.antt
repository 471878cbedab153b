use Rattle.std.proofs.Common.{◌≡◌, ◌<◌, ◌≤◌, ◌++◌, sym, ap, subst, ◌∙◌, arith}
use Rattle.std.proofs.lemmas.List.{append-nil}
use Rattle.std.specs.List.{All}
use Rattle.stack_code.specs.RangeTrees.{LiesBetween, ranges_of, covering, uncovered, IsBounded}
use Rattle.stack_code.proofs.Taking.{branch_covering, branch_uncovered, covering_outside, uncovered_outside}
use Rattle.stack_code.specs.declared.range_tree.RangeTree.TheVariants as RangeTree
use Rattle.stack_code.proofs.range_tree.RangeTree.+take.Goals as goal
use Rattle.stack_code.proofs.range_tree.RangeTree.+take.Goals.{else-first-place-via-then-first-place+else-place-past, else-first-place-via-else-first-place}

pub returns-in_ok-take-in-Branch-2-clause-taken : goal.returns-in_ok-take-in-Branch-2-clause-taken
returns-in_ok-take-in-Branch-2-clause-taken t c =
    subst (λ tree. c.take-then-place-past.new.taken.items ≡ c.args.taken.now.items ++ covering (ranges_of tree) c.args.place) (sym c.in-Branch.is)
    (branch_covering (ranges_of c.in-Branch.left.value) (ranges_of c.in-Branch.right.value) c.args.place c.args.taken.now.items c.take.new.taken.items c.take-then-place-past.new.taken.items
    (subst (λ tree. c.take.new.taken.items ≡ c.args.taken.now.items ++ covering (ranges_of tree) c.args.place) c.deref_mut.ensures.value c.in_ok-take-in-Branch.ensures.taken)
    (subst (λ tree. c.take-then-place-past.new.taken.items ≡ c.take.new.taken.items ++ covering (ranges_of tree) c.args.place) c.deref_mut-then-place-past.ensures.value c.in_ok-take-in-Branch-2.ensures.taken))

pub returns-in_ok-take-in-Branch-2-clause-left : goal.returns-in_ok-take-in-Branch-2-clause-left
returns-in_ok-take-in-Branch-2-clause-left t c =
    subst (λ tree. ranges_of c.take.new.self ++ ranges_of c.take-then-place-past.new.self ≡ uncovered (ranges_of tree) c.args.place) (sym c.in-Branch.is)
    (branch_uncovered (ranges_of c.in-Branch.left.value) (ranges_of c.in-Branch.right.value) (ranges_of c.take.new.self) (ranges_of c.take-then-place-past.new.self) c.args.place
    (subst (λ tree. ranges_of c.take.new.self ≡ uncovered (ranges_of tree) c.args.place) c.deref_mut.ensures.value c.in_ok-take-in-Branch.ensures.left)
    (subst (λ tree. ranges_of c.take-then-place-past.new.self ≡ uncovered (ranges_of tree) c.args.place) c.deref_mut-then-place-past.ensures.value c.in_ok-take-in-Branch-2.ensures.left))

pub returns-else-first-place-clause-taken : goal.returns-else-first-place-clause-taken
returns-else-first-place-clause-taken t c =
    let bounded : IsBounded (RangeTree.Branch c.in-Branch.first c.in-Branch.past c.in-Branch.left c.in-Branch.right) = subst IsBounded c.in-Branch.is c.requires in
    let out : c.in-Branch.first ≤ c.args.place → c.args.place < c.in-Branch.past → ⊥ = λ l m. elim c.else-first-place.branch [
      | else-first-place-via-then-first-place+else-place-past w ↦ omega (arith, m, w.if-place-past.false)
      | else-first-place-via-else-first-place w ↦ omega (arith, l, w.if-first-place.false)
    ] in
    let all : All (LiesBetween c.in-Branch.first c.in-Branch.past) (ranges_of c.args.self.now) = subst (λ tree. All (LiesBetween c.in-Branch.first c.in-Branch.past) (ranges_of tree)) (sym c.in-Branch.is) bounded.0 in
    sym (ap (λ xs. c.args.taken.now.items ++ xs) (covering_outside (ranges_of c.args.self.now) c.in-Branch.first c.in-Branch.past c.args.place all out) ∙ append-nil c.args.taken.now.items)

pub returns-else-first-place-clause-left : goal.returns-else-first-place-clause-left
returns-else-first-place-clause-left t c =
    let bounded : IsBounded (RangeTree.Branch c.in-Branch.first c.in-Branch.past c.in-Branch.left c.in-Branch.right) = subst IsBounded c.in-Branch.is c.requires in
    let out : c.in-Branch.first ≤ c.args.place → c.args.place < c.in-Branch.past → ⊥ = λ l m. elim c.else-first-place.branch [
      | else-first-place-via-then-first-place+else-place-past w ↦ omega (arith, m, w.if-place-past.false)
      | else-first-place-via-else-first-place w ↦ omega (arith, l, w.if-first-place.false)
    ] in
    let all : All (LiesBetween c.in-Branch.first c.in-Branch.past) (ranges_of c.args.self.now) = subst (λ tree. All (LiesBetween c.in-Branch.first c.in-Branch.past) (ranges_of tree)) (sym c.in-Branch.is) bounded.0 in
    elim c.else-first-place.branch [
      | else-first-place-via-then-first-place+else-place-past w ↦ ap ranges_of w.self-is ∙ sym (ap ranges_of c.in-Branch.is) ∙ sym (uncovered_outside (ranges_of c.args.self.now) c.in-Branch.first c.in-Branch.past c.args.place all out)
      | else-first-place-via-else-first-place w ↦ ap ranges_of w.self-is ∙ sym (ap ranges_of c.in-Branch.is) ∙ sym (uncovered_outside (ranges_of c.args.self.now) c.in-Branch.first c.in-Branch.past c.args.place all out)
    ]
