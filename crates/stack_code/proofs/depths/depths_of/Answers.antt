use Rattle.std.proofs.Common.{◌≡◌, ◌+◌, ◌-◌, ◌^◌, ◌<◌, Ok, length, slice_get, Some, sym, ap, ◌∙◌, subst, arith}
use Rattle.std.proofs.lemmas.Result.{err_from_is_err_and}
use Rattle.std.specs.List.Sorted.{IsPermutation}
use Rattle.stack_code.specs.RangeTrees.{ranges_of, uncovered}
use Rattle.stack_code.specs.Search.{AreDepths, with_depth, ways}
use Rattle.stack_code.proofs.Lists.{blanks}
use Rattle.stack_code.proofs.FirstBreaks.{op_stands}
use Rattle.stack_code.proofs.Searching.{IsTaken, IsPending, IsTurned, pending_begins, search_begins, taken_within, taken_low, op_given, op_differs, ranges_differ, search_goes_on, search_ends}
use Rattle.stack_code.proofs.depths.depths_of.Goals as goal

pub loop-reached-init : goal.loop-reached-init
loop-reached-init c =
    record {
      searched = search_begins c.args.code.now c.requires.short c.len.result c.len.ensures c.give.new.self (subst (λ f. with_depth (record { place = 0; depth = 0 }) f ≡ Ok c.give.new.self) c.in_ok-search.ensures c.in_ok-give.ensures.given);
      pending = pending_begins c.args.code.now (ranges_of c.in_ok-ranges.ranges) c.give.new.self (subst (λ xs. IsPermutation xs (ranges_of c.in_ok-ranges.ranges)) c.as_slice.ensures c.in_ok-ranges.ensures.same);
      bounded = c.in_ok-ranges.ensures.bounded;
    }

pub bounds-as_slice-reached : goal.bounds-as_slice-reached
bounds-as_slice-reached c =
    let taken : IsTaken c.args.code.now c.loop-reached.search c.next.new.self c.in-Some.reached = record { depths = c.in-Some.ensures.0; waiting = c.in-Some.ensures.1 } in
    omega (arith, taken_within c.args.code.now c.loop-reached.search c.next.new.self c.in-Some.reached taken c.loop-reached.invariant.searched, ap length c.as_slice-in-Some.ensures)

pub follow_op-requires-clause-place : goal.follow_op-requires-clause-place
follow_op-requires-clause-place c =
    let taken : IsTaken c.args.code.now c.loop-reached.search c.next.new.self c.in-Some.reached = record { depths = c.in-Some.ensures.0; waiting = c.in-Some.ensures.1 } in
    omega (arith, taken_within c.args.code.now c.loop-reached.search c.next.new.self c.in-Some.reached taken c.loop-reached.invariant.searched)

pub follow_op-requires-clause-depth : goal.follow_op-requires-clause-depth
follow_op-requires-clause-depth c =
    let taken : IsTaken c.args.code.now c.loop-reached.search c.next.new.self c.in-Some.reached = record { depths = c.in-Some.ensures.0; waiting = c.in-Some.ensures.1 } in
    let low : c.in-Some.reached.depth + blanks c.next.new.self.depths < 2 ^ 32 - 1 = taken_low c.args.code.now c.loop-reached.search c.next.new.self c.in-Some.reached taken c.loop-reached.invariant.searched in
    omega (arith, low)

pub returns-in_err-follow_op-clause-differs : goal.returns-in_err-follow_op-clause-differs
returns-in_err-follow_op-clause-differs c = λ place e.
    let p = err_from_is_err_and c.from_residual-in_err-follow_op.result c.from_residual-in_err-follow_op.ensures.1 in
    let taken : IsTaken c.args.code.now c.loop-reached.search c.next.new.self c.in-Some.reached = record { depths = c.in-Some.ensures.0; waiting = c.in-Some.ensures.1 } in
    let stands : slice_get c.args.code.now.ops c.in-Some.reached.place ≡ Some c.index-as_slice-reached.result = op_stands c.args.code.now c.as_slice-in-Some.result.now c.in-Some.reached.place c.index-as_slice-reached.result c.as_slice-in-Some.ensures (taken_within c.args.code.now c.loop-reached.search c.next.new.self c.in-Some.reached taken c.loop-reached.invariant.searched) c.index-as_slice-reached.is in
    op_differs c.args.code.now c.loop-reached.search c.next.new.self c.in-Some.reached c.index-as_slice-reached.result taken c.loop-reached.invariant.searched stands
    place (c.in_err-follow_op.ensures.differs place (cc))

pub loop-reached-smaller : goal.loop-reached-smaller
loop-reached-smaller c =
    let taken : IsTaken c.args.code.now c.loop-reached.search c.next.new.self c.in-Some.reached = record { depths = c.in-Some.ensures.0; waiting = c.in-Some.ensures.1 } in
    let stands : slice_get c.args.code.now.ops c.in-Some.reached.place ≡ Some c.index-as_slice-reached.result = op_stands c.args.code.now c.as_slice-in-Some.result.now c.in-Some.reached.place c.index-as_slice-reached.result c.as_slice-in-Some.ensures (taken_within c.args.code.now c.loop-reached.search c.next.new.self c.in-Some.reached taken c.loop-reached.invariant.searched) c.index-as_slice-reached.is in
    (search_goes_on c.args.code.now (ranges_of c.loop-reached.ranges) c.loop-reached.search c.next.new.self c.follow_op.new.self c.follow_ranges.new.self c.in-Some.reached c.index-as_slice-reached.result taken c.loop-reached.invariant.searched c.loop-reached.invariant.pending stands
    (op_given c.args.code.now c.loop-reached.search c.next.new.self c.follow_op.new.self c.in-Some.reached c.index-as_slice-reached.result taken c.loop-reached.invariant.searched stands c.in_ok-follow_op.ensures.given)
    c.requires.low c.in_ok-follow_ranges.ensures.given).less

pub loop-reached-preserved : goal.loop-reached-preserved
loop-reached-preserved c =
    let taken : IsTaken c.args.code.now c.loop-reached.search c.next.new.self c.in-Some.reached = record { depths = c.in-Some.ensures.0; waiting = c.in-Some.ensures.1 } in
    let stands : slice_get c.args.code.now.ops c.in-Some.reached.place ≡ Some c.index-as_slice-reached.result = op_stands c.args.code.now c.as_slice-in-Some.result.now c.in-Some.reached.place c.index-as_slice-reached.result c.as_slice-in-Some.ensures (taken_within c.args.code.now c.loop-reached.search c.next.new.self c.in-Some.reached taken c.loop-reached.invariant.searched) c.index-as_slice-reached.is in
    let turned : IsTurned c.args.code.now (uncovered (ranges_of c.loop-reached.ranges) c.in-Some.reached.place) c.loop-reached.search c.follow_ranges.new.self =
    search_goes_on c.args.code.now (ranges_of c.loop-reached.ranges) c.loop-reached.search c.next.new.self c.follow_op.new.self c.follow_ranges.new.self c.in-Some.reached c.index-as_slice-reached.result taken c.loop-reached.invariant.searched c.loop-reached.invariant.pending stands
    (op_given c.args.code.now c.loop-reached.search c.next.new.self c.follow_op.new.self c.in-Some.reached c.index-as_slice-reached.result taken c.loop-reached.invariant.searched stands c.in_ok-follow_op.ensures.given)
    c.requires.low c.in_ok-follow_ranges.ensures.given in
    record {
      searched = turned.searched;
      pending = subst (λ xs. IsPending c.args.code.now xs c.follow_ranges.new.self) (sym c.in_ok-follow_ranges.ensures.left) turned.pending;
      bounded = c.in_ok-follow_ranges.ensures.bounded;
    }

pub returns-in_err-follow_ranges-clause-differs : goal.returns-in_err-follow_ranges-clause-differs
returns-in_err-follow_ranges-clause-differs c = λ place e.
    let p = err_from_is_err_and c.from_residual-in_err-follow_ranges.result c.from_residual-in_err-follow_ranges.ensures.1 in
    let taken : IsTaken c.args.code.now c.loop-reached.search c.next.new.self c.in-Some.reached = record { depths = c.in-Some.ensures.0; waiting = c.in-Some.ensures.1 } in
    let stands : slice_get c.args.code.now.ops c.in-Some.reached.place ≡ Some c.index-as_slice-reached.result = op_stands c.args.code.now c.as_slice-in-Some.result.now c.in-Some.reached.place c.index-as_slice-reached.result c.as_slice-in-Some.ensures (taken_within c.args.code.now c.loop-reached.search c.next.new.self c.in-Some.reached taken c.loop-reached.invariant.searched) c.index-as_slice-reached.is in
    ranges_differ c.args.code.now (ranges_of c.loop-reached.ranges) c.loop-reached.search c.next.new.self c.follow_op.new.self c.in-Some.reached (ways c.index-as_slice-reached.result c.in-Some.reached.place c.in-Some.reached.depth) taken c.loop-reached.invariant.searched c.loop-reached.invariant.pending
    (op_given c.args.code.now c.loop-reached.search c.next.new.self c.follow_op.new.self c.in-Some.reached c.index-as_slice-reached.result taken c.loop-reached.invariant.searched stands c.in_ok-follow_op.ensures.given)
    c.requires.low place (c.in_err-follow_ranges.ensures.differs place (cc))

pub returns-clause-depths : goal.returns-clause-depths
returns-clause-depths c =
    subst (λ ds. AreDepths c.args.code.now ds) (sym (ap (λ f. f.depths) c.search-2.view_is ∙ ap (λ f. f.depths) c.in_default.ensures.1))
    (search_ends c.args.code.now c.loop-reached.search c.loop-reached.invariant.searched c.in_default.ensures.0)
