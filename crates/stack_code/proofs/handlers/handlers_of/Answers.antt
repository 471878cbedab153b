use Rattle.std.proofs.Common.{◌<◌, ◌≤◌, length, get_or, None, sym, subst, ◌∙◌, arith}
use Rattle.std.specs.List.Sorted.{IsPermutation, IsNonDecreasingBy, IsStableByKey}
use Rattle.std.specs.Ordering.{nat_cmp}
use Rattle.stack_code.specs.Painting.{length_of}
use Rattle.stack_code.proofs.Nearest.{lies_within}
use Rattle.stack_code.proofs.Painting.{told_last}
use Rattle.stack_code.proofs.Shortest.{shortest_first}
use Rattle.stack_code.proofs.handlers.handlers_of.Goals as goal

pub paint-requires-clause-within : goal.paint-requires-clause-within
paint-requires-clause-within c =
    let moved : IsPermutation c.args.code.now.ranges c.as_slice-range-items.result.now =
    subst (λ xs. IsPermutation xs c.as_slice-range-items.result.now) c.as_slice.ensures (subst (λ xs. IsPermutation c.as_slice.result.now xs) (sym c.as_slice-range-items.ensures.value) c.in_ok-ranges.ensures.same) in
    let here : c.loop-range.range-index < length c.as_slice-range-items.result.now = omega arith in
    let within = lies_within c.args.code.now c.as_slice-range-items.result.now c.loop-range.range-index (record { first = 0; past = 0; goal = 0; depth = 0 }) c.requires.within moved here in
    omega (arith, within, c.loop-range.invariant.size, c.as_mut_slice.ensures.len)

pub returns : goal.returns
returns c =
    let moved : IsPermutation c.args.code.now.ranges c.as_slice-range-items.result.now =
    subst (λ xs. IsPermutation xs c.as_slice-range-items.result.now) c.as_slice.ensures (subst (λ xs. IsPermutation c.as_slice.result.now xs) (sym c.as_slice-range-items.ensures.value) c.in_ok-ranges.ensures.same) in
    let rising : IsNonDecreasingBy length_of c.as_slice-range-items.result.now = subst (λ xs. IsNonDecreasingBy length_of xs) (sym c.as_slice-range-items.ensures.value) c.in_ok-ranges.ensures.rising in
    let stable : IsStableByKey length_of nat_cmp c.args.code.now.ranges c.as_slice-range-items.result.now =
    subst (λ xs. IsStableByKey length_of nat_cmp xs c.as_slice-range-items.result.now) c.as_slice.ensures (subst (λ xs. IsStableByKey length_of nat_cmp c.as_slice.result.now xs) (sym c.as_slice-range-items.ensures.value) c.in_ok-ranges.ensures.stable) in
    let end : length c.as_slice-range-items.result.now ≤ c.loop-range.range-index = omega arith in
    record {
      size = c.loop-range.invariant.size;
      told = λ p l.
          told_last (get_or c.loop-range.handlers.items p None) c.loop-range.range-index p c.as_slice-range-items.result.now end (c.loop-range.invariant.told p l)
          ∙ shortest_first c.args.code.now.ranges c.as_slice-range-items.result.now p moved rising stable;
    }
