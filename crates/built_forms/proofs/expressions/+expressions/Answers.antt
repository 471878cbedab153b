-- The parts of slices and calls, one after another.
use Rattle.built_forms.proofs.Parts.{slice_parts, call_parts}
use Rattle.built_forms.proofs.expressions.+expressions.Goals as goal

pub parts-returns-in_ok-bound-in-Slice-3 : goal.parts-returns-in_ok-bound-in-Slice-3
parts-returns-in_ok-bound-in-Slice-3 t c =
    slice_parts c.args.known.now c.args.kind.now c.in-Slice.a c.in-Slice.b c.in-Slice.c c.in-Slice.d c.deref-in-Slice.result.now _ _ _ _ _ c.in-Slice.is c.deref-in-Slice.ensures
    (c.in_ok-expression-in-Slice.ensures) (c.in_ok-bound-in-Slice.ensures) (c.in_ok-bound-in-Slice-2.ensures) (c.in_ok-bound-in-Slice-3.ensures)

pub parts-returns-in_ok-arguments-in-Call : goal.parts-returns-in_ok-arguments-in-Call
parts-returns-in_ok-arguments-in-Call t c =
    call_parts c.args.known.now c.args.kind.now c.in-Call.a c.in-Call.xs c.deref-in-Call.result.now c.deref-in-Call-2.result.now _ _ _ c.in-Call.is c.deref-in-Call.ensures c.deref-in-Call-2.ensures.value
    (c.in_ok-expression-in-Call.ensures) (c.in_ok-arguments-in-Call.ensures)
