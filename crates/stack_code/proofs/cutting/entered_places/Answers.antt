use Rattle.std.proofs.Common.{◌≡◌, ℕ, ◌<◌, ◌||◌, Bool, false, List, ◌++◌, length, get_or, take, drop, ap, ◌∙◌, arith}
use Rattle.std.proofs.lemmas.List.{append-nil, drop_all, take_all}
use Rattle.stack_code.specs.declared.code.Code.{Code}
use Rattle.stack_code.specs.declared.op.Op.{Op}
use Rattle.stack_code.specs.Blocks.{leads, has_place}
use Rattle.stack_code.proofs.Cuts.{entries_step}
use Rattle.stack_code.proofs.cutting.entered_places.Goals as goal

-- a list that was written over the whole of another
written : (old new : List Bool) (size : ℕ) → size ≡ length old → length new ≡ length old → take size (new ++ drop (length new) old) ≡ new
written old new size s e =
    ap (λ xs. take size (new ++ xs)) (drop_all (length new) old (omega (arith, e))) ∙ ap (take size) (append-nil new) ∙ take_all size new (omega (arith, s, e))

pub loop-place-preserved : goal.loop-place-preserved
loop-place-preserved c =
    let code : Code = c.args.code.now in
    let ops : List Op = c.as_slice-ops.result.now in
    let place : ℕ = c.loop-place.place in
    let op : Op = c.index-ops-place.result in
    let old : List Bool = c.loop-place.entered.items in
    let new : List Bool = c.mark_leads.new.entered in
    let value : c.as_mut_slice.result.now ≡ old = c.as_mut_slice.ensures.value in
    let size : length new ≡ length old = c.mark_leads.auto.entered ∙ ap length value in
    let whole = written old new c.loop-place.entered.len c.loop-place.entered.ok.0 size in
    let all : length new ≡ length code.ops = size ∙ c.loop-place.invariant.all in
    let here : ops ≡ code.ops = c.as_slice-ops.ensures ∙ ap (λ (x : Code). x.ops) c.code.ensures.code in
    let within : place < length code.ops = omega (arith, c.loop-place-test.true, ap length here) in
    let stands : op ≡ get_or code.ops place op = c.index-ops-place.is ∙ ap (λ (xs : List Op). get_or xs place op) here in
    let marked = λ (p : ℕ) (l : p < length code.ops).
    ap (λ (xs : List Bool). get_or xs p false) whole
    ∙ c.mark_leads.ensures p (omega (arith, l, ap length value, c.loop-place.invariant.all))
    ∙ ap (λ (xs : List Bool). get_or xs p false || has_place (leads code.ranges place op) p) value in
    record {
      all = ap length whole ∙ all;
      told = λ p l. entries_step code.ranges code.ops place op p (get_or old p false) _ within stands (marked p l) (c.loop-place.invariant.told p l);
    }
