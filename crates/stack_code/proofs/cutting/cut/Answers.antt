use Rattle.std.proofs.Common.{◌≡◌, ℕ, ◌+◌, ◌<◌, ◌||◌, Bool, true, false, List, [], ◌∷◌, ◌++◌, length, get_or, slice_get, Some, refl, subst, ap, sym, ◌∙◌, arith}
use Rattle.std.proofs.Math.Bool.{or-true}
use Rattle.std.proofs.lemmas.Option.{slice_get_read}
use Rattle.stack_code.specs.declared.code.Code.{Code}
use Rattle.stack_code.specs.declared.op.Op.{Op}
use Rattle.stack_code.specs.Blocks.{ends_run}
use Rattle.stack_code.proofs.Cuts.{IsCut, Cut, cut_stops, cut_goes}
use Rattle.stack_code.proofs.cutting.cut.Goals as goal
use Rattle.stack_code.proofs.cutting.cut.Goals.{then-ends_run_at+in_ok-push, then-ends_run_at-via-then-ends_run_at, then-ends_run_at-via-else-ends_run_at+then-is_entered, else-ends_run_at+else-is_entered}

-- what stands at a place of the slice stands there in the code
stands : (code : Code) (ops : List Op) (place : ℕ) (op : Op) → ops ≡ code.ops → place < length ops → op ≡ get_or ops place op → slice_get code.ops place ≡ Some op
stands code ops place op e l is = subst (λ xs. slice_get xs place ≡ Some op) e (slice_get_read ops (length ops) place op refl l is)

-- what a round leaves, by the equations for it
as_left : (code : Code) (place : ℕ) (runs left : List (ℕ × ℕ)) (first next : ℕ) → left ≡ runs → next ≡ first → IsCut code place runs first → IsCut code place left next
as_left code place runs left first next e f c = subst (λ rs. IsCut code place rs next) (sym e) (subst (λ n. IsCut code place runs n) (sym f) c)

pub loop-place-preserved : goal.loop-place-preserved
loop-place-preserved c =
    let code : Code = c.args.code.now in
    let entered : List Bool = c.args.entered.now in
    let place : ℕ = c.loop-place.place in
    let op : Op = c.op-item.result in
    let here : c.as_slice-op-items.result.now ≡ code.ops = c.as_slice-op-items.ensures ∙ ap (λ (x : Code). x.ops) c.code.ensures.code in
    let there : slice_get code.ops place ≡ Some op = stands code c.as_slice-op-items.result.now place op here c.loop-place-test.true c.op-item.is in
    let within : place < length code.ops = omega (arith, c.loop-place-test.true, ap length here) in
    let before : Cut code (place + 1) c.loop-place.runs c.loop-place.first = c.loop-place.invariant.going within in
    let ends : c.ends_run_at.result ≡ ends_run code.ranges place op = c.ends_run_at.ensures in
    let cut : IsCut code (place + 1) c.if-ends_run_at.runs c.if-ends_run_at.first =
    elim c.if-ends_run_at.branch [
      | then-ends_run_at+in_ok-push w ↦
          let stops : (get_or entered (place + 1) true || ends_run code.ranges place op) ≡ true =
          elim w.then-ends_run_at.branch [
            | then-ends_run_at-via-then-ends_run_at w' ↦ ap (λ b. get_or entered (place + 1) true || b) (sym ends ∙ w'.if-ends_run_at.true) ∙ or-true (get_or entered (place + 1) true)
            | then-ends_run_at-via-else-ends_run_at+then-is_entered w' ↦ ap (λ b. b || ends_run code.ranges place op) (sym w'.is_entered.ensures ∙ w'.if-is_entered.true)
          ] in
          as_left code (place + 1) (c.loop-place.runs ++ (c.loop-place.first, place + 1) ∷ []) c.if-ends_run_at.runs (place + 1) c.if-ends_run_at.first (w.runs-is ∙ w.in_ok-push.ensures.ok) w.first-is
          (cut_stops code entered place op c.loop-place.runs c.loop-place.first c.requires.all c.requires.told there stops before)
      | else-ends_run_at+else-is_entered w ↦
          let goes : (get_or entered (place + 1) true || ends_run code.ranges place op) ≡ false =
          ap (λ b. b || ends_run code.ranges place op) (sym w.is_entered.ensures ∙ w.if-is_entered.false) ∙ (sym ends ∙ w.if-ends_run_at.false) in
          as_left code (place + 1) c.loop-place.runs c.if-ends_run_at.runs c.loop-place.first c.if-ends_run_at.first w.runs-is w.first-is
          (cut_goes code entered place op c.loop-place.runs c.loop-place.first c.requires.all c.requires.told there goes before)
    ] in
    record { going = cut.0; done = cut.1 }
