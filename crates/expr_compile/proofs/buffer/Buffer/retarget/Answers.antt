-- Either there is an instruction at the place, or nothing changes.
use Rattle.std.proofs.Common.{◌≡◌, Some, None, slice_get, sym, ap, ◌∙◌}
use Rattle.std.specs.Option.{option_copied}
use Rattle.expr_compile.specs.Emitted.{Emitted}
use Rattle.expr_compile.proofs.Buffers.{turn_set, turn_past}
use Rattle.expr_compile.proofs.buffer.Buffer.retarget.Goals as goal

pub returns-in-Some : goal.returns-in-Some
returns-in-Some c =
    let old : Emitted = c.args.self.now in
    let here : slice_get old.instrs c.args.place ≡ Some c.in-Some.instr.now = ap (λ (e : Emitted). slice_get e.instrs c.args.place) (sym c.self.view_is) ∙ sym c.in-Some.ensures.value in
    c.aim.ensures ∙ ap (λ is. record old { instrs = is }) (sym (turn_set c.args.goal c.args.place old.instrs c.in-Some.instr.now here))

pub returns-in_default : goal.returns-in_default
returns-in_default c =
    let old : Emitted = c.args.self.now in
    let here : slice_get old.instrs c.args.place ≡ None = ap (λ (e : Emitted). slice_get e.instrs c.args.place) (sym c.self.view_is) ∙ sym c.get.ensures.value ∙ ap option_copied c.in_default.is in
    ap (λ is. record old { instrs = is }) (sym (turn_past c.args.goal c.args.place old.instrs here))
