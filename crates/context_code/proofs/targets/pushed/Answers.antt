-- Slots are counted by subtraction.
use Rattle.std.proofs.Common.{◌≡◌, ℕ, ◌-◌, ◌==◌, Some, None, sym, ap, ◌∙◌}
use Rattle.std.specs.Prelude.{if◌then◌else◌}
use Rattle.stack_code.specs.declared.effect.Effect.{Effect}
use Rattle.stack_code.specs.declared.op.Op.{Op}
use Rattle.stack_code.specs.Effects.{effect_of}
use Rattle.world_rules.specs.Places.{Context, slot, slots_left, pushed}
use Rattle.world_rules.proofs.Counted.{slots_counted}
use Rattle.world_tables.specs.Rows.{the_context}
use Rattle.context_code.proofs.targets.pushed.Goals as goal

pushed_is : (k : Context) (depth left : ℕ) (op : Op) (effect : Effect) → effect ≡ effect_of op → effect.pushes ≡ 1 → left ≡ depth - effect.takes → Some (slot k left) ≡ pushed k depth op
pushed_is k depth left op effect e p l =
    let one : (effect_of op).pushes ≡ 1 = ap (λ (f : Effect). f.pushes) (sym e) ∙ p in
    let count : left ≡ slots_left depth (effect_of op).takes = l ∙ (ap (λ (f : Effect). depth - f.takes) e ∙ sym (slots_counted depth (effect_of op).takes)) in
    ap (λ n. Some (slot k n)) count
    ∙ sym (ap (λ n. if n == 1 then Some (slot k (slots_left depth (effect_of op).takes)) else None) one)

pub returns-clause-stands : goal.returns-clause-stands
returns-clause-stands c = λ contexts.
    pushed_is (the_context contexts c.args.at.now.context) c.args.at.now.depth c.saturating_sub-left.result c.args.op.now c.effect-effect.result c.effect-effect.ensures c.if-effect-ne1.false c.saturating_sub-left.ensures
