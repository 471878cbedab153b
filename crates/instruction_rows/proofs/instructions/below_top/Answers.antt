-- Slots are counted by subtraction.
use Rattle.std.proofs.Common.{◌≡◌, ℕ, suc, ◌-◌, sym, ◌∙◌, arith}
use Rattle.world_rules.proofs.Counted.{slots_counted}
use Rattle.instruction_rows.proofs.instructions.below_top.Goals as goal

step : (r s depth below : ℕ) → r ≡ depth - below → s ≡ r - 1 → s ≡ depth - suc below
step r s depth below h k = omega (arith, h, k)

pub returns : goal.returns
returns c = step c.saturating_sub.result c.saturating_sub-2.result c.args.depth c.args.below c.saturating_sub.ensures c.saturating_sub-2.ensures ∙ sym (slots_counted c.args.depth (suc c.args.below))
