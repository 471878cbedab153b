-- Slots are counted by subtraction, and places behind instructions have the depths that these leave.
use Rattle.std.proofs.Common.{◌≡◌, ℕ, suc, zero, ◌+◌, ◌-◌, ◌<◌, ◌≤◌, length, true, Option, Some, None, option_map, refl, sym, ap, ◌∙◌, arith}
use Rattle.stack_code.specs.declared.op.Op.{Op}
use Rattle.stack_code.specs.declared.op.Op.TheVariants as op
use Rattle.stack_code.specs.Depths.{HasDepth, given, goes_on, jumps}
use Rattle.stack_code.specs.Effects.{effect_of, falls, goal_of, depth_after, depth_at_goal}
use Rattle.world_rules.specs.Places.{Context, slots_left}
use Rattle.world_rules.specs.Sources.{Source}
use Rattle.world_rules.specs.Branches.{Branch, branch}
use Rattle.world_rules.specs.Rules.{HasPlace, Stands}

pub slots_counted : (depth taken : ℕ) → slots_left depth taken ≡ depth - taken
slots_counted depth zero = omega arith
slots_counted zero (suc n) = omega arith
slots_counted (suc d) (suc n) = slots_counted d n ∙ omega arith

pub depth_behind : (o : Op) (rest : ℕ) → depth_after o (rest + (effect_of o).takes) ≡ rest + (effect_of o).pushes
depth_behind o rest = omega arith

pub goals_are : (o : Op) → option_map (λ b. b.goal) (branch o) ≡ goal_of o
goals_are (op.Jump goal) = refl
goals_are (op.JumpIfFalse goal) = refl
goals_are (op.JumpIfFalseKeep goal) = refl
goals_are (op.JumpIfTrue goal) = refl
goals_are (op.JumpIfTrueKeep goal) = refl
goals_are (op.ForNext goal) = refl
goals_are _ = refl

pub goal_is : (o : Op) (b : Branch) → branch o ≡ Some b → goal_of o ≡ Some b.goal
goal_is o b e = let P : Option Branch → Option ℕ = λ x. option_map (λ b. b.goal) x in sym (goals_are o) ∙ ap P e

module _ (s : Source) (c : Context) (place depth : ℕ) (o : Op) where
  pub fall_place : (h : Stands s c place depth o) → (effect_of o).needs ≤ depth → falls o ≡ true → suc place < length h.code.ops → HasPlace s c (suc place) (depth_after o depth)
  fall_place h needs f lt = record { code = h.code; of = h.of; has_depth = given h.has_depth h.op (goes_on needs f) lt }

  pub jump_place : (b : Branch) (h : Stands s c place depth o) → (effect_of o).needs ≤ depth → branch o ≡ Some b → b.goal < length h.code.ops → HasPlace s c b.goal (depth_at_goal o depth)
  jump_place b h needs e lt = record { code = h.code; of = h.of; has_depth = given h.has_depth h.op (jumps needs (goal_is o b e)) lt }
