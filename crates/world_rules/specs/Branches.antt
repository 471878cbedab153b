-- Where an instruction jumps to, and what it asks of the top of the stack where it jumps and where it falls.
use Rattle.std.specs.Prelude.{ℕ, Bool, true, false, Option, Some, None}
use Rattle.std.specs.Option.{option_and_then}
use Rattle.graph_walks.specs.Worlds.{Test, MayBeTrue, MayBeFalse, Ask}
use Rattle.stack_code.specs.declared.op.Op.{Op}
use Rattle.stack_code.specs.declared.op.Op.TheVariants as op
use Rattle.abstract_shapes.specs.Shapes.{Shape}
use Rattle.world_rules.specs.Places.{Context, Variable, slot, below_top}

-- the place that it jumps to, and the tests
pub record Branch : Type 0 where
  pub goal : ℕ
  pub on_jump : Option (Test Shape)
  pub on_fall : Option (Test Shape)

abbrev pub untested : ℕ → Option Branch
untested goal = Some (record { goal = goal; on_jump = None; on_fall = None })

abbrev pub if_false : ℕ → Option Branch
if_false goal = Some (record { goal = goal; on_jump = Some MayBeFalse; on_fall = Some MayBeTrue })

abbrev pub if_true : ℕ → Option Branch
if_true goal = Some (record { goal = goal; on_jump = Some MayBeTrue; on_fall = Some MayBeFalse })

abbrev pub branch : Op → Option Branch
branch (op.Jump goal) = untested goal
branch (op.JumpIfFalse goal) = if_false goal
branch (op.JumpIfFalseKeep goal) = if_false goal
branch (op.JumpIfTrue goal) = if_true goal
branch (op.JumpIfTrueKeep goal) = if_true goal
branch (op.ForNext goal) = untested goal
branch _ = None

abbrev pub fall_test : Op → Option (Test Shape)
fall_test o = option_and_then (λ b. b.on_fall) (branch o)

-- the top of the stack is asked
abbrev pub ask_top : Context → (depth : ℕ) → Option (Test Shape) → Option (Ask Variable Shape)
ask_top c depth None = None
ask_top c depth (Some test) = Some (record { var = slot c (below_top depth 0); test = test })

-- whether the rules of a call say how it goes on
abbrev pub is_call : Op → Bool
is_call (op.Call positionals keywords site) = true
is_call (op.MakeRaised site) = true
is_call _ = false
