-- Where things stand, by structure: contexts, points and variables. No number of a table is among them.
use Rattle.std.specs.Prelude.{ℕ, zero, suc, Bool, true, false, ◌&&◌, ◌==◌, Option, Some, None, slice_get, if◌then◌else◌}
use Rattle.std.specs.Option.{option_and_then}
use Rattle.stack_code.specs.declared.code.Code.{Code}
use Rattle.stack_code.specs.declared.op.Op.{Op}
use Rattle.stack_code.specs.declared.op.Op.TheVariants.{Param, StoreLocal, ForgetLocal, StoreName, ForgetName, Return}
use Rattle.stack_code.specs.Effects.{effect_of}
use Rattle.tree_code.specs.Programs.{Program}
use Rattle.world_rules.specs.declared.seat.Seat.{Seat}
use Rattle.world_rules.specs.declared.seat.Seat.TheVariants as seat
use Rattle.world_rules.specs.declared.seat.SeatOwner.{SeatOwner}
use Rattle.world_rules.specs.declared.seat.SeatOwner.TheVariants.{Own}
use Rattle.world_rules.specs.declared.seat.OwnedSeat.{OwnedSeat}
use Rattle.world_rules.specs.declared.seat.Thread.{Thread}
use Rattle.world_rules.specs.declared.seat.Thread.TheVariants.{OfModule, OfFunction}

-- a chain of calls: the module's body, a function that is entered from outside, or a call of a function at a place of a context, where the stack has this depth
pub data Context : Type 0 where
  main : Context
  entry : (fun : ℕ) → Context
  called : Context → (place depth fun : ℕ) → Context
  deriving Discrete as context-discrete

-- A local or a slot of the stack, counted from the bottom, of a context; or a global. Globals are variables in the thread that starts at the module
pub data Variable : Type 0 where
  local : Context → ℕ → Variable
  slot : Context → ℕ → Variable
  global : ℕ → Variable
  deriving Discrete as variable-discrete

-- a place of a context's code, with the depth that the stack has there
pub data Point : Type 0 where
  at : Context → (place depth : ℕ) → Point
  deriving Discrete as point-discrete

abbrev pub same_context : Context → Context → Bool
same_context main main = true
same_context (entry f) (entry g) = f == g
same_context (called c p d f) (called b q e g) = same_context c b && ((p == q) && ((d == e) && (f == g)))
same_context _ _ = false

abbrev pub same_variable : Variable → Variable → Bool
same_variable (local c i) (local b j) = same_context c b && (i == j)
same_variable (slot c i) (slot b j) = same_context c b && (i == j)
same_variable (global n) (global m) = n == m
same_variable _ _ = false

-- ---- contexts

abbrev pub fun_of : Context → Option ℕ
fun_of main = None
fun_of (entry f) = Some f
fun_of (called c place depth f) = Some f

-- how many calls the chain has
abbrev pub level : Context → ℕ
level main = 0
level (entry f) = 0
level (called c place depth f) = suc (level c)

-- where its thread starts
abbrev pub thread_of : Context → Thread
thread_of main = OfModule
thread_of (entry f) = OfFunction
thread_of (called c place depth f) = thread_of c

abbrev pub code_for : Program → Option ℕ → Option Code
code_for program None = Some program.body
code_for program (Some f) = slice_get program.codes f

abbrev pub code_of : Program → Context → Option Code
code_of program c = code_for program (fun_of c)

abbrev pub op_at : Program → Context → ℕ → Option Op
op_at program c place = option_and_then (λ code. slice_get code.ops place) (code_of program c)

-- ---- slots

-- how many slots are left of a stack when so many are taken off
abbrev pub slots_left : (depth taken : ℕ) → ℕ
slots_left depth zero = depth
slots_left zero (suc n) = 0
slots_left (suc d) (suc n) = slots_left d n

-- the number of the slot that stands so many below the top
abbrev pub below_top : (depth below : ℕ) → ℕ
below_top depth n = slots_left depth (suc n)

-- ---- variables

abbrev pub variable_at : Context → Seat → Variable
variable_at c (seat.Local i) = local c i
variable_at c (seat.Slot i) = slot c i
variable_at c (seat.Global n) = global n

abbrev pub owner : Context → SeatOwner → Context
owner c Own = c

abbrev pub variable_of : Context → OwnedSeat → Variable
variable_of c s = variable_at (owner c s.owner) s.seat

-- the slot that an instruction pushes, if it pushes one
abbrev pub pushed : Context → (depth : ℕ) → Op → Option Variable
pushed c depth op = if (effect_of op).pushes == 1 then Some (slot c (slots_left depth (effect_of op).takes)) else None

-- what a Return gives its value to: the slot of the callee in the calling context
abbrev pub returned : Program → Context → Option Variable
returned program (called c place depth f) = option_and_then (pushed c depth) (op_at program c place)
returned program _ = None

-- the variable that an instruction writes
abbrev pub written : Program → Context → (depth : ℕ) → Op → Option Variable
written program c depth (Param i) = Some (local c i)
written program c depth (StoreLocal i) = Some (local c i)
written program c depth (ForgetLocal i) = Some (local c i)
written program c depth (StoreName n) = Some (global n)
written program c depth (ForgetName n) = Some (global n)
written program c depth Return = returned program c
written program c depth op = pushed c depth op

abbrev pub target_of : Program → Point → Option Variable
target_of program (at c place depth) = option_and_then (written program c depth) (op_at program c place)
