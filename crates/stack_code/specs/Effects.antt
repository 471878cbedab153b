-- What each instruction does to the stack, and where it leads.
use Rattle.std.specs.Prelude.{ℕ, ◌+◌, ◌-◌, ◌*◌, max, Bool, true, false, Option, Some, None, length}
use Rattle.stack_code.specs.declared.op.Op.{Op}
use Rattle.stack_code.specs.declared.op.Op.TheVariants.{Const, Fun, Class, Param, LoadLocal, StoreLocal, ForgetLocal, LoadName, StoreName, ForgetName, StoreGlobal, ForgetGlobal, Pick, Pop, Unary, Not, Binary, InPlace, Compare, Jump, JumpIfFalse, JumpIfTrue, JumpIfFalseKeep, JumpIfTrueKeep, ForNext, Attr, Super, StoreAttr, StoreMember, Item, StoreItem, Slice, NewTuple, NewList, NewDict, Part, Call, Return, MakeRaised, Raise, Reraise, Caught, MatchError, Import, ImportFrom, End}
use Rattle.stack_code.specs.declared.effect.Effect.{Effect}

-- takes slots off and pushes others
abbrev pub turns : ℕ → ℕ → Effect
turns takes pushes = record { needs = takes; takes = takes; pushes = pushes }

-- pushes one slot, and leaves those that it needs
abbrev pub reads : ℕ → Effect
reads needs = record { needs = needs; takes = 0; pushes = 1 }

-- how many slots it needs, and how many it takes off and pushes on the way to the next place
abbrev pub effect_of : Op → Effect
effect_of (Const kind) = turns 0 1
effect_of (Fun fun) = turns 0 1
effect_of (Class class) = turns 0 1
effect_of (Param local) = turns 0 0
effect_of (LoadLocal local) = turns 0 1
effect_of (StoreLocal local) = turns 1 0
effect_of (ForgetLocal local) = turns 0 0
effect_of (LoadName name) = turns 0 1
effect_of (StoreName name) = turns 1 0
effect_of (ForgetName name) = turns 0 0
effect_of (StoreGlobal name) = turns 1 0
effect_of (ForgetGlobal name) = turns 0 0
effect_of (Pick below) = reads (below + 1)
effect_of Pop = turns 1 0
effect_of (Unary op) = turns 1 1
effect_of Not = turns 1 1
effect_of (Binary op site) = turns 2 1
effect_of (InPlace op site) = turns 2 1
effect_of (Compare op) = turns 2 1
effect_of (Jump goal) = turns 0 0
effect_of (JumpIfFalse goal) = turns 1 0
effect_of (JumpIfTrue goal) = turns 1 0
effect_of (JumpIfFalseKeep goal) = turns 1 0
effect_of (JumpIfTrueKeep goal) = turns 1 0
effect_of (ForNext goal) = reads 1
effect_of (Attr name) = turns 1 1
effect_of (Super name) = turns 0 1
effect_of (StoreAttr name) = turns 2 0
effect_of (StoreMember class name) = turns 1 0
effect_of Item = turns 2 1
effect_of StoreItem = turns 3 0
effect_of (Slice site) = turns 4 1
effect_of (NewTuple parts site) = turns parts 1
effect_of (NewList parts site) = turns parts 1
effect_of (NewDict pairs site) = turns (2 * pairs) 1
-- the value, and the parts above it that come after this one
effect_of (Part part parts) = reads (max (parts - part) 1)
effect_of (Call positionals keywords site) = turns (positionals + length keywords + 1) 1
effect_of Return = turns 1 0
effect_of (MakeRaised site) = turns 1 1
effect_of Raise = turns 1 0
effect_of Reraise = turns 0 0
effect_of Caught = turns 0 1
effect_of MatchError = record { needs = 2; takes = 1; pushes = 1 }
effect_of (Import path) = turns 0 1
effect_of (ImportFrom path name) = turns 0 1
effect_of End = turns 0 0

-- whether it may go on to the next place
abbrev pub falls : Op → Bool
falls (Jump goal) = false
falls Return = false
falls Raise = false
falls Reraise = false
falls End = false
falls _ = true

-- the place that it may jump to
abbrev pub goal_of : Op → Option ℕ
goal_of (Jump goal) = Some goal
goal_of (JumpIfFalse goal) = Some goal
goal_of (JumpIfTrue goal) = Some goal
goal_of (JumpIfFalseKeep goal) = Some goal
goal_of (JumpIfTrueKeep goal) = Some goal
goal_of (ForNext goal) = Some goal
goal_of _ = None

-- how many slots it takes off where it jumps
abbrev pub taken_at_goal : Op → ℕ
taken_at_goal (JumpIfFalse goal) = 1
taken_at_goal (JumpIfTrue goal) = 1
taken_at_goal (ForNext goal) = 1
taken_at_goal _ = 0

-- whether it may raise
abbrev pub may_raise : Op → Bool
may_raise (LoadLocal local) = true
may_raise (LoadName name) = true
may_raise (Unary op) = true
may_raise (Binary op site) = true
may_raise (InPlace op site) = true
may_raise (Compare op) = true
may_raise (Attr name) = true
may_raise (Super name) = true
may_raise (StoreAttr name) = true
may_raise Item = true
may_raise StoreItem = true
may_raise (Slice site) = true
may_raise (ForNext goal) = true
may_raise (Part part parts) = true
may_raise (Call positionals keywords site) = true
may_raise (Import path) = true
may_raise (ImportFrom path name) = true
may_raise (MakeRaised site) = true
may_raise Raise = true
may_raise Reraise = true
may_raise MatchError = true
may_raise _ = false

-- the depth at the next place, and at the goal, where the depth before it is this one
abbrev pub depth_after : Op → ℕ → ℕ
depth_after op depth = depth - (effect_of op).takes + (effect_of op).pushes

abbrev pub depth_at_goal : Op → ℕ → ℕ
depth_at_goal op depth = depth - taken_at_goal op
