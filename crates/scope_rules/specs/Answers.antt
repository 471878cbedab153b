-- What is answered for a module: its scopes, or its first fault.
use Rattle.std.specs.Prelude.{ℕ, Option, Some, None, Result, Ok, Err}
use Rattle.py_tree.specs.Tree.{Module}
use Rattle.scope_rules.specs.declared.fault.Fault.{Fault}
use Rattle.scope_rules.specs.declared.fault.Rule.{Rule}
use Rattle.scope_rules.specs.declared.fault.Rule.TheVariants as rule
use Rattle.scope_rules.specs.declared.scope_fault.ScopeFault.{ScopeFault}
use Rattle.scope_rules.specs.declared.scope_fault.ScopeFault.TheVariants as fault
use Rattle.scope_rules.specs.Faults.{first, faults}
use Rattle.scope_rules.specs.Scoped.{Scoped, scoped}

abbrev pub told_as : Rule → ℕ → ScopeFault
told_as rule.Rebound line = fault.Rebound line
told_as rule.BuiltinBound line = fault.BuiltinBound line
told_as rule.BaseUnknown line = fault.BaseUnknown line
told_as rule.DuplicateParam line = fault.DuplicateParam line
told_as rule.BreakOutsideLoop line = fault.BreakOutsideLoop line
told_as rule.ReturnOutside line = fault.ReturnOutside line
told_as rule.InitReturns line = fault.InitReturns line
told_as rule.SuperUse line = fault.SuperUse line
told_as rule.MethodRule line = fault.MethodRule line

abbrev pub told : Fault → ScopeFault
told f = told_as f.rule f.line

abbrev pub answer_in : Option Fault → Scoped → Result Scoped ScopeFault
answer_in None scopes = Ok scopes
answer_in (Some f) scopes = Err (told f)

-- the answer where memory suffices
abbrev pub answer : Module → Result Scoped ScopeFault
answer m = answer_in (first (faults m)) (scoped m)
