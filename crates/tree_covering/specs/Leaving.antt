-- Where statements may leave what is around them: a loop from within it, and a function by `return`.
use Rattle.std.specs.Prelude.{◌≡◌, Bool, true, false, List, [], ◌∷◌}
use Rattle.scope_rules.specs.declared.jump.Jump.{Jump}
use Rattle.scope_rules.specs.declared.jump.JumpSort.{JumpSort}
use Rattle.scope_rules.specs.declared.jump.JumpSort.TheVariants as sort

-- whether a jump that no loop holds may stand there
abbrev pub may_stand : (in_function : Bool) → JumpSort → Bool
may_stand in_function sort.Exit = false
may_stand in_function _ = in_function

-- no such jump leaves a loop from outside of all loops, and each that returns stands in a function
abbrev pub MayStand : (in_function : Bool) → List Jump → Type 0
MayStand in_function [] = Unit {0}
MayStand in_function (j ∷ js) = (may_stand in_function j.sort ≡ true) × MayStand in_function js
