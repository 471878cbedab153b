-- Jumps that may stand in a whole may stand in its parts.
use Rattle.std.proofs.Common.{◌≡◌, ℕ, Bool, true, false, List, [], ◌∷◌, ◌++◌, refl}
use Rattle.scope_rules.specs.declared.jump.Jump.{Jump}
use Rattle.scope_rules.specs.Jumps.{exits}
use Rattle.tree_covering.specs.Leaving.{MayStand}

pub may_first : (in_function : Bool) (js others : List Jump) → MayStand in_function (js ++ others) → MayStand in_function js
may_first in_function [] others h = tt
may_first in_function (j ∷ js) others h = (h.0, may_first in_function js others h.1)

pub may_second : (in_function : Bool) (js others : List Jump) → MayStand in_function (js ++ others) → MayStand in_function others
may_second in_function [] others h = h
may_second in_function (j ∷ js) others h = may_second in_function js others h.1

-- what leaves a loop stands in one
pub is_looped : (in_function looped : Bool) (line : ℕ) → MayStand in_function (exits looped line) → looped ≡ true
is_looped in_function true line h = refl
is_looped in_function false line h = h.0
