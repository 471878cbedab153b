-- Faults of several lists, and what a list without faults has in its parts.
use Rattle.std.proofs.Common.{◌≡◌, ℕ, Bool, true, false, List, [], ◌∷◌, ◌++◌, append_assoc, refl, sym, ap, ◌∙◌}
use Rattle.scope_rules.specs.declared.fault.Rule.{Rule}
use Rattle.scope_rules.specs.declared.fault.Rule.TheVariants as rule
use Rattle.scope_rules.specs.declared.jump.Jump.{Jump}
use Rattle.scope_rules.specs.declared.jump.JumpSort.{JumpSort}
use Rattle.scope_rules.specs.declared.mention.Mention.{Mention}
use Rattle.scope_rules.specs.declared.mention.Role.TheVariants as role
use Rattle.scope_rules.specs.Jumps.{exits, returns, is_exit, is_return}
use Rattle.scope_rules.specs.Mentions.{at}
use Rattle.scope_rules.specs.Rules.{fault_if, faults_at, jump_faults, is_wrong_super, super_uses, breaks_outside, returns_outside}
use Rattle.py_tree.specs.Tree.{Expr}
use Rattle.std.proofs.Common.{Option, Some, None}

pub left_none : {A : Type 0} (xs ys : List A) → xs ++ ys ≡ [] → xs ≡ []
left_none [] ys e = refl
left_none (x ∷ xs) ys e = cc

pub right_none : {A : Type 0} (xs ys : List A) → xs ++ ys ≡ [] → ys ≡ []
right_none [] ys e = e
right_none (x ∷ xs) ys e = cc

pub no_fault : (b : Bool) (r : Rule) (line : ℕ) → fault_if b r line ≡ [] → b ≡ false
no_fault false r line e = refl
no_fault true r line e = cc

-- ---- `super()`

faults_append : (r : Rule) (breaks : Mention → Bool) (us vs : List Mention) → faults_at r breaks (us ++ vs) ≡ faults_at r breaks us ++ faults_at r breaks vs
faults_append r breaks [] vs = refl
faults_append r breaks (u ∷ us) vs = ap (λ fs. fault_if (breaks u) r u.line ++ fs) (faults_append r breaks us vs) ∙ sym (append_assoc (fault_if (breaks u) r u.line) (faults_at r breaks us) (faults_at r breaks vs))

-- no `super()` where it is wrong
abbrev pub Clean : Bool → List Mention → Type 0
Clean wrong us = super_uses wrong us ≡ []

pub clean_left : (wrong : Bool) (us vs : List Mention) → Clean wrong (us ++ vs) → Clean wrong us
clean_left wrong us vs h = left_none (super_uses wrong us) (super_uses wrong vs) (sym (faults_append rule.SuperUse (is_wrong_super wrong) us vs) ∙ h)

pub clean_right : (wrong : Bool) (us vs : List Mention) → Clean wrong (us ++ vs) → Clean wrong vs
clean_right wrong us vs h = right_none (super_uses wrong us) (super_uses wrong vs) (sym (faults_append rule.SuperUse (is_wrong_super wrong) us vs) ∙ h)

pub clean_super : (wrong : Bool) (n line : ℕ) → Clean wrong (at role.Super n line ∷ []) → wrong ≡ false
clean_super false n line h = refl
clean_super true n line h = cc

-- ---- jumps

jumps_append : (r : Rule) (breaks : JumpSort → Bool) (is js : List Jump) → jump_faults r breaks (is ++ js) ≡ jump_faults r breaks is ++ jump_faults r breaks js
jumps_append r breaks [] js = refl
jumps_append r breaks (i ∷ is) js = ap (λ fs. fault_if (breaks i.sort) r i.line ++ fs) (jumps_append r breaks is js) ∙ sym (append_assoc (fault_if (breaks i.sort) r i.line) (jump_faults r breaks is) (jump_faults r breaks js))

-- no jump out of a loop that isn't there, nor out of a function that isn't there
abbrev pub Stays : (in_function : Bool) → List Jump → Type 0
Stays in_function js = (breaks_outside js ≡ []) × (in_function ≡ false → returns_outside js ≡ [])

pub stays_left : (b : Bool) (is js : List Jump) → Stays b (is ++ js) → Stays b is
stays_left b is js h = (
  left_none (breaks_outside is) (breaks_outside js) (sym (jumps_append rule.BreakOutsideLoop is_exit is js) ∙ h.0),
  λ e. left_none (returns_outside is) (returns_outside js) (sym (jumps_append rule.ReturnOutside is_return is js) ∙ h.1 e),
)

pub stays_right : (b : Bool) (is js : List Jump) → Stays b (is ++ js) → Stays b js
stays_right b is js h = (
  right_none (breaks_outside is) (breaks_outside js) (sym (jumps_append rule.BreakOutsideLoop is_exit is js) ∙ h.0),
  λ e. right_none (returns_outside is) (returns_outside js) (sym (jumps_append rule.ReturnOutside is_return is js) ∙ h.1 e),
)

pub stays_exit : (b looped : Bool) (line : ℕ) → Stays b (exits looped line) → looped ≡ true
stays_exit b true line h = refl
stays_exit b false line h = let e : breaks_outside (exits false line) ≡ [] = h.0 in cc

pub stays_return : (b : Bool) (o : Option Expr) (line : ℕ) → Stays b (returns o line) → b ≡ true
stays_return true o line h = refl
stays_return false None line h = let e : returns_outside (returns None line) ≡ [] = h.1 refl in cc
stays_return false (Some x) line h = let e : returns_outside (returns (Some x) line) ≡ [] = h.1 refl in cc
