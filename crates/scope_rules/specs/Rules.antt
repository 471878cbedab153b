-- The static rules, each as the faults of what breaks it.
use Rattle.std.specs.Prelude.{ℕ, Bool, true, false, ◌&&◌, ◌||◌, not, List, [], ◌∷◌, ◌++◌, Option, Some, None}
use Rattle.type_terms.specs.Exceptions.{is_exception}
use Rattle.scope_rules.specs.declared.fault.Fault.{Fault}
use Rattle.scope_rules.specs.declared.fault.Rule.{Rule}
use Rattle.scope_rules.specs.declared.fault.Rule.TheVariants as rule
use Rattle.scope_rules.specs.declared.jump.Jump.{Jump}
use Rattle.scope_rules.specs.declared.jump.JumpSort.{JumpSort}
use Rattle.scope_rules.specs.declared.mention.Mention.{Mention}
use Rattle.scope_rules.specs.Builtins.{is_builtin, is_typing, is_object, is_init}
use Rattle.scope_rules.specs.Jumps.{is_exit, is_return, is_return_value}
use Rattle.scope_rules.specs.NameLists.{has_name, text_of}
use Rattle.scope_rules.specs.Named.{mentioned}
use Rattle.scope_rules.specs.Roles.{assigns, binds, is_parameter, is_import, is_definition, is_name, is_super, is_plain_member, is_target}

abbrev pub fault_if : Bool → Rule → ℕ → List Fault
fault_if true r line = record { rule = r; line = line } ∷ []
fault_if false r line = []

-- a fault at each mention that breaks a rule
abbrev pub faults_at : Rule → (Mention → Bool) → List Mention → List Fault
faults_at r breaks [] = []
faults_at r breaks (m ∷ ms) = fault_if (breaks m) r m.line ++ faults_at r breaks ms

-- the same where a mention breaks a rule after others
abbrev pub faults_after : Rule → (List Mention → Mention → Bool) → List Mention → List Mention → List Fault
faults_after r breaks before [] = []
faults_after r breaks before (m ∷ ms) = fault_if (breaks before m) r m.line ++ faults_after r breaks (before ++ m ∷ []) ms

-- a fault at each jump that breaks a rule
abbrev pub jump_faults : Rule → (JumpSort → Bool) → List Jump → List Fault
jump_faults r breaks [] = []
jump_faults r breaks (j ∷ js) = fault_if (breaks j.sort) r j.line ++ jump_faults r breaks js

-- ---- what stands in a module, but in no function and no class

-- A name is bound twice, once or both times by a `def` or a `class`: the fault is the later one's.
abbrev pub rebinds : List Mention → Mention → Bool
rebinds before m = binds m.role && (mentioned is_definition m.name before || (is_definition m.role && mentioned binds m.name before))

abbrev pub rebound : List Mention → List Fault
rebound us = faults_after rule.Rebound rebinds [] us

-- A builtin name is bound, or other than by import a name that a stub takes from `typing`.
abbrev pub takes_builtin : List (List ℕ) → Mention → Bool
takes_builtin texts m = binds m.role && (is_builtin (text_of texts m.name) || (not (is_import m.role) && is_typing (text_of texts m.name)))

abbrev pub builtin_bound : List (List ℕ) → List Mention → List Fault
builtin_bound texts us = faults_at rule.BuiltinBound (takes_builtin texts) us

-- `return` outside of a function
abbrev pub returns_outside : List Jump → List Fault
returns_outside js = jump_faults rule.ReturnOutside is_return js

-- ---- functions

-- A parameter's name stands before in the same `def`.
abbrev pub repeats_parameter : List Mention → Mention → Bool
repeats_parameter before m = is_parameter m.role && mentioned is_parameter m.name before

abbrev pub duplicate_params : List Mention → List Fault
duplicate_params us = faults_after rule.DuplicateParam repeats_parameter [] us

-- `break` or `continue` outside of a loop, in a module too
abbrev pub breaks_outside : List Jump → List Fault
breaks_outside js = jump_faults rule.BreakOutsideLoop is_exit js

-- `return` with a value, `None` too, in a method `__init__`
abbrev pub returns_value : Bool → JumpSort → Bool
returns_value init sort = init && is_return_value sort

abbrev pub init_returns : Bool → List Jump → List Fault
init_returns init js = jump_faults rule.InitReturns (returns_value init) js

-- A function binds its first parameter again.
abbrev pub rebinds_first : List Mention → Bool
rebinds_first [] = false
rebinds_first (m ∷ ms) = is_parameter m.role && mentioned assigns m.name ms

-- `super()` where it may not stand: outside of methods, and in those that bind their first parameter again
abbrev pub is_wrong_super : Bool → Mention → Bool
is_wrong_super wrong m = wrong && is_super m.role

abbrev pub super_uses : Bool → List Mention → List Fault
super_uses wrong us = faults_at rule.SuperUse (is_wrong_super wrong) us

-- `.__init__` is a target, in a module too.
abbrev pub is_init_target : List (List ℕ) → Mention → Bool
is_init_target texts m = is_target m.role && is_init (text_of texts m.name)

abbrev pub init_targets : List (List ℕ) → List Mention → List Fault
init_targets texts us = faults_at rule.MethodRule (is_init_target texts) us

-- ---- classes

-- A base is none of the classes before, not `object`, and no builtin exception class. The line is that of the class.
abbrev pub is_base_text : List ℕ → Bool
is_base_text text = is_object text || is_exception text

abbrev pub is_unknown : List (List ℕ) → List ℕ → Option ℕ → Bool
is_unknown texts earlier None = false
is_unknown texts earlier (Some n) = not (has_name earlier n || is_base_text (text_of texts n))

-- A class body binds a name again.
abbrev pub binds_again : List Mention → Mention → Bool
binds_again before m = binds m.role && mentioned binds m.name before

abbrev pub member_twice : List Mention → List Fault
member_twice us = faults_after rule.MethodRule binds_again [] us

-- A value in a class body reads a name that the body binds, before or after.
abbrev pub reads_member : List Mention → Mention → Bool
reads_member all m = is_name m.role && mentioned binds m.name all

abbrev pub member_reads : List Mention → List Fault
member_reads us = faults_at rule.MethodRule (reads_member us) us

-- `__init__` is a member of a class other than by `def`.
abbrev pub is_init_member : List (List ℕ) → Mention → Bool
is_init_member texts m = is_plain_member m.role && is_init (text_of texts m.name)

abbrev pub init_members : List (List ℕ) → List Mention → List Fault
init_members texts us = faults_at rule.MethodRule (is_init_member texts) us
