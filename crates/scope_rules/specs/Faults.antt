-- The faults of a module's tree, and the first of them.
use Rattle.std.specs.Prelude.{◌≡◌, ℕ, Bool, true, false, ◌&&◌, ◌||◌, not, nat_lt, nat_eq, List, [], ◌∷◌, ◌++◌, Option, Some, None, if◌then◌else◌}
use Rattle.py_tree.specs.Tree.{statement, def, class, Stmts, no_stmts, stmt, FunDef, fun_def, ClassDef, class_def, method, Members, no_members, member, Param, Module}
use Rattle.std.specs.List.{Contains, list_all}
use Rattle.scope_rules.specs.declared.fault.Fault.{Fault}
use Rattle.scope_rules.specs.declared.fault.Rule.{Rule}
use Rattle.scope_rules.specs.declared.fault.Rule.TheVariants as rule
use Rattle.scope_rules.specs.declared.jump.Jump.{Jump}
use Rattle.scope_rules.specs.declared.mention.Mention.{Mention}
use Rattle.scope_rules.specs.Builtins.{is_init}
use Rattle.scope_rules.specs.Jumps.{jumps}
use Rattle.scope_rules.specs.NameLists.{with_name, text_of}
use Rattle.scope_rules.specs.Rules.{fault_if, rebound, builtin_bound, is_unknown, duplicate_params, breaks_outside, returns_outside, init_returns, super_uses, rebinds_first, member_twice, member_reads, init_members, init_targets}
use Rattle.scope_rules.specs.Uses.{uses, uses_of_fun, uses_of_class}

abbrev pub has_none : List Param → Bool
has_none [] = true
has_none (p ∷ ps) = false

-- of a function's parameters and body, by whether it is a method and whether its name is `__init__`
abbrev pub body_faults : Bool → Bool → List Mention → List Jump → List Fault
body_faults in_class init us js =
    duplicate_params us ++ breaks_outside js ++ init_returns (in_class && init) js ++ super_uses (not in_class || rebinds_first us) us

-- a function's faults; a method has a parameter
abbrev pub fun_faults : List (List ℕ) → Bool → FunDef → List Fault
fun_faults texts in_class (fun_def id name params body line) =
    body_faults in_class (is_init (text_of texts name)) (uses_of_fun (fun_def id name params body line)) (jumps false body)
    ++ fault_if (in_class && has_none params) rule.MethodRule line
    ++ init_targets texts (uses_of_fun (fun_def id name params body line))

abbrev pub method_faults : List (List ℕ) → Members → List Fault
method_faults texts no_members = []
method_faults texts (member (method f) rest) = fun_faults texts true f ++ method_faults texts rest
method_faults texts (member _ rest) = method_faults texts rest

-- of what stands in a class body, but in no method
abbrev pub member_faults : List (List ℕ) → List Mention → List Fault
member_faults texts us = super_uses true us ++ member_twice us ++ member_reads us ++ init_members texts us

-- the faults of a class, where the classes before it have these names
abbrev pub class_faults : List (List ℕ) → List ℕ → ClassDef → List Fault
class_faults texts earlier (class_def id name base inside line) =
    fault_if (is_unknown texts earlier base) rule.BaseUnknown line
    ++ member_faults texts (uses_of_class (class_def id name base inside line))
    ++ method_faults texts inside

abbrev pub name_of : ClassDef → ℕ
name_of (class_def id name base inside line) = name

-- the faults of the functions and classes, which stand directly in a module
abbrev pub definition_faults : List (List ℕ) → List ℕ → Stmts → List Fault
definition_faults texts earlier no_stmts = []
definition_faults texts earlier (stmt (statement (def f) line) rest) = fun_faults texts false f ++ definition_faults texts earlier rest
definition_faults texts earlier (stmt (statement (class c) line) rest) = class_faults texts earlier c ++ definition_faults texts (with_name earlier (name_of c)) rest
definition_faults texts earlier (stmt _ rest) = definition_faults texts earlier rest

-- of what stands in no function and no class
abbrev pub top_faults : List (List ℕ) → List Mention → List Jump → List Fault
top_faults texts us js =
    rebound us ++ builtin_bound texts us ++ breaks_outside js ++ returns_outside js ++ super_uses true us ++ init_targets texts us

-- the faults of a module, one for each place where a rule is broken
abbrev pub faults : Module → List Fault
faults m = top_faults m.names (uses m.body) (jumps false m.body) ++ definition_faults m.names [] m.body

-- A module breaks a rule at a line.
abbrev pub Breaks : Module → Rule → ℕ → Type 0
Breaks m r line = Contains (faults m) (record { rule = r; line = line })

abbrev pub number : Rule → ℕ
number rule.Rebound = 1
number rule.BuiltinBound = 2
number rule.BaseUnknown = 3
number rule.DuplicateParam = 4
number rule.BreakOutsideLoop = 5
number rule.ReturnOutside = 6
number rule.InitReturns = 7
number rule.SuperUse = 8
number rule.MethodRule = 9

-- A fault is before another by its line, and at one line by the number of its rule.
abbrev pub is_before : Fault → Fault → Bool
is_before f g = nat_lt f.line g.line || (nat_eq f.line g.line && nat_lt (number f.rule) (number g.rule))

abbrev pub sooner : Option Fault → Fault → Fault
sooner None f = f
sooner (Some best) f = if is_before f best then f else best

abbrev pub first_from : Option Fault → List Fault → Option Fault
first_from best [] = best
first_from best (f ∷ fs) = first_from (Some (sooner best f)) fs

-- the first fault, if there is one
abbrev pub first : List Fault → Option Fault
first fs = first_from None fs

-- a fault that no other one is before
abbrev pub IsFirst : List Fault → Fault → Type 0
IsFirst fs f = Contains fs f × (list_all (λ g. not (is_before g f)) fs ≡ true)
