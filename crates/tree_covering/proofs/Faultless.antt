-- A module that breaks no rule has each jump where it may stand.
use Rattle.std.proofs.Common.{◌≡◌, ℕ, suc, zero, Bool, true, false, not, ◌&&◌, ◌||◌, Some, List, [], ◌∷◌, ◌++◌, slice_get, refl, subst}
use Rattle.py_tree.specs.Tree.{statement, def, class, Stmts, no_stmts, stmt, FunDef, fun_def, ClassDef, class_def, method, Members, no_members, member, Module}
use Rattle.scope_rules.specs.declared.jump.Jump.{Jump}
use Rattle.scope_rules.specs.declared.jump.JumpSort.{JumpSort}
use Rattle.scope_rules.specs.declared.jump.JumpSort.TheVariants as sort
use Rattle.scope_rules.specs.declared.fault.Rule.TheVariants as rule
use Rattle.scope_rules.specs.Jumps.{jumps, is_exit, is_return}
use Rattle.scope_rules.specs.Builtins.{is_init}
use Rattle.scope_rules.specs.NameLists.{with_name, text_of}
use Rattle.scope_rules.specs.Uses.{uses, uses_of_fun, uses_of_class}
use Rattle.scope_rules.specs.Rules.{fault_if, rebound, builtin_bound, breaks_outside, returns_outside, super_uses, init_targets, duplicate_params, init_returns, rebinds_first, is_unknown}
use Rattle.scope_rules.specs.Faults.{has_none, faults, top_faults, body_faults, fun_faults, method_faults, member_faults, class_faults, name_of, definition_faults}
use Rattle.tree_code.specs.Programs.{Defined, methods, methods_of, functions, statements_of}
use Rattle.tree_covering.specs.Leaving.{MayStand}

first_none : {A : Type 0} (xs ys : List A) → xs ++ ys ≡ [] → xs ≡ []
first_none [] ys e = refl
first_none (x ∷ xs) ys e = cc

second_none : {A : Type 0} (xs ys : List A) → xs ++ ys ≡ [] → ys ≡ []
second_none [] ys e = e
second_none (x ∷ xs) ys e = cc

-- ---- jumps

in_module : (js : List Jump) → breaks_outside js ≡ [] → returns_outside js ≡ [] → MayStand false js
in_module [] e f = tt
in_module (j ∷ js) e f =
    go j.sort (first_none (fault_if (is_exit j.sort) rule.BreakOutsideLoop j.line) (breaks_outside js) e) (first_none (fault_if (is_return j.sort) rule.ReturnOutside j.line) (returns_outside js) f)
    (in_module js (second_none (fault_if (is_exit j.sort) rule.BreakOutsideLoop j.line) (breaks_outside js) e) (second_none (fault_if (is_return j.sort) rule.ReturnOutside j.line) (returns_outside js) f))
  where
    go : (s : JumpSort) → fault_if (is_exit s) rule.BreakOutsideLoop j.line ≡ [] → fault_if (is_return s) rule.ReturnOutside j.line ≡ [] → MayStand false js → MayStand false (record { sort = s; line = j.line } ∷ js)
    go sort.Exit e f h = cc
    go sort.Return e f h = cc
    go sort.ReturnValue e f h = cc

in_function : (js : List Jump) → breaks_outside js ≡ [] → MayStand true js
in_function [] e = tt
in_function (j ∷ js) e = go j.sort (first_none (fault_if (is_exit j.sort) rule.BreakOutsideLoop j.line) (breaks_outside js) e) (in_function js (second_none (fault_if (is_exit j.sort) rule.BreakOutsideLoop j.line) (breaks_outside js) e))
  where
    go : (s : JumpSort) → fault_if (is_exit s) rule.BreakOutsideLoop j.line ≡ [] → MayStand true js → MayStand true (record { sort = s; line = j.line } ∷ js)
    go sort.Exit e h = cc
    go sort.Return e h = (refl, h)
    go sort.ReturnValue e h = (refl, h)

pub module_may : (m : Module) → faults m ≡ [] → MayStand false (jumps false m.body)
module_may m e =
    let us = uses m.body in
    let js : List Jump = jumps false m.body in
    let top : top_faults m.names us js ≡ [] = first_none (top_faults m.names us js) (definition_faults m.names [] m.body) e in
    let five = first_none (rebound us ++ builtin_bound m.names us ++ breaks_outside js ++ returns_outside js ++ super_uses true us) (init_targets m.names us) top in
    let four = first_none (rebound us ++ builtin_bound m.names us ++ breaks_outside js ++ returns_outside js) (super_uses true us) five in
    let three = first_none (rebound us ++ builtin_bound m.names us ++ breaks_outside js) (returns_outside js) four in
    in_module js (second_none (rebound us ++ builtin_bound m.names us) (breaks_outside js) three) (second_none (rebound us ++ builtin_bound m.names us ++ breaks_outside js) (returns_outside js) four)

-- ---- functions

fun_may : (texts : List (List ℕ)) (in_class : Bool) (f : FunDef) → fun_faults texts in_class f ≡ [] → MayStand true (jumps false (statements_of f))
fun_may texts in_class (fun_def id name params body line) e =
    let us = uses_of_fun (fun_def id name params body line) in
    let js : List Jump = jumps false body in
    let init : Bool = is_init (text_of texts name) in
    let own = body_faults in_class init us js in
    let two = first_none (own ++ fault_if (in_class && has_none params) rule.MethodRule line) (init_targets texts us) e in
    let one = first_none own (fault_if (in_class && has_none params) rule.MethodRule line) two in
    let three = first_none (duplicate_params us ++ breaks_outside js ++ init_returns (in_class && init) js) (super_uses (not in_class || rebinds_first us) us) one in
    let both = first_none (duplicate_params us ++ breaks_outside js) (init_returns (in_class && init) js) three in
    in_function js (second_none (duplicate_params us) (breaks_outside js) both)

abbrev AllMay : List Defined → Type 0
AllMay [] = Unit {0}
AllMay (d ∷ ds) = MayStand true (jumps false (statements_of d.fun)) × AllMay ds

all_join : (ds es : List Defined) → AllMay ds → AllMay es → AllMay (ds ++ es)
all_join [] es h k = k
all_join (d ∷ ds) es h k = (h.0, all_join ds es h.1 k)

methods_may : (texts : List (List ℕ)) (number : ℕ) (ms : Members) → method_faults texts ms ≡ [] → AllMay (methods number ms)
methods_may texts number no_members e = tt
methods_may texts number (member (method f) ms) e = (fun_may texts true f (first_none (fun_faults texts true f) (method_faults texts ms) e), methods_may texts number ms (second_none (fun_faults texts true f) (method_faults texts ms) e))
methods_may texts number (member _ ms) e = methods_may texts number ms e

class_may : (texts : List (List ℕ)) (earlier : List ℕ) (c : ClassDef) → class_faults texts earlier c ≡ [] → AllMay (methods_of c)
class_may texts earlier (class_def id name base inside line) e =
    methods_may texts id inside (second_none (fault_if (is_unknown texts earlier base) rule.BaseUnknown line ++ member_faults texts (uses_of_class (class_def id name base inside line))) (method_faults texts inside) e)

all_may : (texts : List (List ℕ)) (earlier : List ℕ) (body : Stmts) → definition_faults texts earlier body ≡ [] → AllMay (functions body)
all_may texts earlier no_stmts e = tt
all_may texts earlier (stmt (statement (def f) line) rest) e =
    (fun_may texts false f (first_none (fun_faults texts false f) (definition_faults texts earlier rest) e), all_may texts earlier rest (second_none (fun_faults texts false f) (definition_faults texts earlier rest) e))
all_may texts earlier (stmt (statement (class c) line) rest) e =
    let others = definition_faults texts (with_name earlier (name_of c)) rest in
    all_join (methods_of c) (functions rest) (class_may texts earlier c (first_none (class_faults texts earlier c) others e)) (all_may texts (with_name earlier (name_of c)) rest (second_none (class_faults texts earlier c) others e))
all_may texts earlier (stmt _ rest) e = all_may texts earlier rest e

one_may : (ds : List Defined) (number : ℕ) (d : Defined) → AllMay ds → slice_get ds number ≡ Some d → MayStand true (jumps false (statements_of d.fun))
one_may [] number d h e = cc
one_may (x ∷ ds) zero d h e = let same : x ≡ d = cc in subst (λ y. MayStand true (jumps false (statements_of y.fun))) same h.0
one_may (x ∷ ds) (suc number) d h e = one_may ds number d h.1 e

pub function_may : (m : Module) (number : ℕ) (d : Defined) → faults m ≡ [] → slice_get (functions m.body) number ≡ Some d → MayStand true (jumps false (statements_of d.fun))
function_may m number d e at = one_may (functions m.body) number d (all_may m.names [] m.body (second_none (top_faults m.names (uses m.body) (jumps false m.body)) (definition_faults m.names [] m.body) e)) at
