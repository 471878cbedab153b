-- Functions and classes stand at their numbers, and the tables of functions are maps of one list.
use Rattle.std.proofs.Common.{◌≡◌, ℕ, suc, zero, ◌+◌, Some, List, [], ◌∷◌, ◌++◌, map, length, slice_get, refl, sym, ap, subst, ◌∙◌, arith}
use Rattle.std.proofs.lemmas.List.{map-append}
use Rattle.py_tree.specs.Tree.{statement, def, class, Stmts, no_stmts, stmt, ClassDef, class_def, method, Members, no_members, member}
use Rattle.scope_rules.specs.Tables.{locals_of, method_locals, members_of, locals}
use Rattle.tree_code.specs.Programs.{Defined, id_of, methods, methods_of, functions, classes}
use Rattle.tree_code.specs.Numbers.{class_id_of, AreFrom, AreNumbered}

-- ---- numbers

from_join : (number : ℕ) (ds es : List Defined) → AreFrom number ds → AreFrom (number + length ds) es → AreFrom number (ds ++ es)
from_join number [] es h k = let e : number + 0 ≡ number = omega arith in subst (λ n. AreFrom n es) e k
from_join number (d ∷ ds) es h k =
    let e : number + suc (length ds) ≡ suc number + length ds = omega arith in
    (h.0, from_join (suc number) ds es h.1 (subst (λ n. AreFrom n es) e k))

functions_from : (fun class_number : ℕ) (body : Stmts) → AreNumbered fun class_number body → AreFrom fun (functions body)
functions_from fun class_number no_stmts h = tt
functions_from fun class_number (stmt (statement (def f) line) rest) h = (h.0, functions_from (suc fun) class_number rest h.1)
functions_from fun class_number (stmt (statement (class c) line) rest) h = from_join fun (methods_of c) (functions rest) h.1 (functions_from (fun + length (methods_of c)) (suc class_number) rest h.2)
functions_from fun class_number (stmt _ rest) h = functions_from fun class_number rest h

from_at : (number : ℕ) (ds : List Defined) (k : ℕ) (d : Defined) → AreFrom number ds → slice_get ds k ≡ Some d → id_of d.fun ≡ number + k
from_at number [] k d h e = cc
from_at number (x ∷ ds) zero d h e = let same : x ≡ d = cc in ap (λ y. id_of y.fun) (sym same) ∙ h.0 ∙ omega arith
from_at number (x ∷ ds) (suc k) d h e = from_at (suc number) ds k d h.1 e ∙ omega arith

pub fun_number : (body : Stmts) (k : ℕ) (d : Defined) → AreNumbered 0 0 body → slice_get (functions body) k ≡ Some d → id_of d.fun ≡ k
fun_number body k d h e = from_at 0 (functions body) k d (functions_from 0 0 body h) e ∙ omega arith

class_at : (fun class_number : ℕ) (body : Stmts) (k : ℕ) (c : ClassDef) → AreNumbered fun class_number body → slice_get (classes body) k ≡ Some c → class_id_of c ≡ class_number + k
class_at fun class_number no_stmts k c h e = cc
class_at fun class_number (stmt (statement (class x) line) rest) zero c h e = let same : x ≡ c = cc in ap class_id_of (sym same) ∙ h.0 ∙ omega arith
class_at fun class_number (stmt (statement (class x) line) rest) (suc k) c h e = class_at (fun + length (methods_of x)) (suc class_number) rest k c h.2 e ∙ omega arith
class_at fun class_number (stmt (statement (def f) line) rest) k c h e = class_at (suc fun) class_number rest k c h.1 e
class_at fun class_number (stmt _ rest) k c h e = class_at fun class_number rest k c h e

pub class_number_is : (body : Stmts) (k : ℕ) (c : ClassDef) → AreNumbered 0 0 body → slice_get (classes body) k ≡ Some c → class_id_of c ≡ k
class_number_is body k c h e = class_at 0 0 body k c h e ∙ omega arith

-- ---- one list of functions

abbrev own_locals : Defined → List ℕ
own_locals d = locals_of d.fun

methods_map : (number : ℕ) (ms : Members) → method_locals ms ≡ map own_locals (methods number ms)
methods_map number no_members = refl
methods_map number (member (method f) ms) = ap (λ ls. locals_of f ∷ ls) (methods_map number ms)
methods_map number (member _ ms) = methods_map number ms

class_map : (c : ClassDef) → method_locals (members_of c) ≡ map own_locals (methods_of c)
class_map (class_def id n base inside line) = methods_map id inside

pub locals_map : (body : Stmts) → locals body ≡ map (λ d. locals_of d.fun) (functions body)
locals_map no_stmts = refl
locals_map (stmt (statement (def f) line) rest) = ap (λ ls. locals_of f ∷ ls) (locals_map rest)
locals_map (stmt (statement (class c) line) rest) = ap (λ ls. ls ++ locals rest) (class_map c) ∙ ap (λ ls. map own_locals (methods_of c) ++ ls) (locals_map rest) ∙ sym (map-append own_locals (methods_of c) (functions rest))
locals_map (stmt _ rest) = locals_map rest
