-- The three lists of functions are maps of one.
use Rattle.std.proofs.Common.{◌≡◌, ℕ, suc, zero, Some, None, List, [], ◌∷◌, ◌++◌, map, slice_get, refl, sym, ap, ◌∙◌}
use Rattle.std.specs.Prelude.{option_map}
use Rattle.std.specs.Option.{option_and_then}
use Rattle.std.proofs.lemmas.List.{map-append}
use Rattle.place_ids.specs.Names.{number_in}
use Rattle.py_tree.specs.Tree.{statement, def, class, Stmts, no_stmts, stmt, ClassDef, class_def, method, Members, no_members, member, Module}
use Rattle.type_terms.specs.Stubs.{Stub}
use Rattle.scope_rules.specs.NameLists.{place_of}
use Rattle.scope_rules.specs.Tables.{locals_of}
use Rattle.tree_code.specs.Programs.{Defined, error_name, fun_code, fun_row as code_row, methods, methods_of, functions}
use Rattle.tree_code.proofs.Numbers.{locals_map}
use Rattle.py_meaning.specs.Programs.{method_rows, class_rows, fun_rows, program, fun_at}
use Rattle.tree_covering.specs.Functions.{row_of, IsRead}

methods_map : (number : ℕ) (ms : Members) → method_rows number ms ≡ map row_of (methods number ms)
methods_map number no_members = refl
methods_map number (member (method f) ms) = ap (λ rows. row_of (record { fun = f; class = Some number }) ∷ rows) (methods_map number ms)
methods_map number (member _ ms) = methods_map number ms

class_map : (c : ClassDef) → class_rows c ≡ map row_of (methods_of c)
class_map (class_def id n base inside line) = methods_map id inside

rows_map : (body : Stmts) → fun_rows body ≡ map row_of (functions body)
rows_map no_stmts = refl
rows_map (stmt (statement (def f) line) rest) = ap (λ rows. row_of (record { fun = f; class = None }) ∷ rows) (rows_map rest)
rows_map (stmt (statement (class c) line) rest) = ap (λ rows. rows ++ fun_rows rest) (class_map c) ∙ ap (λ rows. map row_of (methods_of c) ++ rows) (rows_map rest) ∙ sym (map-append row_of (methods_of c) (functions rest))
rows_map (stmt _ rest) = rows_map rest

got_map : {A B : Type 0} (f : A → B) (xs : List A) (k : ℕ) → slice_get (map f xs) k ≡ option_map f (slice_get xs k)
got_map f [] k = refl
got_map f (x ∷ xs) zero = refl
got_map f (x ∷ xs) (suc k) = got_map f xs k

pub runs_read : (m : Module) (stubs : List (List ℕ × Stub)) (number : ℕ) → fun_at (program m stubs) number ≡ option_map row_of (slice_get (functions m.body) number)
runs_read m stubs number = ap (λ rows. slice_get rows number) (rows_map m.body) ∙ got_map row_of (functions m.body) number

got_some : {A B : Type 0} (f : A → B) (xs : List A) (k : ℕ) (x : A) → slice_get xs k ≡ Some x → slice_get (map f xs) k ≡ Some (f x)
got_some f xs k x e = got_map f xs k ∙ ap (option_map f) e

pub each_read : (m : Module) (stubs : List (List ℕ × Stub)) (number : ℕ) (d : Defined) → slice_get (functions m.body) number ≡ Some d → IsRead m stubs number d
each_read m stubs number d e =
    record {
      run = runs_read m stubs number ∙ ap (option_map row_of) e;
      code = got_some (λ d. fun_code (number_in m.names error_name) d.fun) (functions m.body) number d e;
      row = got_some code_row (functions m.body) number d e;
      locals = λ name. ap (option_and_then (λ names. place_of names name)) (ap (λ ls. slice_get ls number) (locals_map m.body) ∙ got_some (λ d. locals_of d.fun) (functions m.body) number d e);
    }
