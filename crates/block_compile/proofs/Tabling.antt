-- Tables that grow by functions and classes, and the numbers that these get.
use Rattle.std.proofs.Common.{◌≡◌, ℕ, suc, zero, ◌+◌, List, [], ◌∷◌, ◌++◌, drop, map, length, slice_get, Some, None, refl, sym, ap, subst, ◌∙◌, arith, append_assoc, length-append}
use Rattle.std.proofs.lemmas.List.{map-append, length-map}
use Rattle.py_tree.specs.Tree.{Stmts, stmt, statement, def, class, FunDef, ClassDef, class_def, pass_member, ellipsis_member, text, value, declared, method, Members, no_members, member}
use Rattle.scope_rules.specs.Tables.{locals, locals_of, method_locals, members_of}
use Rattle.stack_code.specs.declared.code.Code.{Code}
use Rattle.tree_code.specs.declared.rows.FunRow.{FunRow}
use Rattle.tree_code.specs.declared.rows.ClassRow.{ClassRow}
use Rattle.tree_code.specs.Programs.{Defined, fun_code, fun_row, class_row, methods, methods_of, functions, classes}
use Rattle.block_compile.specs.Tabled.{Tabled, with_fun, with_funs, with_class, with_stmts, NextAre}
use Rattle.block_compile.proofs.Heads.{AreAlike, HaveAlike}

four : {a b : List Code} {c d : List FunRow} {e f : List ClassRow} {g h : List ℕ} → a ≡ b → c ≡ d → e ≡ f → g ≡ h
    → (let x : Tabled = record { codes = a; funs = c; classes = e; class_names = g } in x) ≡ (let y : Tabled = record { codes = b; funs = d; classes = f; class_names = h } in y)
four {a} {b} {c} {d} {e} {f} {g} {h} p q r s =
    ap (λ z. record { codes = z; funs = c; classes = e; class_names = g }) p
    ∙ ap (λ z. record { codes = b; funs = z; classes = e; class_names = g }) q
    ∙ ap (λ z. record { codes = b; funs = d; classes = z; class_names = g }) r
    ∙ ap (λ z. record { codes = b; funs = d; classes = f; class_names = z }) s

-- ---- rows

pub funs_more : (error : ℕ) (d : Defined) (ds : List Defined) (t : Tabled) → with_funs error ds (with_fun error d t) ≡ with_funs error (d ∷ ds) t
funs_more error d ds t =
    four (append_assoc t.codes (fun_code error d.fun ∷ []) (map (λ x. fun_code error x.fun) ds)) (append_assoc t.funs (fun_row d ∷ []) (map fun_row ds)) refl refl

pub fun_stmt_more : (error : ℕ) (f : FunDef) (line : ℕ) (rest : Stmts) (t : Tabled) → with_stmts error rest (with_fun error (record { fun = f; class = None }) t) ≡ with_stmts error (stmt (statement (def f) line) rest) t
fun_stmt_more error f line rest t =
    let d : Defined = record { fun = f; class = None } in
    four (append_assoc t.codes (fun_code error f ∷ []) (map (λ x. fun_code error x.fun) (functions rest))) (append_assoc t.funs (fun_row d ∷ []) (map fun_row (functions rest))) refl refl

pub class_stmt_more : (error : ℕ) (c : ClassDef) (line : ℕ) (rest : Stmts) (t : Tabled) → with_stmts error rest (with_class error c t) ≡ with_stmts error (stmt (statement (class c) line) rest) t
class_stmt_more error c line rest t =
    let f : Defined → Code = λ x. fun_code error x.fun in
    four
    (append_assoc t.codes (map f (methods_of c)) (map f (functions rest)) ∙ ap (λ xs. t.codes ++ xs) (sym (map-append f (methods_of c) (functions rest))))
    (append_assoc t.funs (map fun_row (methods_of c)) (map fun_row (functions rest)) ∙ ap (λ xs. t.funs ++ xs) (sym (map-append fun_row (methods_of c) (functions rest))))
    (append_assoc t.classes (class_row c ∷ []) (map class_row (classes rest)))
    (append_assoc t.class_names ((class_row c).name ∷ []) (map (λ x. (class_row x).name) (classes rest)))

-- ---- numbers

pub next_first : {A : Type 0} → (xs : List A) (n : ℕ) (x : A) (rest : List A) → drop n xs ≡ x ∷ rest → slice_get xs n ≡ Some x
next_first [] zero x rest e = cc
next_first [] (suc n) x rest e = cc
next_first (y ∷ xs) zero x rest e = cc
next_first (y ∷ xs) (suc n) x rest e = next_first xs n x rest e

pub next_rest : {A : Type 0} → (xs : List A) (n : ℕ) (these rest : List A) → drop n xs ≡ these ++ rest → drop (n + length these) xs ≡ rest
next_rest xs n [] rest e = ap (λ k. drop k xs) (let z : n + 0 ≡ n = omega arith in z) ∙ e
next_rest xs n (x ∷ these) rest e =
    let one : n + suc (length these) ≡ suc n + length these = omega arith in
    ap (λ k. drop k xs) one ∙ next_rest xs (suc n) these rest (after xs n x (these ++ rest) e)
  where
    after : {A : Type 0} → (xs : List A) (n : ℕ) (x : A) (rest : List A) → drop n xs ≡ x ∷ rest → drop (suc n) xs ≡ rest
    after [] zero x rest e = cc
    after [] (suc n) x rest e = cc
    after (y ∷ xs) zero x rest e = cc
    after (y ∷ xs) (suc n) x rest e = after xs n x rest e

-- each method has its locals
pub count_methods : (number : ℕ) (ms : Members) → length (methods number ms) ≡ length (method_locals ms)
count_methods number no_members = refl
count_methods number (member (method f) ms) = ap suc (count_methods number ms)
count_methods number (member pass_member ms) = count_methods number ms
count_methods number (member ellipsis_member ms) = count_methods number ms
count_methods number (member text ms) = count_methods number ms
count_methods number (member (value n x line) ms) = count_methods number ms
count_methods number (member (declared n x line) ms) = count_methods number ms

pub class_next : (error : ℕ) (c : ClassDef) (locals : List (List ℕ)) (rest : List (List ℕ)) (t : Tabled) → drop (length t.codes) locals ≡ method_locals (members_of c) ++ rest → drop (length (with_class error c t).codes) locals ≡ rest
class_next error (class_def id n base inside line) locals rest t e =
    let f : Defined → Code = λ x. fun_code error x.fun in
    let many : length (t.codes ++ map f (methods id inside)) ≡ length t.codes + length (method_locals inside) =
    length-append t.codes (map f (methods id inside)) ∙ ap (λ k. length t.codes + k) (length-map (methods id inside) f ∙ count_methods id inside) in
    ap (λ k. drop k locals) many ∙ next_rest locals (length t.codes) (method_locals inside) rest e

-- ---- one definition more

-- the tables with what is left are the whole, and the next functions are those that are left
pub record Tabling (error : ℕ) (ls : List (List ℕ)) (whole : Tabled) (left : Stmts) (t : Tabled) : Type 0 where
  pub tables : with_stmts error left t ≡ whole
  pub next : drop (length t.codes) ls ≡ locals left

pub def_step : (error : ℕ) (ls : List (List ℕ)) (whole : Tabled) (f : FunDef) (line : ℕ) (left rest : Stmts) (t new : Tabled) → left ≡ stmt (statement (def f) line) rest → new ≡ with_fun error (record { fun = f; class = None }) t → Tabling error ls whole left t → Tabling error ls whole rest new
def_step error ls whole f line left rest t new e is before =
    let d : Defined = record { fun = f; class = None } in
    let next : drop (length t.codes) ls ≡ locals_of f ∷ locals rest = before.next ∙ ap locals e in
    subst (Tabling error ls whole rest) (sym is)
    (record {
      tables = fun_stmt_more error f line rest t ∙ ap (λ x. with_stmts error x t) (sym e) ∙ before.tables;
      next = ap (λ k. drop k ls) (length-append t.codes (fun_code error f ∷ [])) ∙ next_rest ls (length t.codes) (locals_of f ∷ []) (locals rest) next;
    })

pub class_step : (error : ℕ) (ls : List (List ℕ)) (whole : Tabled) (c : ClassDef) (line : ℕ) (left rest : Stmts) (t new : Tabled) → left ≡ stmt (statement (class c) line) rest → new ≡ with_class error c t → Tabling error ls whole left t → Tabling error ls whole rest new
class_step error ls whole c line left rest t new e is before =
    subst (Tabling error ls whole rest) (sym is)
    (record {
      tables = class_stmt_more error c line rest t ∙ ap (λ x. with_stmts error x t) (sym e) ∙ before.tables;
      next = class_next error c ls (locals rest) t (before.next ∙ ap locals e);
    })

pub plain_step : (error : ℕ) (ls : List (List ℕ)) (whole : Tabled) (left rest : Stmts) (t new : Tabled) → AreAlike left rest → new ≡ t → Tabling error ls whole left t → Tabling error ls whole rest new
plain_step error ls whole left rest t new alike is before =
    let same : with_stmts error rest t ≡ with_stmts error left t =
    four (ap (λ ds. t.codes ++ map (λ d. fun_code error d.fun) ds) (sym alike.functions)) (ap (λ ds. t.funs ++ map fun_row ds) (sym alike.functions))
    (ap (λ cs. t.classes ++ map class_row cs) (sym alike.classes)) (ap (λ cs. t.class_names ++ map (λ c. (class_row c).name) cs) (sym alike.classes)) in
    subst (Tabling error ls whole rest) (sym is) (record { tables = same ∙ before.tables; next = before.next ∙ alike.locals })

-- the same of the methods of a class
pub record Adding (error number : ℕ) (ls : List (List ℕ)) (whole : Tabled) (left : Members) (t : Tabled) : Type 0 where
  pub funs : with_funs error (methods number left) t ≡ whole
  pub next : NextAre ls (length t.codes) (method_locals left)

pub method_step : (error number : ℕ) (ls : List (List ℕ)) (whole : Tabled) (f : FunDef) (left rest : Members) (t new : Tabled) → left ≡ member (method f) rest → new ≡ with_fun error (record { fun = f; class = Some number }) t
    → Adding error number ls whole left t → Adding error number ls whole rest new
method_step error number ls whole f left rest t new e is before =
    let d : Defined = record { fun = f; class = Some number } in
    let others : List (List ℕ) = before.next.0 in
    let next : drop (length t.codes) ls ≡ locals_of f ∷ (method_locals rest ++ others) = before.next.1 ∙ ap (λ x. method_locals x ++ others) e in
    subst (Adding error number ls whole rest) (sym is)
    (record {
      funs = funs_more error d (methods number rest) t ∙ ap (λ x. with_funs error (methods number x) t) (sym e) ∙ before.funs;
      next = (others, ap (λ k. drop k ls) (length-append t.codes (fun_code error f ∷ [])) ∙ next_rest ls (length t.codes) (locals_of f ∷ []) (method_locals rest ++ others) next);
    })

pub member_step : (error number : ℕ) (ls : List (List ℕ)) (whole : Tabled) (left rest : Members) (t new : Tabled) → HaveAlike left rest → new ≡ t → Adding error number ls whole left t → Adding error number ls whole rest new
member_step error number ls whole left rest t new alike is before =
    subst (Adding error number ls whole rest) (sym is)
    (record {
      funs = ap (λ ds. with_funs error ds t) (sym (alike.methods number)) ∙ before.funs;
      next = (before.next.0, before.next.1 ∙ ap (λ xs. xs ++ before.next.0) alike.locals);
    })
