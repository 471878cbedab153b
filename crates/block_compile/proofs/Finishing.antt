-- Code that is finished: it is that of a tree, and valid, so that it has no fault.
use Rattle.std.proofs.Common.{◌≡◌, ℕ, suc, ◌-◌, List, [], ◌∷◌, map, length, slice_get, false, Some, sym, ap, subst, ◌∙◌, arith}
use Rattle.std.proofs.lemmas.List.{length-map}
use Rattle.py_tree.specs.Tree.{Param, Stmts, no_stmts, stmt, FunDef, fun_def}
use Rattle.py_tree.specs.View.{param_view, fun_view, stmts_view}
use Rattle.py_tree.specs.declared.definition.FunDef as rust_fun
use Rattle.py_tree.specs.declared.definition.FunDef.{out-FunDef}
use Rattle.py_tree.specs.declared.definition.Param as rust_param
use Rattle.py_tree.specs.declared.statement.Stmt as rust_stmt
use Rattle.scope_rules.specs.Scoped.{Scoped}
use Rattle.scope_rules.specs.Tables.{locals_of}
use Rattle.stack_code.specs.declared.code.Code.{Code}
use Rattle.stack_code.specs.declared.op.Op.TheVariants as op
use Rattle.stack_code.specs.declared.op.ConstKind.TheVariants as kind
use Rattle.stack_code.specs.Validity.{IsValid, IsFirst, JumpsOut, HasTwoDepths, Underflows, LiesOut}
use Rattle.tree_code.specs.Pieces.{Piece, one, ◌⨾◌}
use Rattle.tree_code.specs.Programs.{closed, params_code, fun_piece, fun_code, module_piece, module_code, last_line}
use Rattle.tree_code.specs.Statements.{Place, body_code}
use Rattle.tree_code.proofs.SolidTrees.{params_solid}
use Rattle.expr_compile.specs.Emitted.{Emitted, with_piece, with_instr}
use Rattle.tree_code.specs.Standing.{IsSized}
use Rattle.block_compile.specs.Emits.{Emits}
use Rattle.expr_compile.specs.Finished.{code_of}
use Rattle.expr_compile.specs.Growth.{Grows}
use Rattle.expr_compile.specs.NamesOf.{locals_at}
use Rattle.block_compile.specs.PlaceOf.{standing}
use Rattle.block_compile.specs.declared.place.Place as rust
use Rattle.block_compile.proofs.Bodies.{body_sized}
use Rattle.block_compile.proofs.Heads.{view_fun}
use Rattle.py_tree.proofs.NodeViews.{stmt_parts}
use Rattle.block_compile.proofs.Emitting.{sized_one, sized_then, emits_one, emits_piece, emits_then}

abbrev pub empty : Emitted
empty = record { instrs = []; ranges = []; leaves = [] }

-- what was put into an empty buffer, outside of loops, stands by itself
pub closed_is : (a : Piece) (e : Emitted) (locals params : ℕ) → Emits a 0 empty e → code_of e locals params ≡ closed a locals params
closed_is a e locals params f = ap (λ x. code_of x locals params) f.adds

pub fun_emits : (line : ℕ) (params : List Param) (body : Piece) (old first second third new : Emitted) → IsSized body → Grows (params_code line 0 params) old first → Emits body 0 first second
    → third ≡ with_instr (op.Const kind.NoneValue) line second → new ≡ with_instr op.Return line third
    → Emits ((params_code line 0 params ⨾ body ⨾ one (op.Const kind.NoneValue) line) ⨾ one op.Return line) 0 old new
fun_emits line params body old first second third new s p f c r =
    let params_sized : IsSized (params_code line 0 params) = (params_solid line 0 params).sized in
    let none : Emits (one (op.Const kind.NoneValue) line) 0 second third = subst (λ x. Emits (one (op.Const kind.NoneValue) line) 0 second x) (sym c) (emits_one 0 (op.Const kind.NoneValue) line second) in
    let back : Emits (one op.Return line) 0 third new = subst (λ x. Emits (one op.Return line) 0 third x) (sym r) (emits_one 0 op.Return line third) in
    let rest : Emits (body ⨾ one (op.Const kind.NoneValue) line) 0 first third = emits_then 0 body (one (op.Const kind.NoneValue) line) first second third s f none in
    let inside : Emits (params_code line 0 params ⨾ body ⨾ one (op.Const kind.NoneValue) line) 0 old third =
    emits_then 0 (params_code line 0 params) (body ⨾ one (op.Const kind.NoneValue) line) old first third params_sized (emits_piece 0 (params_code line 0 params) old first p) rest in
    emits_then 0 (params_code line 0 params ⨾ body ⨾ one (op.Const kind.NoneValue) line) (one op.Return line) old third new
    (sized_then (params_code line 0 params) (body ⨾ one (op.Const kind.NoneValue) line) params_sized (sized_then body (one (op.Const kind.NoneValue) line) s (sized_one (op.Const kind.NoneValue) line))) inside back

pub module_emits : (line : ℕ) (body : Piece) (old first new : Emitted) → IsSized body → Emits body 0 old first → new ≡ with_instr op.End line first → Emits (body ⨾ one op.End line) 0 old new
module_emits line body old first new s f e =
    emits_then 0 body (one op.End line) old first new s f (subst (λ x. Emits (one op.End line) 0 first x) (sym e) (emits_one 0 op.End line first))

-- valid code has none of the faults
pub no_jump_out : (code : Code) (place : ℕ) → IsValid code → IsFirst (JumpsOut code) place → ⊥
no_jump_out code place v f = let o : JumpsOut code place = f.breaks in omega (arith, v.jumps place o.goal o.op o.stands o.jumps, o.outside)

pub no_two_depths : (code : Code) (place : ℕ) → IsValid code → HasTwoDepths code place → ⊥
no_two_depths code place v h = h.differ (v.depths place h.one h.other h.has_one h.has_other)

pub no_underflow : (code : Code) (place : ℕ) → IsValid code → IsFirst (Underflows code) place → ⊥
no_underflow code place v f = let u : Underflows code place = f.breaks in omega (arith, v.slots place u.depth u.op u.stands u.has_depth, u.few)

pub no_range_out : (code : Code) (number : ℕ) → IsValid code → IsFirst (LiesOut code) number → ⊥
no_range_out code number v f = let o : LiesOut code number = f.breaks in o.outside (v.ranges number o.range o.stands)

-- ---- whole functions and bodies

-- outside any loop
abbrev pub outer : ℕ → rust.Place
outer error = record { error = error; depth = 0; again = 0; keeps = false }

-- the code of a body and its end, and the module's code
pub module_is : (error : ℕ) (body : Stmts) (locals : List ℕ) (at : rust.Place) (line : ℕ) (old first new : Emitted) → locals ≡ [] → at ≡ outer error → old ≡ empty → Emits (body_code (standing locals at) body) at.again old first
    → line ≡ last_line 1 body → new ≡ with_instr op.End line first → code_of new 0 0 ≡ module_code error body
module_is error body locals at line old first new none at_is old_is f line_is new_is =
    let place : Place = record { locals = []; error = error; depth = 0; keeps = false } in
    let inside : Emits (body_code place body) 0 empty first =
    subst (λ o. Emits (body_code place body) 0 o first) old_is (subst (λ (a : rust.Place). Emits (body_code (standing [] a) body) a.again old first) at_is (subst (λ xs. Emits (body_code (standing xs at) body) at.again old first) none f)) in
    closed_is (module_piece error body) new 0 0
    (module_emits (last_line 1 body) (body_code place body) empty first new (body_sized place body) inside (new_is ∙ ap (λ l. with_instr op.End l first) line_is))

-- the code of a function whose parts are known
fun_parts : (error id n line : ℕ) (params : List Param) (body : Stmts) (first second third new : Emitted) → Grows (params_code line 0 params) empty first
    → Emits (body_code (record { locals = locals_of (fun_def id n params body line); error = error; depth = 0; keeps = false }) body) 0 first second → third ≡ with_instr (op.Const kind.NoneValue) line second → new ≡ with_instr op.Return line third
    → code_of new (length (locals_of (fun_def id n params body line))) (length params) ≡ fun_code error (fun_def id n params body line)
fun_parts error id n line params body first second third new p f c r =
    let whole : FunDef = fun_def id n params body line in
    let place : Place = record { locals = locals_of whole; error = error; depth = 0; keeps = false } in
    closed_is (fun_piece error whole) new (length (locals_of whole)) (length params)
    (fun_emits line params (body_code place body) empty first second third new (body_sized place body) p f c r)

pub fun_is : (error number count : ℕ) (scopes : Scoped) (seen : List ℕ) (f : rust_fun.FunDef) (params : List rust_param.Param) (body : List rust_stmt.Stmt) (at : rust.Place) (old first second third new : Emitted) → seen ≡ locals_at (slice_get scopes.locals number) → params ≡ (out-FunDef f).params.items → body ≡ (out-FunDef f).body.items
    → at ≡ outer error → old ≡ empty → slice_get scopes.locals number ≡ Some (locals_of (fun_view f)) → count ≡ length (locals_of (fun_view f))
    → Grows (params_code (out-FunDef f).line 0 (map param_view params)) old first → Emits (body_code (standing seen at) (stmts_view body)) at.again first second
    → third ≡ with_instr (op.Const kind.NoneValue) (out-FunDef f).line second → new ≡ with_instr op.Return (out-FunDef f).line third
    → code_of new count (length params) ≡ fun_code error (fun_view f)
fun_is error number count scopes seen f params body at old first second third new seen_is params_is body_is at_is old_is locals_is count_is p g c r =
    let ps : List Param = map param_view (out-FunDef f).params.items in
    let b : Stmts = stmts_view (out-FunDef f).body.items in
    let whole : FunDef = fun_def (out-FunDef f).id (out-FunDef f).name ps b (out-FunDef f).line in
    let view : fun_view f ≡ whole = view_fun f in
    let names : slice_get scopes.locals number ≡ Some (locals_of whole) = locals_is ∙ ap (λ w. Some (locals_of w)) view in
    let pushed : Grows (params_code (out-FunDef f).line 0 ps) empty first =
    λ labels. p labels ∙ ap (λ xs. with_piece (params_code (out-FunDef f).line 0 (map param_view xs)) labels old) params_is ∙ ap (with_piece (params_code (out-FunDef f).line 0 ps) labels) old_is in
    let placed : Emits (body_code (standing (locals_at (slice_get scopes.locals number)) (outer error)) (stmts_view body)) 0 first second =
    subst (λ (a : rust.Place). Emits (body_code (standing (locals_at (slice_get scopes.locals number)) a) (stmts_view body)) a.again first second) at_is
    (subst (λ xs. Emits (body_code (standing xs at) (stmts_view body)) at.again first second) seen_is g) in
    let named : Emits (body_code (record { locals = locals_of whole; error = error; depth = 0; keeps = false }) (stmts_view body)) 0 first second =
    subst (λ o. Emits (body_code (record { locals = locals_at o; error = error; depth = 0; keeps = false }) (stmts_view body)) 0 first second) names placed in
    let inside : Emits (body_code (record { locals = locals_of whole; error = error; depth = 0; keeps = false }) b) 0 first second =
    subst (λ xs. Emits (body_code (record { locals = locals_of whole; error = error; depth = 0; keeps = false }) (stmts_view xs)) 0 first second) body_is named in
    ap (λ k. code_of new k (length params)) (count_is ∙ ap (λ w. length (locals_of w)) view)
    ∙ ap (λ k. code_of new (length (locals_of whole)) k) (ap length params_is ∙ sym (length-map (out-FunDef f).params.items param_view))
    ∙ fun_parts error (out-FunDef f).id (out-FunDef f).name (out-FunDef f).line ps b first second third new pushed inside c r
    ∙ ap (fun_code error) (sym view)

-- the line of the last statement
pub last_line_is : (line : ℕ) (body : List rust_stmt.Stmt) (s : rust_stmt.Stmt) → Some s ≡ slice_get body (length body - 1) → s.line ≡ last_line line (stmts_view body)
last_line_is line [] s e = cc
last_line_is line (b ∷ []) s e = let same : s ≡ b = cc in ap (λ (x : rust_stmt.Stmt). x.line) same ∙ sym (ap (λ v. last_line line (stmt v no_stmts)) (stmt_parts b))
last_line_is line (b ∷ d ∷ body) s e =
    let n : ℕ = length body in
    let there : suc (suc n) - 1 ≡ suc (suc n - 1) = omega arith in
    last_line_is b.line (d ∷ body) s (e ∙ ap (slice_get (b ∷ d ∷ body)) there) ∙ sym (ap (λ v. last_line line (stmt v (stmts_view (d ∷ body)))) (stmt_parts b))
