-- Statements, arms and clauses one after another.
use Rattle.std.proofs.Common.{◌≡◌, ℕ, ◌+◌, ◌<◌, List, [], ◌∷◌, ◌++◌, drop, length, get_or, Option, Some, None, refl, sym, ap, subst, ◌∙◌}
use Rattle.std.proofs.lemmas.List.{drop_more}
use Rattle.py_tree.specs.Tree.{Expr, Stmt, statement, Stmts, stmt, Arms, no_arms, arm, Handlers, handler, Member, value, declared, pass_member, ellipsis_member, text, method, Members, member}
use Rattle.py_tree.specs.View.{stmt_view, stmts_view, arm_view, arms_view, Handler, handler_view, handlers_view, member_view, members_view}
use Rattle.py_tree.specs.declared.definition.Member as rust_member
use Rattle.py_tree.specs.declared.statement.Arm as rust_arm
use Rattle.py_tree.specs.declared.statement.Handler as rust_handler
use Rattle.py_tree.specs.declared.statement.Stmt as rust_stmt
use Rattle.stack_code.specs.declared.op.Op.TheVariants as op
use Rattle.tree_code.specs.Expressions as codes
use Rattle.tree_code.specs.Expressions.{put}
use Rattle.tree_code.specs.Pieces.{Piece, Labels, one, ◌⨾◌, fork}
use Rattle.tree_code.specs.Statements.{Place, body_code, arms_code, handlers_code, member_values, caught, uncaught}
use Rattle.tree_code.proofs.SolidTrees.{value_solid, put_solid, kind_solid, body_solid, handlers_solid, caught_solid, clause_solid, members_solid}
use Rattle.expr_compile.specs.Emitted.{Emitted, with_piece, with_instr, with_aim}
use Rattle.tree_code.specs.Standing.{IsSized}
use Rattle.block_compile.specs.Emits.{Emits, Begins, EndsOpen}
use Rattle.expr_compile.specs.Jumps.{landed}
use Rattle.expr_compile.specs.Growth.{Grows}
use Rattle.block_compile.specs.PlaceOf.{statement_code, clause_inner, clause_of, clause_code, member_value}
use Rattle.block_compile.proofs.Emitting.{landed_push, sized_then, sized_one, sized_fork, emits_piece, emits_then}
use Rattle.block_compile.proofs.Loops.{piece_then, piece_nothing, bare_begins}
use Rattle.block_compile.proofs.Steps.{clause_done}

-- ---- sizes

pub value_sized : (locals : List ℕ) (e : Expr) → IsSized (codes.value locals e)
value_sized locals e = (value_solid locals e).sized

pub put_sized : (locals : List ℕ) (e : Expr) → IsSized (put locals e)
put_sized locals e = (put_solid locals e).sized

pub statement_sized : (at : Place) (s : Stmt) → IsSized (statement_code at s)
statement_sized at (statement kind line) = (kind_solid at line kind).sized

pub body_sized : (at : Place) (body : Stmts) → IsSized (body_code at body)
body_sized at body = (body_solid at body).sized

pub handlers_sized : (at : Place) (line : ℕ) (handlers : Handlers) → IsSized (handlers_code at line handlers)
handlers_sized at line handlers = (handlers_solid at line handlers).sized

pub arms_sized : (at : Place) (line : ℕ) (arms : Arms) (rest : Piece) → IsSized rest → IsSized (arms_code at line arms rest)
arms_sized at line no_arms rest s = s
arms_sized at line (arm test body arms) rest s =
    sized_then (codes.value at.locals test) (fork line (body_code at body) (arms_code at line arms rest)) (value_sized at.locals test) (sized_fork line (body_code at body) (arms_code at line arms rest) (body_sized at body) (arms_sized at line arms rest s))

pub clause_sized : (at : Place) (h : Handler) → IsSized (clause_inner at h)
clause_sized at h = (clause_solid at.locals h.3 h.1 (body_solid at h.2)).sized

pub members_sized : (number : ℕ) (ms : Members) → IsSized (member_values number ms)
members_sized number ms = (members_solid number ms).sized

-- ---- clauses

-- what a clause does, and then a jump
pub clause_ends : (at : Place) (h : Handler) (class : Option Expr) (name : Option ℕ) (body : Stmts) (line again : ℕ) (old held inside left new : Emitted) (end : ℕ) → h ≡ (class, name, body, line)
    → Grows (caught at.locals line name) old held → Emits (body_code at body) again held inside → Grows (uncaught at.locals line name) inside left → new ≡ with_instr (op.Jump 0) line left → end ≡ length left.instrs
    → EndsOpen (clause_inner at h) h.3 again old new end
clause_ends at h class name body line again old held inside left new end is catches f drops jumps stands =
    let first : Piece = caught at.locals line name in
    let last : Piece = uncaught at.locals line name in
    let rest : Emits (body_code at body ⨾ last) again held left = emits_then again (body_code at body) last held inside left (body_sized at body) f (emits_piece again last inside left drops) in
    let whole : Emits (first ⨾ body_code at body ⨾ last) again old left = emits_then again first (body_code at body ⨾ last) old held left (caught_solid at.locals line name).sized (emits_piece again first old held catches) rest in
    subst (λ (x : Handler). EndsOpen (clause_inner at x) x.3 again old new end) (sym is) (record { mid = left; emits = whole; jumps = jumps; stands = stands })

-- a clause with no class, and one with a class
pub clause_bare : (at : Place) (h : Handler) (again : ℕ) (old new : Emitted) (end : ℕ) → h.0 ≡ None → EndsOpen (clause_inner at h) h.3 again old new end → Begins (clause_code at h) again old new end
clause_bare at h again old new end is f =
    subst (λ class. Begins (clause_of at class h.3 (clause_inner at h)) again old new end) (sym is) (bare_begins h.3 again (clause_inner at h) old new end (clause_sized at h) f)

pub clause_classed : (at : Place) (h : Handler) (class : Expr) (line again : ℕ) (old tested matched opened ended new : Emitted) (jump end next : ℕ) → h.0 ≡ Some class → h.3 ≡ line
    → Grows (codes.value at.locals class) old tested → matched ≡ with_instr op.MatchError line tested → jump ≡ length matched.instrs → opened ≡ with_instr (op.JumpIfFalse 0) line matched → EndsOpen (clause_inner at h) h.3 again opened ended end
    → next ≡ length ended.instrs → new ≡ with_aim jump (op.JumpIfFalse next) line ended → Begins (clause_code at h) again old new end
clause_classed at h class line again old tested matched opened ended new jump end next is own tests matches stands opens f goes aims =
    let inner : Piece = clause_inner at h in
    let g : EndsOpen inner line again opened ended end = subst (λ n. EndsOpen inner n again opened ended end) own f in
    subst (λ (o : Option Expr). Begins (clause_of at o h.3 inner) again old new end) (sym is)
    (subst (λ n. Begins (clause_of at (Some class) n inner) again old new end) (sym own)
    (clause_done line again (codes.value at.locals class) inner op.MatchError old tested matched opened ended new jump end next (value_sized at.locals class) (clause_sized at h) tests matches stands opens g goes aims))

-- ---- one more

pub body_stmt : (at : Place) (s : Stmt) (rest : Stmts) → body_code at (stmt s rest) ≡ statement_code at s ⨾ body_code at rest
body_stmt at (statement kind line) rest = refl

pub body_step : (at : Place) (again : ℕ) (stmts : List rust_stmt.Stmt) (i : ℕ) (s : rust_stmt.Stmt) (whole : Piece) (start old new : Emitted) → i < length stmts → s ≡ get_or stmts i s
    → Emits (statement_code at (stmt_view s)) again old new
    → ((done : Emitted) → Emits (body_code at (stmts_view (drop i stmts))) again old done → Emits whole again start done)
    → (done : Emitted) → Emits (body_code at (stmts_view (drop (i + 1) stmts))) again new done → Emits whole again start done
body_step at again stmts i s whole start old new l is f before done g =
    let more : drop i stmts ≡ s ∷ drop (i + 1) stmts = drop_more stmts i s l ∙ ap (λ x. x ∷ drop (i + 1) stmts) (sym is) in
    let rest : Stmts = stmts_view (drop (i + 1) stmts) in
    let same : body_code at (stmts_view (drop i stmts)) ≡ statement_code at (stmt_view s) ⨾ body_code at rest = ap (λ x. body_code at (stmts_view x)) more ∙ body_stmt at (stmt_view s) rest in
    before done (subst (λ a. Emits a again old done) (sym same) (emits_then again (statement_code at (stmt_view s)) (body_code at rest) old new done (statement_sized at (stmt_view s)) f g))

pub arms_step : (at : Place) (line again : ℕ) (arms : List rust_arm.Arm) (i : ℕ) (a : rust_arm.Arm) (ends : List ℕ) (end : ℕ) (whole : Piece → Piece) (start old new : Emitted) → i < length arms → a ≡ get_or arms i a
    → Begins (λ rest. codes.value at.locals (arm_view a).0 ⨾ fork line (body_code at (arm_view a).1) rest) again old new end
    → ((rest : Piece) (done : Emitted) → IsSized rest → Emits (arms_code at line (arms_view (drop i arms)) rest) again old done → Emits (whole rest) again start (landed ends done))
    → (rest : Piece) (done : Emitted) → IsSized rest → Emits (arms_code at line (arms_view (drop (i + 1) arms)) rest) again new done → Emits (whole rest) again start (landed (ends ++ end ∷ []) done)
arms_step at line again arms i a ends end whole start old new l is f before rest done s g =
    let more : drop i arms ≡ a ∷ drop (i + 1) arms = drop_more arms i a l ∙ ap (λ x. x ∷ drop (i + 1) arms) (sym is) in
    let others : Piece = arms_code at line (arms_view (drop (i + 1) arms)) rest in
    let sized : IsSized others = arms_sized at line (arms_view (drop (i + 1) arms)) rest s in
    let here : Emits (arms_code at line (arms_view (drop i arms)) rest) again old (landed (end ∷ []) done) =
    subst (λ xs. Emits (arms_code at line (arms_view xs) rest) again old (landed (end ∷ []) done)) (sym more) (f others done sized g) in
    subst (λ x. Emits (whole rest) again start x) (landed_push ends end done) (before rest (landed (end ∷ []) done) s here)

pub handlers_more : (at : Place) (line : ℕ) (h : Handler) (rest : Handlers) → handlers_code at line (handler h.0 h.1 h.2 h.3 rest) ≡ clause_code at h (handlers_code at line rest)
handlers_more at line (None, n, body, own) rest = refl
handlers_more at line (Some x, n, body, own) rest = refl

pub handlers_step : (at : Place) (line again : ℕ) (handlers : List rust_handler.Handler) (i : ℕ) (h : rust_handler.Handler) (ends : List ℕ) (end : ℕ) (whole : Piece) (start old new : Emitted) → i < length handlers → h ≡ get_or handlers i h
    → Begins (clause_code at (handler_view h)) again old new end
    → ((done : Emitted) → Emits (handlers_code at line (handlers_view (drop i handlers))) again old done → Emits whole again start (landed ends done))
    → (done : Emitted) → Emits (handlers_code at line (handlers_view (drop (i + 1) handlers))) again new done → Emits whole again start (landed (ends ++ end ∷ []) done)
handlers_step at line again handlers i h ends end whole start old new l is f before done g =
    let more : drop i handlers ≡ h ∷ drop (i + 1) handlers = drop_more handlers i h l ∙ ap (λ x. x ∷ drop (i + 1) handlers) (sym is) in
    let others : Handlers = handlers_view (drop (i + 1) handlers) in
    let same : handlers_code at line (handlers_view (drop i handlers)) ≡ clause_code at (handler_view h) (handlers_code at line others) =
    ap (λ x. handlers_code at line (handlers_view x)) more ∙ handlers_more at line (handler_view h) others in
    let sized : IsSized (handlers_code at line others) = handlers_sized at line others in
    let here : Emits (handlers_code at line (handlers_view (drop i handlers))) again old (landed (end ∷ []) done) =
    subst (λ a. Emits a again old (landed (end ∷ []) done)) (sym same) (f (handlers_code at line others) done sized g) in
    subst (λ x. Emits whole again start x) (landed_push ends end done) (before (landed (end ∷ []) done) here)

-- ---- members of a class

two_then : (a b c : Piece) (labels : Labels) (e : Emitted) → IsSized a → IsSized b → with_piece c labels (with_piece (a ⨾ b) labels e) ≡ with_piece (a ⨾ b ⨾ c) labels e
two_then a b c labels e s t = ap (with_piece c labels) (sym (piece_then a b labels e s)) ∙ piece_then b c labels (with_piece a labels e) t ∙ piece_then a (b ⨾ c) labels e s

members_more : (number : ℕ) (m : Member) (rest : Members) (labels : Labels) (e : Emitted) → with_piece (member_values number rest) labels (with_piece (member_value number m) labels e) ≡ with_piece (member_values number (member m rest)) labels e
members_more number (value n x line) rest labels e = two_then (codes.value [] x) (one (op.StoreMember number n) line) (member_values number rest) labels e (value_sized [] x) (sized_one (op.StoreMember number n) line)
members_more number (declared n (Some x) line) rest labels e = two_then (codes.value [] x) (one (op.StoreMember number n) line) (member_values number rest) labels e (value_sized [] x) (sized_one (op.StoreMember number n) line)
members_more number (declared n None line) rest labels e = ap (with_piece (member_values number rest) labels) (sym (piece_nothing labels e))
members_more number pass_member rest labels e = ap (with_piece (member_values number rest) labels) (sym (piece_nothing labels e))
members_more number ellipsis_member rest labels e = ap (with_piece (member_values number rest) labels) (sym (piece_nothing labels e))
members_more number text rest labels e = ap (with_piece (member_values number rest) labels) (sym (piece_nothing labels e))
members_more number (method f) rest labels e = ap (with_piece (member_values number rest) labels) (sym (piece_nothing labels e))

pub members_step : (number : ℕ) (members : List rust_member.Member) (i : ℕ) (m : rust_member.Member) (whole start old new : Emitted) (labels : Labels) → i < length members → m ≡ get_or members i m
    → Grows (member_value number (member_view m)) old new → with_piece (member_values number (members_view (drop i members))) labels old ≡ whole → with_piece (member_values number (members_view (drop (i + 1) members))) labels new ≡ whole
members_step number members i m whole start old new labels l is f before =
    let more : drop i members ≡ m ∷ drop (i + 1) members = drop_more members i m l ∙ ap (λ x. x ∷ drop (i + 1) members) (sym is) in
    ap (with_piece (member_values number (members_view (drop (i + 1) members))) labels) (f labels)
    ∙ members_more number (member_view m) (members_view (drop (i + 1) members)) labels old
    ∙ ap (λ xs. with_piece (member_values number (members_view xs)) labels old) (sym more)
    ∙ before
