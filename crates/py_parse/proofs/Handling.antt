-- One round of the loops over arms and handlers.
use Rattle.std.proofs.Common.{◌≡◌, ℕ, Vec, List, [], ◌∷◌, ◌++◌, Bool, true, false, if◌then◌else◌, Option, Some, refl, ap, ◌∙◌}
use Rattle.std.specs.Global.{Global}
use Rattle.py_tokens.specs.declared.token.Op.TheVariants as op
use Rattle.py_tokens.specs.declared.token.Keyword.TheVariants as word
use Rattle.py_tree.specs.declared.expression.Expr as rust_expr
use Rattle.py_tree.specs.declared.statement.Arm as rust_arm
use Rattle.py_tree.specs.declared.statement.Arm.{roll-Arm}
use Rattle.py_tree.specs.declared.statement.Handler as rust_handler
use Rattle.py_tree.specs.declared.statement.Handler.{roll-Handler}
use Rattle.py_tree.specs.declared.statement.Stmt as rust_stmt
use Rattle.py_grammar.specs.Cursor.{Cursor, past, line_of}
use Rattle.py_tree.specs.Tree.{Expr, Stmts, Arms, Handlers}
use Rattle.py_tree.specs.View.{Arm, Handler, expr_view, stmts_view, arms_view, handlers_view}
use Rattle.std.proofs.Common.{option_map}
use Rattle.py_descent.specs.Bodies.{and_arm, and_handler}
use Rattle.py_descent.specs.Codes.{at, symbol, keyword}
use Rattle.py_descent.specs.Descent.{descent}
use Rattle.py_descent.specs.Goals.{test, block, caught, elifs, handlers}
use Rattle.py_descent.specs.Programs.{Answer, gives, refuses}
use Rattle.py_descent.proofs.Unfold.{descends}
use Rattle.py_parse.proofs.Pushes.{bind_gives, arms_push, handlers_push}
use Rattle.py_tree.proofs.StatementViews.{view_arm, view_handler}

-- a colon, and what is behind it
behind_colon : (z : Bool) (q : Answer Stmts) (ss : Stmts) (d : Cursor) → (if z then q else refuses) ≡ gives ss d → (z ≡ true) × (q ≡ gives ss d)
behind_colon true q ss d h = (refl, h)
behind_colon false q ss d h = absurd cc

pub expected : (z : Bool) (u : Unit {0}) (c d : Cursor) → (if z then gives tt c else refuses) ≡ gives u d → (z ≡ true) × (c ≡ d)
expected true u c d h = (refl, cc)
expected false u c d h = absurd cc

pub next_arms : (as' : Arms) (c d f : Cursor) (t : Expr) (ss : Stmts) → at (keyword word.KwElif) c ≡ true → descent test (past c) ≡ gives t d → (if at (symbol op.Colon) d then descent block (past d) else refuses) ≡ gives ss f → descent (elifs as') c ≡ descent (elifs (and_arm as' t ss)) f
next_arms as' c d f t ss h e g =
    let body = behind_colon (at (symbol op.Colon) d) (descent block (past d)) ss f g in
    descends (elifs as') c ∙ rw h (rw e (rw body.0 (rw body.1 (bind_gives _))))

pub next_handlers : (hs : Handlers) (c d f : Cursor) (e : Expr) (n : Option ℕ) (ss : Stmts) → at (keyword word.KwExcept) c ≡ true → at (symbol op.Colon) (past c) ≡ false → descent caught (past c) ≡ gives (e, n) d → (if at (symbol op.Colon) d then descent block (past d) else refuses) ≡ gives ss f → at (keyword word.KwExcept) f ≡ true → descent (handlers hs) c ≡ descent (handlers (and_handler hs (Some e) n ss (line_of c))) f
next_handlers hs c d f e n ss h k g b m =
    let body = behind_colon (at (symbol op.Colon) d) (descent block (past d)) ss f b in
    descends (handlers hs) c ∙ rw h (rw k (rw g (rw body.0 (rw body.1 (rw m (bind_gives _))))))

pub arms_more : (xs : List rust_arm.Arm) (x : rust_expr.Expr) (ss : Vec rust_stmt.Stmt Global) → arms_view (xs ++ roll-Arm (record { test = x; body = ss }) ∷ []) ≡ and_arm (arms_view xs) (expr_view x) (stmts_view ss.items)
arms_more xs x ss = arms_push xs (roll-Arm (record { test = x; body = ss })) ∙ ap (λ (a : Arm). and_arm (arms_view xs) a.0 a.1) (view_arm x ss)

pub handlers_more : (xs : List rust_handler.Handler) (o : Option rust_expr.Expr) (n : Option ℕ) (ss : Vec rust_stmt.Stmt Global) (l : ℕ) → handlers_view (xs ++ roll-Handler (record { class = o; name = n; body = ss; line = l }) ∷ []) ≡ and_handler (handlers_view xs) (option_map expr_view o) n (stmts_view ss.items) l
handlers_more xs o n ss l = handlers_push xs (roll-Handler (record { class = o; name = n; body = ss; line = l })) ∙ ap (λ (h : Handler). and_handler (handlers_view xs) h.0 h.1 h.2 h.3) (view_handler o n ss l)
