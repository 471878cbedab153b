-- What a list of the tree is with one more at its end, and what a call at the end of a program gives.
use Rattle.std.proofs.Common.{◌≡◌, List, [], ◌∷◌, ◌++◌, refl, ap}
use Rattle.std.proofs.lemmas.List.{map-append}
use Rattle.py_tree.specs.declared.definition.Member as rust_member
use Rattle.py_tree.specs.declared.expression.Arg as rust_arg
use Rattle.py_tree.specs.declared.expression.Expr as rust_expr
use Rattle.py_tree.specs.declared.expression.Pair as rust_pair
use Rattle.py_tree.specs.declared.statement.Arm as rust_arm
use Rattle.py_tree.specs.declared.statement.Handler as rust_handler
use Rattle.py_tree.specs.declared.statement.Stmt as rust_stmt
use Rattle.py_tree.specs.Tree.{expr, arg, pair, stmt, arm, handler, member}
use Rattle.py_tree.specs.View.{expr_view, exprs_view, arg_view, args_view, pair_view, pairs_view, stmt_view, stmts_view, arm_view, arms_view, handler_view, handlers_view, member_view, members_view}
use Rattle.py_descent.specs.Bodies.{and_expr, and_arg, and_pair, and_stmt, and_arm, and_handler, and_member}
use Rattle.py_descent.specs.Programs.{Answer, gives, refuses, bind}

pub bind_gives : {A : Type 0} (q : Answer A) → bind q (λ a c. gives a c) ≡ q
bind_gives refuses = refl
bind_gives (gives a c) = refl

pub exprs_push : (xs : List rust_expr.Expr) (x : rust_expr.Expr) → exprs_view (xs ++ x ∷ []) ≡ and_expr (exprs_view xs) (expr_view x)
exprs_push [] x = refl
exprs_push (y ∷ ys) x = ap (expr (expr_view y)) (exprs_push ys x)

pub args_push : (xs : List rust_arg.Arg) (x : rust_arg.Arg) → args_view (xs ++ x ∷ []) ≡ and_arg (args_view xs) (arg_view x).0 (arg_view x).1
args_push [] x = refl
args_push (y ∷ ys) x = ap (arg (arg_view y).0 (arg_view y).1) (args_push ys x)

pub pairs_push : (xs : List rust_pair.Pair) (x : rust_pair.Pair) → pairs_view (xs ++ x ∷ []) ≡ and_pair (pairs_view xs) (pair_view x).0 (pair_view x).1
pairs_push [] x = refl
pairs_push (y ∷ ys) x = ap (pair (pair_view y).0 (pair_view y).1) (pairs_push ys x)

pub stmts_push : (xs : List rust_stmt.Stmt) (x : rust_stmt.Stmt) → stmts_view (xs ++ x ∷ []) ≡ and_stmt (stmts_view xs) (stmt_view x)
stmts_push [] x = refl
stmts_push (y ∷ ys) x = ap (stmt (stmt_view y)) (stmts_push ys x)

pub arms_push : (xs : List rust_arm.Arm) (x : rust_arm.Arm) → arms_view (xs ++ x ∷ []) ≡ and_arm (arms_view xs) (arm_view x).0 (arm_view x).1
arms_push [] x = refl
arms_push (y ∷ ys) x = ap (arm (arm_view y).0 (arm_view y).1) (arms_push ys x)

pub handlers_push : (xs : List rust_handler.Handler) (x : rust_handler.Handler) → handlers_view (xs ++ x ∷ []) ≡ and_handler (handlers_view xs) (handler_view x).0 (handler_view x).1 (handler_view x).2 (handler_view x).3
handlers_push [] x = refl
handlers_push (y ∷ ys) x = ap (handler (handler_view y).0 (handler_view y).1 (handler_view y).2 (handler_view y).3) (handlers_push ys x)

pub members_push : (xs : List rust_member.Member) (x : rust_member.Member) → members_view (xs ++ x ∷ []) ≡ and_member (members_view xs) (member_view x)
members_push [] x = refl
members_push (y ∷ ys) x = ap (member (member_view y)) (members_push ys x)

-- a list with one more at its end, mapped
pub ruleset mapped = (map-append)
