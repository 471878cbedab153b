-- Lists of the tree, one behind the other.
use Rattle.std.proofs.Common.{◌≡◌, ℕ, List, [], ◌∷◌, ◌++◌, Option, refl, ap, sym, append_assoc}
use Rattle.py_tree.specs.Tree.{Expr, Exprs, no_exprs, expr, Args, no_args, arg, Pairs, no_pairs, pair, Stmt, Stmts, no_stmts, stmt, Arms, no_arms, arm, Handlers, no_handlers, handler, Member, Members, no_members, member}
use Rattle.py_grammar.specs.Statements.{then_all}
use Rattle.py_descent.specs.Bodies.{and_expr, and_arg, and_pair, and_stmt, and_arm, and_handler, and_member}

-- ---- Expressions, arguments and pairs

abbrev pub then_exprs : Exprs → Exprs → Exprs
then_exprs no_exprs ys = ys
then_exprs (expr x xs) ys = expr x (then_exprs xs ys)

pub then_exprs_one : (xs : Exprs) (e : Expr) → then_exprs xs (expr e no_exprs) ≡ and_expr xs e
then_exprs_one no_exprs e = refl
then_exprs_one (expr x xs) e = ap (expr x) (then_exprs_one xs e)

pub then_exprs_more : (xs ys : Exprs) (e : Expr) → then_exprs xs (expr e ys) ≡ then_exprs (and_expr xs e) ys
then_exprs_more no_exprs ys e = refl
then_exprs_more (expr x xs) ys e = ap (expr x) (then_exprs_more xs ys e)

abbrev pub then_args : Args → Args → Args
then_args no_args ys = ys
then_args (arg n x xs) ys = arg n x (then_args xs ys)

pub then_args_none : (xs : Args) → then_args xs no_args ≡ xs
then_args_none no_args = refl
then_args_none (arg n x xs) = ap (arg n x) (then_args_none xs)

pub then_args_one : (xs : Args) (m : Option ℕ) (e : Expr) → then_args xs (arg m e no_args) ≡ and_arg xs m e
then_args_one no_args m e = refl
then_args_one (arg n x xs) m e = ap (arg n x) (then_args_one xs m e)

pub then_args_more : (xs ys : Args) (m : Option ℕ) (e : Expr) → then_args xs (arg m e ys) ≡ then_args (and_arg xs m e) ys
then_args_more no_args ys m e = refl
then_args_more (arg n x xs) ys m e = ap (arg n x) (then_args_more xs ys m e)

abbrev pub then_pairs : Pairs → Pairs → Pairs
then_pairs no_pairs ys = ys
then_pairs (pair k v xs) ys = pair k v (then_pairs xs ys)

pub then_pairs_none : (xs : Pairs) → then_pairs xs no_pairs ≡ xs
then_pairs_none no_pairs = refl
then_pairs_none (pair k v xs) = ap (pair k v) (then_pairs_none xs)

pub then_pairs_one : (xs : Pairs) (j w : Expr) → then_pairs xs (pair j w no_pairs) ≡ and_pair xs j w
then_pairs_one no_pairs j w = refl
then_pairs_one (pair k v xs) j w = ap (pair k v) (then_pairs_one xs j w)

pub then_pairs_more : (xs ys : Pairs) (j w : Expr) → then_pairs xs (pair j w ys) ≡ then_pairs (and_pair xs j w) ys
then_pairs_more no_pairs ys j w = refl
then_pairs_more (pair k v xs) ys j w = ap (pair k v) (then_pairs_more xs ys j w)

-- ---- Names and what is imported

pub then_list_more : {A : Type 0} (xs ys : List A) (x : A) → xs ++ x ∷ ys ≡ (xs ++ x ∷ []) ++ ys
then_list_more xs ys x = sym (append_assoc xs (x ∷ []) ys)

-- ---- Statements and what they hold

pub then_all_none : (xs : Stmts) → then_all xs no_stmts ≡ xs
then_all_none no_stmts = refl
then_all_none (stmt x xs) = ap (stmt x) (then_all_none xs)

pub then_all_one : (xs : Stmts) (s : Stmt) → then_all xs (stmt s no_stmts) ≡ and_stmt xs s
then_all_one no_stmts s = refl
then_all_one (stmt x xs) s = ap (stmt x) (then_all_one xs s)

pub then_all_more : (xs ys : Stmts) (s : Stmt) → then_all xs (stmt s ys) ≡ then_all (and_stmt xs s) ys
then_all_more no_stmts ys s = refl
then_all_more (stmt x xs) ys s = ap (stmt x) (then_all_more xs ys s)

pub then_all_then : (xs ys zs : Stmts) → then_all xs (then_all ys zs) ≡ then_all (then_all xs ys) zs
then_all_then no_stmts ys zs = refl
then_all_then (stmt x xs) ys zs = ap (stmt x) (then_all_then xs ys zs)

abbrev pub then_arms : Arms → Arms → Arms
then_arms no_arms ys = ys
then_arms (arm t ss xs) ys = arm t ss (then_arms xs ys)

pub then_arms_none : (xs : Arms) → then_arms xs no_arms ≡ xs
then_arms_none no_arms = refl
then_arms_none (arm t ss xs) = ap (arm t ss) (then_arms_none xs)

pub then_arms_more : (xs ys : Arms) (t : Expr) (ss : Stmts) → then_arms xs (arm t ss ys) ≡ then_arms (and_arm xs t ss) ys
then_arms_more no_arms ys t ss = refl
then_arms_more (arm u ts xs) ys t ss = ap (arm u ts) (then_arms_more xs ys t ss)

abbrev pub then_handlers : Handlers → Handlers → Handlers
then_handlers no_handlers ys = ys
then_handlers (handler e n ss l xs) ys = handler e n ss l (then_handlers xs ys)

pub then_handlers_one : (xs : Handlers) (f : Option Expr) (m : Option ℕ) (ts : Stmts) (k : ℕ) → then_handlers xs (handler f m ts k no_handlers) ≡ and_handler xs f m ts k
then_handlers_one no_handlers f m ts k = refl
then_handlers_one (handler e n ss l xs) f m ts k = ap (handler e n ss l) (then_handlers_one xs f m ts k)

pub then_handlers_more : (xs ys : Handlers) (f : Option Expr) (m : Option ℕ) (ts : Stmts) (k : ℕ) → then_handlers xs (handler f m ts k ys) ≡ then_handlers (and_handler xs f m ts k) ys
then_handlers_more no_handlers ys f m ts k = refl
then_handlers_more (handler e n ss l xs) ys f m ts k = ap (handler e n ss l) (then_handlers_more xs ys f m ts k)

abbrev pub then_members : Members → Members → Members
then_members no_members ys = ys
then_members (member m xs) ys = member m (then_members xs ys)

pub then_members_none : (xs : Members) → then_members xs no_members ≡ xs
then_members_none no_members = refl
then_members_none (member m xs) = ap (member m) (then_members_none xs)

pub then_members_more : (xs ys : Members) (k : Member) → then_members xs (member k ys) ≡ then_members (and_member xs k) ys
then_members_more no_members ys k = refl
then_members_more (member m xs) ys k = ap (member m) (then_members_more xs ys k)
