-- Where one of several expressions is no target, they are no targets, whatever follows.
use Rattle.std.proofs.Common.{◌≡◌, ◌<◌, ℕ, zero, suc, Bool, true, false, ◌&&◌, if◌then◌else◌, Err, refl, sym, ◌∙◌, subst, arith}
use Rattle.py_grammar.specs.Cursor.{Cursor, past, with_site}
use Rattle.py_tree.specs.Tree as tree
use Rattle.py_tree.specs.Tree.{Expr, Exprs, expr, no_exprs, node}
use Rattle.py_descent.specs.Bodies.{is_target, some_targets, are_targets, and_expr}
use Rattle.py_descent.specs.Codes.{at, symbol}
use Rattle.py_descent.specs.Descent.{descent}
use Rattle.py_descent.specs.Goals.{more_targets, primary}
use Rattle.py_descent.specs.Programs.{Answer, gives, refuses, call, choose, eat, give, refuse, site, bind, room}
use Rattle.py_descent.specs.Takings.{begins_test}
use Rattle.py_descent.proofs.Unfold.{descends, descent_shrinks, eaten}
use Rattle.py_tokens.specs.declared.token.Op.TheVariants as op
use Rattle.py_parse.specs.declared.fault.ParseFault.{ParseFault}
use Rattle.py_parse.specs.declared.fault.ParseFault.TheVariants.{Unexpected, OutOfProfile, TooDeep, Memory}
use Rattle.py_parse.specs.Gives.{Gives, IsRefusal, run}
use Rattle.py_parse.specs.Targets.{AreNoTargets, GivesTargets}
use Rattle.py_parse.proofs.Pushes.{bind_gives}

not_both : (z : Bool) → z ≡ true → z ≡ false → ⊥
not_both z h k = cc

keeps_false : (z a b : Bool) → (a ≡ false → b ≡ false) → (z && a) ≡ false → (z && b) ≡ false
keeps_false true a b f h = f h
keeps_false false a b f h = refl

and_one : (es : Exprs) (v : Expr) → are_targets es ≡ false → are_targets (and_expr es v) ≡ false
unfolding is_target
and_one no_exprs v h = absurd (not_both _ refl h)
and_one (expr x xs) v h = keeps_false (is_target x) (are_targets xs) (are_targets (and_expr xs v)) (λ k. and_one xs v k) h

none_of : (es : Exprs) → are_targets es ≡ false → some_targets es ≡ false
unfolding is_target
none_of no_exprs h = refl
none_of (expr e es) h = h

alone : (e : Expr) → is_target e ≡ false → are_targets (expr e no_exprs) ≡ false
unfolding is_target
alone e h = rw h refl

pub some_first : (e : Expr) → is_target e ≡ true → some_targets (expr e no_exprs) ≡ true
unfolding is_target
some_first e h = rw h refl

no_if : (z : Bool) (x y : Answer Exprs) → (z ≡ true → AreNoTargets x) → AreNoTargets y → AreNoTargets (if z then x else y)
no_if true x y f g = f refl
no_if false x y f g = g

no_bind : {A : Type 0} (q : Answer A) (f : A → Cursor → Answer Exprs) → ((a : A) (d : Cursor) → q ≡ gives a d → AreNoTargets (f a d)) → AreNoTargets (bind q f)
no_bind refuses f h = tt
no_bind (gives a d) f h = h a d refl

no_gives : (q : Answer Exprs) → AreNoTargets q → AreNoTargets (bind q (λ a c. gives a c))
no_gives refuses h = h
no_gives (gives a c) h = h

more_kept : (n : ℕ) (es : Exprs) (c : Cursor) → room c < n → are_targets es ≡ false → AreNoTargets (descent (more_targets es) c)
more_kept zero es c le h = absurd (omega (arith, le))
more_kept (suc n) es c le h = subst AreNoTargets (sym (descends (more_targets es) c))
    (no_if (begins_test c) _ _
    (λ b. no_bind (descent primary c) _ (λ e d q. no_if (at (symbol op.Comma) d) _ _
    (λ k. no_gives _ (more_kept n (and_expr es e) (past d) (omega (arith, le, eaten (symbol op.Comma) d k, descent_shrinks.shrinks primary c e d q)) (and_one es e h)))
    (none_of (and_expr es e) (and_one es e h))))
    (none_of es h))

pub dropped : (q : Answer Exprs) (l : ℕ) → AreNoTargets q → bind q (λ items d. if some_targets items then gives (node (tree.tuple items) l d.sites) (with_site d) else refuses) ≡ refuses
dropped refuses l h = refl
dropped (gives es d) l h = rw h refl

by_if : {A : Type 0} (z : Bool) (x y : Answer A) → x ≡ refuses → y ≡ refuses → (if z then x else y) ≡ refuses
by_if true x y h k = h
by_if false x y h k = k

pub no_target_first : (e : Expr) (l : ℕ) (c : Cursor) → is_target e ≡ false → run (eat (symbol op.Comma) (call (more_targets (expr e no_exprs)) (λ items. site (λ number. choose (some_targets items) (give (node (tree.tuple items) l number)) refuse))) (choose (is_target e) (give e) refuse)) c ≡ refuses
no_target_first e l c h = by_if (at (symbol op.Comma) c) _ _ (dropped _ l (more_kept (suc (room (past c))) (expr e no_exprs) (past c) (omega arith) (alone e h))) (rw h refl)

pub ruleset target_steps = (dropped, some_first)

-- ---- One target more

always : (z a : Bool) → a ≡ false → (z && a) ≡ false
always true a h = h
always false a h = refl

and_no : (es : Exprs) (v : Expr) → is_target v ≡ false → are_targets (and_expr es v) ≡ false
unfolding is_target
and_no no_exprs v h = rw h refl
and_no (expr x xs) v h = always (is_target x) (are_targets (and_expr xs v)) (and_no xs v h)

keeps_true : (z a b : Bool) → (a ≡ true → b ≡ true) → (z && a) ≡ true → (z && b) ≡ true
keeps_true true a b f h = f h
keeps_true false a b f h = absurd (not_both _ h refl)

and_yes : (es : Exprs) (v : Expr) → is_target v ≡ true → are_targets es ≡ true → are_targets (and_expr es v) ≡ true
unfolding is_target
and_yes no_exprs v h k = rw h refl
and_yes (expr x xs) v h k = keeps_true (is_target x) (are_targets xs) (are_targets (and_expr xs v)) (λ e. and_yes xs v h e) k

pub some_more : (es : Exprs) (v : Expr) → is_target v ≡ true → some_targets es ≡ true → some_targets (and_expr es v) ≡ true
unfolding is_target
some_more no_exprs v h k = absurd (not_both _ k refl)
some_more (expr x xs) v h k = and_yes (expr x xs) v h k

no_target : (z : Bool) (e : Expr) (d : Cursor) → (if z then gives e d else refuses) ≡ refuses → z ≡ false
no_target true e d h = absurd cc
no_target false e d h = refl

no_more : (ts : Exprs) (q : Answer Expr) → bind q (λ e d. if is_target e then gives e d else refuses) ≡ refuses → AreNoTargets (bind q (λ e d. if at (symbol op.Comma) d then bind (descent (more_targets (and_expr ts e)) (past d)) (λ a f. gives a f) else gives (and_expr ts e) d))
no_more ts refuses h = tt
no_more ts (gives e d) h =
    let none : are_targets (and_expr ts e) ≡ false = and_no ts e (no_target (is_target e) e d h) in
    no_if (at (symbol op.Comma) d) _ _ (λ k. no_gives _ (more_kept (suc (room (past d))) (and_expr ts e) (past d) (omega arith) none)) (none_of (and_expr ts e) none)

are_none : (ts : Exprs) (c : Cursor) → begins_test c ≡ true → run (call primary (λ e. choose (is_target e) (give e) refuse)) c ≡ refuses → AreNoTargets (descent (more_targets ts) c)
are_none ts c b h = subst AreNoTargets (sym (descends (more_targets ts) c)) (rw b (no_more ts (descent primary c) h))

pub not_found : {A : Type 0} (view : A → Expr) (fault : ParseFault) (ts es : Exprs) (c d : Cursor) (r : Answer Exprs) → r ≡ descent (more_targets ts) c → begins_test c ≡ true → Gives view (Err fault) d (run (call primary (λ e. choose (is_target e) (give e) refuse)) c) → GivesTargets {A = Unit {0}} (Err fault) es d r
not_found view (Unexpected span) ts es c d r e b h = subst AreNoTargets (sym e) (are_none ts c b h)
not_found view (OutOfProfile form span) ts es c d r e b h = subst AreNoTargets (sym e) (are_none ts c b h)
not_found view (TooDeep span) ts es c d r e b h = subst AreNoTargets (sym e) (are_none ts c b h)
not_found view Memory ts es c d r e b h = tt

found_one : (z : Bool) (e v : Expr) (f d : Cursor) → is_target e ≡ z → (if z then gives e f else refuses) ≡ gives v d → (gives e f ≡ gives v d) × (is_target v ≡ true)
found_one true e v f d k h = (h, (let same : e ≡ v = cc in subst (λ (x : Expr). is_target x ≡ true) same k))
found_one false e v f d k h = absurd cc

found_in : (q : Answer Expr) (v : Expr) (d : Cursor) → bind q (λ e f. if is_target e then gives e f else refuses) ≡ gives v d → (q ≡ gives v d) × (is_target v ≡ true)
found_in refuses v d h = absurd cc
found_in (gives e f) v d h = found_one (is_target e) e v f d refl h

pub found : (c d : Cursor) (v : Expr) → run (call primary (λ e. choose (is_target e) (give e) refuse)) c ≡ gives v d → (descent primary c ≡ gives v d) × (is_target v ≡ true)
found c d v h = found_in (descent primary c) v d h

pub last_target : (ts : Exprs) (c d : Cursor) (v : Expr) → begins_test c ≡ true → descent primary c ≡ gives v d → at (symbol op.Comma) d ≡ false → descent (more_targets ts) c ≡ gives (and_expr ts v) d
last_target ts c d v b h k = descends (more_targets ts) c ∙ rw b (rw h (rw k refl))

pub next_target : (ts : Exprs) (c d : Cursor) (v : Expr) → begins_test c ≡ true → descent primary c ≡ gives v d → at (symbol op.Comma) d ≡ true → descent (more_targets ts) c ≡ descent (more_targets (and_expr ts v)) (past d)
next_target ts c d v b h k = descends (more_targets ts) c ∙ rw b (rw h (rw k (bind_gives _)))

pub refused : {A B : Type 0} (view : A → B) (fault : ParseFault) (c : Cursor) (r : Answer B) → IsRefusal fault → r ≡ refuses → Gives view (Err fault) c r
refused view (Unexpected span) c r h e = e
refused view (OutOfProfile form span) c r h e = e
refused view (TooDeep span) c r h e = e
refused view Memory c r h e = absurd h
