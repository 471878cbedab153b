-- One round of each loop over expressions.
use Rattle.std.proofs.Common.{◌≡◌, ℕ, ◌+◌, Bool, true, false, if◌then◌else◌, List, [], ◌∷◌, ◌++◌, slice_get, Option, Some, None, refl, ap, sym, ◌∙◌}
use Rattle.std.specs.Option.{is_some}
use Rattle.place_ids.specs.declared.operators.BinOp.{BinOp}
use Rattle.py_tokens.specs.declared.token.Op.TheVariants as op
use Rattle.py_tokens.specs.declared.token.Keyword.TheVariants as word
use Rattle.py_tree.specs.declared.expression.Arg as rust_arg
use Rattle.py_tree.specs.declared.expression.Arg.{fold_out-Arg}
use Rattle.py_tree.specs.declared.expression.Expr as rust_expr
use Rattle.py_tree.specs.declared.expression.Pair as rust_pair
use Rattle.py_grammar.specs.Cursor.{Cursor, past, with_site, line_of}
use Rattle.py_grammar.specs.Names.{text_in, is_super}
use Rattle.py_tree.specs.Tree as tree
use Rattle.py_tree.specs.Tree.{Expr, ExprKind, node, Exprs, Args, Pairs}
use Rattle.py_tree.specs.View.{Arg, Pair, expr_kind_step, arg_step, expr_step, pair_step, expr_view, exprs_view, arg_view, args_view, pair_view, pairs_view}
use Rattle.py_descent.specs.Bodies.{and_expr, and_arg, and_pair, expect, made_at}
use Rattle.py_descent.specs.Codes.{Mark, at, symbol, keyword}
use Rattle.py_descent.specs.Goals.{name, plain_name, atom, test, conjunction, disjunctions, inversion, conjunctions, operation, operations, trailers, call_rest, subscript, argument, arguments, pairs, more_tests, variable}
use Rattle.py_descent.specs.Programs.{Answer, gives, refuses, give, call, said, on_said, bind}
use Rattle.py_descent.specs.Takings.{name_in, constant_in, begins_test, binary_in, is_barred, is_named_super}
use Rattle.py_descent.specs.Descent.{descent}
use Rattle.py_descent.proofs.Unfold.{descends}
use Rattle.py_parse.specs.Atoms.{number_or_brackets}
use Rattle.py_parse.specs.Gives.{run, behind}
use Rattle.py_parse.proofs.Pushes.{bind_gives, exprs_push, args_push, pairs_push}

-- ---- Where a token was read, and where it was not

went : (m : Mark) (c d : Cursor) → true ≡ at m c → d ≡ (if at m c then past c else c) → past c ≡ d
went m c d h e = sym (e ∙ ap (λ z. if z then past c else c) (sym h))

stayed : (m : Mark) (c d : Cursor) → false ≡ at m c → d ≡ (if at m c then past c else c) → c ≡ d
stayed m c d h e = sym (e ∙ ap (λ z. if z then past c else c) (sym h))

took : {B : Type 0} (o : Option B) (x : B) (c d : Cursor) → Some x ≡ o → d ≡ behind o c → past c ≡ d
took o x c d h e = sym (e ∙ ap (λ z. behind z c) (sym h))

along : (F : Expr → Cursor → Answer Expr) (v w : Expr) (c d : Cursor) → gives v c ≡ gives w d → F v c ≡ F w d
along F v w c d h = let same : v ≡ w = cc in let there : c ≡ d = cc in ap (λ x. F x c) same ∙ ap (F w) there

-- ---- Operators

pub next_or : (l : ℕ) (a b v : Expr) (c p d e : Cursor) → true ≡ at (keyword word.KwOr) c → p ≡ (if at (keyword word.KwOr) c then past c else c) → descent conjunction p ≡ gives b d → gives (node (tree.or a b) l d.sites) (with_site d) ≡ gives v e → descent (disjunctions l a) c ≡ descent (disjunctions l v) e
next_or l a b v c p d e h m k s = descends (disjunctions l a) c ∙ rw (sym h) (rw (went (keyword word.KwOr) c p h m) (rw k (bind_gives _ ∙ along (λ x y. descent (disjunctions l x) y) _ _ _ _ s)))

pub next_and : (l : ℕ) (a b v : Expr) (c p d e : Cursor) → true ≡ at (keyword word.KwAnd) c → p ≡ (if at (keyword word.KwAnd) c then past c else c) → descent inversion p ≡ gives b d → gives (node (tree.and a b) l d.sites) (with_site d) ≡ gives v e → descent (conjunctions l a) c ≡ descent (conjunctions l v) e
next_and l a b v c p d e h m k s = descends (conjunctions l a) c ∙ rw (sym h) (rw (went (keyword word.KwAnd) c p h m) (rw k (bind_gives _ ∙ along (λ x y. descent (conjunctions l x) y) _ _ _ _ s)))

pub next_operand : (least l level : ℕ) (o : BinOp) (a b v : Expr) (c p d e : Cursor) → Some (level, o) ≡ said (binary_in least) c → p ≡ behind (said (binary_in least) c) c → descent (operation (level + 1)) p ≡ gives b d → gives (node (tree.binary o a b) l d.sites) (with_site d) ≡ gives v e → descent (operations least l a) c ≡ descent (operations least l v) e
next_operand least l level o a b v c p d e h m k s = descends (operations least l a) c ∙ rw (sym h) (rw (took (said (binary_in least) c) (level, o) c p h m) (rw k (bind_gives _ ∙ along (λ x y. descent (operations least l x) y) _ _ _ _ s)))

-- ---- What follows an atom

named : (l : ℕ) (a v : Expr) (q : Answer ℕ) (e : Cursor) → bind q (λ n d. gives (node (tree.attr a n) l d.sites) (with_site d)) ≡ gives v e → bind q (λ n d. bind (descent (trailers l (node (tree.attr a n) l d.sites)) (with_site d)) (λ f c. gives f c)) ≡ descent (trailers l v) e
named l a v refuses e s = absurd cc
named l a v (gives n d) e s = bind_gives _ ∙ along (λ x y. descent (trailers l x) y) _ _ _ _ s

pub next_attribute : (l : ℕ) (a v : Expr) (c p e : Cursor) → true ≡ at (symbol op.Dot) c → p ≡ (if at (symbol op.Dot) c then past c else c) → run (call plain_name (λ n. made_at l (tree.attr a n))) p ≡ gives v e → descent (trailers l a) c ≡ descent (trailers l v) e
next_attribute l a v c p e h m s = descends (trailers l a) c ∙ rw (sym h) (rw (went (symbol op.Dot) c p h m) (named l a v (descent plain_name p) e s))

pub next_call : (l : ℕ) (a v : Expr) (c p q e : Cursor) → false ≡ at (symbol op.Dot) c → p ≡ (if at (symbol op.Dot) c then past c else c) → true ≡ at (symbol op.LeftParen) p → q ≡ (if at (symbol op.LeftParen) p then past p else p) → descent (call_rest l a) q ≡ gives v e → descent (trailers l a) c ≡ descent (trailers l v) e
next_call l a v c p q e h m g n k = descends (trailers l a) c ∙ rw (sym h) (rw (stayed (symbol op.Dot) c p h m) (rw (sym g) (rw (went (symbol op.LeftParen) p q g n) (rw k (bind_gives _)))))

pub next_subscript : (l : ℕ) (a v : Expr) (c p q r e : Cursor) → false ≡ at (symbol op.Dot) c → p ≡ (if at (symbol op.Dot) c then past c else c) → false ≡ at (symbol op.LeftParen) p → q ≡ (if at (symbol op.LeftParen) p then past p else p) → true ≡ at (symbol op.LeftSquare) q → r ≡ (if at (symbol op.LeftSquare) q then past q else q) → descent (subscript l a) r ≡ gives v e → descent (trailers l a) c ≡ descent (trailers l v) e
next_subscript l a v c p q r e h m g n f o k = descends (trailers l a) c ∙ rw (sym h) (rw (stayed (symbol op.Dot) c p h m) (rw (sym g) (rw (stayed (symbol op.LeftParen) p q g n) (rw (sym f) (rw (went (symbol op.LeftSquare) q r f o) (rw k (bind_gives _)))))))

-- ---- Elements with a comma behind

same_arguments : (b z : Bool) (as' bs : Args) (c : Cursor) → b ≡ z → as' ≡ bs → descent (arguments b as') c ≡ descent (arguments z bs) c
same_arguments b z as' bs c h k = ap (λ x. descent (arguments x as') c) h ∙ ap (λ x. descent (arguments z x) c) k

name_seen : (a : rust_arg.Arg) → (arg_view a).0 ≡ a.name
name_seen a = ap (λ (v : Option ℕ × Expr). v.0) (fold_out-Arg ExprKind Arg Expr Pair expr_kind_step arg_step expr_step pair_step a)

pub next_argument : (seen last : Bool) (xs ys : List rust_arg.Arg) (a : rust_arg.Arg) (c d p : Cursor) → false ≡ at (symbol op.RightParen) c → descent (argument seen) c ≡ gives (arg_view a) d → last ≡ is_some a.name → ys ≡ xs ++ a ∷ [] → true ≡ at (symbol op.Comma) d → p ≡ (if at (symbol op.Comma) d then past d else d) → descent (arguments seen (args_view xs)) c ≡ descent (arguments last (args_view ys)) p
next_argument seen last xs ys a c d p g h n f k m =
    descends (arguments seen (args_view xs)) c ∙ rw (sym g) (rw h (rw (sym k) (rw (went (symbol op.Comma) d p k m) (bind_gives _ ∙ same_arguments (is_some (arg_view a).0) last (and_arg (args_view xs) (arg_view a).0 (arg_view a).1) (args_view ys) p (ap is_some (name_seen a) ∙ sym n) (sym (ap args_view f ∙ args_push xs a))))))

same_tests : (es fs : Exprs) (c d : Cursor) → es ≡ fs → c ≡ d → descent (more_tests es) c ≡ descent (more_tests fs) d
same_tests es fs c d h k = ap (λ x. descent (more_tests x) c) h ∙ ap (λ x. descent (more_tests fs) x) k

pub next_test : (xs ys : List rust_expr.Expr) (a : rust_expr.Expr) (c d p q : Cursor) → true ≡ begins_test c → descent test c ≡ gives (expr_view a) d → ys ≡ xs ++ a ∷ [] → true ≡ at (symbol op.Comma) d → p ≡ (if at (symbol op.Comma) d then past d else d) → q ≡ p → descent (more_tests (exprs_view xs)) c ≡ descent (more_tests (exprs_view ys)) q
next_test xs ys a c d p q g h f k m e =
    descends (more_tests (exprs_view xs)) c ∙ rw (sym g) (rw h (rw (sym k) (rw (went (symbol op.Comma) d p k m) (bind_gives _ ∙ same_tests (and_expr (exprs_view xs) (expr_view a)) (exprs_view ys) p q (sym (ap exprs_view f ∙ exprs_push xs a)) (sym e)))))

both : {A : Type 0} (a b : A) (c d : Cursor) → gives a c ≡ gives b d → a ≡ b
both a b c d h = cc

there : {A : Type 0} (a b : A) (c d : Cursor) → gives a c ≡ gives b d → c ≡ d
there a b c d h = cc

by_value : (F : Expr → Expr → Cursor → Answer Pairs) (k : Expr) (x : Expr × Expr) (q : Answer Expr) (d : Cursor) → bind {B = Expr × Expr} q (λ v e. gives (k, v) e) ≡ gives x d → bind q (λ v e. F k v e) ≡ F x.0 x.1 d
by_value F k x refuses d h = absurd cc
by_value F k x (gives v e) d h =
    let same = both {A = Expr × Expr} (k, v) x e d h in
    ap (λ z. F z v e) (ap (λ (p : Expr × Expr). p.0) same) ∙ ap (λ z. F x.0 z e) (ap (λ (p : Expr × Expr). p.1) same) ∙ ap (F x.0 x.1) (there {A = Expr × Expr} (k, v) x e d h)

by_colon : (F : Expr → Expr → Cursor → Answer Pairs) (z : Bool) (k : Expr) (x : Expr × Expr) (q : Answer Expr) (d : Cursor) → (if z then bind {B = Expr × Expr} q (λ v e. gives (k, v) e) else refuses) ≡ gives x d → (if z then bind q (λ v e. F k v e) else refuses) ≡ F x.0 x.1 d
by_colon F false k x q d h = absurd cc
by_colon F true k x q d h = by_value F k x q d h

by_key : (F : Expr → Expr → Cursor → Answer Pairs) (x : Expr × Expr) (q : Answer Expr) (d : Cursor) → bind {B = Expr × Expr} q (λ k c. if at (symbol op.Colon) c then bind {B = Expr × Expr} (descent test (past c)) (λ v e. gives (k, v) e) else refuses) ≡ gives x d → bind q (λ k c. if at (symbol op.Colon) c then bind (descent test (past c)) (λ v e. F k v e) else refuses) ≡ F x.0 x.1 d
by_key F x refuses d h = absurd cc
by_key F x (gives k c) d h = by_colon F (at (symbol op.Colon) c) k x (descent test (past c)) d h

after_pair : Pairs → Expr → Expr → Cursor → Answer Pairs
after_pair ps k v e = if at (symbol op.Comma) e then bind (descent (pairs (and_pair ps k v)) (past e)) (λ qs f. gives qs f) else gives (and_pair ps k v) e

pub next_pair : (xs ys : List rust_pair.Pair) (a : rust_pair.Pair) (c d p : Cursor) → false ≡ at (symbol op.RightBrace) c → run {A = Expr × Expr} (call test (λ x. expect (symbol op.Colon) (call test (λ y. give (x, y))))) c ≡ gives (pair_view a) d → ys ≡ xs ++ a ∷ [] → true ≡ at (symbol op.Comma) d → p ≡ (if at (symbol op.Comma) d then past d else d) → descent (pairs (pairs_view xs)) c ≡ descent (pairs (pairs_view ys)) p
unfolding after_pair
next_pair xs ys a c d p g h f k m =
    descends (pairs (pairs_view xs)) c ∙ rw (sym g) (by_key (after_pair (pairs_view xs)) (pair_view a) (descent test c) d h ∙ rw (sym k) (rw (went (symbol op.Comma) d p k m) (bind_gives _ ∙ ap (λ x. descent (pairs x) p) (sym (ap pairs_view f ∙ pairs_push xs a)))))

-- ---- A name leaves the names as they are

names_kept : (c : Cursor) (n : ℕ) (d : Cursor) (o : Option ℕ) → on_said o (λ m. if is_barred c m then refuses else gives m (past c)) refuses ≡ gives n d → d.names ≡ c.names
names_kept c n d None h = absurd cc
names_kept c n d (Some m) h = by_test (is_barred c m) h where
  by_test : (z : Bool) → (if z then refuses else gives m (past c)) ≡ gives n d → d.names ≡ c.names
  by_test true k = absurd cc
  by_test false k = let there : past c ≡ d = cc in sym (ap (λ (e : Cursor). e.names) there)

pub same_super : (c : Cursor) (n : ℕ) (d : Cursor) → descent name c ≡ gives n d → is_named_super d n ≡ is_named_super c n
unfolding is_named_super
same_super c n d h = ap (λ names. is_super (text_in (slice_get names n))) (names_kept c n d (said name_in c) (sym (descends name c) ∙ h))

-- ---- A name alone

pub lone_name : (l n : ℕ) (c d : Cursor) → descent name c ≡ gives n d → false ≡ is_named_super d n → descent (variable l) c ≡ gives (node (tree.name n) l d.sites) (with_site d)
lone_name l n c d h k = descends (variable l) c ∙ rw h (rw (sym (k ∙ same_super c n d h)) refl)

-- ---- An atom that is no word

here : {B : Type 0} (o : Option B) (c d : Cursor) → None ≡ o → d ≡ behind o c → c ≡ d
here o c d h e = sym (e ∙ ap (λ z. behind z c) (sym h))

pub no_constant : (l : ℕ) (c d : Cursor) → l ≡ line_of c → None ≡ said constant_in c → d ≡ behind (said constant_in c) c → descent atom c ≡ run (number_or_brackets l) d
no_constant l c d k h m = descends atom c ∙ rw (sym h) (ap (λ x. run (number_or_brackets x) c) (sym k) ∙ ap (run (number_or_brackets l)) (here (said constant_in c) c d h m))
