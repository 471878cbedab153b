-- The program of each goal.
use Rattle.std.specs.Prelude.{ℕ, ◌+◌, ◌-◌, ◌&&◌, ◌||◌, Bool, true, false, not, if◌then◌else◌, List, [], ◌∷◌, ◌++◌, slice_get, Option, Some, None}
use Rattle.std.specs.Option.{is_some}
use Rattle.place_ids.specs.declared.operators.BinOp.{BinOp}
use Rattle.place_ids.specs.declared.operators.BinOp.TheVariants as bin
use Rattle.place_ids.specs.declared.operators.CompareOp.{CompareOp}
use Rattle.place_ids.specs.declared.operators.CompareOp.TheVariants as cmp
use Rattle.py_tokens.specs.declared.token.Keyword.TheVariants as word
use Rattle.py_tokens.specs.declared.token.Op.TheVariants as op
use Rattle.py_tree.specs.declared.literal.Literal.{Literal}
use Rattle.py_tree.specs.declared.literal.Literal.TheVariants as lit
use Rattle.py_tree.specs.Tree as tree
use Rattle.py_tree.specs.Tree.{Expr, node, ExprKind, Exprs, no_exprs, expr, no_bound, bound, Args, no_args, arg, Pairs, no_pairs, pair, ImportPart, FromPart, Param, Stmt, statement as stated_as, StmtKind, Stmts, no_stmts, stmt, Arms, no_arms, arm, Handlers, no_handlers, handler, fun_def, class_def, Member, Members, no_members, member}
use Rattle.py_grammar.specs.Cursor.{Cursor, next, kind_in, line_of}
use Rattle.py_grammar.specs.Statements.{is_plural}
use Rattle.py_descent.specs.Codes.{Mark, symbol, keyword, newline, indent, dedent, end, at}
use Rattle.py_descent.specs.Takings.{name_in, str_in, octets_in, number_in, negative_in, constant_in, unary_in, binary_in, compare_in, augment_in, is_name_in, begins_test, is_barred, is_named_specially, is_named_super}
use Rattle.py_descent.specs.Goals.{Goal, Value, name, plain_name, dotted, dots, annotation, parts, part, items, item, hint, result, strings, octets, literal, test, disjunction, conjunction, inversion, comparison, compare_operator, factor, power, primary, atom, tests, choice, disjunctions, conjunctions, trailers, operation, operations, call_rest, subscript, slice, bounds, stride, arguments, argument, variable, super_rest, group, list_display, dict_display, pairs, tests_after, more_tests, import_part, imports, from_part, froms, return_rest, raise_rest, assert_rest, from_rest, assignment, assigned, annotated, simple_kind, simple, line, param, params, base, function, definition, class_rest, class_member, entry, class_body, entries, for_targets, more_targets, if_rest, while_rest, for_rest, try_rest, else_rest, caught, compound, block, elifs, handlers, statement, statements}
use Rattle.py_descent.specs.Programs.{Program, give, refuse, reading, choose, eat, take, site, fun_id, class_id, inside, call, step}

-- ---- Lists, with one more at the end

abbrev pub and_expr : Exprs → Expr → Exprs
and_expr no_exprs e = expr e no_exprs
and_expr (expr x xs) e = expr x (and_expr xs e)

abbrev pub and_arg : Args → Option ℕ → Expr → Args
and_arg no_args n e = arg n e no_args
and_arg (arg m x xs) n e = arg m x (and_arg xs n e)

abbrev pub and_pair : Pairs → Expr → Expr → Pairs
and_pair no_pairs k v = pair k v no_pairs
and_pair (pair j w ps) k v = pair j w (and_pair ps k v)

abbrev pub and_stmt : Stmts → Stmt → Stmts
and_stmt no_stmts s = stmt s no_stmts
and_stmt (stmt x xs) s = stmt x (and_stmt xs s)

abbrev pub and_arm : Arms → Expr → Stmts → Arms
and_arm no_arms t ss = arm t ss no_arms
and_arm (arm u ts as') t ss = arm u ts (and_arm as' t ss)

abbrev pub and_handler : Handlers → Option Expr → Option ℕ → Stmts → ℕ → Handlers
and_handler no_handlers e n ss l = handler e n ss l no_handlers
and_handler (handler f m ts k hs) e n ss l = handler f m ts k (and_handler hs e n ss l)

abbrev pub and_member : Members → Member → Members
and_member no_members m = member m no_members
and_member (member k ms) m = member k (and_member ms m)

-- ---- Trees that are targets

unfoldable mutual
  pub is_target : Expr → Bool
  is_target (node (tree.name n) l s) = true
  is_target (node (tree.attr e n) l s) = true
  is_target (node (tree.item e i) l s) = true
  is_target (node (tree.tuple es) l s) = some_targets es
  is_target (node (tree.list es) l s) = some_targets es
  is_target (node _ l s) = false

  pub some_targets : Exprs → Bool
  some_targets no_exprs = false
  some_targets (expr e es) = is_target e && are_targets es

  pub are_targets : Exprs → Bool
  are_targets no_exprs = true
  are_targets (expr e es) = is_target e && are_targets es

abbrev pub is_single : Expr → Bool
is_single (node (tree.name n) l s) = true
is_single (node (tree.attr e n) l s) = true
is_single (node _ l s) = false

-- a name stands before the cursor
unfoldable pub after_name : Cursor → Bool
after_name c = is_name_in (kind_in (slice_get c.tokens (c.place - 1)))

-- ---- Small programs

-- the node of this kind, with the next number
abbrev pub made_at : ℕ → ExprKind → Program Expr
made_at l k = site (λ s. give (node k l s))

-- goes past the marked token, which has to be next
abbrev pub expect : {A : Type 0} → Mark → Program A → Program A
expect m p = eat m p refuse

-- a name and `=` are next
unfoldable pub at_named : Cursor → Bool
at_named c = is_some (name_in (next c)) && at (symbol op.Assign) (record { tokens = c.tokens; names = c.names; place = c.place + 1; in_class = c.in_class; funs = c.funs; classes = c.classes; sites = c.sites })

abbrev pub is_lone : List ℕ → Bool
is_lone (n ∷ []) = true
is_lone _ = false

-- the tokens at which a list of statements ends
abbrev pub at_close : Cursor → Bool
at_close c = at dedent c || at end c

abbrev pub compare_not : Program (Option CompareOp)
compare_not = expect (keyword word.KwIn) (give (Some cmp.NotWithin))

-- a compound statement begins that is no definition
abbrev pub begins_compound : Cursor → Bool
begins_compound c = (at (keyword word.KwIf) c || at (keyword word.KwWhile) c) || (at (keyword word.KwFor) c || at (keyword word.KwTry) c)

-- what follows the first operand and the operator of a comparison
abbrev pub compared : ℕ → Expr → Option CompareOp → Program Expr
compared l a None = give a
compared l a (Some o) = call (operation 0) (λ b. made_at l (tree.compare o a b))

-- ---- The programs

abbrev pub body : (g : Goal) → Program (Value g)
body name = reading (λ c. take name_in (λ n. choose (is_barred c n) refuse (give n)) refuse)
body plain_name = reading (λ c. take name_in (λ n. choose (is_barred c n || is_named_specially c n) refuse (give n)) refuse)
body dotted = call name (λ n. call (dots (n ∷ [])) give)
body (dots ns) = eat (symbol op.Dot) (call plain_name (λ n. call (dots (ns ++ n ∷ [])) give)) (give ns)
body annotation = call part (λ u. call parts give)
body parts = eat (symbol op.Bar) (call part (λ u. call parts give)) (give tt)
body part =
    eat (keyword word.KwNone) (give tt)
    (take str_in (λ empty. call (strings empty) (λ b. give tt))
    (call dotted (λ ns. eat (symbol op.LeftSquare) (call items (λ u. expect (symbol op.RightSquare) (give tt))) (give tt))))
body items = call item (λ u. eat (symbol op.Comma) (reading (λ c. choose (at (symbol op.RightSquare) c) (give tt) (call items give))) (give tt))
body item =
    eat (symbol op.Ellipsis) (give tt)
    (eat (symbol op.LeftSquare) (eat (symbol op.RightSquare) (give tt) (call items (λ u. expect (symbol op.RightSquare) (give tt))))
    (call annotation give))
body hint = eat (symbol op.Colon) (call annotation give) (give tt)
body result = eat (symbol op.Arrow) (call annotation give) (give tt)
body (strings empty) = take str_in (λ other. call (strings (empty && other)) give) (give empty)
body (octets empty) = take octets_in (λ other. call (octets (empty && other)) give) (give empty)
body literal =
    take constant_in give
    (take number_in give
    (take str_in (λ empty. call (strings empty) (λ b. give (lit.Str b)))
    (take octets_in (λ empty. call (octets empty) (λ b. give (lit.Bytes b)))
    (expect (symbol op.Minus) (take negative_in give refuse)))))
body test = reading (λ c. call disjunction (λ e. eat (keyword word.KwIf) (call (choice (line_of c) e) give) (give e)))
body (choice l e) = call disjunction (λ t. expect (keyword word.KwElse) (call test (λ o. made_at l (tree.choice e t o))))
body disjunction = reading (λ c. call conjunction (λ e. call (disjunctions (line_of c) e) give))
body (disjunctions l a) = eat (keyword word.KwOr) (call conjunction (λ b. site (λ s. call (disjunctions l (node (tree.or a b) l s)) give))) (give a)
body conjunction = reading (λ c. call inversion (λ e. call (conjunctions (line_of c) e) give))
body (conjunctions l a) = eat (keyword word.KwAnd) (call inversion (λ b. site (λ s. call (conjunctions l (node (tree.and a b) l s)) give))) (give a)
body inversion = reading (λ c. eat (keyword word.KwNot) (call inversion (λ e. made_at (line_of c) (tree.not e))) (call comparison give))
body comparison = reading (λ c. call (operation 0) (λ a. call compare_operator (λ o. compared (line_of c) a o)))
body compare_operator =
    take compare_in (λ o. give (Some o))
    (eat (keyword word.KwIs) (eat (keyword word.KwNot) (give (Some cmp.IsNot)) (give (Some cmp.Is)))
    (eat (keyword word.KwIn) (give (Some cmp.Within))
    (eat (keyword word.KwNot) compare_not
    (give None))))
body (operation least) = reading (λ c. call factor (λ e. call (operations least (line_of c) e) give))
body (operations least l a) = take (binary_in least) (λ row. call (operation (row.0 + 1)) (λ b. site (λ s. call (operations least l (node (tree.binary row.1 a b) l s)) give))) (give a)
body factor = reading (λ c. take unary_in (λ o. call factor (λ e. made_at (line_of c) (tree.unary o e))) (call power give))
body power = reading (λ c. call primary (λ a. eat (symbol op.DoubleStar) (call factor (λ b. made_at (line_of c) (tree.binary bin.Pow a b))) (give a)))
body primary = reading (λ c. call atom (λ e. call (trailers (line_of c) e) give))
body (trailers l e) =
    eat (symbol op.Dot) (call plain_name (λ n. site (λ s. call (trailers l (node (tree.attr e n) l s)) give)))
    (eat (symbol op.LeftParen) (call (call_rest l e) (λ f. call (trailers l f) give))
    (eat (symbol op.LeftSquare) (call (subscript l e) (λ f. call (trailers l f) give))
    (give e)))
body (call_rest l e) = call (arguments false no_args) (λ as'. expect (symbol op.RightParen) (made_at l (tree.call e as')))
body (arguments seen as') = reading (λ c. choose (at (symbol op.RightParen) c) (give as')
    (call (argument seen) (λ a. eat (symbol op.Comma) (call (arguments (is_some a.0) (and_arg as' a.0 a.1)) give) (give (and_arg as' a.0 a.1)))))
body (argument seen) = reading (λ c. choose (seen || at_named c)
    (call name (λ n. expect (symbol op.Assign) (call test (λ e. give (Some n, e)))))
    (call test (λ e. give (None, e))))
body (subscript l e) = eat (symbol op.Colon) (call (slice l e no_bound) give)
    (reading (λ c. call test (λ i. eat (symbol op.Colon) (call (slice l e (bound i)) give)
    (call (tests_after (line_of c) i) (λ j. expect (symbol op.RightSquare) (made_at l (tree.item e j)))))))
body (slice l e low) = call bounds (λ u. call stride (λ s. expect (symbol op.RightSquare) (made_at l (tree.slice e low u s))))
body stride = eat (symbol op.Colon) (call bounds give) (give no_bound)
body bounds = reading (λ c. choose (begins_test c) (call test (λ e. give (bound e))) (give no_bound))
body atom = reading (λ c.
    take constant_in (λ k. made_at (line_of c) (tree.literal k))
    (take number_in (λ k. made_at (line_of c) (tree.literal k))
    (take str_in (λ empty. call (strings empty) (λ b. made_at (line_of c) (tree.literal (lit.Str b))))
    (take octets_in (λ empty. call (octets empty) (λ b. made_at (line_of c) (tree.literal (lit.Bytes b))))
    (eat (symbol op.LeftParen) (call (group (line_of c)) give)
    (eat (symbol op.LeftSquare) (call (list_display (line_of c)) give)
    (eat (symbol op.LeftBrace) (call (dict_display (line_of c)) give)
    (call (variable (line_of c)) give))))))))
body (variable l) = reading (λ c. call name (λ n. choose (is_named_super c n) (call (super_rest l) give) (made_at l (tree.name n))))
body (super_rest l) = expect (symbol op.LeftParen) (expect (symbol op.RightParen) (expect (symbol op.Dot) (call plain_name (λ n. made_at l (tree.super n)))))
body (group l) = eat (symbol op.RightParen) (made_at l (tree.tuple no_exprs)) (call tests (λ e. expect (symbol op.RightParen) (give e)))
body (list_display l) = call (more_tests no_exprs) (λ es. expect (symbol op.RightSquare) (made_at l (tree.list es)))
body (dict_display l) = call (pairs no_pairs) (λ ps. expect (symbol op.RightBrace) (made_at l (tree.dict ps)))
body (pairs ps) = reading (λ c. choose (at (symbol op.RightBrace) c) (give ps)
    (call test (λ k. expect (symbol op.Colon) (call test (λ v. eat (symbol op.Comma) (call (pairs (and_pair ps k v)) give) (give (and_pair ps k v)))))))
body tests = reading (λ c. call test (λ e. call (tests_after (line_of c) e) give))
body (tests_after l e) = eat (symbol op.Comma) (call (more_tests (expr e no_exprs)) (λ es. made_at l (tree.tuple es))) (give e)
body (more_tests es) = reading (λ c. choose (begins_test c) (call test (λ e. eat (symbol op.Comma) (call (more_tests (and_expr es e)) give) (give (and_expr es e)))) (give es))
body import_part = call dotted (λ ns. eat (keyword word.KwAs) (call name (λ m. give (record { path = ns; alias = Some m }))) (choose (is_lone ns) (give (record { path = ns; alias = None })) refuse))
body (imports ps) = call import_part (λ p. eat (symbol op.Comma) (call (imports (ps ++ p ∷ [])) give) (give (ps ++ p ∷ [])))
body from_part = call name (λ n. eat (keyword word.KwAs) (call name (λ m. give (record { name = n; alias = Some m }))) (give (record { name = n; alias = None })))
body (froms grouped ps) = call from_part (λ p. eat (symbol op.Comma)
    (reading (λ c. choose (grouped && at (symbol op.RightParen) c) (give (ps ++ p ∷ [])) (call (froms grouped (ps ++ p ∷ [])) give)))
    (give (ps ++ p ∷ [])))
body return_rest = reading (λ c. choose (begins_test c) (call tests (λ e. give (tree.return (Some e)))) (give (tree.return None)))
body raise_rest = reading (λ c. choose (begins_test c)
    (call test (λ e. eat (keyword word.KwFrom) (call test (λ o. give (tree.raise (Some e) (Some o)))) (give (tree.raise (Some e) None))))
    (give (tree.raise None None)))
body assert_rest = call test (λ e. eat (symbol op.Comma) (call test (λ o. give (tree.assert e (Some o)))) (give (tree.assert e None)))
body from_rest = call dotted (λ ns. expect (keyword word.KwImport)
    (eat (symbol op.LeftParen) (call (froms true []) (λ ps. expect (symbol op.RightParen) (give (tree.from ns ps))))
    (call (froms false []) (λ ps. give (tree.from ns ps)))))
body assignment = call tests (λ e. reading (λ c.
    choose (at (symbol op.Assign) c) (choose (is_target e) (expect (symbol op.Assign) (call (assigned (expr e no_exprs)) give)) refuse)
    (take augment_in (λ o. choose (is_target e && not (is_plural e)) (call tests (λ v. give (tree.augment e o v))) refuse)
    (eat (symbol op.Colon) (choose (is_single e && after_name c) (call (annotated e) give) refuse)
    (give (tree.expression e))))))
body (assigned ts) = call tests (λ v. reading (λ c.
    choose (at (symbol op.Assign) c) (choose (is_target v) (expect (symbol op.Assign) (call (assigned (and_expr ts v)) give)) refuse)
    (give (tree.assign ts v))))
body (annotated e) = call annotation (λ u. eat (symbol op.Assign) (call tests (λ v. give (tree.annotated e (Some v)))) (give (tree.annotated e None)))
body simple_kind =
    eat (keyword word.KwPass) (give tree.pass)
    (eat (keyword word.KwBreak) (give tree.break)
    (eat (keyword word.KwContinue) (give tree.continue)
    (eat (symbol op.Ellipsis) (give tree.ellipsis)
    (eat (keyword word.KwReturn) (call return_rest give)
    (eat (keyword word.KwRaise) (call raise_rest give)
    (eat (keyword word.KwAssert) (call assert_rest give)
    (eat (keyword word.KwImport) (call (imports []) (λ ps. give (tree.import ps)))
    (eat (keyword word.KwFrom) (call from_rest give)
    (call assignment give)))))))))
body simple = reading (λ c. call simple_kind (λ k. give (stated_as k (line_of c))))
body (line ss) = call simple (λ s. eat (symbol op.Semi)
    (eat newline (give (and_stmt ss s)) (call (line (and_stmt ss s)) give))
    (expect newline (give (and_stmt ss s))))
body (param late) = call name (λ n. call hint (λ u. eat (symbol op.Assign)
    (call literal (λ l. give (record { name = n; default = Some l })))
    (choose late refuse (give (record { name = n; default = None })))))
body (params late ps) = reading (λ c. choose (at (symbol op.RightParen) c) (give ps)
    (call (param late) (λ p. eat (symbol op.Comma) (call (params (is_some p.default) (ps ++ p ∷ [])) give) (give (ps ++ p ∷ [])))))
body base = eat (symbol op.LeftParen) (eat (symbol op.RightParen) (give None) (call name (λ n. expect (symbol op.RightParen) (give (Some n))))) (give None)
body (function l n) = expect (symbol op.LeftParen) (fun_id (λ f. call (params false []) (λ ps. expect (symbol op.RightParen)
    (call result (λ u. expect (symbol op.Colon) (call block (λ ss. give (fun_def f n ps ss l))))))))
body definition = reading (λ c. expect (keyword word.KwDef) (call name (λ n. call (function (line_of c) n) give)))
body class_rest = reading (λ c. expect (keyword word.KwClass) (call name (λ n. class_id (λ k. call base (λ b. expect (symbol op.Colon)
    (inside true (call class_body (λ ms. inside false (give (class_def k n b ms (line_of c)))))))))))
body class_member = reading (λ c.
    eat (keyword word.KwPass) (give tree.pass_member)
    (eat (symbol op.Ellipsis) (give tree.ellipsis_member)
    (take str_in (λ empty. call (strings empty) (λ b. give tree.text))
    (call plain_name (λ n.
    eat (symbol op.Assign) (call tests (λ e. give (tree.value n e (line_of c))))
    (expect (symbol op.Colon) (call annotation (λ u.
    eat (symbol op.Assign) (call tests (λ e. give (tree.declared n (Some e) (line_of c))))
    (give (tree.declared n None (line_of c)))))))))))
body entry = reading (λ c. eat (keyword word.KwDef) (call plain_name (λ n. call (function (line_of c) n) (λ f. give (tree.method f))))
    (call class_member (λ m. expect newline (give m))))
body class_body = eat newline
    (expect indent (call entry (λ m. call (entries (member m no_members)) (λ ms. expect dedent (give ms)))))
    (call class_member (λ m. expect newline (give (member m no_members))))
body (entries ms) = reading (λ c. choose (at_close c) (give ms) (step entry (λ m. call (entries (and_member ms m)) give)))
body for_targets = reading (λ c. call primary (λ e. eat (symbol op.Comma)
    (call (more_targets (expr e no_exprs)) (λ es. site (λ s. choose (some_targets es) (give (node (tree.tuple es) (line_of c) s)) refuse)))
    (choose (is_target e) (give e) refuse)))
body (more_targets es) = reading (λ c. choose (begins_test c) (call primary (λ e. eat (symbol op.Comma) (call (more_targets (and_expr es e)) give) (give (and_expr es e)))) (give es))
body if_rest = call test (λ t. expect (symbol op.Colon) (call block (λ ss. call (elifs (arm t ss no_arms)) (λ as'. call else_rest (λ os. give (tree.if as' os))))))
body while_rest = call test (λ t. expect (symbol op.Colon) (call block (λ ss. give (tree.while t ss))))
body for_rest = call for_targets (λ t. expect (keyword word.KwIn) (call tests (λ e. expect (symbol op.Colon) (call block (λ ss. give (tree.for t e ss))))))
body try_rest = expect (symbol op.Colon) (call block (λ ss. call (handlers no_handlers) (λ hs. call else_rest (λ os. give (tree.try ss hs os)))))
body else_rest = eat (keyword word.KwElse) (expect (symbol op.Colon) (call block give)) (give no_stmts)
body caught = call test (λ e. eat (keyword word.KwAs) (call name (λ n. give (e, Some n))) (give (e, None)))
body (elifs as') = eat (keyword word.KwElif) (call test (λ t. expect (symbol op.Colon) (call block (λ ss. call (elifs (and_arm as' t ss)) give)))) (give as')
body (handlers hs) = reading (λ c. expect (keyword word.KwExcept)
    (eat (symbol op.Colon) (call block (λ ss. give (and_handler hs None None ss (line_of c))))
    (call caught (λ en. expect (symbol op.Colon) (call block (λ ss. reading (λ d. choose (at (keyword word.KwExcept) d)
    (call (handlers (and_handler hs (Some en.0) en.1 ss (line_of c))) give)
    (give (and_handler hs (Some en.0) en.1 ss (line_of c))))))))))
body compound =
    eat (keyword word.KwIf) (call if_rest give)
    (eat (keyword word.KwWhile) (call while_rest give)
    (eat (keyword word.KwFor) (call for_rest give)
    (expect (keyword word.KwTry) (call try_rest give))))
body block = eat newline
    (expect indent (call (statement false no_stmts) (λ ss. call (statements false ss) (λ ts. expect dedent (give ts)))))
    (call (line no_stmts) give)
body (statement top ss) = reading (λ c.
    choose (begins_compound c) (call compound (λ k. give (and_stmt ss (stated_as k (line_of c)))))
    (choose (top && at (keyword word.KwDef) c) (call definition (λ f. give (and_stmt ss (stated_as (tree.def f) (line_of c)))))
    (choose (top && at (keyword word.KwClass) c) (call class_rest (λ k. give (and_stmt ss (stated_as (tree.class k) (line_of c)))))
    (call (line ss) give))))
body (statements top ss) = reading (λ c. choose (at_close c) (give ss) (step (statement top ss) (λ ts. call (statements top ts) give)))
