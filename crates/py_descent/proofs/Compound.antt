-- Where the grammar has a statement, the descent finds it; and where it has a module.
use Rattle.std.proofs.Common.{◌≡◌, ℕ, zero, suc, ◌+◌, ◌-◌, ◌<◌, ◌≤◌, ◌&&◌, ◌||◌, ◌==◌, nat_lt, not, if◌then◌else◌, Bool, true, false, List, [], ◌∷◌, ◌++◌, slice_get, Option, Some, None, refl, sym, ap, ◌∙◌, subst, arith}
use Rattle.std.specs.Option.{is_some}
use Rattle.place_ids.specs.declared.operators.BinOp.{BinOp}
use Rattle.py_tokens.specs.declared.token.Token.{Token}
use Rattle.py_tokens.specs.declared.token.TokenKind.{TokenKind}
use Rattle.py_tokens.specs.declared.token.TokenKind.TheVariants as kind
use Rattle.py_tokens.specs.declared.token.Keyword.{Keyword}
use Rattle.py_tokens.specs.declared.token.Keyword.TheVariants as word
use Rattle.py_tokens.specs.declared.token.Op.{Op}
use Rattle.py_tokens.specs.declared.token.Op.TheVariants as op
use Rattle.py_tree.specs.declared.literal.Literal.{Literal}
use Rattle.py_tree.specs.declared.literal.Literal.TheVariants as lit
use Rattle.py_tree.specs.Tree as tree
use Rattle.py_tree.specs.Tree.{Expr, node, Exprs, no_exprs, expr, ImportPart, FromPart, Param, Stmt, statement as stated_as, StmtKind, Stmts, no_stmts, stmt, Arms, no_arms, arm, Handlers, no_handlers, handler, FunDef, fun_def, ClassDef, class_def, Member, Members, no_members, member}
use Rattle.py_grammar.specs.Cursor.{Cursor, next, kind_in, Begins, BeginsOp, BeginsWord, line_of, past, past_two, with_site, with_fun, with_class, within, made, stated}
use Rattle.py_grammar.specs.Names.{IsName, IsPlainName, IsVariable}
use Rattle.py_grammar.specs.Operators
use Rattle.py_grammar.specs.Operators.{IsAugmenting}
use Rattle.py_grammar.specs.Expressions
use Rattle.py_grammar.specs.Expressions.{AreStrs, AreOctets, IsTest, test_or, or_and, and_not, not_compare, compare_one, IsOperation, operation_factor, operation_next, factor_power, power_primary, IsPrimary, primary_atom, primary_attr, primary_item, IsAtom, atom_name, atom_group, atom_list, AreTests, tests_last, tests_comma, tests_more, IsTests, tests_one, tests_single, tests_tuple}
use Rattle.py_grammar.specs.Statements
use Rattle.py_grammar.specs.Statements.{AreDots, dots_none, dots_more, IsDotted, IsAnnotation, annotation_one, annotation_more, IsPart, part_name, part_items, part_strs, part_none, AreItems, items_last, items_comma, items_more, IsItem, item_annotation, item_ellipsis, item_empty, item_list, IsHint, hint_none, hint_some, IsResult, result_none, result_some, IsSingle, single_name, single_attr, IsTarget, target_single, target_item, target_group, target_list, AreTargets, targets_last, targets_comma, targets_more, IsTargets, targets_one, targets_single, targets_tuple, is_plural, IsImport, import_name, import_as, AreImports, imports_one, imports_more, IsFrom, from_name, from_as, AreFrom, froms_one, froms_more, IsAssigned, assigned_last, assigned_more, IsSimple, simple_pass, simple_break, simple_continue, simple_ellipsis, simple_return, simple_return_value, simple_raise, simple_raise_value, simple_raise_from, simple_assert, simple_assert_message, simple_import, simple_from, simple_from_group, simple_from_comma, simple_assign, simple_augment, simple_annotated, simple_annotated_value, simple_expression, IsLine, line_last, line_semi, line_more, IsLiteral, literal_int, literal_minus_int, literal_float, literal_minus_float, literal_strs, literal_octets, literal_none, literal_true, literal_false, IsParam, param_plain, param_default, AreParams, params_none, params_last, params_more, IsBase, base_none, base_empty, base_name, IsBlock, block_line, block_indented, IsStatement, statement_line, statement_compound, statement_def, statement_class, AreStatements, statements_none, statements_more, IsCompound, compound_if, compound_while, compound_for, compound_try, AreElifs, elifs_none, elifs_more, IsElse, else_none, else_block, AreHandlers, handlers_bare, handlers_last, handlers_more, IsCaught, caught_test, caught_as, IsFunction, IsClass, IsBody, body_line, body_indented, IsEntry, entry_member, entry_method, AreEntries, entries_none, entries_more, IsMember, member_pass, member_ellipsis, member_strs, member_value, member_declared, member_declared_value, then_all}
use Rattle.py_descent.specs.Codes.{Mark, symbol, keyword, newline, indent, dedent, end, is, at}
use Rattle.py_descent.specs.Takings.{name_in, str_in, octets_in, number_in, negative_in, constant_in, augment_in, augment_of, is_name_in, begins_in, begins_test}
use Rattle.py_descent.specs.Goals.{Goal, Value, name, plain_name, dots, dotted, part, parts, annotation, item, items, hint, result, strings, octets, literal, super_rest, variable, atom, call_rest, subscript, slice, trailers, primary, power, factor, operations, operation, compare_operator, comparison, inversion, conjunctions, conjunction, disjunctions, disjunction, choice, test, tests_after, more_tests, tests, bounds, stride, argument, arguments, group, list_display, dict_display, pairs, import_part, imports, from_part, froms, return_rest, raise_rest, assert_rest, from_rest, assignment, assigned, annotated, simple_kind, simple, line, param, params, base, function, definition, class_rest, class_member, entry, class_body, entries, for_targets, more_targets, if_rest, while_rest, for_rest, try_rest, else_rest, caught, compound, block, elifs, handlers, statement, statements}
use Rattle.py_descent.specs.Programs.{Answer, gives, said, room}
use Rattle.py_descent.specs.Bodies.{and_expr, and_stmt, and_arm, and_handler, and_member, is_target, some_targets, are_targets, is_single, after_name, is_lone, at_close, begins_compound}
use Rattle.py_descent.specs.Descent.{descent}
use Rattle.py_descent.proofs.Seeing.{at_is, said_is, at_symbol, at_keyword, at_newline, at_indent, at_dedent, at_end, augment_from}
use Rattle.py_descent.proofs.Means.{way_yes, way_no, told, untold, given}
use Rattle.py_descent.proofs.Doing.{called, stepped, found_by}
use Rattle.py_descent.proofs.Unfold.{eaten, Shrinks, descent_shrinks}
use Rattle.py_descent.proofs.Stops.{Stops, pull, op_pull, stops_less, stops_at, no_symbol, no_keyword, no_str, no_octets}
use Rattle.py_descent.proofs.Begins.{First, first, opens, no_test, test_no_symbol, test_no_keyword, primary_begins, opens_begins, test_begins, tests_begin}
use Rattle.py_descent.proofs.Expressions.{here, here_word, complete_name, complete_plain, Strs, strs, strs_of, Octets, octs, octets_of, complete_test, complete_primary, tests_go, complete_tests, exprs_behind, exprs_one, exprs_more}
use Rattle.py_descent.proofs.Aims.{Ends, ends_newline, ends_semi, ends_stop, ends_no, ends_no_word, append_one, complete_dotted, complete_annotation, complete_hint, complete_result, complete_for_targets}
use Rattle.py_descent.proofs.Simple.{starts_kind, first_not, simple_first, line_first, line_no_newline, complete_simple, found_simple, stmts_one, stmts_more, line_goes, and_false}

-- ---- Lists with others behind

list_none : {A : Type 0} (xs : List A) → xs ++ [] ≡ xs
list_none [] = refl
list_none (x ∷ xs) = ap (λ ys. x ∷ ys) (list_none xs)

stmts_none : (ss : Stmts) → then_all ss no_stmts ≡ ss
stmts_none no_stmts = refl
stmts_none (stmt s ss) = ap (stmt s) (stmts_none ss)

stmts_all : (ss ts us : Stmts) → then_all (then_all ss ts) us ≡ then_all ss (then_all ts us)
stmts_all no_stmts ts us = refl
stmts_all (stmt s ss) ts us = ap (stmt s) (stmts_all ss ts us)

arms_behind : Arms → Arms → Arms
arms_behind no_arms bs = bs
arms_behind (arm t ss as') bs = arm t ss (arms_behind as' bs)

handlers_behind : Handlers → Handlers → Handlers
handlers_behind no_handlers is' = is'
handlers_behind (handler e n ss l hs) is' = handler e n ss l (handlers_behind hs is')

members_behind : Members → Members → Members
members_behind no_members ks = ks
members_behind (member m ms) ks = member m (members_behind ms ks)

arms_empty : (as' : Arms) → arms_behind as' no_arms ≡ as'
unfolding arms_behind
arms_empty no_arms = refl
arms_empty (arm t ss as') = ap (arm t ss) (arms_empty as')

arms_again : (as' : Arms) (t : Expr) (ss : Stmts) (bs : Arms) → arms_behind (and_arm as' t ss) bs ≡ arms_behind as' (arm t ss bs)
unfolding arms_behind
arms_again no_arms t ss bs = refl
arms_again (arm u ts as') t ss bs = ap (arm u ts) (arms_again as' t ss bs)

first_arm : (t : Expr) (ss : Stmts) (bs : Arms) → arms_behind (arm t ss no_arms) bs ≡ arm t ss bs
unfolding arms_behind
first_arm t ss bs = refl

handlers_one : (hs : Handlers) (e : Option Expr) (n : Option ℕ) (ss : Stmts) (l : ℕ) → handlers_behind hs (handler e n ss l no_handlers) ≡ and_handler hs e n ss l
unfolding handlers_behind
handlers_one no_handlers e n ss l = refl
handlers_one (handler f m ts k hs) e n ss l = ap (handler f m ts k) (handlers_one hs e n ss l)

handlers_again : (hs : Handlers) (e : Option Expr) (n : Option ℕ) (ss : Stmts) (l : ℕ) (is' : Handlers) → handlers_behind (and_handler hs e n ss l) is' ≡ handlers_behind hs (handler e n ss l is')
unfolding handlers_behind
handlers_again no_handlers e n ss l is' = refl
handlers_again (handler f m ts k hs) e n ss l is' = ap (handler f m ts k) (handlers_again hs e n ss l is')

no_handler : (hs : Handlers) → handlers_behind no_handlers hs ≡ hs
unfolding handlers_behind
no_handler hs = refl

members_empty : (ms : Members) → members_behind ms no_members ≡ ms
unfolding members_behind
members_empty no_members = refl
members_empty (member m ms) = ap (member m) (members_empty ms)

members_again : (ms : Members) (m : Member) (ks : Members) → members_behind (and_member ms m) ks ≡ members_behind ms (member m ks)
unfolding members_behind
members_again no_members m ks = refl
members_again (member k ms) m ks = ap (member k) (members_again ms m ks)

first_member : (m : Member) (ks : Members) → members_behind (member m no_members) ks ≡ member m ks
unfolding members_behind
first_member m ks = refl

-- ---- Parameters, bases and members

complete_literal : (c : Cursor) (l : Literal) (d : Cursor) → IsLiteral c l d → Stops 14 d → descent literal c ≡ gives l d
complete_literal c _ _ (literal_int h) s = found_by literal c _ _ (untold (said_is constant_in c _ h) (told _ (said_is number_in c _ h) (given refl refl)))
complete_literal c _ _ (literal_minus_int h i) s = found_by literal c _ _ (untold (said_is constant_in c _ h) (untold (said_is number_in c _ h) (untold (said_is str_in c _ h) (untold (said_is octets_in c _ h) (way_yes (here op.Minus c h) (told _ (said_is negative_in (past c) _ i) (given refl refl)))))))
complete_literal c _ _ (literal_float h) s = found_by literal c _ _ (untold (said_is constant_in c _ h) (told _ (said_is number_in c _ h) (given refl refl)))
complete_literal c _ _ (literal_minus_float h i) s = found_by literal c _ _ (untold (said_is constant_in c _ h) (untold (said_is number_in c _ h) (untold (said_is str_in c _ h) (untold (said_is octets_in c _ h) (way_yes (here op.Minus c h) (told _ (said_is negative_in (past c) _ i) (given refl refl)))))))
complete_literal c _ d (literal_strs {empty = b} h) s = by_strs (strs_of c b d h s) where
  by_strs : Strs c b d → descent literal c ≡ gives (lit.Str b) d
  by_strs (strs e i go) = found_by literal c _ _ (untold (said_is constant_in c _ i) (untold (said_is number_in c _ i) (told e (said_is str_in c _ i) (called refl b d go (given refl refl)))))
complete_literal c _ d (literal_octets {empty = b} h) s = by_octets (octets_of c b d h s) where
  by_octets : Octets c b d → descent literal c ≡ gives (lit.Bytes b) d
  by_octets (octs e i go) = found_by literal c _ _ (untold (said_is constant_in c _ i) (untold (said_is number_in c _ i) (untold (said_is str_in c _ i) (told e (said_is octets_in c _ i) (called refl b d go (given refl refl))))))
complete_literal c _ _ (literal_none h) s = found_by literal c _ _ (told _ (said_is constant_in c _ h) (given refl refl))
complete_literal c _ _ (literal_true h) s = found_by literal c _ _ (told _ (said_is constant_in c _ h) (given refl refl))
complete_literal c _ _ (literal_false h) s = found_by literal c _ _ (told _ (said_is constant_in c _ h) (given refl refl))

complete_param : (b : Bool) (c : Cursor) (p : Param) (b' : Bool) (d : Cursor) → IsParam b c p b' d → Stops 6 d → at (symbol op.Colon) d ≡ false → at (symbol op.Assign) d ≡ false → descent (param b) c ≡ gives p d
complete_param _ c _ _ d (param_plain {n = n} h i) s no_colon no_assign = found_by (param false) c _ _ (called refl n (past c) (complete_name c n h) (called refl tt d (complete_hint (past c) d i s no_colon) (way_no no_assign (way_no refl (given refl refl)))))
complete_param b c _ _ f (param_default {d = d} {n = n} {l = l} h i j k) s no_colon no_assign = found_by (param b) c _ _ (called refl n (past c) (complete_name c n h) (called refl tt d (complete_hint (past c) d i (stops_at 6 d _ j (omega arith)) (at_is (symbol op.Colon) d _ j)) (way_yes (here op.Assign d j) (called refl l f (complete_literal (past d) l f k (stops_less 6 14 f (omega arith) s)) (given refl refl)))))

param_flag : (b : Bool) (c : Cursor) (p : Param) (b' : Bool) (d : Cursor) → IsParam b c p b' d → b' ≡ is_some p.default
param_flag _ _ _ _ _ (param_plain h i) = refl
param_flag _ _ _ _ _ (param_default h i j k) = refl

param_not_end : (b : Bool) (c : Cursor) (p : Param) (b' : Bool) (d : Cursor) → IsParam b c p b' d → at (symbol op.RightParen) c ≡ false
param_not_end _ c _ _ _ (param_plain h i) = at_is (symbol op.RightParen) c _ h.begins
param_not_end _ c _ _ _ (param_default h i j k) = at_is (symbol op.RightParen) c _ h.begins

params_go : (b : Bool) (c : Cursor) (ps : List Param) (d : Cursor) → AreParams b c ps d → BeginsOp op.RightParen d → (acc : List Param) → descent (params b acc) c ≡ gives (acc ++ ps) d
params_go b c _ _ params_none stop acc = found_by (params b acc) c _ _ (way_yes (here op.RightParen c stop) (given (sym (list_none acc)) refl))
params_go b c _ d (params_last {p = p} h) stop acc = found_by (params b acc) c _ _ (way_no (param_not_end b c p _ d h) (called refl p d (complete_param b c p _ d h (stops_at 6 d _ stop (omega arith)) (at_is (symbol op.Colon) d _ stop) (at_is (symbol op.Assign) d _ stop)) (way_no (at_is (symbol op.Comma) d _ stop) (given refl refl))))
params_go b c _ f (params_more {b' = b'} {d = d} {p = p} {ps = ps} h i j) stop acc = found_by (params b acc) c _ _ (way_no (param_not_end b c p _ d h) (called refl p d (complete_param b c p _ d h (stops_at 6 d _ i (omega arith)) (at_is (symbol op.Colon) d _ i) (at_is (symbol op.Assign) d _ i)) (way_yes (here op.Comma d i)
    (called refl _ f (subst (λ z. descent (params z (acc ++ p ∷ [])) (past d) ≡ gives ((acc ++ p ∷ []) ++ ps) f) (param_flag b c p b' d h) (params_go b' (past d) ps f j stop (acc ++ p ∷ []))) (given (append_one acc p ps) refl)))))

complete_base : (c : Cursor) (b : Option ℕ) (d : Cursor) → IsBase c b d → BeginsOp op.Colon d → descent base c ≡ gives b d
complete_base c _ _ base_none stop = found_by base c _ _ (way_no (at_is (symbol op.LeftParen) c _ stop) (given refl refl))
complete_base c _ _ (base_empty h i) stop = found_by base c _ _ (way_yes (here op.LeftParen c h) (way_yes (here op.RightParen (past c) i) (given refl refl)))
complete_base c _ _ (base_name {n = n} h i j) stop = found_by base c _ _ (way_yes (here op.LeftParen c h) (way_no (at_is (symbol op.RightParen) (past c) _ i.begins) (called refl n (past_two c) (complete_name (past c) n i) (way_yes (here op.RightParen (past_two c) j) (given refl refl)))))

complete_member : (c : Cursor) (m : Member) (d : Cursor) → IsMember c m d → Begins kind.Newline d → descent class_member c ≡ gives m d
complete_member c _ _ (member_pass h) stop = found_by class_member c _ _ (way_yes (here_word word.KwPass c h) (given refl refl))
complete_member c _ _ (member_ellipsis h) stop = found_by class_member c _ _ (way_no (at_is (keyword word.KwPass) c _ h) (way_yes (here op.Ellipsis c h) (given refl refl)))
complete_member c _ d (member_strs {empty = b} h) stop = by_strs (strs_of c b d h (stops_at 14 d _ stop (omega arith))) where
  by_strs : Strs c b d → descent class_member c ≡ gives tree.text d
  by_strs (strs e i go) = found_by class_member c _ _ (way_no (at_is (keyword word.KwPass) c _ i) (way_no (at_is (symbol op.Ellipsis) c _ i) (told e (said_is str_in c _ i) (called refl b d go (given refl refl)))))
complete_member c _ d (member_value {n = n} {e = e} h i j) stop = found_by class_member c _ d (way_no (at_is (keyword word.KwPass) c _ h.name.begins) (way_no (at_is (symbol op.Ellipsis) c _ h.name.begins) (untold (said_is str_in c _ h.name.begins) (called refl n (past c) (complete_plain c n h) (way_yes (here op.Assign (past c) i) (called refl e d (complete_tests (past_two c) e d j (stops_at 1 d _ stop (omega arith))) (given refl refl)))))))
complete_member c _ d (member_declared {n = n} h i j) stop = found_by class_member c _ d (way_no (at_is (keyword word.KwPass) c _ h.name.begins) (way_no (at_is (symbol op.Ellipsis) c _ h.name.begins) (untold (said_is str_in c _ h.name.begins) (called refl n (past c) (complete_plain c n h) (way_no (at_is (symbol op.Assign) (past c) _ i) (way_yes (here op.Colon (past c) i) (called refl tt d (complete_annotation (past_two c) d j (stops_at 6 d _ stop (omega arith))) (way_no (at_is (symbol op.Assign) d _ stop) (given refl refl)))))))))
complete_member c _ f (member_declared_value {d = d} {n = n} {e = e} h i j k l) stop = found_by class_member c _ f (way_no (at_is (keyword word.KwPass) c _ h.name.begins) (way_no (at_is (symbol op.Ellipsis) c _ h.name.begins) (untold (said_is str_in c _ h.name.begins) (called refl n (past c) (complete_plain c n h) (way_no (at_is (symbol op.Assign) (past c) _ i) (way_yes (here op.Colon (past c) i) (called refl tt d (complete_annotation (past_two c) d j (stops_at 6 d _ k (omega arith))) (way_yes (here op.Assign d k) (called refl e f (complete_tests (past d) e f l (stops_at 1 f _ stop (omega arith))) (given refl refl))))))))))

-- what a part of a class begins with
abbrev pub member_kind : TokenKind → Bool
member_kind (kind.Keyword word.KwPass) = true
member_kind (kind.Op op.Ellipsis) = true
member_kind (kind.Str b) = true
member_kind (kind.Name n) = true
member_kind _ = false

strs_member : (c : Cursor) (b : Bool) (d : Cursor) → AreStrs c b d → First member_kind c
strs_member c _ _ (Expressions.strs_one h) = first _ h refl
strs_member c _ _ (Expressions.strs_more h k) = first _ h refl

member_first : (c : Cursor) (m : Member) (d : Cursor) → IsMember c m d → First member_kind c
member_first c _ _ (member_pass h) = first _ h refl
member_first c _ _ (member_ellipsis h) = first _ h refl
member_first c _ d (member_strs {empty = b} h) = strs_member c b d h
member_first c _ _ (member_value h i j) = first _ h.name.begins refl
member_first c _ _ (member_declared h i j) = first _ h.name.begins refl
member_first c _ _ (member_declared_value h i j k l) = first _ h.name.begins refl

-- ---- What a statement begins with

abbrev pub statement_kind : TokenKind → Bool
statement_kind (kind.Keyword word.KwIf) = true
statement_kind (kind.Keyword word.KwWhile) = true
statement_kind (kind.Keyword word.KwFor) = true
statement_kind (kind.Keyword word.KwTry) = true
statement_kind (kind.Keyword word.KwDef) = true
statement_kind (kind.Keyword word.KwClass) = true
statement_kind k = starts_kind k

starts_statement : (k : TokenKind) → starts_kind k ≡ true → statement_kind k ≡ true
starts_statement (kind.Name n) h = h
starts_statement (kind.Int n) h = h
starts_statement kind.Float h = h
starts_statement kind.Imaginary h = h
starts_statement (kind.Str b) h = h
starts_statement (kind.Bytes b) h = h
starts_statement kind.Newline h = h
starts_statement kind.Indent h = h
starts_statement kind.Dedent h = h
starts_statement kind.End h = h
starts_statement (kind.Op p) h = h
starts_statement (kind.Keyword word.KwFalse) h = h
starts_statement (kind.Keyword word.KwNone) h = h
starts_statement (kind.Keyword word.KwTrue) h = h
starts_statement (kind.Keyword word.KwAnd) h = h
starts_statement (kind.Keyword word.KwAs) h = h
starts_statement (kind.Keyword word.KwAssert) h = h
starts_statement (kind.Keyword word.KwAsync) h = h
starts_statement (kind.Keyword word.KwAwait) h = h
starts_statement (kind.Keyword word.KwBreak) h = h
starts_statement (kind.Keyword word.KwClass) h = refl
starts_statement (kind.Keyword word.KwContinue) h = h
starts_statement (kind.Keyword word.KwDef) h = refl
starts_statement (kind.Keyword word.KwDel) h = h
starts_statement (kind.Keyword word.KwElif) h = h
starts_statement (kind.Keyword word.KwElse) h = h
starts_statement (kind.Keyword word.KwExcept) h = h
starts_statement (kind.Keyword word.KwFinally) h = h
starts_statement (kind.Keyword word.KwFor) h = refl
starts_statement (kind.Keyword word.KwFrom) h = h
starts_statement (kind.Keyword word.KwGlobal) h = h
starts_statement (kind.Keyword word.KwIf) h = refl
starts_statement (kind.Keyword word.KwImport) h = h
starts_statement (kind.Keyword word.KwIn) h = h
starts_statement (kind.Keyword word.KwIs) h = h
starts_statement (kind.Keyword word.KwLambda) h = h
starts_statement (kind.Keyword word.KwNonlocal) h = h
starts_statement (kind.Keyword word.KwNot) h = h
starts_statement (kind.Keyword word.KwOr) h = h
starts_statement (kind.Keyword word.KwPass) h = h
starts_statement (kind.Keyword word.KwRaise) h = h
starts_statement (kind.Keyword word.KwReturn) h = h
starts_statement (kind.Keyword word.KwTry) h = refl
starts_statement (kind.Keyword word.KwWhile) h = refl
starts_statement (kind.Keyword word.KwWith) h = h
starts_statement (kind.Keyword word.KwYield) h = h

line_statement : (c : Cursor) → First starts_kind c → First statement_kind c
line_statement c (first k h o) = first k h (starts_statement k o)

compound_first : (c : Cursor) (k : StmtKind) (d : Cursor) → IsCompound c k d → First statement_kind c
compound_first c _ _ (compound_if h i j k l m) = first _ h refl
compound_first c _ _ (compound_while h i j k) = first _ h refl
compound_first c _ _ (compound_for h i j k l m) = first _ h refl
compound_first c _ _ (compound_try h i j k l) = first _ h refl

statement_first : (top : Bool) (c : Cursor) (ss : Stmts) (d : Cursor) → IsStatement top c ss d → First statement_kind c
statement_first top c ss d (statement_line h) = line_statement c (line_first c ss d h)
statement_first top c _ d (statement_compound {s = k} h) = compound_first c k d h
statement_first _ c _ _ (statement_def h (Statements.function i j k l m n o)) = first _ i refl
statement_first _ c _ _ (statement_class (Statements.class h i j k l)) = first _ h refl

-- a marked token isn't next where one of other kinds is
word_not_first : (f : TokenKind → Bool) (w : Keyword) (c : Cursor) → First f c → f (kind.Keyword w) ≡ false → at (keyword w) c ≡ false
word_not_first f w c h other = by_test (at (keyword w) c) refl where
  by_test : (z : Bool) → at (keyword w) c ≡ z → z ≡ false
  by_test true e = absurd (first_not f c _ h other (at_keyword w c e))
  by_test false e = refl

newline_not_first : (f : TokenKind → Bool) (c : Cursor) → First f c → f kind.Newline ≡ false → at newline c ≡ false
newline_not_first f c h other = by_test (at newline c) refl where
  by_test : (z : Bool) → at newline c ≡ z → z ≡ false
  by_test true e = absurd (first_not f c _ h other (at_newline c e))
  by_test false e = refl

dedent_not_first : (f : TokenKind → Bool) (c : Cursor) → First f c → f kind.Dedent ≡ false → at dedent c ≡ false
dedent_not_first f c h other = by_test (at dedent c) refl where
  by_test : (z : Bool) → at dedent c ≡ z → z ≡ false
  by_test true e = absurd (first_not f c _ h other (at_dedent c e))
  by_test false e = refl

end_not_first : (f : TokenKind → Bool) (c : Cursor) → First f c → f kind.End ≡ false → at end c ≡ false
end_not_first f c h other = by_test (at end c) refl where
  by_test : (z : Bool) → at end c ≡ z → z ≡ false
  by_test true e = absurd (first_not f c _ h other (at_end c e))
  by_test false e = refl

or_false : (a b : Bool) → a ≡ false → b ≡ false → (a || b) ≡ false
or_false true b h k = h
or_false false b h k = k

or_left : (a b : Bool) → a ≡ true → (a || b) ≡ true
or_left true b h = refl
or_left false b h = absurd cc

or_right : (a b : Bool) → b ≡ true → (a || b) ≡ true
or_right true b h = refl
or_right false b h = h

not_close : (f : TokenKind → Bool) (c : Cursor) → First f c → f kind.Dedent ≡ false → f kind.End ≡ false → at_close c ≡ false
not_close f c h no_dedent no_end = or_false _ _ (dedent_not_first f c h no_dedent) (end_not_first f c h no_end)

no_compound : (f : TokenKind → Bool) (c : Cursor) → First f c → f (kind.Keyword word.KwIf) ≡ false → f (kind.Keyword word.KwWhile) ≡ false → f (kind.Keyword word.KwFor) ≡ false → f (kind.Keyword word.KwTry) ≡ false → begins_compound c ≡ false
no_compound f c h a b d e = or_false _ _ (or_false _ _ (word_not_first f word.KwIf c h a) (word_not_first f word.KwWhile c h b)) (or_false _ _ (word_not_first f word.KwFor c h d) (word_not_first f word.KwTry c h e))

-- no clause of the statement before goes on
record NoMore (c : Cursor) : Type 0 where
  no_else : at (keyword word.KwElse) c ≡ false
  no_elif : at (keyword word.KwElif) c ≡ false
  no_except : at (keyword word.KwExcept) c ≡ false

data Closes (c : Cursor) : Type 0 where
  closes_dedent : Begins kind.Dedent c → Closes c
  closes_end : Begins kind.End c → Closes c

close_is : (c : Cursor) → Closes c → at_close c ≡ true
close_is c (closes_dedent h) = or_left _ _ (at_is dedent c _ h)
close_is c (closes_end h) = or_right _ _ (at_is end c _ h)

no_more_of : (top : Bool) (c : Cursor) (ss : Stmts) (d : Cursor) → AreStatements top c ss d → Closes d → NoMore c
no_more_of top c _ _ statements_none (closes_dedent h) = record { no_else = at_is (keyword word.KwElse) c _ h; no_elif = at_is (keyword word.KwElif) c _ h; no_except = at_is (keyword word.KwExcept) c _ h }
no_more_of top c _ _ statements_none (closes_end h) = record { no_else = at_is (keyword word.KwElse) c _ h; no_elif = at_is (keyword word.KwElif) c _ h; no_except = at_is (keyword word.KwExcept) c _ h }
no_more_of top c _ _ (statements_more {d = d} {ss = ss} h i) k = let f = statement_first top c ss d h in record { no_else = word_not_first statement_kind word.KwElse c f refl; no_elif = word_not_first statement_kind word.KwElif c f refl; no_except = word_not_first statement_kind word.KwExcept c f refl }

-- ---- What is found, with less left behind it

data Goes (g : Goal) (c : Cursor) (v : Value g) (d : Cursor) : Type 0 where
  goes : descent g c ≡ gives v d → room d < room c → Goes g c v d

found : (g : Goal) (c : Cursor) (v : Value g) (d : Cursor) → Goes g c v d → descent g c ≡ gives v d
found g c v d (goes h l) = h

less_left : (g : Goal) (c : Cursor) (v : Value g) (d : Cursor) → Goes g c v d → room d < room c
less_left g c v d (goes h l) = l

-- a token is read, and then a goal is found
less_by : (m : Mark) (c : Cursor) (g : Goal) (v : Value g) (d : Cursor) → at m c ≡ true → descent g (past c) ≡ gives v d → room d < room c
less_by m c g v d h e = omega (arith, eaten m c h, descent_shrinks.shrinks g (past c) v d e)

past_less : (c : Cursor) → room (past c) ≤ room c
unfolding room
past_less c = omega arith

fun_same : (c : Cursor) → room (with_fun c) ≡ room c
unfolding room
fun_same c = refl

class_same : (c : Cursor) → room (with_class c) ≡ room c
unfolding room
class_same c = refl

within_same : (b : Bool) (c : Cursor) → room (within b c) ≡ room c
unfolding room
within_same b c = refl

line_less : (c : Cursor) (ss : Stmts) (d : Cursor) → IsLine c ss d → room d < room c
line_less c _ _ (line_last {d = d} {s = k} h i) = omega (arith, descent_shrinks.shrinks simple c _ d (found_simple c k d h (ends_newline i)), eaten newline d (at_is newline d _ i))
line_less c _ _ (line_semi {d = d} {s = k} h i j) = omega (arith, descent_shrinks.shrinks simple c _ d (found_simple c k d h (ends_semi i)), eaten (symbol op.Semi) d (here op.Semi d i), past_less (past d))
line_less c _ f (line_more {d = d} {s = k} {ss = ss} h i j) = omega (arith, descent_shrinks.shrinks simple c _ d (found_simple c k d h (ends_semi i)), eaten (symbol op.Semi) d (here op.Semi d i), line_less (past d) ss f j)

compound_begins : (c : Cursor) (k : StmtKind) (d : Cursor) → IsCompound c k d → begins_compound c ≡ true
compound_begins c _ _ (compound_if h i j k l m) = or_left _ _ (or_left _ _ (here_word word.KwIf c h))
compound_begins c _ _ (compound_while h i j k) = or_left _ _ (or_right _ _ (here_word word.KwWhile c h))
compound_begins c _ _ (compound_for h i j k l m) = or_right _ _ (or_left _ _ (here_word word.KwFor c h))
compound_begins c _ _ (compound_try h i j k l) = or_right _ _ (or_right _ _ (here_word word.KwTry c h))

caught_begins : (c : Cursor) (e : Expr) (n : Option ℕ) (d : Cursor) → IsCaught c e n d → begins_test c ≡ true
caught_begins c e _ d (caught_test h) = test_begins c e d h
caught_begins c e _ _ (caught_as {d = d} h i j) = test_begins c e d h

complete_caught : (c : Cursor) (e : Expr) (n : Option ℕ) (d : Cursor) → IsCaught c e n d → BeginsOp op.Colon d → descent caught c ≡ gives (e, n) d
complete_caught c e _ d (caught_test h) stop = found_by caught c _ _ (called refl e d (complete_test c e d h (stops_at 2 d _ stop (omega arith))) (way_no (at_is (keyword word.KwAs) d _ stop) (given refl refl)))
complete_caught c e _ _ (caught_as {d = d} {n = n} h i j) stop = found_by caught c _ _ (called refl e d (complete_test c e d h (stops_at 2 d _ i (omega arith))) (way_yes (here_word word.KwAs d i) (called refl n (past_two d) (complete_name (past d) n j) (given refl refl))))

handlers_begin : (c : Cursor) (hs : Handlers) (d : Cursor) → AreHandlers c hs d → BeginsWord word.KwExcept c
handlers_begin c _ _ (handlers_bare h i j) = h
handlers_begin c _ _ (handlers_last h i j k) = h
handlers_begin c _ _ (handlers_more h i j k l) = h

no_elif_before : (c : Cursor) (os : Stmts) (d : Cursor) → IsElse c os d → NoMore d → at (keyword word.KwElif) c ≡ false
no_elif_before c _ _ else_none m = m.no_elif
no_elif_before c _ _ (else_block h i j) m = at_is (keyword word.KwElif) c _ h

no_except_before : (c : Cursor) (os : Stmts) (d : Cursor) → IsElse c os d → NoMore d → at (keyword word.KwExcept) c ≡ false
no_except_before c _ _ else_none m = m.no_except
no_except_before c _ _ (else_block h i j) m = at_is (keyword word.KwExcept) c _ h

-- the words that definitions begin with
abbrev pub def_kind : TokenKind → Bool
def_kind (kind.Keyword word.KwDef) = true
def_kind _ = false

abbrev pub class_kind : TokenKind → Bool
class_kind (kind.Keyword word.KwClass) = true
class_kind _ = false

def_word : (c : Cursor) (n : ℕ) (f : FunDef) (d : Cursor) → IsFunction c n f d → BeginsWord word.KwDef c
def_word c n _ d (Statements.function h i j k l m o) = h

class_word : (c : Cursor) (k : ClassDef) (d : Cursor) → IsClass c k d → BeginsWord word.KwClass c
class_word c _ _ (Statements.class h i j k l) = h

abbrev pub entry_kind : TokenKind → Bool
entry_kind (kind.Keyword word.KwDef) = true
entry_kind k = member_kind k

members_enter : (k : TokenKind) → member_kind k ≡ true → entry_kind k ≡ true
members_enter (kind.Name n) h = h
members_enter (kind.Int n) h = h
members_enter kind.Float h = h
members_enter kind.Imaginary h = h
members_enter (kind.Str b) h = h
members_enter (kind.Bytes b) h = h
members_enter kind.Newline h = h
members_enter kind.Indent h = h
members_enter kind.Dedent h = h
members_enter kind.End h = h
members_enter (kind.Op p) h = h
members_enter (kind.Keyword word.KwFalse) h = h
members_enter (kind.Keyword word.KwNone) h = h
members_enter (kind.Keyword word.KwTrue) h = h
members_enter (kind.Keyword word.KwAnd) h = h
members_enter (kind.Keyword word.KwAs) h = h
members_enter (kind.Keyword word.KwAssert) h = h
members_enter (kind.Keyword word.KwAsync) h = h
members_enter (kind.Keyword word.KwAwait) h = h
members_enter (kind.Keyword word.KwBreak) h = h
members_enter (kind.Keyword word.KwClass) h = h
members_enter (kind.Keyword word.KwContinue) h = h
members_enter (kind.Keyword word.KwDef) h = refl
members_enter (kind.Keyword word.KwDel) h = h
members_enter (kind.Keyword word.KwElif) h = h
members_enter (kind.Keyword word.KwElse) h = h
members_enter (kind.Keyword word.KwExcept) h = h
members_enter (kind.Keyword word.KwFinally) h = h
members_enter (kind.Keyword word.KwFor) h = h
members_enter (kind.Keyword word.KwFrom) h = h
members_enter (kind.Keyword word.KwGlobal) h = h
members_enter (kind.Keyword word.KwIf) h = h
members_enter (kind.Keyword word.KwImport) h = h
members_enter (kind.Keyword word.KwIn) h = h
members_enter (kind.Keyword word.KwIs) h = h
members_enter (kind.Keyword word.KwLambda) h = h
members_enter (kind.Keyword word.KwNonlocal) h = h
members_enter (kind.Keyword word.KwNot) h = h
members_enter (kind.Keyword word.KwOr) h = h
members_enter (kind.Keyword word.KwPass) h = h
members_enter (kind.Keyword word.KwRaise) h = h
members_enter (kind.Keyword word.KwReturn) h = h
members_enter (kind.Keyword word.KwTry) h = h
members_enter (kind.Keyword word.KwWhile) h = h
members_enter (kind.Keyword word.KwWith) h = h
members_enter (kind.Keyword word.KwYield) h = h

entry_first : (c : Cursor) (m : Member) (d : Cursor) → IsEntry c m d → First entry_kind c
entry_first c m _ (entry_member {d = d} h i) = by_member (member_first c m d h) where
  by_member : First member_kind c → First entry_kind c
  by_member (first k e o) = first k e (members_enter k o)
entry_first c _ d (entry_method {n = n} {f = f} h i) = first _ (def_word c n f d i) refl

-- ---- Statements

mutual
  block_go : (c : Cursor) (ss : Stmts) (d : Cursor) → IsBlock c ss d → descent block c ≡ gives ss d
  block_go c ss d (block_line h) = found_by block c _ _ (way_no (line_no_newline c ss d h) (called refl ss d (line_goes c ss d h no_stmts) (given refl refl)))
  block_go c _ _ (block_indented {d = d} {f = f} {ss = ss} {ts = ts} h i j k l) = found_by block c _ _ (way_yes (at_is newline c _ h) (way_yes (at_is indent (past c) _ i) (called refl ss d (found _ _ _ _ (statement_go false (past_two c) ss d j (no_more_of false d ts f k (closes_dedent l)) no_stmts))
      (called refl (then_all ss ts) f (statements_go false d ts f k (closes_dedent l) ss) (way_yes (at_is dedent f _ l) (given refl refl))))))

  statement_go : (top : Bool) (c : Cursor) (ss : Stmts) (d : Cursor) → IsStatement top c ss d → NoMore d → (acc : Stmts) → Goes (statement top acc) c (then_all acc ss) d
  statement_go top c ss d (statement_line h) m acc = let f = line_first c ss d h in goes (found_by (statement top acc) c _ _ (way_no (no_compound starts_kind c f refl refl refl refl) (way_no (and_false top _ (word_not_first starts_kind word.KwDef c f refl)) (way_no (and_false top _ (word_not_first starts_kind word.KwClass c f refl)) (called refl _ d (line_goes c ss d h acc) (given refl refl)))))) (line_less c ss d h)
  statement_go top c _ d (statement_compound {s = k} h) m acc = let g = compound_go c k d h m in goes (found_by (statement top acc) c _ _ (way_yes (compound_begins c k d h) (called refl k d (found _ _ _ _ g) (given (sym (stmts_one acc _)) refl)))) (less_left _ _ _ _ g)
  statement_go _ c _ d (statement_def {n = n} {f = f} h i) m acc = let k = function_go c n f d i in let w = def_word c n f d i in
      goes (found_by (statement true acc) c _ _ (way_no (no_compound (λ z. def_kind z) c (first _ w refl) refl refl refl refl) (way_yes (here_word word.KwDef c w) (called refl f d (found_by definition c f d (way_yes (here_word word.KwDef c w) (called refl n (past_two c) (complete_name (past c) n h) (called refl f d k (given refl refl))))) (given (sym (stmts_one acc _)) refl)))))
      (omega (arith, eaten (keyword word.KwDef) c (here_word word.KwDef c w), past_less (past c), descent_shrinks.shrinks (function (line_of c) n) (past_two c) f d k))
  statement_go _ c _ d (statement_class {k = k} h) m acc = let g = class_go c k d h in let w = class_word c k d h in
      goes (found_by (statement true acc) c _ _ (way_no (no_compound (λ z. class_kind z) c (first _ w refl) refl refl refl refl) (way_no (at_is (keyword word.KwDef) c _ w) (way_yes (here_word word.KwClass c w) (called refl k d (found _ _ _ _ g) (given (sym (stmts_one acc _)) refl))))))
      (less_left _ _ _ _ g)

  statements_go : (top : Bool) (c : Cursor) (ss : Stmts) (d : Cursor) → AreStatements top c ss d → Closes d → (acc : Stmts) → descent (statements top acc) c ≡ gives (then_all acc ss) d
  statements_go top c _ _ statements_none close acc = found_by (statements top acc) c _ _ (way_yes (close_is c close) (given (sym (stmts_none acc)) refl))
  statements_go top c _ f (statements_more {d = d} {ss = ss} {ts = ts} h i) close acc = let g = statement_go top c ss d h (no_more_of top d ts f i close) acc in
      found_by (statements top acc) c _ _ (way_no (not_close statement_kind c (statement_first top c ss d h) refl refl) (stepped refl (then_all acc ss) d (found _ _ _ _ g) (less_left _ _ _ _ g) (called refl _ f (statements_go top d ts f i close (then_all acc ss)) (given (stmts_all acc ss ts) refl))))

  compound_go : (c : Cursor) (k : StmtKind) (d : Cursor) → IsCompound c k d → NoMore d → Goes compound c k d
  compound_go c _ _ (compound_if {d = d} {f = f} {g = g} {h = x} {t = t} {ss = ss} {os = os} {as' = as'} h i j k l n) m =
      let rest : descent if_rest (past c) ≡ gives (tree.if (arm t ss as') os) x = found_by if_rest (past c) _ _ (called refl t d (complete_test (past c) t d i (stops_at 2 d _ j (omega arith))) (way_yes (here op.Colon d j) (called refl ss f (block_go (past d) ss f k)
      (called refl _ g (elifs_go f as' g l (no_elif_before g os x n m) (arm t ss no_arms)) (called refl os x (else_go g os x n m.no_else) (given (ap (λ z. tree.if z os) (first_arm t ss as')) refl)))))) in
      goes (found_by compound c _ _ (way_yes (here_word word.KwIf c h) (called refl _ x rest (given refl refl)))) (less_by (keyword word.KwIf) c if_rest _ x (here_word word.KwIf c h) rest)
  compound_go c _ _ (compound_while {d = d} {f = f} {t = t} {ss = ss} h i j k) m =
      let rest : descent while_rest (past c) ≡ gives (tree.while t ss) f = found_by while_rest (past c) _ _ (called refl t d (complete_test (past c) t d i (stops_at 2 d _ j (omega arith))) (way_yes (here op.Colon d j) (called refl ss f (block_go (past d) ss f k) (given refl refl)))) in
      goes (found_by compound c _ _ (way_no (at_is (keyword word.KwIf) c _ h) (way_yes (here_word word.KwWhile c h) (called refl _ f rest (given refl refl))))) (less_by (keyword word.KwWhile) c while_rest _ f (here_word word.KwWhile c h) rest)
  compound_go c _ _ (compound_for {d = d} {f = f} {g = g} {t = t} {e = e} {ss = ss} h i j k l n) m =
      let rest : descent for_rest (past c) ≡ gives (tree.for t e ss) g = found_by for_rest (past c) _ _ (called refl t d (complete_for_targets (past c) t d i j) (way_yes (here_word word.KwIn d j) (called refl e f (complete_tests (past d) e f k (stops_at 1 f _ l (omega arith))) (way_yes (here op.Colon f l) (called refl ss g (block_go (past f) ss g n) (given refl refl)))))) in
      goes (found_by compound c _ _ (way_no (at_is (keyword word.KwIf) c _ h) (way_no (at_is (keyword word.KwWhile) c _ h) (way_yes (here_word word.KwFor c h) (called refl _ g rest (given refl refl)))))) (less_by (keyword word.KwFor) c for_rest _ g (here_word word.KwFor c h) rest)
  compound_go c _ _ (compound_try {d = d} {f = f} {g = g} {ss = ss} {os = os} {hs = hs} h i j k l) m =
      let rest : descent try_rest (past c) ≡ gives (tree.try ss hs os) g = found_by try_rest (past c) _ _ (way_yes (here op.Colon (past c) i) (called refl ss d (block_go (past_two c) ss d j) (called refl _ f (handlers_go d hs f k (no_except_before f os g l m) no_handlers)
      (called refl os g (else_go f os g l m.no_else) (given (ap (λ z. tree.try ss z os) (no_handler hs)) refl))))) in
      goes (found_by compound c _ _ (way_no (at_is (keyword word.KwIf) c _ h) (way_no (at_is (keyword word.KwWhile) c _ h) (way_no (at_is (keyword word.KwFor) c _ h) (way_yes (here_word word.KwTry c h) (called refl _ g rest (given refl refl))))))) (less_by (keyword word.KwTry) c try_rest _ g (here_word word.KwTry c h) rest)

  elifs_go : (c : Cursor) (as' : Arms) (d : Cursor) → AreElifs c as' d → at (keyword word.KwElif) d ≡ false → (acc : Arms) → descent (elifs acc) c ≡ gives (arms_behind acc as') d
  elifs_go c _ _ elifs_none other acc = found_by (elifs acc) c _ _ (way_no other (given (sym (arms_empty acc)) refl))
  elifs_go c _ g (elifs_more {d = d} {f = f} {t = t} {ss = ss} {as' = as'} h i j k l) other acc = found_by (elifs acc) c _ _ (way_yes (here_word word.KwElif c h) (called refl t d (complete_test (past c) t d i (stops_at 2 d _ j (omega arith))) (way_yes (here op.Colon d j) (called refl ss f (block_go (past d) ss f k)
      (called refl _ g (elifs_go f as' g l other (and_arm acc t ss)) (given (arms_again acc t ss as') refl))))))

  else_go : (c : Cursor) (os : Stmts) (d : Cursor) → IsElse c os d → at (keyword word.KwElse) d ≡ false → descent else_rest c ≡ gives os d
  else_go c _ _ else_none other = found_by else_rest c _ _ (way_no other (given refl refl))
  else_go c os d (else_block h i j) other = found_by else_rest c _ _ (way_yes (here_word word.KwElse c h) (way_yes (here op.Colon (past c) i) (called refl os d (block_go (past_two c) os d j) (given refl refl))))

  handlers_go : (c : Cursor) (hs : Handlers) (d : Cursor) → AreHandlers c hs d → at (keyword word.KwExcept) d ≡ false → (acc : Handlers) → descent (handlers acc) c ≡ gives (handlers_behind acc hs) d
  handlers_go c _ d (handlers_bare {ss = ss} h i j) other acc = found_by (handlers acc) c _ _ (way_yes (here_word word.KwExcept c h) (way_yes (here op.Colon (past c) i) (called refl ss d (block_go (past_two c) ss d j) (given (sym (handlers_one acc None None ss (line_of c))) refl))))
  handlers_go c _ f (handlers_last {d = d} {e = e} {n = n} {ss = ss} h i j k) other acc = found_by (handlers acc) c _ _ (way_yes (here_word word.KwExcept c h) (way_no (test_no_symbol op.Colon (past c) (caught_begins (past c) e n d i) refl) (called refl (e, n) d (complete_caught (past c) e n d i j) (way_yes (here op.Colon d j)
      (called refl ss f (block_go (past d) ss f k) (way_no other (given (sym (handlers_one acc (Some e) n ss (line_of c))) refl)))))))
  handlers_go c _ g (handlers_more {d = d} {f = f} {e = e} {n = n} {ss = ss} {hs = hs} h i j k l) other acc = found_by (handlers acc) c _ _ (way_yes (here_word word.KwExcept c h) (way_no (test_no_symbol op.Colon (past c) (caught_begins (past c) e n d i) refl) (called refl (e, n) d (complete_caught (past c) e n d i j) (way_yes (here op.Colon d j)
      (called refl ss f (block_go (past d) ss f k) (way_yes (here_word word.KwExcept f (handlers_begin f hs g l)) (called refl _ g (handlers_go f hs g l other (and_handler acc (Some e) n ss (line_of c))) (given (handlers_again acc (Some e) n ss (line_of c) hs) refl))))))))

  function_go : (c : Cursor) (n : ℕ) (f : FunDef) (d : Cursor) → IsFunction c n f d → descent (function (line_of c) n) (past_two c) ≡ gives f d
  function_go c n _ g (Statements.function {d = d} {f = f} {ps = ps} {ss = ss} h i j k l m o) = found_by (function (line_of c) n) (past_two c) _ _ (way_yes (here op.LeftParen (past_two c) i) (called refl ps d (params_go false (with_fun (past (past_two c))) ps d j k []) (way_yes (here op.RightParen d k)
      (called refl tt f (complete_result (past d) f l (stops_at 6 f _ m (omega arith)) (at_is (symbol op.Arrow) f _ m)) (way_yes (here op.Colon f m) (called refl ss g (block_go (past f) ss g o) (given refl refl)))))))

  class_go : (c : Cursor) (k : ClassDef) (d : Cursor) → IsClass c k d → Goes class_rest c k d
  class_go c _ _ (Statements.class {d = d} {f = f} {n = n} {b = b} {ms = ms} h i j k l) =
      let first' = complete_base (with_class (past_two c)) b d j k in let second = body_go (within true (past d)) ms f l in
      goes (found_by class_rest c _ _ (way_yes (here_word word.KwClass c h) (called refl n (past_two c) (complete_name (past c) n i) (called refl b d first' (way_yes (here op.Colon d k) (called refl ms f second (given refl refl)))))))
      (omega (arith, eaten (keyword word.KwClass) c (here_word word.KwClass c h), past_less (past c), class_same (past_two c), descent_shrinks.shrinks base (with_class (past_two c)) b d first', past_less d, within_same true (past d), descent_shrinks.shrinks class_body (within true (past d)) ms f second, within_same false f))

  body_go : (c : Cursor) (ms : Members) (d : Cursor) → IsBody c ms d → descent class_body c ≡ gives ms d
  body_go c _ _ (body_line {d = d} {m = m} h i) = found_by class_body c _ _ (way_no (newline_not_first member_kind c (member_first c m d h) refl) (called refl m d (complete_member c m d h i) (way_yes (at_is newline d _ i) (given refl refl))))
  body_go c _ _ (body_indented {d = d} {f = f} {m = m} {ms = ms} h i j k l) = found_by class_body c _ _ (way_yes (at_is newline c _ h) (way_yes (at_is indent (past c) _ i) (called refl m d (found _ _ _ _ (entry_go (past_two c) m d j)) (called refl _ f (entries_go d ms f k l (member m no_members)) (way_yes (at_is dedent f _ l) (given (first_member m ms) refl))))))

  entry_go : (c : Cursor) (m : Member) (d : Cursor) → IsEntry c m d → Goes entry c m d
  entry_go c m _ (entry_member {d = d} h i) = let e = complete_member c m d h i in goes (found_by entry c _ _ (way_no (word_not_first member_kind word.KwDef c (member_first c m d h) refl) (called refl m d e (way_yes (at_is newline d _ i) (given refl refl)))))
      (omega (arith, descent_shrinks.shrinks class_member c m d e, eaten newline d (at_is newline d _ i)))
  entry_go c _ d (entry_method {n = n} {f = f} h i) = let k = function_go c n f d i in let w = def_word c n f d i in
      goes (found_by entry c _ _ (way_yes (here_word word.KwDef c w) (called refl n (past_two c) (complete_plain (past c) n h) (called refl f d k (given refl refl)))))
      (omega (arith, eaten (keyword word.KwDef) c (here_word word.KwDef c w), past_less (past c), descent_shrinks.shrinks (function (line_of c) n) (past_two c) f d k))

  entries_go : (c : Cursor) (ms : Members) (d : Cursor) → AreEntries c ms d → Begins kind.Dedent d → (acc : Members) → descent (entries acc) c ≡ gives (members_behind acc ms) d
  entries_go c _ _ entries_none stop acc = found_by (entries acc) c _ _ (way_yes (or_left _ _ (at_is dedent c _ stop)) (given (sym (members_empty acc)) refl))
  entries_go c _ f (entries_more {d = d} {m = m} {ms = ms} h i) stop acc = let g = entry_go c m d h in
      found_by (entries acc) c _ _ (way_no (not_close entry_kind c (entry_first c m d h) refl refl) (stepped refl m d (found _ _ _ _ g) (less_left _ _ _ _ g) (called refl _ f (entries_go d ms f i stop (and_member acc m)) (given (members_again acc m ms) refl))))

-- ---- Modules

-- the statements of a module
pub complete_statements : (c : Cursor) (ss : Stmts) (d : Cursor) → AreStatements true c ss d → Begins kind.End d → descent (statements true no_stmts) c ≡ gives ss d
complete_statements c ss d h stop = statements_go true c ss d h (closes_end stop) no_stmts
