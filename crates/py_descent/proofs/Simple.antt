-- Where the grammar has a simple statement, the descent finds it.
use Rattle.std.proofs.Common.{◌≡◌, ℕ, zero, suc, ◌+◌, ◌-◌, ◌<◌, ◌≤◌, ◌&&◌, ◌||◌, ◌==◌, nat_lt, not, if◌then◌else◌, Bool, true, false, List, [], ◌∷◌, ◌++◌, slice_get, Option, Some, None, refl, sym, ap, ◌∙◌, subst, arith}
use Rattle.std.specs.Option.{is_some}
use Rattle.place_ids.specs.declared.operators.BinOp.{BinOp}
use Rattle.py_tokens.specs.declared.token.Token.{Token}
use Rattle.py_tokens.specs.declared.token.TokenKind.{TokenKind}
use Rattle.py_tokens.specs.declared.token.TokenKind.TheVariants as kind
use Rattle.py_tokens.specs.declared.token.Keyword.{Keyword}
use Rattle.py_tokens.specs.declared.token.Keyword.TheVariants as word
use Rattle.py_tokens.specs.declared.token.Op.{Op}
use Rattle.py_tokens.specs.declared.token.Op.TheVariants as op
use Rattle.py_tree.specs.declared.literal.Literal.{Literal}
use Rattle.py_tree.specs.declared.literal.Literal.TheVariants as lit
use Rattle.py_tree.specs.Tree as tree
use Rattle.py_tree.specs.Tree.{Expr, node, Exprs, no_exprs, expr, ImportPart, FromPart, Param, Stmt, statement as stated_as, StmtKind, Stmts, no_stmts, stmt, Arms, no_arms, arm, Handlers, no_handlers, handler, FunDef, fun_def, ClassDef, class_def, Member, Members, no_members, member}
use Rattle.py_grammar.specs.Cursor.{Cursor, next, kind_in, Begins, BeginsOp, BeginsWord, line_of, past, past_two, with_site, with_fun, with_class, within, made, stated}
use Rattle.py_grammar.specs.Names.{IsName, IsPlainName, IsVariable}
use Rattle.py_grammar.specs.Operators
use Rattle.py_grammar.specs.Operators.{IsAugmenting}
use Rattle.py_grammar.specs.Expressions
use Rattle.py_grammar.specs.Expressions.{AreStrs, AreOctets, IsTest, test_or, or_and, and_not, not_compare, compare_one, IsOperation, operation_factor, operation_next, factor_power, power_primary, IsPrimary, primary_atom, primary_attr, primary_item, IsAtom, atom_name, atom_group, atom_list, AreTests, tests_last, tests_comma, tests_more, IsTests, tests_one, tests_single, tests_tuple}
use Rattle.py_grammar.specs.Statements
use Rattle.py_grammar.specs.Statements.{AreDots, dots_none, dots_more, IsDotted, IsAnnotation, annotation_one, annotation_more, IsPart, part_name, part_items, part_strs, part_none, AreItems, items_last, items_comma, items_more, IsItem, item_annotation, item_ellipsis, item_empty, item_list, IsHint, hint_none, hint_some, IsResult, result_none, result_some, IsSingle, single_name, single_attr, IsTarget, target_single, target_item, target_group, target_list, AreTargets, targets_last, targets_comma, targets_more, IsTargets, targets_one, targets_single, targets_tuple, is_plural, IsImport, import_name, import_as, AreImports, imports_one, imports_more, IsFrom, from_name, from_as, AreFrom, froms_one, froms_more, IsAssigned, assigned_last, assigned_more, IsSimple, simple_pass, simple_break, simple_continue, simple_ellipsis, simple_return, simple_return_value, simple_raise, simple_raise_value, simple_raise_from, simple_assert, simple_assert_message, simple_import, simple_from, simple_from_group, simple_from_comma, simple_assign, simple_augment, simple_annotated, simple_annotated_value, simple_expression, IsLine, line_last, line_semi, line_more, IsLiteral, literal_int, literal_minus_int, literal_float, literal_minus_float, literal_strs, literal_octets, literal_none, literal_true, literal_false, IsParam, param_plain, param_default, AreParams, params_none, params_last, params_more, IsBase, base_none, base_empty, base_name, IsMember, member_pass, member_ellipsis, member_strs, member_value, member_declared, member_declared_value, then_all}
use Rattle.py_descent.specs.Codes.{Mark, symbol, keyword, newline, indent, dedent, end, is, at}
use Rattle.py_descent.specs.Takings.{name_in, str_in, octets_in, number_in, negative_in, constant_in, augment_in, augment_of, is_name_in, begins_in, begins_test}
use Rattle.py_descent.specs.Goals.{Goal, Value, name, plain_name, dots, dotted, part, parts, annotation, item, items, hint, result, strings, octets, literal, super_rest, variable, atom, call_rest, subscript, slice, trailers, primary, power, factor, operations, operation, compare_operator, comparison, inversion, conjunctions, conjunction, disjunctions, disjunction, choice, test, tests_after, more_tests, tests, bounds, stride, argument, arguments, group, list_display, dict_display, pairs, import_part, imports, from_part, froms, return_rest, raise_rest, assert_rest, from_rest, assignment, assigned, annotated, simple_kind, simple, line, param, params, base, function, definition, class_rest, class_member, entry, class_body, entries, for_targets, more_targets, if_rest, while_rest, for_rest, try_rest, else_rest, caught, compound, block, elifs, handlers, statement, statements}
use Rattle.py_descent.specs.Programs.{Answer, gives, said, room}
use Rattle.py_descent.specs.Bodies.{and_expr, and_stmt, and_arm, and_handler, and_member, is_target, some_targets, are_targets, is_single, after_name, is_lone, at_close, begins_compound}
use Rattle.py_descent.specs.Descent.{descent}
use Rattle.py_descent.proofs.Seeing.{at_is, said_is, at_symbol, at_keyword, at_newline, at_indent, at_dedent, at_end, augment_from}
use Rattle.py_descent.proofs.Means.{way_yes, way_no, told, untold, given}
use Rattle.py_descent.proofs.Doing.{called, stepped, found_by}
use Rattle.py_descent.proofs.Unfold.{eaten, Shrinks, descent_shrinks}
use Rattle.py_descent.proofs.Stops.{Stops, pull, op_pull, stops_less, stops_at, no_symbol, no_keyword, no_str, no_octets}
use Rattle.py_descent.proofs.Begins.{First, first, opens, no_test, test_no_symbol, test_no_keyword, primary_begins, opens_begins, test_begins, tests_begin}
use Rattle.py_descent.proofs.Expressions.{here, here_word, complete_name, complete_plain, Strs, strs, strs_of, Octets, octs, octets_of, complete_test, complete_primary, tests_go, complete_tests, exprs_behind, exprs_one, exprs_more}
use Rattle.py_descent.proofs.Aims.{single_primary, target_primary, targets_are_tests, both, target_is, targets_is, Ends, ends_newline, ends_semi, ends_stop, ends_no, ends_no_word, ends_no_augment, append_none, append_one, complete_dotted, complete_annotation, complete_hint, complete_result, complete_for_targets}

-- ---- Imports

complete_import : (c : Cursor) (p : ImportPart) (d : Cursor) → IsImport c p d → at (keyword word.KwAs) d ≡ false → at (symbol op.Dot) d ≡ false → descent import_part c ≡ gives p d
complete_import c _ _ (import_name {n = n} h) no_as no_dot = found_by import_part c _ _ (called refl (n ∷ []) (past c) (complete_dotted c (n ∷ []) (past c) (Statements.dotted h dots_none) no_dot) (way_no no_as (way_yes refl (given refl refl))))
complete_import c _ _ (import_as {d = d} {ns = ns} {m = m} h i j) no_as no_dot = found_by import_part c _ _ (called refl ns d (complete_dotted c ns d h (at_is (symbol op.Dot) d _ i)) (way_yes (here_word word.KwAs d i) (called refl m (past_two d) (complete_name (past d) m j) (given refl refl))))

imports_go : (c : Cursor) (ps : List ImportPart) (d : Cursor) → AreImports c ps d → Ends d → (acc : List ImportPart) → descent (imports acc) c ≡ gives (acc ++ ps) d
imports_go c _ d (imports_one {p = p} h) s acc = found_by (imports acc) c _ _ (called refl p d (complete_import c p d h (ends_no_word word.KwAs d s) (ends_no op.Dot d s refl)) (way_no (ends_no op.Comma d s refl) (given refl refl)))
imports_go c _ f (imports_more {d = d} {p = p} {ps = ps} h i j) s acc = found_by (imports acc) c _ _ (called refl p d (complete_import c p d h (at_is (keyword word.KwAs) d _ i) (at_is (symbol op.Dot) d _ i)) (way_yes (here op.Comma d i)
    (called refl _ f (imports_go (past d) ps f j s (acc ++ p ∷ [])) (given (append_one acc p ps) refl))))

complete_from : (c : Cursor) (p : FromPart) (d : Cursor) → IsFrom c p d → at (keyword word.KwAs) d ≡ false → descent from_part c ≡ gives p d
complete_from c _ _ (from_name {n = n} h) no_as = found_by from_part c _ _ (called refl n (past c) (complete_name c n h) (way_no no_as (given refl refl)))
complete_from c _ _ (from_as {n = n} {m = m} h i j) no_as = found_by from_part c _ _ (called refl n (past c) (complete_name c n h) (way_yes (here_word word.KwAs (past c) i) (called refl m (past (past_two c)) (complete_name (past_two c) m j) (given refl refl))))

from_not_end : (c : Cursor) (p : FromPart) (d : Cursor) → IsFrom c p d → at (symbol op.RightParen) c ≡ false
from_not_end c _ _ (from_name h) = at_is (symbol op.RightParen) c _ h.begins
from_not_end c _ _ (from_as h i j) = at_is (symbol op.RightParen) c _ h.begins

froms_not_end : (c : Cursor) (ps : List FromPart) (d : Cursor) → AreFrom c ps d → at (symbol op.RightParen) c ≡ false
froms_not_end c _ d (froms_one {p = p} h) = from_not_end c p d h
froms_not_end c _ _ (froms_more {d = d} {p = p} h i j) = from_not_end c p d h

pub and_false : (a b : Bool) → b ≡ false → (a && b) ≡ false
and_false true b h = h
and_false false b h = refl

froms_go : (grouped : Bool) (c : Cursor) (ps : List FromPart) (d : Cursor) → AreFrom c ps d → at (keyword word.KwAs) d ≡ false → at (symbol op.Comma) d ≡ false → (acc : List FromPart) → descent (froms grouped acc) c ≡ gives (acc ++ ps) d
froms_go grouped c _ d (froms_one {p = p} h) no_as no_comma acc = found_by (froms grouped acc) c _ _ (called refl p d (complete_from c p d h no_as) (way_no no_comma (given refl refl)))
froms_go grouped c _ f (froms_more {d = d} {p = p} {ps = ps} h i j) no_as no_comma acc = found_by (froms grouped acc) c _ _ (called refl p d (complete_from c p d h (at_is (keyword word.KwAs) d _ i)) (way_yes (here op.Comma d i)
    (way_no (and_false grouped _ (froms_not_end (past d) ps f j)) (called refl _ f (froms_go grouped (past d) ps f j no_as no_comma (acc ++ p ∷ [])) (given (append_one acc p ps) refl)))))

froms_comma_go : (c : Cursor) (ps : List FromPart) (d : Cursor) → AreFrom c ps d → BeginsOp op.Comma d → BeginsOp op.RightParen (past d) → (acc : List FromPart) → descent (froms true acc) c ≡ gives (acc ++ ps) (past d)
froms_comma_go c _ d (froms_one {p = p} h) k m acc = found_by (froms true acc) c _ _ (called refl p d (complete_from c p d h (at_is (keyword word.KwAs) d _ k)) (way_yes (here op.Comma d k) (way_yes (here op.RightParen (past d) m) (given refl refl))))
froms_comma_go c _ f (froms_more {d = d} {p = p} {ps = ps} h i j) k m acc = found_by (froms true acc) c _ _ (called refl p d (complete_from c p d h (at_is (keyword word.KwAs) d _ i)) (way_yes (here op.Comma d i)
    (way_no (froms_not_end (past d) ps f j) (called refl _ _ (froms_comma_go (past d) ps f j k m (acc ++ p ∷ [])) (given (append_one acc p ps) refl)))))

-- ---- Assignments

-- a statement that begins with an expression is an assignment or an expression
starts : (c : Cursor) → begins_test c ≡ true → (v : StmtKind) (x : Cursor) → descent assignment c ≡ gives v x → descent simple_kind c ≡ gives v x
starts c h v x go = found_by simple_kind c v x (way_no (test_no_keyword word.KwPass c h refl) (way_no (test_no_keyword word.KwBreak c h refl) (way_no (test_no_keyword word.KwContinue c h refl) (way_no (test_no_symbol op.Ellipsis c h refl) (way_no (test_no_keyword word.KwReturn c h refl) (way_no (test_no_keyword word.KwRaise c h refl) (way_no (test_no_keyword word.KwAssert c h refl) (way_no (test_no_keyword word.KwImport c h refl) (way_no (test_no_keyword word.KwFrom c h refl) (called refl v x go (given refl refl)))))))))))

value_go : (c : Cursor) (v : Expr) (d : Cursor) → IsTests c v d → Ends d → (acc : Exprs) → descent (assigned acc) c ≡ gives (tree.assign acc v) d
value_go c v d h s acc = found_by (assigned acc) c _ _ (called refl v d (complete_tests c v d h (ends_stop d s)) (way_no (ends_no op.Assign d s refl) (given refl refl)))

assigned_go : (c : Cursor) (ts : Exprs) (v : Expr) (d : Cursor) → IsAssigned c ts v d → Ends d → (acc : Exprs) → descent (assigned acc) c ≡ gives (tree.assign (exprs_behind acc ts) v) d
assigned_go c _ v f (assigned_last {d = d} {t = t} h i j) s acc = found_by (assigned acc) c _ _ (called refl t d (complete_tests c t d (targets_are_tests c t d h) (stops_at 1 d _ i (omega arith))) (way_yes (here op.Assign d i) (way_yes (targets_is c t d h) (way_yes (here op.Assign d i)
    (called refl _ f (value_go (past d) v f j s (and_expr acc t)) (given (ap (λ z. tree.assign z v) (sym (exprs_one acc t))) refl))))))
assigned_go c _ v f (assigned_more {d = d} {t = t} {ts = ts} h i j) s acc = found_by (assigned acc) c _ _ (called refl t d (complete_tests c t d (targets_are_tests c t d h) (stops_at 1 d _ i (omega arith))) (way_yes (here op.Assign d i) (way_yes (targets_is c t d h) (way_yes (here op.Assign d i)
    (called refl _ f (assigned_go (past d) ts v f j s (and_expr acc t)) (given (ap (λ z. tree.assign z v) (exprs_more acc t ts)) refl))))))

first_target : (c : Cursor) (t : Expr) (d : Cursor) → IsTargets c t d → BeginsOp op.Assign d → (k : StmtKind) (x : Cursor) → descent (assigned (expr t no_exprs)) (past d) ≡ gives k x → descent simple_kind c ≡ gives k x
first_target c t d h i k x go = starts c (tests_begin c t d (targets_are_tests c t d h)) k x (found_by assignment c k x (called refl t d (complete_tests c t d (targets_are_tests c t d h) (stops_at 1 d _ i (omega arith))) (way_yes (here op.Assign d i) (way_yes (targets_is c t d h) (way_yes (here op.Assign d i) (called refl k x go (given refl refl)))))))

complete_assigned : (c : Cursor) (ts : Exprs) (v : Expr) (d : Cursor) → IsAssigned c ts v d → Ends d → descent simple_kind c ≡ gives (tree.assign ts v) d
complete_assigned c _ v f (assigned_last {d = d} {t = t} h i j) s = first_target c t d h i _ f (value_go (past d) v f j s (expr t no_exprs))
complete_assigned c _ v f (assigned_more {d = d} {t = t} {ts = ts} h i j) s = first_target c t d h i _ f (assigned_go (past d) ts v f j s (expr t no_exprs))

augment_no_assign : (t : Op) (o : BinOp) → IsAugmenting t o → is (symbol op.Assign) (kind.Op t) ≡ false
augment_no_assign _ _ Operators.augmenting_add = refl
augment_no_assign _ _ Operators.augmenting_sub = refl
augment_no_assign _ _ Operators.augmenting_mul = refl
augment_no_assign _ _ Operators.augmenting_div = refl
augment_no_assign _ _ Operators.augmenting_floor_div = refl
augment_no_assign _ _ Operators.augmenting_mod = refl
augment_no_assign _ _ Operators.augmenting_mat_mul = refl
augment_no_assign _ _ Operators.augmenting_and = refl
augment_no_assign _ _ Operators.augmenting_or = refl
augment_no_assign _ _ Operators.augmenting_xor = refl
augment_no_assign _ _ Operators.augmenting_shift_right = refl
augment_no_assign _ _ Operators.augmenting_shift_left = refl
augment_no_assign _ _ Operators.augmenting_pow = refl

augment_no_pull : (t : Op) (o : BinOp) → IsAugmenting t o → op_pull t ≡ 0
augment_no_pull _ _ Operators.augmenting_add = refl
augment_no_pull _ _ Operators.augmenting_sub = refl
augment_no_pull _ _ Operators.augmenting_mul = refl
augment_no_pull _ _ Operators.augmenting_div = refl
augment_no_pull _ _ Operators.augmenting_floor_div = refl
augment_no_pull _ _ Operators.augmenting_mod = refl
augment_no_pull _ _ Operators.augmenting_mat_mul = refl
augment_no_pull _ _ Operators.augmenting_and = refl
augment_no_pull _ _ Operators.augmenting_or = refl
augment_no_pull _ _ Operators.augmenting_xor = refl
augment_no_pull _ _ Operators.augmenting_shift_right = refl
augment_no_pull _ _ Operators.augmenting_shift_left = refl
augment_no_pull _ _ Operators.augmenting_pow = refl

negated : (b : Bool) → b ≡ false → not b ≡ true
negated true h = absurd cc
negated false h = refl

target_begins : (c : Cursor) (e : Expr) (d : Cursor) → IsTarget c e d → begins_test c ≡ true
target_begins c e d h = opens_begins c (primary_begins c e d (target_primary c e d h))

complete_augment : (c : Cursor) (e : Expr) (d : Cursor) (t : Op) (o : BinOp) (v : Expr) (f : Cursor) → IsTarget c e d → is_plural e ≡ false → BeginsOp t d → IsAugmenting t o → IsTests (past d) v f → Ends f → descent simple_kind c ≡ gives (tree.augment e o v) f
complete_augment c e d t o v f h p i j k s =
    starts c (target_begins c e d h) _ f (found_by assignment c _ f (called refl e d (complete_tests c e d (targets_are_tests c e d (targets_one h)) (stops_at 1 d _ i (omega (arith, augment_no_pull t o j))))
    (way_no (at_is (symbol op.Assign) d _ i ∙ augment_no_assign t o j) (told o (said_is augment_in d _ i ∙ augment_from o t j) (way_yes (both _ _ (target_is c e d h) (negated _ p)) (called refl v f (complete_tests (past d) v f k (ends_stop f s)) (given refl refl)))))))

-- a name stands before what follows a single target
before : (c : Cursor) → kind_in (slice_get c.tokens ((c.place + 1) - 1)) ≡ next c
before c = let same : (c.place + 1) - 1 ≡ c.place = omega arith in ap (λ p. kind_in (slice_get c.tokens p)) same

single_ends : (c : Cursor) (e : Expr) (d : Cursor) → IsSingle c e d → after_name d ≡ true
unfolding after_name
single_ends c _ _ (single_name {n = n} h) = ap is_name_in (before c ∙ h.name.begins)
single_ends c _ _ (single_attr {d = d} {n = n} h i j) = ap is_name_in (before (past d) ∙ j.name.begins)

single_is : (c : Cursor) (e : Expr) (d : Cursor) → IsSingle c e d → is_single e ≡ true
single_is c _ _ (single_name h) = refl
single_is c _ _ (single_attr h i j) = refl

annotated_start : (c : Cursor) (e : Expr) (d : Cursor) → IsSingle c e d → BeginsOp op.Colon d → (k : StmtKind) (x : Cursor) → descent (annotated e) (past d) ≡ gives k x → descent simple_kind c ≡ gives k x
annotated_start c e d h i k x go = starts c (target_begins c e d (target_single h)) k x (found_by assignment c k x (called refl e d (complete_tests c e d (targets_are_tests c e d (targets_one (target_single h))) (stops_at 1 d _ i (omega arith)))
    (way_no (at_is (symbol op.Assign) d _ i) (untold (said_is augment_in d _ i) (way_yes (here op.Colon d i) (way_yes (both _ _ (single_is c e d h) (single_ends c e d h)) (called refl k x go (given refl refl))))))))

froms_no_paren : (c : Cursor) (ps : List FromPart) (d : Cursor) → AreFrom c ps d → at (symbol op.LeftParen) c ≡ false
froms_no_paren c _ d (froms_one (from_name h)) = at_is (symbol op.LeftParen) c _ h.begins
froms_no_paren c _ d (froms_one (from_as h i j)) = at_is (symbol op.LeftParen) c _ h.begins
froms_no_paren c _ d (froms_more (from_name h) i j) = at_is (symbol op.LeftParen) c _ h.begins
froms_no_paren c _ d (froms_more (from_as h k l) i j) = at_is (symbol op.LeftParen) c _ h.begins

-- ---- Simple statements

pub complete_simple : (c : Cursor) (k : StmtKind) (d : Cursor) → IsSimple c k d → Ends d → descent simple_kind c ≡ gives k d
complete_simple c _ _ (simple_pass h) s = found_by simple_kind c _ _ (way_yes (here_word word.KwPass c h) (given refl refl))
complete_simple c _ _ (simple_break h) s = found_by simple_kind c _ _ (way_no (at_is (keyword word.KwPass) c _ h) (way_yes (here_word word.KwBreak c h) (given refl refl)))
complete_simple c _ _ (simple_continue h) s = found_by simple_kind c _ _ (way_no (at_is (keyword word.KwPass) c _ h) (way_no (at_is (keyword word.KwBreak) c _ h) (way_yes (here_word word.KwContinue c h) (given refl refl))))
complete_simple c _ _ (simple_ellipsis h) s = found_by simple_kind c _ _ (way_no (at_is (keyword word.KwPass) c _ h) (way_no (at_is (keyword word.KwBreak) c _ h) (way_no (at_is (keyword word.KwContinue) c _ h) (way_yes (here op.Ellipsis c h) (given refl refl)))))
complete_simple c _ _ (simple_return h) s = found_by simple_kind c _ _ (way_no (at_is (keyword word.KwPass) c _ h) (way_no (at_is (keyword word.KwBreak) c _ h) (way_no (at_is (keyword word.KwContinue) c _ h) (way_no (at_is (symbol op.Ellipsis) c _ h) (way_yes (here_word word.KwReturn c h) (called refl _ _ (found_by return_rest (past c) _ _ (way_no (no_test (past c) (ends_stop (past c) s)) (given refl refl))) (given refl refl)))))))
complete_simple c _ d (simple_return_value {e = e} h i) s = found_by simple_kind c _ _ (way_no (at_is (keyword word.KwPass) c _ h) (way_no (at_is (keyword word.KwBreak) c _ h) (way_no (at_is (keyword word.KwContinue) c _ h) (way_no (at_is (symbol op.Ellipsis) c _ h) (way_yes (here_word word.KwReturn c h) (called refl _ _ (found_by return_rest (past c) _ _ (way_yes (tests_begin (past c) e d i) (called refl e d (complete_tests (past c) e d i (ends_stop d s)) (given refl refl)))) (given refl refl)))))))
complete_simple c _ _ (simple_raise h) s = found_by simple_kind c _ _ (way_no (at_is (keyword word.KwPass) c _ h) (way_no (at_is (keyword word.KwBreak) c _ h) (way_no (at_is (keyword word.KwContinue) c _ h) (way_no (at_is (symbol op.Ellipsis) c _ h) (way_no (at_is (keyword word.KwReturn) c _ h) (way_yes (here_word word.KwRaise c h) (called refl _ _ (found_by raise_rest (past c) _ _ (way_no (no_test (past c) (ends_stop (past c) s)) (given refl refl))) (given refl refl))))))))
complete_simple c _ d (simple_raise_value {e = e} h i) s = found_by simple_kind c _ _ (way_no (at_is (keyword word.KwPass) c _ h) (way_no (at_is (keyword word.KwBreak) c _ h) (way_no (at_is (keyword word.KwContinue) c _ h) (way_no (at_is (symbol op.Ellipsis) c _ h) (way_no (at_is (keyword word.KwReturn) c _ h) (way_yes (here_word word.KwRaise c h) (called refl _ _ (found_by raise_rest (past c) _ _ (way_yes (test_begins (past c) e d i) (called refl e d (complete_test (past c) e d i (stops_less 1 2 d (omega arith) (ends_stop d s))) (way_no (ends_no_word word.KwFrom d s) (given refl refl))))) (given refl refl))))))))
complete_simple c _ f (simple_raise_from {d = d} {e = e} {o = o} h i j k) s = found_by simple_kind c _ _ (way_no (at_is (keyword word.KwPass) c _ h) (way_no (at_is (keyword word.KwBreak) c _ h) (way_no (at_is (keyword word.KwContinue) c _ h) (way_no (at_is (symbol op.Ellipsis) c _ h) (way_no (at_is (keyword word.KwReturn) c _ h) (way_yes (here_word word.KwRaise c h) (called refl _ _ (found_by raise_rest (past c) _ _ (way_yes (test_begins (past c) e d i) (called refl e d (complete_test (past c) e d i (stops_at 2 d _ j (omega arith))) (way_yes (here_word word.KwFrom d j) (called refl o f (complete_test (past d) o f k (stops_less 1 2 f (omega arith) (ends_stop f s))) (given refl refl)))))) (given refl refl))))))))
complete_simple c _ d (simple_assert {e = e} h i) s = found_by simple_kind c _ _ (way_no (at_is (keyword word.KwPass) c _ h) (way_no (at_is (keyword word.KwBreak) c _ h) (way_no (at_is (keyword word.KwContinue) c _ h) (way_no (at_is (symbol op.Ellipsis) c _ h) (way_no (at_is (keyword word.KwReturn) c _ h) (way_no (at_is (keyword word.KwRaise) c _ h) (way_yes (here_word word.KwAssert c h) (called refl _ _ (found_by assert_rest (past c) _ _ (called refl e d (complete_test (past c) e d i (stops_less 1 2 d (omega arith) (ends_stop d s))) (way_no (ends_no op.Comma d s refl) (given refl refl)))) (given refl refl)))))))))
complete_simple c _ f (simple_assert_message {d = d} {e = e} {o = o} h i j k) s = found_by simple_kind c _ _ (way_no (at_is (keyword word.KwPass) c _ h) (way_no (at_is (keyword word.KwBreak) c _ h) (way_no (at_is (keyword word.KwContinue) c _ h) (way_no (at_is (symbol op.Ellipsis) c _ h) (way_no (at_is (keyword word.KwReturn) c _ h) (way_no (at_is (keyword word.KwRaise) c _ h) (way_yes (here_word word.KwAssert c h) (called refl _ _ (found_by assert_rest (past c) _ _ (called refl e d (complete_test (past c) e d i (stops_at 2 d _ j (omega arith))) (way_yes (here op.Comma d j) (called refl o f (complete_test (past d) o f k (stops_less 1 2 f (omega arith) (ends_stop f s))) (given refl refl))))) (given refl refl)))))))))
complete_simple c _ d (simple_import {ps = ps} h i) s = found_by simple_kind c _ _ (way_no (at_is (keyword word.KwPass) c _ h) (way_no (at_is (keyword word.KwBreak) c _ h) (way_no (at_is (keyword word.KwContinue) c _ h) (way_no (at_is (symbol op.Ellipsis) c _ h) (way_no (at_is (keyword word.KwReturn) c _ h) (way_no (at_is (keyword word.KwRaise) c _ h) (way_no (at_is (keyword word.KwAssert) c _ h) (way_yes (here_word word.KwImport c h) (called refl ps d (imports_go (past c) ps d i s []) (given refl refl))))))))))
complete_simple c _ f (simple_from {d = d} {ns = ns} {ps = ps} h i j k) s = found_by simple_kind c _ _ (way_no (at_is (keyword word.KwPass) c _ h) (way_no (at_is (keyword word.KwBreak) c _ h) (way_no (at_is (keyword word.KwContinue) c _ h) (way_no (at_is (symbol op.Ellipsis) c _ h) (way_no (at_is (keyword word.KwReturn) c _ h) (way_no (at_is (keyword word.KwRaise) c _ h) (way_no (at_is (keyword word.KwAssert) c _ h) (way_no (at_is (keyword word.KwImport) c _ h) (way_yes (here_word word.KwFrom c h) (called refl _ _ (found_by from_rest (past c) _ _ (called refl ns d (complete_dotted (past c) ns d i (at_is (symbol op.Dot) d _ j)) (way_yes (here_word word.KwImport d j) (way_no (froms_no_paren (past d) ps f k) (called refl ps f (froms_go false (past d) ps f k (ends_no_word word.KwAs f s) (ends_no op.Comma f s refl) []) (given refl refl)))))) (given refl refl)))))))))))
complete_simple c _ _ (simple_from_group {d = d} {f = f} {ns = ns} {ps = ps} h i j k l m) s = found_by simple_kind c _ _ (way_no (at_is (keyword word.KwPass) c _ h) (way_no (at_is (keyword word.KwBreak) c _ h) (way_no (at_is (keyword word.KwContinue) c _ h) (way_no (at_is (symbol op.Ellipsis) c _ h) (way_no (at_is (keyword word.KwReturn) c _ h) (way_no (at_is (keyword word.KwRaise) c _ h) (way_no (at_is (keyword word.KwAssert) c _ h) (way_no (at_is (keyword word.KwImport) c _ h) (way_yes (here_word word.KwFrom c h) (called refl _ _ (found_by from_rest (past c) _ _ (called refl ns d (complete_dotted (past c) ns d i (at_is (symbol op.Dot) d _ j)) (way_yes (here_word word.KwImport d j) (way_yes (here op.LeftParen (past d) k) (called refl ps f (froms_go true (past_two d) ps f l (at_is (keyword word.KwAs) f _ m) (at_is (symbol op.Comma) f _ m) []) (way_yes (here op.RightParen f m) (given refl refl))))))) (given refl refl)))))))))))
complete_simple c _ _ (simple_from_comma {d = d} {f = f} {ns = ns} {ps = ps} h i j k l m n) s = found_by simple_kind c _ _ (way_no (at_is (keyword word.KwPass) c _ h) (way_no (at_is (keyword word.KwBreak) c _ h) (way_no (at_is (keyword word.KwContinue) c _ h) (way_no (at_is (symbol op.Ellipsis) c _ h) (way_no (at_is (keyword word.KwReturn) c _ h) (way_no (at_is (keyword word.KwRaise) c _ h) (way_no (at_is (keyword word.KwAssert) c _ h) (way_no (at_is (keyword word.KwImport) c _ h) (way_yes (here_word word.KwFrom c h) (called refl _ _ (found_by from_rest (past c) _ _ (called refl ns d (complete_dotted (past c) ns d i (at_is (symbol op.Dot) d _ j)) (way_yes (here_word word.KwImport d j) (way_yes (here op.LeftParen (past d) k) (called refl ps (past f) (froms_comma_go (past_two d) ps f l m n []) (way_yes (here op.RightParen (past f) n) (given refl refl))))))) (given refl refl)))))))))))
complete_simple c _ d (simple_assign {ts = ts} {v = v} h) s = complete_assigned c ts v d h s
complete_simple c _ f (simple_augment {d = d} {e = e} {v = v} {t = t} {o = o} h p i j k) s = complete_augment c e d t o v f h p i j k s
complete_simple c _ f (simple_annotated {d = d} {e = e} h i j) s = annotated_start c e d h i _ f (found_by (annotated e) (past d) _ f (called refl tt f (complete_annotation (past d) f j (stops_less 1 6 f (omega arith) (ends_stop f s))) (way_no (ends_no op.Assign f s refl) (given refl refl))))
complete_simple c _ g (simple_annotated_value {d = d} {f = f} {e = e} {v = v} h i j k l) s = annotated_start c e d h i _ g (found_by (annotated e) (past d) _ g (called refl tt f (complete_annotation (past d) f j (stops_at 6 f _ k (omega arith))) (way_yes (here op.Assign f k) (called refl v g (complete_tests (past f) v g l (ends_stop g s)) (given refl refl)))))
complete_simple c _ d (simple_expression {e = e} h) s = starts c (tests_begin c e d h) _ d (found_by assignment c _ d (called refl e d (complete_tests c e d h (ends_stop d s)) (way_no (ends_no op.Assign d s refl) (untold (ends_no_augment d s) (way_no (ends_no op.Colon d s refl) (given refl refl))))))

-- ---- What a line begins with

-- what a simple statement begins with
abbrev pub starts_kind : TokenKind → Bool
starts_kind (kind.Keyword word.KwPass) = true
starts_kind (kind.Keyword word.KwBreak) = true
starts_kind (kind.Keyword word.KwContinue) = true
starts_kind (kind.Keyword word.KwReturn) = true
starts_kind (kind.Keyword word.KwRaise) = true
starts_kind (kind.Keyword word.KwAssert) = true
starts_kind (kind.Keyword word.KwImport) = true
starts_kind (kind.Keyword word.KwFrom) = true
starts_kind (kind.Op op.Ellipsis) = true
starts_kind k = begins_in (Some k)

expression_starts : (k : TokenKind) → begins_in (Some k) ≡ true → starts_kind k ≡ true
expression_starts (kind.Name n) h = h
expression_starts (kind.Int n) h = h
expression_starts kind.Float h = h
expression_starts kind.Imaginary h = h
expression_starts (kind.Str b) h = h
expression_starts (kind.Bytes b) h = h
expression_starts kind.Newline h = h
expression_starts kind.Indent h = h
expression_starts kind.Dedent h = h
expression_starts kind.End h = h
expression_starts (kind.Keyword word.KwFalse) h = h
expression_starts (kind.Keyword word.KwNone) h = h
expression_starts (kind.Keyword word.KwTrue) h = h
expression_starts (kind.Keyword word.KwAnd) h = h
expression_starts (kind.Keyword word.KwAs) h = h
expression_starts (kind.Keyword word.KwAssert) h = refl
expression_starts (kind.Keyword word.KwAsync) h = h
expression_starts (kind.Keyword word.KwAwait) h = h
expression_starts (kind.Keyword word.KwBreak) h = refl
expression_starts (kind.Keyword word.KwClass) h = h
expression_starts (kind.Keyword word.KwContinue) h = refl
expression_starts (kind.Keyword word.KwDef) h = h
expression_starts (kind.Keyword word.KwDel) h = h
expression_starts (kind.Keyword word.KwElif) h = h
expression_starts (kind.Keyword word.KwElse) h = h
expression_starts (kind.Keyword word.KwExcept) h = h
expression_starts (kind.Keyword word.KwFinally) h = h
expression_starts (kind.Keyword word.KwFor) h = h
expression_starts (kind.Keyword word.KwFrom) h = refl
expression_starts (kind.Keyword word.KwGlobal) h = h
expression_starts (kind.Keyword word.KwIf) h = h
expression_starts (kind.Keyword word.KwImport) h = refl
expression_starts (kind.Keyword word.KwIn) h = h
expression_starts (kind.Keyword word.KwIs) h = h
expression_starts (kind.Keyword word.KwLambda) h = h
expression_starts (kind.Keyword word.KwNonlocal) h = h
expression_starts (kind.Keyword word.KwNot) h = h
expression_starts (kind.Keyword word.KwOr) h = h
expression_starts (kind.Keyword word.KwPass) h = refl
expression_starts (kind.Keyword word.KwRaise) h = refl
expression_starts (kind.Keyword word.KwReturn) h = refl
expression_starts (kind.Keyword word.KwTry) h = h
expression_starts (kind.Keyword word.KwWhile) h = h
expression_starts (kind.Keyword word.KwWith) h = h
expression_starts (kind.Keyword word.KwYield) h = h
expression_starts (kind.Op op.Plus) h = h
expression_starts (kind.Op op.Minus) h = h
expression_starts (kind.Op op.Star) h = h
expression_starts (kind.Op op.DoubleStar) h = h
expression_starts (kind.Op op.Slash) h = h
expression_starts (kind.Op op.DoubleSlash) h = h
expression_starts (kind.Op op.Percent) h = h
expression_starts (kind.Op op.At) h = h
expression_starts (kind.Op op.ShiftLeft) h = h
expression_starts (kind.Op op.ShiftRight) h = h
expression_starts (kind.Op op.Amper) h = h
expression_starts (kind.Op op.Bar) h = h
expression_starts (kind.Op op.Caret) h = h
expression_starts (kind.Op op.Tilde) h = h
expression_starts (kind.Op op.Less) h = h
expression_starts (kind.Op op.Greater) h = h
expression_starts (kind.Op op.LessEq) h = h
expression_starts (kind.Op op.GreaterEq) h = h
expression_starts (kind.Op op.EqEq) h = h
expression_starts (kind.Op op.NotEq) h = h
expression_starts (kind.Op op.LeftParen) h = h
expression_starts (kind.Op op.RightParen) h = h
expression_starts (kind.Op op.LeftSquare) h = h
expression_starts (kind.Op op.RightSquare) h = h
expression_starts (kind.Op op.LeftBrace) h = h
expression_starts (kind.Op op.RightBrace) h = h
expression_starts (kind.Op op.Comma) h = h
expression_starts (kind.Op op.Colon) h = h
expression_starts (kind.Op op.Dot) h = h
expression_starts (kind.Op op.Semi) h = h
expression_starts (kind.Op op.Assign) h = h
expression_starts (kind.Op op.Arrow) h = h
expression_starts (kind.Op op.Walrus) h = h
expression_starts (kind.Op op.Ellipsis) h = refl
expression_starts (kind.Op op.PlusAssign) h = h
expression_starts (kind.Op op.MinusAssign) h = h
expression_starts (kind.Op op.StarAssign) h = h
expression_starts (kind.Op op.SlashAssign) h = h
expression_starts (kind.Op op.DoubleSlashAssign) h = h
expression_starts (kind.Op op.PercentAssign) h = h
expression_starts (kind.Op op.AtAssign) h = h
expression_starts (kind.Op op.AmperAssign) h = h
expression_starts (kind.Op op.BarAssign) h = h
expression_starts (kind.Op op.CaretAssign) h = h
expression_starts (kind.Op op.ShiftRightAssign) h = h
expression_starts (kind.Op op.ShiftLeftAssign) h = h
expression_starts (kind.Op op.DoubleStarAssign) h = h

test_first : (c : Cursor) → begins_test c ≡ true → First starts_kind c
unfolding begins_test
test_first c h = by_kind (next c) refl h where
  by_kind : (k : Option TokenKind) → next c ≡ k → begins_in k ≡ true → First starts_kind c
  by_kind None e g = absurd cc
  by_kind (Some k) e g = first k e (expression_starts k g)

pub simple_first : (c : Cursor) (k : StmtKind) (d : Cursor) → IsSimple c k d → First starts_kind c
simple_first c _ _ (simple_pass h) = first _ h refl
simple_first c _ _ (simple_break h) = first _ h refl
simple_first c _ _ (simple_continue h) = first _ h refl
simple_first c _ _ (simple_ellipsis h) = first _ h refl
simple_first c _ _ (simple_return h) = first _ h refl
simple_first c _ _ (simple_return_value h i) = first _ h refl
simple_first c _ _ (simple_raise h) = first _ h refl
simple_first c _ _ (simple_raise_value h i) = first _ h refl
simple_first c _ _ (simple_raise_from h i j k) = first _ h refl
simple_first c _ _ (simple_assert h i) = first _ h refl
simple_first c _ _ (simple_assert_message h i j k) = first _ h refl
simple_first c _ _ (simple_import h i) = first _ h refl
simple_first c _ _ (simple_from h i j k) = first _ h refl
simple_first c _ _ (simple_from_group h i j k l m) = first _ h refl
simple_first c _ _ (simple_from_comma h i j k l m n) = first _ h refl
simple_first c _ d (simple_assign {ts = ts} {v = v} h) = assigned_first c ts v d h where
  assigned_first : (c : Cursor) (ts : Exprs) (v : Expr) (d : Cursor) → IsAssigned c ts v d → First starts_kind c
  assigned_first c _ v f (assigned_last {d = d} {t = t} h i j) = test_first c (tests_begin c t d (targets_are_tests c t d h))
  assigned_first c _ v f (assigned_more {d = d} {t = t} h i j) = test_first c (tests_begin c t d (targets_are_tests c t d h))
simple_first c _ _ (simple_augment {d = d} {e = e} h p i j k) = test_first c (target_begins c e d h)
simple_first c _ _ (simple_annotated {d = d} {e = e} h i j) = test_first c (target_begins c e d (target_single h))
simple_first c _ _ (simple_annotated_value {d = d} {e = e} h i j k l) = test_first c (target_begins c e d (target_single h))
simple_first c _ d (simple_expression {e = e} h) = test_first c (tests_begin c e d h)

pub line_first : (c : Cursor) (ss : Stmts) (d : Cursor) → IsLine c ss d → First starts_kind c
line_first c _ _ (line_last {d = d} {s = k} h i) = simple_first c k d h
line_first c _ _ (line_semi {d = d} {s = k} h i j) = simple_first c k d h
line_first c _ _ (line_more {d = d} {s = k} h i j) = simple_first c k d h

in_first : (TokenKind → Bool) → Option TokenKind → Bool
in_first f None = false
in_first f (Some k) = f k

-- a token of another kind doesn't stand where one of these is first
pub first_not : (f : TokenKind → Bool) (c : Cursor) (k : TokenKind) → First f c → f k ≡ false → next c ≡ Some k → ⊥
first_not f c k (first l h o) other e = let same : l ≡ k = by_some (sym h ∙ e) in differs (sym o ∙ (ap f same ∙ other)) where
  by_some : Some l ≡ Some k → l ≡ k
  by_some q = cc

  differs : true ≡ false → ⊥
  differs g = cc

pub line_no_newline : (c : Cursor) (ss : Stmts) (d : Cursor) → IsLine c ss d → at newline c ≡ false
line_no_newline c ss d h = by_test (at newline c) refl where
  by_test : (z : Bool) → at newline c ≡ z → z ≡ false
  by_test true e = absurd (first_not starts_kind c kind.Newline (line_first c ss d h) refl (at_newline c e))
  by_test false e = refl

-- ---- Lines

pub stmts_one : (ss : Stmts) (s : Stmt) → then_all ss (stmt s no_stmts) ≡ and_stmt ss s
stmts_one no_stmts s = refl
stmts_one (stmt x ss) s = ap (stmt x) (stmts_one ss s)

pub stmts_more : (ss : Stmts) (s : Stmt) (ts : Stmts) → then_all (and_stmt ss s) ts ≡ then_all ss (stmt s ts)
stmts_more no_stmts s ts = refl
stmts_more (stmt x ss) s ts = ap (stmt x) (stmts_more ss s ts)

pub found_simple : (c : Cursor) (k : StmtKind) (d : Cursor) → IsSimple c k d → Ends d → descent simple c ≡ gives (stated k c) d
found_simple c k d h s = found_by simple c _ d (called refl k d (complete_simple c k d h s) (given refl refl))

pub line_goes : (c : Cursor) (ss : Stmts) (d : Cursor) → IsLine c ss d → (acc : Stmts) → descent (line acc) c ≡ gives (then_all acc ss) d
line_goes c _ _ (line_last {d = d} {s = k} h i) acc = found_by (line acc) c _ _ (called refl _ d (found_simple c k d h (ends_newline i)) (way_no (at_is (symbol op.Semi) d _ i) (way_yes (at_is newline d _ i) (given (sym (stmts_one acc _)) refl))))
line_goes c _ _ (line_semi {d = d} {s = k} h i j) acc = found_by (line acc) c _ _ (called refl _ d (found_simple c k d h (ends_semi i)) (way_yes (here op.Semi d i) (way_yes (at_is newline (past d) _ j) (given (sym (stmts_one acc _)) refl))))
line_goes c _ f (line_more {d = d} {s = k} {ss = ss} h i j) acc = found_by (line acc) c _ _ (called refl _ d (found_simple c k d h (ends_semi i)) (way_yes (here op.Semi d i) (way_no (line_no_newline (past d) ss f j) (called refl _ f (line_goes (past d) ss f j (and_stmt acc (stated k c))) (given (stmts_more acc (stated k c) ss) refl)))))
