-- Where the grammar has targets or an annotation, the descent finds them.
use Rattle.std.proofs.Common.{◌≡◌, ℕ, zero, suc, ◌+◌, ◌-◌, ◌<◌, ◌≤◌, ◌&&◌, ◌||◌, ◌==◌, nat_lt, not, if◌then◌else◌, Bool, true, false, List, [], ◌∷◌, ◌++◌, slice_get, Option, Some, None, refl, sym, ap, ◌∙◌, subst, arith}
use Rattle.std.specs.Option.{is_some}
use Rattle.place_ids.specs.declared.operators.BinOp.{BinOp}
use Rattle.py_tokens.specs.declared.token.Token.{Token}
use Rattle.py_tokens.specs.declared.token.TokenKind.{TokenKind}
use Rattle.py_tokens.specs.declared.token.TokenKind.TheVariants as kind
use Rattle.py_tokens.specs.declared.token.Keyword.{Keyword}
use Rattle.py_tokens.specs.declared.token.Keyword.TheVariants as word
use Rattle.py_tokens.specs.declared.token.Op.{Op}
use Rattle.py_tokens.specs.declared.token.Op.TheVariants as op
use Rattle.py_tree.specs.declared.literal.Literal.{Literal}
use Rattle.py_tree.specs.declared.literal.Literal.TheVariants as lit
use Rattle.py_tree.specs.Tree as tree
use Rattle.py_tree.specs.Tree.{Expr, node, Exprs, no_exprs, expr, ImportPart, FromPart, Param, Stmt, statement as stated_as, StmtKind, Stmts, no_stmts, stmt, Arms, no_arms, arm, Handlers, no_handlers, handler, FunDef, fun_def, ClassDef, class_def, Member, Members, no_members, member}
use Rattle.py_grammar.specs.Cursor.{Cursor, next, kind_in, Begins, BeginsOp, BeginsWord, line_of, past, past_two, with_site, with_fun, with_class, within, made, stated}
use Rattle.py_grammar.specs.Names.{IsName, IsPlainName, IsVariable}
use Rattle.py_grammar.specs.Operators.{IsAugmenting}
use Rattle.py_grammar.specs.Expressions
use Rattle.py_grammar.specs.Expressions.{AreStrs, AreOctets, IsTest, test_or, or_and, and_not, not_compare, compare_one, IsOperation, operation_factor, operation_next, factor_power, power_primary, IsPrimary, primary_atom, primary_attr, primary_item, IsAtom, atom_name, atom_group, atom_list, AreTests, tests_last, tests_comma, tests_more, IsTests, tests_one, tests_single, tests_tuple}
use Rattle.py_grammar.specs.Statements
use Rattle.py_grammar.specs.Statements.{AreDots, dots_none, dots_more, IsDotted, IsAnnotation, annotation_one, annotation_more, IsPart, part_name, part_items, part_strs, part_none, AreItems, items_last, items_comma, items_more, IsItem, item_annotation, item_ellipsis, item_empty, item_list, IsHint, hint_none, hint_some, IsResult, result_none, result_some, IsSingle, single_name, single_attr, IsTarget, target_single, target_item, target_group, target_list, AreTargets, targets_last, targets_comma, targets_more, IsTargets, targets_one, targets_single, targets_tuple, is_plural, IsImport, import_name, import_as, AreImports, imports_one, imports_more, IsFrom, from_name, from_as, AreFrom, froms_one, froms_more, IsAssigned, assigned_last, assigned_more, IsSimple, simple_pass, simple_break, simple_continue, simple_ellipsis, simple_return, simple_return_value, simple_raise, simple_raise_value, simple_raise_from, simple_assert, simple_assert_message, simple_import, simple_from, simple_from_group, simple_from_comma, simple_assign, simple_augment, simple_annotated, simple_annotated_value, simple_expression, IsLine, line_last, line_semi, line_more, IsLiteral, literal_int, literal_minus_int, literal_float, literal_minus_float, literal_strs, literal_octets, literal_none, literal_true, literal_false, IsParam, param_plain, param_default, AreParams, params_none, params_last, params_more, IsBase, base_none, base_empty, base_name, IsMember, member_pass, member_ellipsis, member_strs, member_value, member_declared, member_declared_value, then_all}
use Rattle.py_descent.specs.Codes.{Mark, symbol, keyword, newline, indent, dedent, end, is, at}
use Rattle.py_descent.specs.Takings.{name_in, str_in, octets_in, number_in, negative_in, constant_in, augment_in, augment_of, is_name_in, begins_in, begins_test}
use Rattle.py_descent.specs.Goals.{Goal, Value, name, plain_name, dots, dotted, part, parts, annotation, item, items, hint, result, strings, octets, literal, super_rest, variable, atom, call_rest, subscript, slice, trailers, primary, power, factor, operations, operation, compare_operator, comparison, inversion, conjunctions, conjunction, disjunctions, disjunction, choice, test, tests_after, more_tests, tests, bounds, stride, argument, arguments, group, list_display, dict_display, pairs, import_part, imports, from_part, froms, return_rest, raise_rest, assert_rest, from_rest, assignment, assigned, annotated, simple_kind, simple, line, param, params, base, function, definition, class_rest, class_member, entry, class_body, entries, for_targets, more_targets, if_rest, while_rest, for_rest, try_rest, else_rest, caught, compound, block, elifs, handlers, statement, statements}
use Rattle.py_descent.specs.Programs.{Answer, gives, said, room}
use Rattle.py_descent.specs.Bodies.{and_expr, and_stmt, and_arm, and_handler, and_member, is_target, some_targets, are_targets, is_single, after_name, is_lone, at_close, begins_compound}
use Rattle.py_descent.specs.Descent.{descent}
use Rattle.py_descent.proofs.Seeing.{at_is, said_is, at_symbol, at_keyword, at_newline, at_indent, at_dedent, at_end, augment_from}
use Rattle.py_descent.proofs.Means.{way_yes, way_no, told, untold, given}
use Rattle.py_descent.proofs.Doing.{called, stepped, found_by}
use Rattle.py_descent.proofs.Unfold.{eaten, Shrinks, descent_shrinks}
use Rattle.py_descent.proofs.Stops.{Stops, pull, op_pull, stops_less, stops_at, no_symbol, no_keyword, no_str, no_octets}
use Rattle.py_descent.proofs.Begins.{First, first, opens, no_test, test_no_symbol, test_no_keyword, primary_begins, opens_begins, test_begins, tests_begin}
use Rattle.py_descent.proofs.Expressions.{here, here_word, complete_name, complete_plain, Strs, strs, strs_of, Octets, octs, octets_of, complete_test, complete_primary, tests_go, complete_tests, exprs_behind, exprs_one, exprs_more}

-- ---- Targets are expressions

primary_factor : (n : ℕ) (c : Cursor) (e : Expr) (d : Cursor) → IsPrimary c e d → IsOperation 6 c e d
primary_factor n c e d h = operation_factor (factor_power (power_primary h))

primary_test : (c : Cursor) (e : Expr) (d : Cursor) → IsPrimary c e d → IsTest c e d
primary_test c e d h = test_or (or_and (and_not (not_compare (compare_one (operation_next (operation_next (operation_next (operation_next (operation_next (operation_next (operation_factor (factor_power (power_primary h)))))))))))))

pub single_primary : (c : Cursor) (e : Expr) (d : Cursor) → IsSingle c e d → IsPrimary c e d
single_primary c _ _ (single_name h) = primary_atom (atom_name h)
single_primary c _ _ (single_attr h i j) = primary_attr h i j

mutual
  pub target_primary : (c : Cursor) (e : Expr) (d : Cursor) → IsTarget c e d → IsPrimary c e d
  target_primary c e d (target_single h) = single_primary c e d h
  target_primary c _ _ (target_item h i j k) = primary_item h i j k
  target_primary c _ _ (target_group h i j) = primary_atom (atom_group h (targets_are_tests _ _ _ i) j)
  target_primary c _ _ (target_list h i j) = primary_atom (atom_list h (each_target_test _ _ _ i) j)

  each_target_test : (c : Cursor) (es : Exprs) (d : Cursor) → AreTargets c es d → AreTests c es d
  each_target_test c _ d (targets_last {e = e} h) = tests_last (primary_test c e d (target_primary c e d h))
  each_target_test c _ _ (targets_comma {d = d} {e = e} h i) = tests_comma (primary_test c e d (target_primary c e d h)) i
  each_target_test c _ f (targets_more {d = d} {e = e} h i j) = tests_more (primary_test c e d (target_primary c e d h)) i (each_target_test _ _ f j)

  pub targets_are_tests : (c : Cursor) (e : Expr) (d : Cursor) → IsTargets c e d → IsTests c e d
  targets_are_tests c e d (targets_one h) = tests_one (primary_test c e d (target_primary c e d h))
  targets_are_tests c _ _ (targets_single {d = d} {e = e} h i) = tests_single (primary_test c e d (target_primary c e d h)) i
  targets_are_tests c _ _ (targets_tuple {d = d} {f = f} {e = e} h i j) = tests_tuple (primary_test c e d (target_primary c e d h)) i (each_target_test _ _ f j)

pub both : (a b : Bool) → a ≡ true → b ≡ true → (a && b) ≡ true
both true b h k = k
both false b h k = h

mutual
  unfolding is_target

  pub target_is : (c : Cursor) (e : Expr) (d : Cursor) → IsTarget c e d → is_target e ≡ true
  target_is _ _ _ (target_single (single_name h)) = refl
  target_is _ _ _ (target_single (single_attr h i j)) = refl
  target_is _ _ _ (target_item h i j k) = refl
  target_is _ _ _ (target_group h i j) = targets_is _ _ _ i
  target_is _ _ _ (target_list h i j) = some_targets_are _ _ _ i

  all_targets_are : (c : Cursor) (es : Exprs) (d : Cursor) → AreTargets c es d → are_targets es ≡ true
  all_targets_are _ _ _ (targets_last h) = both _ _ (target_is _ _ _ h) refl
  all_targets_are _ _ _ (targets_comma h i) = both _ _ (target_is _ _ _ h) refl
  all_targets_are _ _ _ (targets_more h i j) = both _ _ (target_is _ _ _ h) (all_targets_are _ _ _ j)

  some_targets_are : (c : Cursor) (es : Exprs) (d : Cursor) → AreTargets c es d → some_targets es ≡ true
  some_targets_are _ _ _ (targets_last h) = both _ _ (target_is _ _ _ h) refl
  some_targets_are _ _ _ (targets_comma h i) = both _ _ (target_is _ _ _ h) refl
  some_targets_are _ _ _ (targets_more h i j) = both _ _ (target_is _ _ _ h) (all_targets_are _ _ _ j)

  pub targets_is : (c : Cursor) (e : Expr) (d : Cursor) → IsTargets c e d → is_target e ≡ true
  targets_is _ _ _ (targets_one h) = target_is _ _ _ h
  targets_is _ _ _ (targets_single h i) = both _ _ (target_is _ _ _ h) refl
  targets_is _ _ _ (targets_tuple h i j) = both _ _ (target_is _ _ _ h) (all_targets_are _ _ _ j)

-- ---- Where a simple statement ends

pub data Ends (c : Cursor) : Type 0 where
  ends_newline : Begins kind.Newline c → Ends c
  ends_semi : BeginsOp op.Semi c → Ends c

pub ends_stop : (c : Cursor) → Ends c → Stops 1 c
ends_stop c (ends_newline h) = stops_at 1 c _ h (omega arith)
ends_stop c (ends_semi h) = stops_at 1 c _ h (omega arith)

pub ends_no : (o : Op) (c : Cursor) → Ends c → is (symbol o) (kind.Op op.Semi) ≡ false → at (symbol o) c ≡ false
ends_no o c (ends_newline h) k = at_is (symbol o) c _ h
ends_no o c (ends_semi h) k = at_is (symbol o) c _ h ∙ k

pub ends_no_word : (w : Keyword) (c : Cursor) → Ends c → at (keyword w) c ≡ false
ends_no_word w c (ends_newline h) = at_is (keyword w) c _ h
ends_no_word w c (ends_semi h) = at_is (keyword w) c _ h

pub ends_no_augment : (c : Cursor) → Ends c → said augment_in c ≡ None
ends_no_augment c (ends_newline h) = said_is augment_in c _ h
ends_no_augment c (ends_semi h) = said_is augment_in c _ h

-- ---- Dotted names and annotations

pub append_none : (xs : List ℕ) → xs ++ [] ≡ xs
append_none [] = refl
append_none (x ∷ xs) = ap (λ ys. x ∷ ys) (append_none xs)

pub append_one : {A : Type 0} (xs : List A) (y : A) (ys : List A) → (xs ++ y ∷ []) ++ ys ≡ xs ++ y ∷ ys
append_one [] y ys = refl
append_one (x ∷ xs) y ys = ap (λ zs. x ∷ zs) (append_one xs y ys)

dots_go : (c : Cursor) (ns : List ℕ) (d : Cursor) → AreDots c ns d → at (symbol op.Dot) d ≡ false → (acc : List ℕ) → descent (dots acc) c ≡ gives (acc ++ ns) d
dots_go c _ _ dots_none other acc = found_by (dots acc) c _ _ (way_no other (given (sym (append_none acc)) refl))
dots_go c _ d (dots_more {n = n} {ns = ns} h i j) other acc = found_by (dots acc) c _ _ (way_yes (here op.Dot c h) (called refl n (past_two c) (complete_plain (past c) n i)
    (called refl _ d (dots_go (past_two c) ns d j other (acc ++ n ∷ [])) (given (append_one acc n ns) refl))))

pub complete_dotted : (c : Cursor) (ns : List ℕ) (d : Cursor) → IsDotted c ns d → at (symbol op.Dot) d ≡ false → descent dotted c ≡ gives ns d
complete_dotted c _ d (Statements.dotted {n = n} {ns = ns} h i) other = found_by dotted c _ _ (called refl n (past c) (complete_name c n h) (called refl _ d (dots_go (past c) ns d i other (n ∷ [])) (given refl refl)))

-- a part of an annotation, and the parts behind it
data Parts (c d : Cursor) : Type 0 where
  parts_are : (f : Cursor) → descent part c ≡ gives tt f → descent parts f ≡ gives tt d → Parts c d

annotation_by : (c d : Cursor) → Parts c d → descent annotation c ≡ gives tt d
annotation_by c d (parts_are f h k) = found_by annotation c tt d (called refl tt f h (called refl tt d k (given refl refl)))

more_parts : (c d f : Cursor) → descent part c ≡ gives tt d → BeginsOp op.Bar d → Parts (past d) f → Parts c f
more_parts c d f h i (parts_are g k m) = parts_are d h (found_by parts d tt f (way_yes (here op.Bar d i) (called refl tt g k (called refl tt f m (given refl refl)))))

-- a dotted name, `None`, a text and a bracket begin differently
strs_part : (c : Cursor) (b : Bool) (d : Cursor) → Strs c b d → descent part c ≡ gives tt d
strs_part c b d (strs e h go) = found_by part c tt d (way_no (at_is (keyword word.KwNone) c _ h) (told e (said_is str_in c _ h) (called refl b d go (given refl refl))))

name_begins : (c : Cursor) (ns : List ℕ) (d : Cursor) → IsDotted c ns d → (n : ℕ) × (next c ≡ Some (kind.Name n))
name_begins c _ d (Statements.dotted {n = n} h i) = (n, h.begins)

plain_part : (c : Cursor) (n : ℕ) → next c ≡ Some (kind.Name n) → (ns : List ℕ) (d : Cursor) → descent dotted c ≡ gives ns d → at (symbol op.LeftSquare) d ≡ false → descent part c ≡ gives tt d
plain_part c n h ns d go other = found_by part c tt d (way_no (at_is (keyword word.KwNone) c _ h) (untold (said_is str_in c _ h) (called refl ns d go (way_no other (given refl refl)))))

filled_part : (c : Cursor) (n : ℕ) → next c ≡ Some (kind.Name n) → (ns : List ℕ) (d : Cursor) → descent dotted c ≡ gives ns d → BeginsOp op.LeftSquare d → (f : Cursor) → descent items (past d) ≡ gives tt f → BeginsOp op.RightSquare f → descent part c ≡ gives tt (past f)
filled_part c n h ns d go k f inner m = found_by part c tt (past f) (way_no (at_is (keyword word.KwNone) c _ h) (untold (said_is str_in c _ h) (called refl ns d go (way_yes (here op.LeftSquare d k) (called refl tt f inner (way_yes (here op.RightSquare f m) (given refl refl)))))))

-- no operator begins an annotation
strs_no_op : (c : Cursor) (b : Bool) (d : Cursor) → AreStrs c b d → (o : Op) → at (symbol o) c ≡ false
strs_no_op c b d (Expressions.strs_one h) o = at_is (symbol o) c _ h
strs_no_op c b d (Expressions.strs_more h k) o = at_is (symbol o) c _ h

part_no_op : (c d : Cursor) → IsPart c d → (o : Op) → at (symbol o) c ≡ false
part_no_op c d (part_name {ns = ns} h) o = at_is (symbol o) c _ (name_begins c ns d h).1
part_no_op c _ (part_items {d = d} {ns = ns} h i j k) o = at_is (symbol o) c _ (name_begins c ns d h).1
part_no_op c d (part_strs h) o = strs_no_op c _ d h o
part_no_op c _ (part_none h) o = at_is (symbol o) c _ h

annotation_no_op : (c d : Cursor) → IsAnnotation c d → (o : Op) → at (symbol o) c ≡ false
annotation_no_op c d (annotation_one h) o = part_no_op c d h o
annotation_no_op c d (annotation_more {d = f} h i j) o = part_no_op c f h o

item_not_end : (c d : Cursor) → IsItem c d → at (symbol op.RightSquare) c ≡ false
item_not_end c d (item_annotation h) = annotation_no_op c d h op.RightSquare
item_not_end c _ (item_ellipsis h) = at_is (symbol op.RightSquare) c _ h
item_not_end c _ (item_empty h i) = at_is (symbol op.RightSquare) c _ h
item_not_end c _ (item_list h i j) = at_is (symbol op.RightSquare) c _ h

items_not_end : (c d : Cursor) → AreItems c d → at (symbol op.RightSquare) c ≡ false
items_not_end c d (items_last h) = item_not_end c d h
items_not_end c _ (items_comma {d = d} h i) = item_not_end c d h
items_not_end c _ (items_more {d = d} h i j) = item_not_end c d h

mutual
  part_goes : (c d : Cursor) → IsPart c d → Stops 13 d → descent part c ≡ gives tt d
  part_goes c d (part_name {ns = ns} h) s = let n = name_begins c ns d h in plain_part c n.0 n.1 ns d (complete_dotted c ns d h (no_symbol op.Dot 13 d s (omega arith))) (no_symbol op.LeftSquare 13 d s (omega arith))
  part_goes c _ (part_items {d = d} {f = f} {ns = ns} h i j k) s = let n = name_begins c ns d h in filled_part c n.0 n.1 ns d (complete_dotted c ns d h (at_is (symbol op.Dot) d _ i)) i f (items_go (past d) f j k) k
  part_goes c d (part_strs {empty = b} h) s = strs_part c b d (strs_of c b d h (stops_less 13 14 d (omega arith) s))
  part_goes c _ (part_none h) s = found_by part c tt (past c) (way_yes (here_word word.KwNone c h) (given refl refl))

  annotation_parts : (c d : Cursor) → IsAnnotation c d → Stops 6 d → Parts c d
  annotation_parts c d (annotation_one h) s = parts_are d (part_goes c d h (stops_less 6 13 d (omega arith) s)) (found_by parts d tt d (way_no (no_symbol op.Bar 6 d s (omega arith)) (given refl refl)))
  annotation_parts c f (annotation_more {d = d} h i j) s = more_parts c d f (part_goes c d h (stops_at 13 d _ i (omega arith))) i (annotation_parts (past d) f j s)

  items_go : (c d : Cursor) → AreItems c d → BeginsOp op.RightSquare d → descent items c ≡ gives tt d
  items_go c d (items_last h) stop = found_by items c tt d (called refl tt d (item_goes c d h (stops_at 6 d _ stop (omega arith))) (way_no (at_is (symbol op.Comma) d _ stop) (given refl refl)))
  items_go c _ (items_comma {d = d} h i) stop = found_by items c tt (past d) (called refl tt d (item_goes c d h (stops_at 6 d _ i (omega arith))) (way_yes (here op.Comma d i) (way_yes (here op.RightSquare (past d) stop) (given refl refl))))
  items_go c f (items_more {d = d} h i j) stop = found_by items c tt f (called refl tt d (item_goes c d h (stops_at 6 d _ i (omega arith))) (way_yes (here op.Comma d i) (way_no (items_not_end (past d) f j) (called refl tt f (items_go (past d) f j stop) (given refl refl)))))

  item_goes : (c d : Cursor) → IsItem c d → Stops 6 d → descent item c ≡ gives tt d
  item_goes c d (item_annotation h) s = found_by item c tt d (way_no (annotation_no_op c d h op.Ellipsis) (way_no (annotation_no_op c d h op.LeftSquare) (called refl tt d (annotation_by c d (annotation_parts c d h s)) (given refl refl))))
  item_goes c _ (item_ellipsis h) s = found_by item c tt (past c) (way_yes (here op.Ellipsis c h) (given refl refl))
  item_goes c _ (item_empty h i) s = found_by item c tt (past_two c) (way_no (at_is (symbol op.Ellipsis) c _ h) (way_yes (here op.LeftSquare c h) (way_yes (here op.RightSquare (past c) i) (given refl refl))))
  item_goes c _ (item_list {d = d} h i j) s = found_by item c tt (past d) (way_no (at_is (symbol op.Ellipsis) c _ h) (way_yes (here op.LeftSquare c h) (way_no (items_not_end (past c) d i) (called refl tt d (items_go (past c) d i j) (way_yes (here op.RightSquare d j) (given refl refl))))))

pub complete_annotation : (c d : Cursor) → IsAnnotation c d → Stops 6 d → descent annotation c ≡ gives tt d
complete_annotation c d h s = annotation_by c d (annotation_parts c d h s)

pub complete_hint : (c d : Cursor) → IsHint c d → Stops 6 d → at (symbol op.Colon) d ≡ false → descent hint c ≡ gives tt d
complete_hint c _ hint_none s other = found_by hint c tt c (way_no other (given refl refl))
complete_hint c d (hint_some h i) s other = found_by hint c tt d (way_yes (here op.Colon c h) (called refl tt d (complete_annotation (past c) d i s) (given refl refl)))

pub complete_result : (c d : Cursor) → IsResult c d → Stops 6 d → at (symbol op.Arrow) d ≡ false → descent result c ≡ gives tt d
complete_result c _ result_none s other = found_by result c tt c (way_no other (given refl refl))
complete_result c d (result_some h i) s other = found_by result c tt d (way_yes (here op.Arrow c h) (called refl tt d (complete_annotation (past c) d i s) (given refl refl)))

-- ---- The targets of `for`

targets_go : (c : Cursor) (es : Exprs) (d : Cursor) → AreTargets c es d → BeginsWord word.KwIn d → (acc : Exprs) → descent (more_targets acc) c ≡ gives (exprs_behind acc es) d
unfolding begins_test
targets_go c _ d (targets_last {e = e} h) stop acc = found_by (more_targets acc) c _ _ (way_yes (opens_begins c (primary_begins c e d (target_primary c e d h))) (called refl e d (complete_primary c e d (target_primary c e d h) (stops_at 13 d _ stop (omega arith))) (way_no (at_is (symbol op.Comma) d _ stop) (given (sym (exprs_one acc e)) refl))))
targets_go c _ _ (targets_comma {d = d} {e = e} h k) stop acc = found_by (more_targets acc) c _ _ (way_yes (opens_begins c (primary_begins c e d (target_primary c e d h))) (called refl e d (complete_primary c e d (target_primary c e d h) (stops_at 13 d _ k (omega arith))) (way_yes (here op.Comma d k)
    (called refl (and_expr acc e) (past d) (found_by (more_targets (and_expr acc e)) (past d) _ _ (way_no (ap begins_in stop) (given refl refl))) (given (sym (exprs_one acc e)) refl)))))
targets_go c _ f (targets_more {d = d} {e = e} {es = es} h k m) stop acc = found_by (more_targets acc) c _ _ (way_yes (opens_begins c (primary_begins c e d (target_primary c e d h))) (called refl e d (complete_primary c e d (target_primary c e d h) (stops_at 13 d _ k (omega arith))) (way_yes (here op.Comma d k)
    (called refl _ f (targets_go (past d) es f m stop (and_expr acc e)) (given (exprs_more acc e es) refl)))))

pub complete_for_targets : (c : Cursor) (e : Expr) (d : Cursor) → IsTargets c e d → BeginsWord word.KwIn d → descent for_targets c ≡ gives e d
unfolding is_target begins_test
complete_for_targets c e d (targets_one h) stop = found_by for_targets c e d (called refl e d (complete_primary c e d (target_primary c e d h) (stops_at 13 d _ stop (omega arith))) (way_no (at_is (symbol op.Comma) d _ stop) (way_yes (target_is c e d h) (given refl refl))))
complete_for_targets c _ _ (targets_single {d = d} {e = e} h k) stop = found_by for_targets c _ _ (called refl e d (complete_primary c e d (target_primary c e d h) (stops_at 13 d _ k (omega arith))) (way_yes (here op.Comma d k)
    (called refl (expr e no_exprs) (past d) (found_by (more_targets (expr e no_exprs)) (past d) _ _ (way_no (ap begins_in stop) (given refl refl))) (way_yes (both _ _ (target_is c e d h) refl) (given refl refl)))))
complete_for_targets c _ _ (targets_tuple {d = d} {f = f} {e = e} {es = es} h k m) stop = found_by for_targets c _ _ (called refl e d (complete_primary c e d (target_primary c e d h) (stops_at 13 d _ k (omega arith))) (way_yes (here op.Comma d k)
    (called refl (expr e es) f (targets_go (past d) es f m stop (expr e no_exprs)) (way_yes (both _ _ (target_is c e d h) (all_targets_are (past d) es f m)) (given refl refl)))))
