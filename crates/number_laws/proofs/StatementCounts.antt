-- Within a statement that defines nothing, and within a function's body, no function and no class is numbered.
use Rattle.std.proofs.Common.{◌≡◌, ℕ, Bool, false, Option, List, refl, true≢false}
use Rattle.py_tree.specs.declared.literal.Literal.{Literal}
use Rattle.py_tree.specs.Tree.{Expr, Exprs, ImportPart, FromPart, Param, StmtKind, Stmts, Arms, Handlers, Member}
use Rattle.py_grammar.specs.Cursor.{Cursor}
use Rattle.py_grammar.specs.Statements.{AreDots, IsDotted, IsAnnotation, IsPart, AreItems, IsItem, IsHint, IsResult, IsSingle, IsTarget, AreTargets, IsTargets, IsImport, AreImports, IsFrom, AreFrom, IsAssigned, IsSimple, IsLine, IsLiteral, IsParam, AreParams, IsBase, IsMember, IsBlock, IsStatement, AreStatements, IsCompound, AreElifs, IsElse, AreHandlers, IsCaught, dots_none, dots_more, dotted, annotation_one, annotation_more, part_name, part_items, part_strs, part_none, items_last, items_comma, items_more, item_annotation, item_ellipsis, item_empty, item_list, hint_none, hint_some, result_none, result_some, single_name, single_attr, target_single, target_item, target_group, target_list, targets_last, targets_comma, targets_more, targets_one, targets_single, targets_tuple, import_name, import_as, imports_one, imports_more, from_name, from_as, froms_one, froms_more, assigned_last, assigned_more, simple_pass, simple_break, simple_continue, simple_ellipsis, simple_return, simple_return_value, simple_raise, simple_raise_value, simple_raise_from, simple_assert, simple_assert_message, simple_import, simple_from, simple_from_group, simple_from_comma, simple_assign, simple_augment, simple_annotated, simple_annotated_value, simple_expression, line_last, line_semi, line_more, literal_int, literal_minus_int, literal_float, literal_minus_float, literal_strs, literal_octets, literal_none, literal_true, literal_false, param_plain, param_default, params_none, params_last, params_more, base_none, base_empty, base_name, member_pass, member_ellipsis, member_strs, member_value, member_declared, member_declared_value, block_line, block_indented, statement_line, statement_compound, statement_def, statement_class, statements_none, statements_more, compound_if, compound_while, compound_for, compound_try, elifs_none, elifs_more, else_none, else_block, handlers_bare, handlers_last, handlers_more, caught_test, caught_as}
use Rattle.number_laws.proofs.Counts.{Same, same, on, are_octets_keeps, are_strs_keeps, is_primary_keeps, is_test_keeps, is_tests_keeps}

pub are_dots_keeps : {c : Cursor} {x1 : List ℕ} {d : Cursor} → AreDots c x1 d → Same c d
are_dots_keeps dots_none = same
are_dots_keeps (dots_more _ _ h2) = are_dots_keeps h2

pub is_dotted_keeps : {c : Cursor} {x1 : List ℕ} {d : Cursor} → IsDotted c x1 d → Same c d
is_dotted_keeps (dotted _ h1) = are_dots_keeps h1

mutual
  pub is_annotation_keeps : {c : Cursor} {d : Cursor} → IsAnnotation c d → Same c d
  is_annotation_keeps (annotation_one h0) = is_part_keeps h0
  is_annotation_keeps (annotation_more h0 _ h2) = on (is_part_keeps h0) (is_annotation_keeps h2)

  pub is_part_keeps : {c : Cursor} {d : Cursor} → IsPart c d → Same c d
  is_part_keeps (part_name h0) = is_dotted_keeps h0
  is_part_keeps (part_items h0 _ h2 _) = on (is_dotted_keeps h0) (are_items_keeps h2)
  is_part_keeps (part_strs h0) = are_strs_keeps h0
  is_part_keeps (part_none _) = same

  pub are_items_keeps : {c : Cursor} {d : Cursor} → AreItems c d → Same c d
  are_items_keeps (items_last h0) = is_item_keeps h0
  are_items_keeps (items_comma h0 _) = is_item_keeps h0
  are_items_keeps (items_more h0 _ h2) = on (is_item_keeps h0) (are_items_keeps h2)

  pub is_item_keeps : {c : Cursor} {d : Cursor} → IsItem c d → Same c d
  is_item_keeps (item_annotation h0) = is_annotation_keeps h0
  is_item_keeps (item_ellipsis _) = same
  is_item_keeps (item_empty _ _) = same
  is_item_keeps (item_list _ h1 _) = are_items_keeps h1

pub is_hint_keeps : {c : Cursor} {d : Cursor} → IsHint c d → Same c d
is_hint_keeps hint_none = same
is_hint_keeps (hint_some _ h1) = is_annotation_keeps h1

pub is_result_keeps : {c : Cursor} {d : Cursor} → IsResult c d → Same c d
is_result_keeps result_none = same
is_result_keeps (result_some _ h1) = is_annotation_keeps h1

pub is_single_keeps : {c : Cursor} {x1 : Expr} {d : Cursor} → IsSingle c x1 d → Same c d
is_single_keeps (single_name _) = same
is_single_keeps (single_attr h0 _ _) = is_primary_keeps h0

mutual
  pub is_target_keeps : {c : Cursor} {x1 : Expr} {d : Cursor} → IsTarget c x1 d → Same c d
  is_target_keeps (target_single h0) = is_single_keeps h0
  is_target_keeps (target_item h0 _ h2 _) = on (is_primary_keeps h0) (is_tests_keeps h2)
  is_target_keeps (target_group _ h1 _) = is_targets_keeps h1
  is_target_keeps (target_list _ h1 _) = are_targets_keeps h1

  pub are_targets_keeps : {c : Cursor} {x1 : Exprs} {d : Cursor} → AreTargets c x1 d → Same c d
  are_targets_keeps (targets_last h0) = is_target_keeps h0
  are_targets_keeps (targets_comma h0 _) = is_target_keeps h0
  are_targets_keeps (targets_more h0 _ h2) = on (is_target_keeps h0) (are_targets_keeps h2)

  pub is_targets_keeps : {c : Cursor} {x1 : Expr} {d : Cursor} → IsTargets c x1 d → Same c d
  is_targets_keeps (targets_one h0) = is_target_keeps h0
  is_targets_keeps (targets_single h0 _) = is_target_keeps h0
  is_targets_keeps (targets_tuple h0 _ h2) = on (is_target_keeps h0) (are_targets_keeps h2)

pub is_import_keeps : {c : Cursor} {x1 : ImportPart} {d : Cursor} → IsImport c x1 d → Same c d
is_import_keeps (import_name _) = same
is_import_keeps (import_as h0 _ _) = is_dotted_keeps h0

pub are_imports_keeps : {c : Cursor} {x1 : List ImportPart} {d : Cursor} → AreImports c x1 d → Same c d
are_imports_keeps (imports_one h0) = is_import_keeps h0
are_imports_keeps (imports_more h0 _ h2) = on (is_import_keeps h0) (are_imports_keeps h2)

pub is_from_keeps : {c : Cursor} {x1 : FromPart} {d : Cursor} → IsFrom c x1 d → Same c d
is_from_keeps (from_name _) = same
is_from_keeps (from_as _ _ _) = same

pub are_from_keeps : {c : Cursor} {x1 : List FromPart} {d : Cursor} → AreFrom c x1 d → Same c d
are_from_keeps (froms_one h0) = is_from_keeps h0
are_from_keeps (froms_more h0 _ h2) = on (is_from_keeps h0) (are_from_keeps h2)

pub is_assigned_keeps : {c : Cursor} {x1 : Exprs} {x2 : Expr} {d : Cursor} → IsAssigned c x1 x2 d → Same c d
is_assigned_keeps (assigned_last h0 _ h2) = on (is_targets_keeps h0) (is_tests_keeps h2)
is_assigned_keeps (assigned_more h0 _ h2) = on (is_targets_keeps h0) (is_assigned_keeps h2)

pub is_simple_keeps : {c : Cursor} {x1 : StmtKind} {d : Cursor} → IsSimple c x1 d → Same c d
is_simple_keeps (simple_pass _) = same
is_simple_keeps (simple_break _) = same
is_simple_keeps (simple_continue _) = same
is_simple_keeps (simple_ellipsis _) = same
is_simple_keeps (simple_return _) = same
is_simple_keeps (simple_return_value _ h1) = is_tests_keeps h1
is_simple_keeps (simple_raise _) = same
is_simple_keeps (simple_raise_value _ h1) = is_test_keeps h1
is_simple_keeps (simple_raise_from _ h1 _ h3) = on (is_test_keeps h1) (is_test_keeps h3)
is_simple_keeps (simple_assert _ h1) = is_test_keeps h1
is_simple_keeps (simple_assert_message _ h1 _ h3) = on (is_test_keeps h1) (is_test_keeps h3)
is_simple_keeps (simple_import _ h1) = are_imports_keeps h1
is_simple_keeps (simple_from _ h1 _ h3) = on (is_dotted_keeps h1) (are_from_keeps h3)
is_simple_keeps (simple_from_group _ h1 _ _ h4 _) = on (is_dotted_keeps h1) (are_from_keeps h4)
is_simple_keeps (simple_from_comma _ h1 _ _ h4 _ _) = on (is_dotted_keeps h1) (are_from_keeps h4)
is_simple_keeps (simple_assign h0) = is_assigned_keeps h0
is_simple_keeps (simple_augment h0 _ _ _ h4) = on (is_target_keeps h0) (is_tests_keeps h4)
is_simple_keeps (simple_annotated h0 _ h2) = on (is_single_keeps h0) (is_annotation_keeps h2)
is_simple_keeps (simple_annotated_value h0 _ h2 _ h4) = on (on (is_single_keeps h0) (is_annotation_keeps h2)) (is_tests_keeps h4)
is_simple_keeps (simple_expression h0) = is_tests_keeps h0

pub is_line_keeps : {c : Cursor} {x1 : Stmts} {d : Cursor} → IsLine c x1 d → Same c d
is_line_keeps (line_last h0 _) = is_simple_keeps h0
is_line_keeps (line_semi h0 _ _) = is_simple_keeps h0
is_line_keeps (line_more h0 _ h2) = on (is_simple_keeps h0) (is_line_keeps h2)

pub is_literal_keeps : {c : Cursor} {x1 : Literal} {d : Cursor} → IsLiteral c x1 d → Same c d
is_literal_keeps (literal_int _) = same
is_literal_keeps (literal_minus_int _ _) = same
is_literal_keeps (literal_float _) = same
is_literal_keeps (literal_minus_float _ _) = same
is_literal_keeps (literal_strs h0) = are_strs_keeps h0
is_literal_keeps (literal_octets h0) = are_octets_keeps h0
is_literal_keeps (literal_none _) = same
is_literal_keeps (literal_true _) = same
is_literal_keeps (literal_false _) = same

pub is_param_keeps : {x0 : Bool} {c : Cursor} {x2 : Param} {x3 : Bool} {d : Cursor} → IsParam x0 c x2 x3 d → Same c d
is_param_keeps (param_plain _ h1) = is_hint_keeps h1
is_param_keeps (param_default _ h1 _ h3) = on (is_hint_keeps h1) (is_literal_keeps h3)

pub are_params_keeps : {x0 : Bool} {c : Cursor} {x2 : List Param} {d : Cursor} → AreParams x0 c x2 d → Same c d
are_params_keeps params_none = same
are_params_keeps (params_last h0) = is_param_keeps h0
are_params_keeps (params_more h0 _ h2) = on (is_param_keeps h0) (are_params_keeps h2)

pub is_base_keeps : {c : Cursor} {x1 : Option ℕ} {d : Cursor} → IsBase c x1 d → Same c d
is_base_keeps base_none = same
is_base_keeps (base_empty _ _) = same
is_base_keeps (base_name _ _ _) = same

pub is_member_keeps : {c : Cursor} {x1 : Member} {d : Cursor} → IsMember c x1 d → Same c d
is_member_keeps (member_pass _) = same
is_member_keeps (member_ellipsis _) = same
is_member_keeps (member_strs h0) = are_strs_keeps h0
is_member_keeps (member_value _ _ h2) = is_tests_keeps h2
is_member_keeps (member_declared _ _ h2) = is_annotation_keeps h2
is_member_keeps (member_declared_value _ _ h2 _ h4) = on (is_annotation_keeps h2) (is_tests_keeps h4)

mutual
  pub is_block_keeps : {c : Cursor} {x1 : Stmts} {d : Cursor} → IsBlock c x1 d → Same c d
  is_block_keeps (block_line h0) = is_line_keeps h0
  is_block_keeps (block_indented _ _ h2 h3 _) = on (is_statement_keeps refl h2) (are_statements_keeps refl h3)

  pub is_statement_keeps : {x0 : Bool} {c : Cursor} {x2 : Stmts} {d : Cursor} → x0 ≡ false → IsStatement x0 c x2 d → Same c d
  is_statement_keeps top (statement_line h0) = is_line_keeps h0
  is_statement_keeps top (statement_compound h0) = is_compound_keeps h0
  is_statement_keeps top (statement_def _ _) = absurd (true≢false top)
  is_statement_keeps top (statement_class _) = absurd (true≢false top)

  pub are_statements_keeps : {x0 : Bool} {c : Cursor} {x2 : Stmts} {d : Cursor} → x0 ≡ false → AreStatements x0 c x2 d → Same c d
  are_statements_keeps top statements_none = same
  are_statements_keeps top (statements_more h0 h1) = on (is_statement_keeps top h0) (are_statements_keeps top h1)

  pub is_compound_keeps : {c : Cursor} {x1 : StmtKind} {d : Cursor} → IsCompound c x1 d → Same c d
  is_compound_keeps (compound_if _ h1 _ h3 h4 h5) = on (on (on (is_test_keeps h1) (is_block_keeps h3)) (are_elifs_keeps h4)) (is_else_keeps h5)
  is_compound_keeps (compound_while _ h1 _ h3) = on (is_test_keeps h1) (is_block_keeps h3)
  is_compound_keeps (compound_for _ h1 _ h3 _ h5) = on (on (is_targets_keeps h1) (is_tests_keeps h3)) (is_block_keeps h5)
  is_compound_keeps (compound_try _ _ h2 h3 h4) = on (on (is_block_keeps h2) (are_handlers_keeps h3)) (is_else_keeps h4)

  pub are_elifs_keeps : {c : Cursor} {x1 : Arms} {d : Cursor} → AreElifs c x1 d → Same c d
  are_elifs_keeps elifs_none = same
  are_elifs_keeps (elifs_more _ h1 _ h3 h4) = on (on (is_test_keeps h1) (is_block_keeps h3)) (are_elifs_keeps h4)

  pub is_else_keeps : {c : Cursor} {x1 : Stmts} {d : Cursor} → IsElse c x1 d → Same c d
  is_else_keeps else_none = same
  is_else_keeps (else_block _ _ h2) = is_block_keeps h2

  pub are_handlers_keeps : {c : Cursor} {x1 : Handlers} {d : Cursor} → AreHandlers c x1 d → Same c d
  are_handlers_keeps (handlers_bare _ _ h2) = is_block_keeps h2
  are_handlers_keeps (handlers_last _ h1 _ h3) = on (is_caught_keeps h1) (is_block_keeps h3)
  are_handlers_keeps (handlers_more _ h1 _ h3 h4) = on (on (is_caught_keeps h1) (is_block_keeps h3)) (are_handlers_keeps h4)

  pub is_caught_keeps : {c : Cursor} {x1 : Expr} {x2 : Option ℕ} {d : Cursor} → IsCaught c x1 x2 d → Same c d
  is_caught_keeps (caught_test h0) = is_test_keeps h0
  is_caught_keeps (caught_as h0 _ _) = is_test_keeps h0
