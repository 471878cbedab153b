-- What each goal unfolds to, one lemma a goal.
use Rattle.std.proofs.Common.{◌≡◌, ℕ, Bool, false, List}
use Rattle.py_tree.specs.Tree.{Expr, Exprs, Bound, Args, Pairs, ImportPart, FromPart, Param, Stmts, Arms, Handlers, Members}
use Rattle.py_grammar.specs.Cursor.{Cursor}
use Rattle.py_descent.specs.Goals.{rank, name, plain_name, dotted, dots, annotation, parts, part, items, item, hint, result, strings, octets, literal, test, disjunction, conjunction, inversion, comparison, compare_operator, factor, power, primary, atom, tests, choice, disjunctions, conjunctions, trailers, operation, operations, call_rest, subscript, slice, bounds, stride, arguments, argument, variable, super_rest, group, list_display, dict_display, pairs, tests_after, more_tests, import_part, imports, from_part, froms, return_rest, raise_rest, assert_rest, from_rest, assignment, assigned, annotated, simple_kind, simple, line, param, params, base, function, definition, class_rest, class_member, entry, class_body, entries, for_targets, more_targets, if_rest, while_rest, for_rest, try_rest, else_rest, caught, compound, block, elifs, handlers, statement, statements}
use Rattle.py_descent.specs.Programs.{exec}
use Rattle.py_descent.specs.Bodies.{body}
use Rattle.py_descent.specs.Descent.{descent}
use Rattle.py_descent.proofs.Unfold.{descends}

pub unfold_name : (c : Cursor) → descent name c ≡ exec descent (rank name) false (body name) c
unfold_name c = descends name c

pub unfold_plain_name : (c : Cursor) → descent plain_name c ≡ exec descent (rank plain_name) false (body plain_name) c
unfold_plain_name c = descends plain_name c

pub unfold_dotted : (c : Cursor) → descent dotted c ≡ exec descent (rank dotted) false (body dotted) c
unfold_dotted c = descends dotted c

pub unfold_dots : (x : List ℕ) → (c : Cursor) → descent (dots x) c ≡ exec descent (rank (dots x)) false (body (dots x)) c
unfold_dots x c = descends (dots x) c

pub unfold_annotation : (c : Cursor) → descent annotation c ≡ exec descent (rank annotation) false (body annotation) c
unfold_annotation c = descends annotation c

pub unfold_parts : (c : Cursor) → descent parts c ≡ exec descent (rank parts) false (body parts) c
unfold_parts c = descends parts c

pub unfold_part : (c : Cursor) → descent part c ≡ exec descent (rank part) false (body part) c
unfold_part c = descends part c

pub unfold_items : (c : Cursor) → descent items c ≡ exec descent (rank items) false (body items) c
unfold_items c = descends items c

pub unfold_item : (c : Cursor) → descent item c ≡ exec descent (rank item) false (body item) c
unfold_item c = descends item c

pub unfold_hint : (c : Cursor) → descent hint c ≡ exec descent (rank hint) false (body hint) c
unfold_hint c = descends hint c

pub unfold_result : (c : Cursor) → descent result c ≡ exec descent (rank result) false (body result) c
unfold_result c = descends result c

pub unfold_strings : (x : Bool) → (c : Cursor) → descent (strings x) c ≡ exec descent (rank (strings x)) false (body (strings x)) c
unfold_strings x c = descends (strings x) c

pub unfold_octets : (x : Bool) → (c : Cursor) → descent (octets x) c ≡ exec descent (rank (octets x)) false (body (octets x)) c
unfold_octets x c = descends (octets x) c

pub unfold_literal : (c : Cursor) → descent literal c ≡ exec descent (rank literal) false (body literal) c
unfold_literal c = descends literal c

pub unfold_test : (c : Cursor) → descent test c ≡ exec descent (rank test) false (body test) c
unfold_test c = descends test c

pub unfold_disjunction : (c : Cursor) → descent disjunction c ≡ exec descent (rank disjunction) false (body disjunction) c
unfold_disjunction c = descends disjunction c

pub unfold_conjunction : (c : Cursor) → descent conjunction c ≡ exec descent (rank conjunction) false (body conjunction) c
unfold_conjunction c = descends conjunction c

pub unfold_inversion : (c : Cursor) → descent inversion c ≡ exec descent (rank inversion) false (body inversion) c
unfold_inversion c = descends inversion c

pub unfold_comparison : (c : Cursor) → descent comparison c ≡ exec descent (rank comparison) false (body comparison) c
unfold_comparison c = descends comparison c

pub unfold_compare_operator : (c : Cursor) → descent compare_operator c ≡ exec descent (rank compare_operator) false (body compare_operator) c
unfold_compare_operator c = descends compare_operator c

pub unfold_factor : (c : Cursor) → descent factor c ≡ exec descent (rank factor) false (body factor) c
unfold_factor c = descends factor c

pub unfold_power : (c : Cursor) → descent power c ≡ exec descent (rank power) false (body power) c
unfold_power c = descends power c

pub unfold_primary : (c : Cursor) → descent primary c ≡ exec descent (rank primary) false (body primary) c
unfold_primary c = descends primary c

pub unfold_atom : (c : Cursor) → descent atom c ≡ exec descent (rank atom) false (body atom) c
unfold_atom c = descends atom c

pub unfold_tests : (c : Cursor) → descent tests c ≡ exec descent (rank tests) false (body tests) c
unfold_tests c = descends tests c

pub unfold_choice : (x : ℕ) → (y : Expr) → (c : Cursor) → descent (choice x y) c ≡ exec descent (rank (choice x y)) false (body (choice x y)) c
unfold_choice x y c = descends (choice x y) c

pub unfold_disjunctions : (x : ℕ) → (y : Expr) → (c : Cursor) → descent (disjunctions x y) c ≡ exec descent (rank (disjunctions x y)) false (body (disjunctions x y)) c
unfold_disjunctions x y c = descends (disjunctions x y) c

pub unfold_conjunctions : (x : ℕ) → (y : Expr) → (c : Cursor) → descent (conjunctions x y) c ≡ exec descent (rank (conjunctions x y)) false (body (conjunctions x y)) c
unfold_conjunctions x y c = descends (conjunctions x y) c

pub unfold_trailers : (x : ℕ) → (y : Expr) → (c : Cursor) → descent (trailers x y) c ≡ exec descent (rank (trailers x y)) false (body (trailers x y)) c
unfold_trailers x y c = descends (trailers x y) c

pub unfold_operation : (x : ℕ) → (c : Cursor) → descent (operation x) c ≡ exec descent (rank (operation x)) false (body (operation x)) c
unfold_operation x c = descends (operation x) c

pub unfold_operations : (x : ℕ) → (y : ℕ) → (z : Expr) → (c : Cursor) → descent (operations x y z) c ≡ exec descent (rank (operations x y z)) false (body (operations x y z)) c
unfold_operations x y z c = descends (operations x y z) c

pub unfold_call_rest : (x : ℕ) → (y : Expr) → (c : Cursor) → descent (call_rest x y) c ≡ exec descent (rank (call_rest x y)) false (body (call_rest x y)) c
unfold_call_rest x y c = descends (call_rest x y) c

pub unfold_subscript : (x : ℕ) → (y : Expr) → (c : Cursor) → descent (subscript x y) c ≡ exec descent (rank (subscript x y)) false (body (subscript x y)) c
unfold_subscript x y c = descends (subscript x y) c

pub unfold_slice : (x : ℕ) → (y : Expr) → (z : Bound) → (c : Cursor) → descent (slice x y z) c ≡ exec descent (rank (slice x y z)) false (body (slice x y z)) c
unfold_slice x y z c = descends (slice x y z) c

pub unfold_bounds : (c : Cursor) → descent bounds c ≡ exec descent (rank bounds) false (body bounds) c
unfold_bounds c = descends bounds c

pub unfold_stride : (c : Cursor) → descent stride c ≡ exec descent (rank stride) false (body stride) c
unfold_stride c = descends stride c

pub unfold_arguments : (x : Bool) → (y : Args) → (c : Cursor) → descent (arguments x y) c ≡ exec descent (rank (arguments x y)) false (body (arguments x y)) c
unfold_arguments x y c = descends (arguments x y) c

pub unfold_argument : (x : Bool) → (c : Cursor) → descent (argument x) c ≡ exec descent (rank (argument x)) false (body (argument x)) c
unfold_argument x c = descends (argument x) c

pub unfold_variable : (x : ℕ) → (c : Cursor) → descent (variable x) c ≡ exec descent (rank (variable x)) false (body (variable x)) c
unfold_variable x c = descends (variable x) c

pub unfold_super_rest : (x : ℕ) → (c : Cursor) → descent (super_rest x) c ≡ exec descent (rank (super_rest x)) false (body (super_rest x)) c
unfold_super_rest x c = descends (super_rest x) c

pub unfold_group : (x : ℕ) → (c : Cursor) → descent (group x) c ≡ exec descent (rank (group x)) false (body (group x)) c
unfold_group x c = descends (group x) c

pub unfold_list_display : (x : ℕ) → (c : Cursor) → descent (list_display x) c ≡ exec descent (rank (list_display x)) false (body (list_display x)) c
unfold_list_display x c = descends (list_display x) c

pub unfold_dict_display : (x : ℕ) → (c : Cursor) → descent (dict_display x) c ≡ exec descent (rank (dict_display x)) false (body (dict_display x)) c
unfold_dict_display x c = descends (dict_display x) c

pub unfold_pairs : (x : Pairs) → (c : Cursor) → descent (pairs x) c ≡ exec descent (rank (pairs x)) false (body (pairs x)) c
unfold_pairs x c = descends (pairs x) c

pub unfold_tests_after : (x : ℕ) → (y : Expr) → (c : Cursor) → descent (tests_after x y) c ≡ exec descent (rank (tests_after x y)) false (body (tests_after x y)) c
unfold_tests_after x y c = descends (tests_after x y) c

pub unfold_more_tests : (x : Exprs) → (c : Cursor) → descent (more_tests x) c ≡ exec descent (rank (more_tests x)) false (body (more_tests x)) c
unfold_more_tests x c = descends (more_tests x) c

pub unfold_import_part : (c : Cursor) → descent import_part c ≡ exec descent (rank import_part) false (body import_part) c
unfold_import_part c = descends import_part c

pub unfold_imports : (x : List ImportPart) → (c : Cursor) → descent (imports x) c ≡ exec descent (rank (imports x)) false (body (imports x)) c
unfold_imports x c = descends (imports x) c

pub unfold_from_part : (c : Cursor) → descent from_part c ≡ exec descent (rank from_part) false (body from_part) c
unfold_from_part c = descends from_part c

pub unfold_froms : (x : Bool) → (y : List FromPart) → (c : Cursor) → descent (froms x y) c ≡ exec descent (rank (froms x y)) false (body (froms x y)) c
unfold_froms x y c = descends (froms x y) c

pub unfold_return_rest : (c : Cursor) → descent return_rest c ≡ exec descent (rank return_rest) false (body return_rest) c
unfold_return_rest c = descends return_rest c

pub unfold_raise_rest : (c : Cursor) → descent raise_rest c ≡ exec descent (rank raise_rest) false (body raise_rest) c
unfold_raise_rest c = descends raise_rest c

pub unfold_assert_rest : (c : Cursor) → descent assert_rest c ≡ exec descent (rank assert_rest) false (body assert_rest) c
unfold_assert_rest c = descends assert_rest c

pub unfold_from_rest : (c : Cursor) → descent from_rest c ≡ exec descent (rank from_rest) false (body from_rest) c
unfold_from_rest c = descends from_rest c

pub unfold_assignment : (c : Cursor) → descent assignment c ≡ exec descent (rank assignment) false (body assignment) c
unfold_assignment c = descends assignment c

pub unfold_assigned : (x : Exprs) → (c : Cursor) → descent (assigned x) c ≡ exec descent (rank (assigned x)) false (body (assigned x)) c
unfold_assigned x c = descends (assigned x) c

pub unfold_annotated : (x : Expr) → (c : Cursor) → descent (annotated x) c ≡ exec descent (rank (annotated x)) false (body (annotated x)) c
unfold_annotated x c = descends (annotated x) c

pub unfold_simple_kind : (c : Cursor) → descent simple_kind c ≡ exec descent (rank simple_kind) false (body simple_kind) c
unfold_simple_kind c = descends simple_kind c

pub unfold_simple : (c : Cursor) → descent simple c ≡ exec descent (rank simple) false (body simple) c
unfold_simple c = descends simple c

pub unfold_line : (x : Stmts) → (c : Cursor) → descent (line x) c ≡ exec descent (rank (line x)) false (body (line x)) c
unfold_line x c = descends (line x) c

pub unfold_param : (x : Bool) → (c : Cursor) → descent (param x) c ≡ exec descent (rank (param x)) false (body (param x)) c
unfold_param x c = descends (param x) c

pub unfold_params : (x : Bool) → (y : List Param) → (c : Cursor) → descent (params x y) c ≡ exec descent (rank (params x y)) false (body (params x y)) c
unfold_params x y c = descends (params x y) c

pub unfold_base : (c : Cursor) → descent base c ≡ exec descent (rank base) false (body base) c
unfold_base c = descends base c

pub unfold_function : (x : ℕ) → (y : ℕ) → (c : Cursor) → descent (function x y) c ≡ exec descent (rank (function x y)) false (body (function x y)) c
unfold_function x y c = descends (function x y) c

pub unfold_definition : (c : Cursor) → descent definition c ≡ exec descent (rank definition) false (body definition) c
unfold_definition c = descends definition c

pub unfold_class_rest : (c : Cursor) → descent class_rest c ≡ exec descent (rank class_rest) false (body class_rest) c
unfold_class_rest c = descends class_rest c

pub unfold_class_member : (c : Cursor) → descent class_member c ≡ exec descent (rank class_member) false (body class_member) c
unfold_class_member c = descends class_member c

pub unfold_entry : (c : Cursor) → descent entry c ≡ exec descent (rank entry) false (body entry) c
unfold_entry c = descends entry c

pub unfold_class_body : (c : Cursor) → descent class_body c ≡ exec descent (rank class_body) false (body class_body) c
unfold_class_body c = descends class_body c

pub unfold_entries : (x : Members) → (c : Cursor) → descent (entries x) c ≡ exec descent (rank (entries x)) false (body (entries x)) c
unfold_entries x c = descends (entries x) c

pub unfold_for_targets : (c : Cursor) → descent for_targets c ≡ exec descent (rank for_targets) false (body for_targets) c
unfold_for_targets c = descends for_targets c

pub unfold_more_targets : (x : Exprs) → (c : Cursor) → descent (more_targets x) c ≡ exec descent (rank (more_targets x)) false (body (more_targets x)) c
unfold_more_targets x c = descends (more_targets x) c

pub unfold_if_rest : (c : Cursor) → descent if_rest c ≡ exec descent (rank if_rest) false (body if_rest) c
unfold_if_rest c = descends if_rest c

pub unfold_while_rest : (c : Cursor) → descent while_rest c ≡ exec descent (rank while_rest) false (body while_rest) c
unfold_while_rest c = descends while_rest c

pub unfold_for_rest : (c : Cursor) → descent for_rest c ≡ exec descent (rank for_rest) false (body for_rest) c
unfold_for_rest c = descends for_rest c

pub unfold_try_rest : (c : Cursor) → descent try_rest c ≡ exec descent (rank try_rest) false (body try_rest) c
unfold_try_rest c = descends try_rest c

pub unfold_else_rest : (c : Cursor) → descent else_rest c ≡ exec descent (rank else_rest) false (body else_rest) c
unfold_else_rest c = descends else_rest c

pub unfold_caught : (c : Cursor) → descent caught c ≡ exec descent (rank caught) false (body caught) c
unfold_caught c = descends caught c

pub unfold_compound : (c : Cursor) → descent compound c ≡ exec descent (rank compound) false (body compound) c
unfold_compound c = descends compound c

pub unfold_block : (c : Cursor) → descent block c ≡ exec descent (rank block) false (body block) c
unfold_block c = descends block c

pub unfold_elifs : (x : Arms) → (c : Cursor) → descent (elifs x) c ≡ exec descent (rank (elifs x)) false (body (elifs x)) c
unfold_elifs x c = descends (elifs x) c

pub unfold_handlers : (x : Handlers) → (c : Cursor) → descent (handlers x) c ≡ exec descent (rank (handlers x)) false (body (handlers x)) c
unfold_handlers x c = descends (handlers x) c

pub unfold_statement : (x : Bool) → (y : Stmts) → (c : Cursor) → descent (statement x y) c ≡ exec descent (rank (statement x y)) false (body (statement x y)) c
unfold_statement x y c = descends (statement x y) c

pub unfold_statements : (x : Bool) → (y : Stmts) → (c : Cursor) → descent (statements x y) c ≡ exec descent (rank (statements x y)) false (body (statements x y)) c
unfold_statements x y c = descends (statements x y) c
