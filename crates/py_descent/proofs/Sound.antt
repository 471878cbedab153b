-- Whatever the descent finds, the grammar has.
use Rattle.std.proofs.Common.{◌≡◌, ℕ, zero, suc, ◌+◌, ◌*◌, true, false}
use Rattle.py_tokens.specs.TokenList.{TokenList}
use Rattle.py_tree.specs.Tree.{Stmts, no_stmts}
use Rattle.py_grammar.specs.Cursor.{Cursor}
use Rattle.py_grammar.specs.Statements.{AreStatements}
use Rattle.py_grammar.specs.Modules.{start}
use Rattle.py_descent.specs.Goals.{Goal, Value, rank, name, plain_name, dotted, dots, annotation, parts, part, items, item, hint, result, strings, octets, literal, test, disjunction, conjunction, inversion, comparison, compare_operator, factor, power, primary, atom, tests, choice, disjunctions, conjunctions, trailers, operation, operations, call_rest, subscript, slice, bounds, stride, arguments, argument, variable, super_rest, group, list_display, dict_display, pairs, tests_after, more_tests, import_part, imports, from_part, froms, return_rest, raise_rest, assert_rest, from_rest, assignment, assigned, annotated, simple_kind, simple, line, param, params, base, function, definition, class_rest, class_member, entry, class_body, entries, for_targets, more_targets, if_rest, while_rest, for_rest, try_rest, else_rest, caught, compound, block, elifs, handlers, statement, statements}
use Rattle.py_descent.specs.Programs.{gives, refuses, room}
use Rattle.py_descent.specs.Bodies.{body}
use Rattle.py_descent.specs.Descent.{turns, descent}
use Rattle.py_descent.proofs.Means.{means, Sound, exec_means}
use Rattle.py_descent.proofs.Parts.{more}
use Rattle.py_descent.proofs.Found.{found}
use Rattle.py_descent.proofs.SoundNames.{name_sound, plain_name_sound, dots_sound, dotted_sound, strings_sound, octets_sound, literal_sound, annotation_sound, parts_sound, part_sound, items_sound, item_sound, hint_sound, result_sound}
use Rattle.py_descent.proofs.Levels.{operations_sound, operation_sound}
use Rattle.py_descent.proofs.SoundExpressions.{test_sound, choice_sound, disjunction_sound, disjunctions_sound, conjunction_sound, conjunctions_sound, inversion_sound, compare_operator_sound, comparison_sound, factor_sound, power_sound, tests_sound, tests_after_sound, more_tests_sound}
use Rattle.py_descent.proofs.SoundPrimaries.{primary_sound, trailers_sound, call_rest_sound, subscript_sound, slice_sound, bounds_sound, stride_sound, argument_sound, arguments_sound, atom_sound, variable_sound, super_rest_sound, group_sound, list_display_sound, dict_display_sound, pairs_sound}
use Rattle.py_descent.proofs.SoundSimple.{import_part_sound, imports_sound, from_part_sound, froms_sound, from_rest_sound, return_rest_sound, raise_rest_sound, assert_rest_sound, assigned_sound, assignment_sound, annotated_sound, simple_kind_sound, simple_sound, line_sound, for_targets_sound, more_targets_sound}
use Rattle.py_descent.proofs.SoundDefinitions.{param_sound, params_sound, function_sound, definition_sound, base_sound, class_rest_sound, class_member_sound, entry_sound, class_body_sound, entries_sound}
use Rattle.py_descent.proofs.SoundStatements.{if_rest_sound, while_rest_sound, for_rest_sound, try_rest_sound, compound_sound, else_rest_sound, caught_sound, elifs_sound, handlers_sound, block_sound, statement_sound, statements_sound}

pub goal_sound : (g : Goal) (c : Cursor) (v : Value g) (d : Cursor) → means found (body g) c v d → found g c v d
goal_sound name c v d m = name_sound c v d m
goal_sound plain_name c v d m = plain_name_sound c v d m
goal_sound dotted c v d m = dotted_sound c v d m
goal_sound (dots ns) c v d m = dots_sound ns c v d m
goal_sound annotation c v d m = annotation_sound c v d m
goal_sound parts c v d m = parts_sound c v d m
goal_sound part c v d m = part_sound c v d m
goal_sound items c v d m = items_sound c v d m
goal_sound item c v d m = item_sound c v d m
goal_sound hint c v d m = hint_sound c v d m
goal_sound result c v d m = result_sound c v d m
goal_sound (strings e) c v d m = strings_sound e c v d m
goal_sound (octets e) c v d m = octets_sound e c v d m
goal_sound literal c v d m = literal_sound c v d m
goal_sound test c v d m = test_sound c v d m
goal_sound disjunction c v d m = disjunction_sound c v d m
goal_sound conjunction c v d m = conjunction_sound c v d m
goal_sound inversion c v d m = inversion_sound c v d m
goal_sound comparison c v d m = comparison_sound c v d m
goal_sound compare_operator c v d m = compare_operator_sound c v d m
goal_sound factor c v d m = factor_sound c v d m
goal_sound power c v d m = power_sound c v d m
goal_sound primary c v d m = primary_sound c v d m
goal_sound atom c v d m = atom_sound c v d m
goal_sound tests c v d m = tests_sound c v d m
goal_sound (choice l e) c v d m = λ a b s w f y. choice_sound a b l e c v d s w f y m
goal_sound (disjunctions l e) c v d m = disjunctions_sound l e c v d m
goal_sound (conjunctions l e) c v d m = conjunctions_sound l e c v d m
goal_sound (trailers l e) c v d m = λ a s w. trailers_sound a l e c v d s w m
goal_sound (operation least) c v d m = operation_sound least c v d m
goal_sound (operations least l e) c v d m = operations_sound least l e c v d m
goal_sound (call_rest l e) c v d m = λ a b s w f y. call_rest_sound a b l e c v d s w f y m
goal_sound (subscript l e) c v d m = λ a b s w f y. subscript_sound a b l e c v d s w f y m
goal_sound (slice l e low) c v d m = λ a b f s w o p q y. slice_sound a b f l e low c v d s w o p q y m
goal_sound bounds c v d m = bounds_sound c v d m
goal_sound stride c v d m = stride_sound c v d m
goal_sound (arguments seen as') c v d m = arguments_sound seen as' c v d m
goal_sound (argument seen) c v d m = argument_sound seen c v d m
goal_sound (variable l) c v d m = λ s. variable_sound l c v d s m
goal_sound (super_rest l) c v d m = λ a n s h t y. super_rest_sound a n l c v d s h t y m
goal_sound (group l) c v d m = λ a s o y. group_sound a l c v d s o y m
goal_sound (list_display l) c v d m = λ a s o y. list_display_sound a l c v d s o y m
goal_sound (dict_display l) c v d m = λ a s o y. dict_display_sound a l c v d s o y m
goal_sound (pairs ps) c v d m = pairs_sound ps c v d m
goal_sound (tests_after l e) c v d m = tests_after_sound l e c v d m
goal_sound (more_tests es) c v d m = more_tests_sound es c v d m
goal_sound import_part c v d m = import_part_sound c v d m
goal_sound (imports ps) c v d m = imports_sound ps c v d m
goal_sound from_part c v d m = from_part_sound c v d m
goal_sound (froms grouped ps) c v d m = froms_sound grouped ps c v d m
goal_sound return_rest c v d m = λ a w y. return_rest_sound a c v d w y m
goal_sound raise_rest c v d m = λ a w y. raise_rest_sound a c v d w y m
goal_sound assert_rest c v d m = λ a w y. assert_rest_sound a c v d w y m
goal_sound from_rest c v d m = λ a w y. from_rest_sound a c v d w y m
goal_sound assignment c v d m = assignment_sound c v d m
goal_sound (assigned ts) c v d m = assigned_sound ts c v d m
goal_sound (annotated e) c v d m = λ a b s o y. annotated_sound a b e c v d s o y m
goal_sound simple_kind c v d m = simple_kind_sound c v d m
goal_sound simple c v d m = simple_sound c v d m
goal_sound (line ss) c v d m = line_sound ss c v d m
goal_sound (param late) c v d m = param_sound late c v d m
goal_sound (params late ps) c v d m = params_sound late ps c v d m
goal_sound base c v d m = base_sound c v d m
goal_sound (function l n) c v d m = λ a s w y. function_sound a l n c v d s w y m
goal_sound definition c v d m = definition_sound c v d m
goal_sound class_rest c v d m = class_rest_sound c v d m
goal_sound class_member c v d m = class_member_sound c v d m
goal_sound entry c v d m = entry_sound c v d m
goal_sound class_body c v d m = class_body_sound c v d m
goal_sound (entries ms) c v d m = entries_sound ms c v d m
goal_sound for_targets c v d m = for_targets_sound c v d m
goal_sound (more_targets es) c v d m = more_targets_sound es c v d m
goal_sound if_rest c v d m = λ a w y. if_rest_sound a c v d w y m
goal_sound while_rest c v d m = λ a w y. while_rest_sound a c v d w y m
goal_sound for_rest c v d m = λ a w y. for_rest_sound a c v d w y m
goal_sound try_rest c v d m = λ a w y. try_rest_sound a c v d w y m
goal_sound else_rest c v d m = else_rest_sound c v d m
goal_sound caught c v d m = caught_sound c v d m
goal_sound compound c v d m = compound_sound c v d m
goal_sound block c v d m = block_sound c v d m
goal_sound (elifs as') c v d m = elifs_sound as' c v d m
goal_sound (handlers hs) c v d m = handlers_sound hs c v d m
goal_sound (statement top ss) c v d m = statement_sound top ss c v d m
goal_sound (statements top ss) c v d m = statements_sound top ss c v d m

none_given : {A : Type 0} (a : A) (c : Cursor) → refuses ≡ gives a c → ⊥
none_given a c e = cc

turns_sound : (n : ℕ) → Sound found (turns n)
turns_sound zero = record { sound = λ g c v d e. absurd (none_given _ _ e) }
turns_sound (suc n) = record { sound = λ g c v d e. goal_sound g c v d (exec_means found (turns n) (turns_sound n) (rank g) false (body g) c v d e) }

pub descent_sound : Sound found descent
unfolding descent
descent_sound = record { sound = λ g c v d e. (turns_sound (suc (room c * 64 + rank g))).sound g c v d e }

-- what the descent gives for a module's statements are statements of the grammar
pub module_sound : (t : TokenList) (ss : Stmts) (d : Cursor) → descent (statements true no_stmts) (start t) ≡ gives ss d → AreStatements true (start t) ss d
module_sound t ss d e = whole_module ss d (descent_sound.sound (statements true no_stmts) (start t) ss d e) where
  whole_module : (v : Stmts) (u : Cursor) → found (statements true no_stmts) (start t) v u → AreStatements true (start t) v u
  whole_module v u (more ys _ h) = h
