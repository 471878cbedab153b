-- Within an expression no function and no class is numbered.
use Rattle.std.proofs.Common.{◌≡◌, ℕ, Bool, Option, refl, ◌∙◌}
use Rattle.place_ids.specs.declared.operators.CompareOp.{CompareOp}
use Rattle.py_tree.specs.Tree.{Expr, Exprs, Bound, Args, Pairs}
use Rattle.py_grammar.specs.Cursor.{Cursor}
use Rattle.py_grammar.specs.Expressions.{AreStrs, AreOctets, IsComparison, IsTest, IsOr, IsAnd, IsNot, IsCompare, IsOperation, IsFactor, IsPower, IsPrimary, IsSlice, IsBound, AreArgs, IsArg, IsAtom, ArePairs, AreTests, IsTests, strs_one, strs_more, octets_one, octets_more, comparison_less, comparison_greater, comparison_less_eq, comparison_greater_eq, comparison_equal, comparison_not_equal, comparison_is, comparison_is_not, comparison_within, comparison_not_within, test_or, test_choice, or_and, or_or, and_not, and_and, not_compare, not_not, compare_one, compare_two, operation_factor, operation_next, operation_binary, factor_power, factor_unary, power_primary, power_pow, primary_atom, primary_attr, primary_call, primary_item, primary_slice, slice_two, slice_three, bound_none, bound_some, args_none, args_last, args_more, arg_test, arg_named, atom_name, atom_int, atom_float, atom_strs, atom_octets, atom_none, atom_true, atom_false, atom_unit, atom_group, atom_empty_list, atom_list, atom_dict, atom_super, pairs_none, pairs_last, pairs_more, tests_last, tests_comma, tests_more, tests_one, tests_single, tests_tuple}

-- as many functions and classes are numbered before the one as before the other
abbrev pub Same : Cursor → Cursor → Type 0
Same c d = (d.funs ≡ c.funs) × (d.classes ≡ c.classes)

pub same : {f k : ℕ} → (f ≡ f) × (k ≡ k)
same = (refl, refl)

pub on : {f g h k l m : ℕ} → (g ≡ f) × (l ≡ k) → (h ≡ g) × (m ≡ l) → (h ≡ f) × (m ≡ k)
on p q = (q.0 ∙ p.0, q.1 ∙ p.1)

pub are_strs_keeps : {c : Cursor} {x1 : Bool} {d : Cursor} → AreStrs c x1 d → Same c d
are_strs_keeps (strs_one _) = same
are_strs_keeps (strs_more _ h1) = are_strs_keeps h1

pub are_octets_keeps : {c : Cursor} {x1 : Bool} {d : Cursor} → AreOctets c x1 d → Same c d
are_octets_keeps (octets_one _) = same
are_octets_keeps (octets_more _ h1) = are_octets_keeps h1

pub is_comparison_keeps : {c : Cursor} {x1 : CompareOp} {d : Cursor} → IsComparison c x1 d → Same c d
is_comparison_keeps (comparison_less _) = same
is_comparison_keeps (comparison_greater _) = same
is_comparison_keeps (comparison_less_eq _) = same
is_comparison_keeps (comparison_greater_eq _) = same
is_comparison_keeps (comparison_equal _) = same
is_comparison_keeps (comparison_not_equal _) = same
is_comparison_keeps (comparison_is _ _) = same
is_comparison_keeps (comparison_is_not _ _) = same
is_comparison_keeps (comparison_within _) = same
is_comparison_keeps (comparison_not_within _ _) = same

mutual
  pub is_test_keeps : {c : Cursor} {x1 : Expr} {d : Cursor} → IsTest c x1 d → Same c d
  is_test_keeps (test_or h0) = is_or_keeps h0
  is_test_keeps (test_choice h0 _ h2 _ h4) = on (on (is_or_keeps h0) (is_or_keeps h2)) (is_test_keeps h4)

  pub is_or_keeps : {c : Cursor} {x1 : Expr} {d : Cursor} → IsOr c x1 d → Same c d
  is_or_keeps (or_and h0) = is_and_keeps h0
  is_or_keeps (or_or h0 _ h2) = on (is_or_keeps h0) (is_and_keeps h2)

  pub is_and_keeps : {c : Cursor} {x1 : Expr} {d : Cursor} → IsAnd c x1 d → Same c d
  is_and_keeps (and_not h0) = is_not_keeps h0
  is_and_keeps (and_and h0 _ h2) = on (is_and_keeps h0) (is_not_keeps h2)

  pub is_not_keeps : {c : Cursor} {x1 : Expr} {d : Cursor} → IsNot c x1 d → Same c d
  is_not_keeps (not_compare h0) = is_compare_keeps h0
  is_not_keeps (not_not _ h1) = is_not_keeps h1

  pub is_compare_keeps : {c : Cursor} {x1 : Expr} {d : Cursor} → IsCompare c x1 d → Same c d
  is_compare_keeps (compare_one h0) = is_operation_keeps h0
  is_compare_keeps (compare_two h0 h1 h2) = on (on (is_operation_keeps h0) (is_comparison_keeps h1)) (is_operation_keeps h2)

  pub is_operation_keeps : {x0 : ℕ} {c : Cursor} {x2 : Expr} {d : Cursor} → IsOperation x0 c x2 d → Same c d
  is_operation_keeps (operation_factor h0) = is_factor_keeps h0
  is_operation_keeps (operation_next h0) = is_operation_keeps h0
  is_operation_keeps (operation_binary h0 _ _ h3) = on (is_operation_keeps h0) (is_operation_keeps h3)

  pub is_factor_keeps : {c : Cursor} {x1 : Expr} {d : Cursor} → IsFactor c x1 d → Same c d
  is_factor_keeps (factor_power h0) = is_power_keeps h0
  is_factor_keeps (factor_unary _ _ h2) = is_factor_keeps h2

  pub is_power_keeps : {c : Cursor} {x1 : Expr} {d : Cursor} → IsPower c x1 d → Same c d
  is_power_keeps (power_primary h0) = is_primary_keeps h0
  is_power_keeps (power_pow h0 _ h2) = on (is_primary_keeps h0) (is_factor_keeps h2)

  pub is_primary_keeps : {c : Cursor} {x1 : Expr} {d : Cursor} → IsPrimary c x1 d → Same c d
  is_primary_keeps (primary_atom h0) = is_atom_keeps h0
  is_primary_keeps (primary_attr h0 _ _) = is_primary_keeps h0
  is_primary_keeps (primary_call h0 _ h2 _) = on (is_primary_keeps h0) (are_args_keeps h2)
  is_primary_keeps (primary_item h0 _ h2 _) = on (is_primary_keeps h0) (is_tests_keeps h2)
  is_primary_keeps (primary_slice h0 _ h2 _) = on (is_primary_keeps h0) (is_slice_keeps h2)

  pub is_slice_keeps : {c : Cursor} {x1 : Bound} {x2 : Bound} {x3 : Bound} {d : Cursor} → IsSlice c x1 x2 x3 d → Same c d
  is_slice_keeps (slice_two h0 _ h2) = on (is_bound_keeps h0) (is_bound_keeps h2)
  is_slice_keeps (slice_three h0 _ h2 _ h4) = on (on (is_bound_keeps h0) (is_bound_keeps h2)) (is_bound_keeps h4)

  pub is_bound_keeps : {c : Cursor} {x1 : Bound} {d : Cursor} → IsBound c x1 d → Same c d
  is_bound_keeps bound_none = same
  is_bound_keeps (bound_some h0) = is_test_keeps h0

  pub are_args_keeps : {x0 : Bool} {c : Cursor} {x2 : Args} {d : Cursor} → AreArgs x0 c x2 d → Same c d
  are_args_keeps args_none = same
  are_args_keeps (args_last h0) = is_arg_keeps h0
  are_args_keeps (args_more h0 _ h2) = on (is_arg_keeps h0) (are_args_keeps h2)

  pub is_arg_keeps : {x0 : Bool} {c : Cursor} {x2 : Option ℕ} {x3 : Expr} {x4 : Bool} {d : Cursor} → IsArg x0 c x2 x3 x4 d → Same c d
  is_arg_keeps (arg_test h0) = is_test_keeps h0
  is_arg_keeps (arg_named _ _ h2) = is_test_keeps h2

  pub is_atom_keeps : {c : Cursor} {x1 : Expr} {d : Cursor} → IsAtom c x1 d → Same c d
  is_atom_keeps (atom_name _) = same
  is_atom_keeps (atom_int _) = same
  is_atom_keeps (atom_float _) = same
  is_atom_keeps (atom_strs h0) = are_strs_keeps h0
  is_atom_keeps (atom_octets h0) = are_octets_keeps h0
  is_atom_keeps (atom_none _) = same
  is_atom_keeps (atom_true _) = same
  is_atom_keeps (atom_false _) = same
  is_atom_keeps (atom_unit _ _) = same
  is_atom_keeps (atom_group _ h1 _) = is_tests_keeps h1
  is_atom_keeps (atom_empty_list _ _) = same
  is_atom_keeps (atom_list _ h1 _) = are_tests_keeps h1
  is_atom_keeps (atom_dict _ h1 _) = are_pairs_keeps h1
  is_atom_keeps (atom_super _ _ _ _ _ _) = same

  pub are_pairs_keeps : {c : Cursor} {x1 : Pairs} {d : Cursor} → ArePairs c x1 d → Same c d
  are_pairs_keeps pairs_none = same
  are_pairs_keeps (pairs_last h0 _ h2) = on (is_test_keeps h0) (is_test_keeps h2)
  are_pairs_keeps (pairs_more h0 _ h2 _ h4) = on (on (is_test_keeps h0) (is_test_keeps h2)) (are_pairs_keeps h4)

  pub are_tests_keeps : {c : Cursor} {x1 : Exprs} {d : Cursor} → AreTests c x1 d → Same c d
  are_tests_keeps (tests_last h0) = is_test_keeps h0
  are_tests_keeps (tests_comma h0 _) = is_test_keeps h0
  are_tests_keeps (tests_more h0 _ h2) = on (is_test_keeps h0) (are_tests_keeps h2)

  pub is_tests_keeps : {c : Cursor} {x1 : Expr} {d : Cursor} → IsTests c x1 d → Same c d
  is_tests_keeps (tests_one h0) = is_test_keeps h0
  is_tests_keeps (tests_single h0 _) = is_test_keeps h0
  is_tests_keeps (tests_tuple h0 _ h2) = on (is_test_keeps h0) (are_tests_keeps h2)
