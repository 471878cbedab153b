-- What closed worlds of some modules tell: walks through their code.
use Rattle.std.proofs.Common.{ℕ, Some, List, [], ◌∷◌, inl, refl, arith, codes}
use Rattle.graph_walks.specs.Walks.{passes, unasked}
use Rattle.place_ids.specs.declared.operators.BinOp.TheVariants as bin
use Rattle.place_ids.specs.declared.operators.CompareOp.{CompareOp}
use Rattle.place_ids.specs.declared.operators.CompareOp.TheVariants as cmp
use Rattle.place_ids.specs.declared.operators.UnaryOp.TheVariants as un
use Rattle.stack_code.specs.declared.op.Op.TheVariants as op
use Rattle.stack_code.specs.declared.op.ConstKind.TheVariants as const
use Rattle.abstract_shapes.specs.Shapes.{none, true_value, false_value, int, str, ext}
use Rattle.world_rules.specs.declared.finding.Fault.TheVariants as fault
use Rattle.world_rules.specs.declared.finding.FindingKind.TheVariants as kind
use Rattle.world_rules.specs.declared.row.Yield.TheVariants as yields
use Rattle.world_rules.specs.Places.{main, slot, global}
use Rattle.world_rules.specs.Items.{Item}
use Rattle.world_rules.specs.Rules.{IsClosed}
use Rattle.world_rules.specs.Findings.{IsFinding, IsUnchecked}
use Rattle.world_rules.specs.Stubs.{EndsWith}
use Rattle.world_rules.specs.Samples.{loop_module, branch_module, unknown_name, text_and_int, outside_negated, outside_twice}
use Rattle.world_rules.proofs.Paths.{Arrives, begin, assign, keep, pass, jump, finds, unchecks, ends}

module _ (items : List Item) (closed : IsClosed unknown_name items) where
  unknown_0 : Arrives unknown_name items 0 0 [] []
  unknown_0 = begin unknown_name items closed (omega arith) refl

  pub unknown_is_found : IsFinding unknown_name items (record { line = 1; kind = kind.NameError; text = codes "nope" })
  unknown_is_found = finds unknown_name items closed (op.LoadName 0) _ [] unknown_0 refl refl tt (fault.Name 0) refl 1 refl

module _ (items : List Item) (closed : IsClosed text_and_int items) where
  sum_0 : Arrives text_and_int items 0 0 [] []
  sum_0 = begin text_and_int items closed (omega arith) refl

  sum_1 : Arrives text_and_int items 1 1 (slot main 0 ∷ []) (str ∷ [])
  sum_1 = assign text_and_int items closed (op.Const const.Str) _ [] yields.Str str (slot main 0) sum_0 refl refl refl refl (omega arith) (omega arith) refl tt 0 refl refl refl

  sum_2 : Arrives text_and_int items 2 2 (slot main 1 ∷ slot main 0 ∷ []) (int ∷ str ∷ [])
  sum_2 = assign text_and_int items closed (op.Const const.Int) _ [] yields.Int int (slot main 1) sum_1 refl refl refl refl (omega arith) (omega arith) refl tt 0 refl refl refl

  pub sum_is_found : IsFinding text_and_int items (record { line = 1; kind = kind.UnsupportedOperands; text = codes "str + int" })
  sum_is_found = finds text_and_int items closed (op.Binary bin.Add 2) _ (str ∷ int ∷ []) sum_2 refl refl (refl, (refl, tt)) (fault.Binary bin.Add) refl 1 refl

module _ (items : List Item) (closed : IsClosed outside_negated items) where
  negated_0 : Arrives outside_negated items 0 0 [] []
  negated_0 = begin outside_negated items closed (omega arith) refl

  negated_1 : Arrives outside_negated items 1 1 (slot main 0 ∷ []) (ext ∷ [])
  negated_1 = assign outside_negated items closed (op.LoadName 0) _ [] yields.Ext ext (slot main 0) negated_0 refl refl refl refl (omega arith) (omega arith) refl tt 0 refl refl refl

  pub negation_is_unchecked : IsUnchecked outside_negated items 1
  negation_is_unchecked = unchecks outside_negated items closed (op.Unary un.Minus) _ (ext ∷ []) negated_1 refl refl (refl, tt) refl 1 refl

module _ (items : List Item) (closed : IsClosed (outside_twice (op.Binary bin.Add 2)) items) where
  sum_twice_0 : Arrives (outside_twice (op.Binary bin.Add 2)) items 0 0 [] []
  sum_twice_0 = begin (outside_twice (op.Binary bin.Add 2)) items closed (omega arith) refl

  sum_twice_1 : Arrives (outside_twice (op.Binary bin.Add 2)) items 1 1 (slot main 0 ∷ []) (ext ∷ [])
  sum_twice_1 = assign (outside_twice (op.Binary bin.Add 2)) items closed (op.LoadName 0) _ [] yields.Ext ext (slot main 0) sum_twice_0 refl refl refl refl (omega arith) (omega arith) refl tt 0 refl refl refl

  sum_twice_2 : Arrives (outside_twice (op.Binary bin.Add 2)) items 2 2 (slot main 1 ∷ slot main 0 ∷ []) (ext ∷ ext ∷ [])
  sum_twice_2 = assign (outside_twice (op.Binary bin.Add 2)) items closed (op.LoadName 0) _ [] yields.Ext ext (slot main 1) sum_twice_1 refl refl refl refl (omega arith) (omega arith) refl tt 0 refl refl refl

  pub sum_is_unchecked : IsUnchecked (outside_twice (op.Binary bin.Add 2)) items 1
  sum_is_unchecked = unchecks (outside_twice (op.Binary bin.Add 2)) items closed (op.Binary bin.Add 2) _ (ext ∷ ext ∷ []) sum_twice_2 refl refl (refl, (refl, tt)) refl 1 refl

module _ (items : List Item) (closed : IsClosed (outside_twice (op.InPlace bin.Add 2)) items) where
  changed_twice_0 : Arrives (outside_twice (op.InPlace bin.Add 2)) items 0 0 [] []
  changed_twice_0 = begin (outside_twice (op.InPlace bin.Add 2)) items closed (omega arith) refl

  changed_twice_1 : Arrives (outside_twice (op.InPlace bin.Add 2)) items 1 1 (slot main 0 ∷ []) (ext ∷ [])
  changed_twice_1 = assign (outside_twice (op.InPlace bin.Add 2)) items closed (op.LoadName 0) _ [] yields.Ext ext (slot main 0) changed_twice_0 refl refl refl refl (omega arith) (omega arith) refl tt 0 refl refl refl

  changed_twice_2 : Arrives (outside_twice (op.InPlace bin.Add 2)) items 2 2 (slot main 1 ∷ slot main 0 ∷ []) (ext ∷ ext ∷ [])
  changed_twice_2 = assign (outside_twice (op.InPlace bin.Add 2)) items closed (op.LoadName 0) _ [] yields.Ext ext (slot main 1) changed_twice_1 refl refl refl refl (omega arith) (omega arith) refl tt 0 refl refl refl

  pub changed_is_unchecked : IsUnchecked (outside_twice (op.InPlace bin.Add 2)) items 1
  changed_is_unchecked = unchecks (outside_twice (op.InPlace bin.Add 2)) items closed (op.InPlace bin.Add 2) _ (ext ∷ ext ∷ []) changed_twice_2 refl refl (refl, (refl, tt)) refl 1 refl

module _ (items : List Item) (closed : IsClosed (outside_twice (op.Compare cmp.Less)) items) where
  order_twice_0 : Arrives (outside_twice (op.Compare cmp.Less)) items 0 0 [] []
  order_twice_0 = begin (outside_twice (op.Compare cmp.Less)) items closed (omega arith) refl

  order_twice_1 : Arrives (outside_twice (op.Compare cmp.Less)) items 1 1 (slot main 0 ∷ []) (ext ∷ [])
  order_twice_1 = assign (outside_twice (op.Compare cmp.Less)) items closed (op.LoadName 0) _ [] yields.Ext ext (slot main 0) order_twice_0 refl refl refl refl (omega arith) (omega arith) refl tt 0 refl refl refl

  order_twice_2 : Arrives (outside_twice (op.Compare cmp.Less)) items 2 2 (slot main 1 ∷ slot main 0 ∷ []) (ext ∷ ext ∷ [])
  order_twice_2 = assign (outside_twice (op.Compare cmp.Less)) items closed (op.LoadName 0) _ [] yields.Ext ext (slot main 1) order_twice_1 refl refl refl refl (omega arith) (omega arith) refl tt 0 refl refl refl

  pub order_is_unchecked : IsUnchecked (outside_twice (op.Compare cmp.Less)) items 1
  order_is_unchecked = unchecks (outside_twice (op.Compare cmp.Less)) items closed (op.Compare cmp.Less) _ (ext ∷ ext ∷ []) order_twice_2 refl refl (refl, (refl, tt)) refl 1 refl

module _ (items : List Item) (closed : IsClosed (outside_twice (op.Compare cmp.Within)) items) where
  within_twice_0 : Arrives (outside_twice (op.Compare cmp.Within)) items 0 0 [] []
  within_twice_0 = begin (outside_twice (op.Compare cmp.Within)) items closed (omega arith) refl

  within_twice_1 : Arrives (outside_twice (op.Compare cmp.Within)) items 1 1 (slot main 0 ∷ []) (ext ∷ [])
  within_twice_1 = assign (outside_twice (op.Compare cmp.Within)) items closed (op.LoadName 0) _ [] yields.Ext ext (slot main 0) within_twice_0 refl refl refl refl (omega arith) (omega arith) refl tt 0 refl refl refl

  within_twice_2 : Arrives (outside_twice (op.Compare cmp.Within)) items 2 2 (slot main 1 ∷ slot main 0 ∷ []) (ext ∷ ext ∷ [])
  within_twice_2 = assign (outside_twice (op.Compare cmp.Within)) items closed (op.LoadName 0) _ [] yields.Ext ext (slot main 1) within_twice_1 refl refl refl refl (omega arith) (omega arith) refl tt 0 refl refl refl

  pub within_is_unchecked : IsUnchecked (outside_twice (op.Compare cmp.Within)) items 1
  within_is_unchecked = unchecks (outside_twice (op.Compare cmp.Within)) items closed (op.Compare cmp.Within) _ (ext ∷ ext ∷ []) within_twice_2 refl refl (refl, (refl, tt)) refl 1 refl

module _ (items : List Item) (closed : IsClosed loop_module items) where
  loop_0 : Arrives loop_module items 0 0 [] []
  loop_0 = begin loop_module items closed (omega arith) refl

  loop_1 : Arrives loop_module items 1 1 (slot main 0 ∷ []) (int ∷ [])
  loop_1 = assign loop_module items closed (op.Const const.Int) _ [] yields.Int int (slot main 0) loop_0 refl refl refl refl (omega arith) (omega arith) refl tt 0 refl refl refl

  loop_2 : Arrives loop_module items 2 0 (global 0 ∷ slot main 0 ∷ []) (int ∷ int ∷ [])
  loop_2 = assign loop_module items closed (op.StoreName 0) _ (int ∷ []) (yields.Read 0) int (global 0) loop_1 refl refl refl refl (omega arith) (omega arith) refl (refl, tt) 0 refl refl refl

  first_test_1 : Arrives loop_module items 3 1 (slot main 0 ∷ global 0 ∷ slot main 0 ∷ []) (int ∷ int ∷ int ∷ [])
  first_test_1 = assign loop_module items closed (op.LoadName 0) _ (int ∷ []) (yields.Read 0) int (slot main 0) loop_2 refl refl refl refl (omega arith) (omega arith) refl (refl, tt) 0 refl refl refl

  first_test_2 : Arrives loop_module items 4 2 (slot main 1 ∷ slot main 0 ∷ global 0 ∷ slot main 0 ∷ []) (int ∷ int ∷ int ∷ int ∷ [])
  first_test_2 = assign loop_module items closed (op.Const const.Int) _ [] yields.Int int (slot main 1) first_test_1 refl refl refl refl (omega arith) (omega arith) refl tt 0 refl refl refl

  first_true : Arrives loop_module items 5 1 (slot main 0 ∷ slot main 1 ∷ slot main 0 ∷ global 0 ∷ slot main 0 ∷ []) (true_value ∷ int ∷ int ∷ int ∷ int ∷ [])
  first_true = assign loop_module items closed (op.Compare cmp.Equal) _ (int ∷ int ∷ []) yields.TrueValue true_value (slot main 0) first_test_2 refl refl refl refl (omega arith) (omega arith) refl (refl, (refl, tt)) 0 refl refl refl

  first_false : Arrives loop_module items 5 1 (slot main 0 ∷ slot main 1 ∷ slot main 0 ∷ global 0 ∷ slot main 0 ∷ []) (false_value ∷ int ∷ int ∷ int ∷ int ∷ [])
  first_false = assign loop_module items closed (op.Compare cmp.Equal) _ (int ∷ int ∷ []) yields.FalseValue false_value (slot main 0) first_test_2 refl refl refl refl (omega arith) (omega arith) refl (refl, (refl, tt)) 1 refl refl refl

  int_out : Arrives loop_module items 9 0 (slot main 0 ∷ slot main 1 ∷ slot main 0 ∷ global 0 ∷ slot main 0 ∷ []) (false_value ∷ int ∷ int ∷ int ∷ int ∷ [])
  int_out = jump loop_module items closed (op.JumpIfFalse 9) _ first_false refl refl (passes false_value refl (inl refl)) (omega arith) (omega arith)

  int_9 : Arrives loop_module items 10 1 (slot main 0 ∷ slot main 0 ∷ slot main 1 ∷ slot main 0 ∷ global 0 ∷ slot main 0 ∷ []) (int ∷ false_value ∷ int ∷ int ∷ int ∷ int ∷ [])
  int_9 = assign loop_module items closed (op.LoadName 0) _ (int ∷ []) (yields.Read 0) int (slot main 0) int_out refl refl refl refl (omega arith) (omega arith) refl (refl, tt) 0 refl refl refl

  int_10 : Arrives loop_module items 11 0 (global 1 ∷ slot main 0 ∷ slot main 0 ∷ slot main 1 ∷ slot main 0 ∷ global 0 ∷ slot main 0 ∷ []) (int ∷ int ∷ false_value ∷ int ∷ int ∷ int ∷ int ∷ [])
  int_10 = assign loop_module items closed (op.StoreName 1) _ (int ∷ []) (yields.Read 0) int (global 1) int_9 refl refl refl refl (omega arith) (omega arith) refl (refl, tt) 0 refl refl refl

  int_11 : Arrives loop_module items 12 1 (slot main 0 ∷ global 1 ∷ slot main 0 ∷ slot main 0 ∷ slot main 1 ∷ slot main 0 ∷ global 0 ∷ slot main 0 ∷ []) (int ∷ int ∷ int ∷ false_value ∷ int ∷ int ∷ int ∷ int ∷ [])
  int_11 = assign loop_module items closed (op.LoadName 0) _ (int ∷ []) (yields.Read 0) int (slot main 0) int_10 refl refl refl refl (omega arith) (omega arith) refl (refl, tt) 0 refl refl refl

  int_12 : Arrives loop_module items 13 1 (slot main 0 ∷ slot main 0 ∷ global 1 ∷ slot main 0 ∷ slot main 0 ∷ slot main 1 ∷ slot main 0 ∷ global 0 ∷ slot main 0 ∷ []) (int ∷ int ∷ int ∷ int ∷ false_value ∷ int ∷ int ∷ int ∷ int ∷ [])
  int_12 = assign loop_module items closed (op.Unary un.Minus) _ (int ∷ []) yields.Int int (slot main 0) int_11 refl refl refl refl (omega arith) (omega arith) refl (refl, tt) 0 refl refl refl

  int_13 : Arrives loop_module items 14 0 (global 2 ∷ slot main 0 ∷ slot main 0 ∷ global 1 ∷ slot main 0 ∷ slot main 0 ∷ slot main 1 ∷ slot main 0 ∷ global 0 ∷ slot main 0 ∷ []) (int ∷ int ∷ int ∷ int ∷ int ∷ false_value ∷ int ∷ int ∷ int ∷ int ∷ [])
  int_13 = assign loop_module items closed (op.StoreName 2) _ (int ∷ []) (yields.Read 0) int (global 2) int_12 refl refl refl refl (omega arith) (omega arith) refl (refl, tt) 0 refl refl refl

  pub x_ends_with_int : EndsWith loop_module items 0 int
  x_ends_with_int = ends loop_module items closed 0 int int_13 refl refl

  pub y_ends_with_int : EndsWith loop_module items 1 int
  y_ends_with_int = ends loop_module items closed 1 int int_13 refl refl

  pub z_ends_with_int : EndsWith loop_module items 2 int
  z_ends_with_int = ends loop_module items closed 2 int int_13 refl refl

  inside : Arrives loop_module items 6 0 (slot main 0 ∷ slot main 1 ∷ slot main 0 ∷ global 0 ∷ slot main 0 ∷ []) (true_value ∷ int ∷ int ∷ int ∷ int ∷ [])
  inside = pass loop_module items closed (op.JumpIfFalse 9) first_true refl refl refl (passes true_value refl (inl refl)) (omega arith) (omega arith) refl

  inside_1 : Arrives loop_module items 7 1 (slot main 0 ∷ slot main 0 ∷ slot main 1 ∷ slot main 0 ∷ global 0 ∷ slot main 0 ∷ []) (str ∷ true_value ∷ int ∷ int ∷ int ∷ int ∷ [])
  inside_1 = assign loop_module items closed (op.Const const.Str) _ [] yields.Str str (slot main 0) inside refl refl refl refl (omega arith) (omega arith) refl tt 0 refl refl refl

  inside_2 : Arrives loop_module items 8 0 (global 0 ∷ slot main 0 ∷ slot main 0 ∷ slot main 1 ∷ slot main 0 ∷ global 0 ∷ slot main 0 ∷ []) (str ∷ str ∷ true_value ∷ int ∷ int ∷ int ∷ int ∷ [])
  inside_2 = assign loop_module items closed (op.StoreName 0) _ (str ∷ []) (yields.Read 0) str (global 0) inside_1 refl refl refl refl (omega arith) (omega arith) refl (refl, tt) 0 refl refl refl

  again : Arrives loop_module items 2 0 (global 0 ∷ slot main 0 ∷ slot main 0 ∷ slot main 1 ∷ slot main 0 ∷ global 0 ∷ slot main 0 ∷ []) (str ∷ str ∷ true_value ∷ int ∷ int ∷ int ∷ int ∷ [])
  again = jump loop_module items closed (op.Jump 2) _ inside_2 refl refl unasked (omega arith) (omega arith)

  second_test_1 : Arrives loop_module items 3 1 (slot main 0 ∷ global 0 ∷ slot main 0 ∷ slot main 0 ∷ slot main 1 ∷ slot main 0 ∷ global 0 ∷ slot main 0 ∷ []) (str ∷ str ∷ str ∷ true_value ∷ int ∷ int ∷ int ∷ int ∷ [])
  second_test_1 = assign loop_module items closed (op.LoadName 0) _ (str ∷ []) (yields.Read 0) str (slot main 0) again refl refl refl refl (omega arith) (omega arith) refl (refl, tt) 0 refl refl refl

  second_test_2 : Arrives loop_module items 4 2 (slot main 1 ∷ slot main 0 ∷ global 0 ∷ slot main 0 ∷ slot main 0 ∷ slot main 1 ∷ slot main 0 ∷ global 0 ∷ slot main 0 ∷ []) (int ∷ str ∷ str ∷ str ∷ true_value ∷ int ∷ int ∷ int ∷ int ∷ [])
  second_test_2 = assign loop_module items closed (op.Const const.Int) _ [] yields.Int int (slot main 1) second_test_1 refl refl refl refl (omega arith) (omega arith) refl tt 0 refl refl refl

  second_false : Arrives loop_module items 5 1 (slot main 0 ∷ slot main 1 ∷ slot main 0 ∷ global 0 ∷ slot main 0 ∷ slot main 0 ∷ slot main 1 ∷ slot main 0 ∷ global 0 ∷ slot main 0 ∷ []) (false_value ∷ int ∷ str ∷ str ∷ str ∷ true_value ∷ int ∷ int ∷ int ∷ int ∷ [])
  second_false = assign loop_module items closed (op.Compare cmp.Equal) _ (str ∷ int ∷ []) yields.FalseValue false_value (slot main 0) second_test_2 refl refl refl refl (omega arith) (omega arith) refl (refl, (refl, tt)) 1 refl refl refl

  text_out : Arrives loop_module items 9 0 (slot main 0 ∷ slot main 1 ∷ slot main 0 ∷ global 0 ∷ slot main 0 ∷ slot main 0 ∷ slot main 1 ∷ slot main 0 ∷ global 0 ∷ slot main 0 ∷ []) (false_value ∷ int ∷ str ∷ str ∷ str ∷ true_value ∷ int ∷ int ∷ int ∷ int ∷ [])
  text_out = jump loop_module items closed (op.JumpIfFalse 9) _ second_false refl refl (passes false_value refl (inl refl)) (omega arith) (omega arith)

  text_9 : Arrives loop_module items 10 1 (slot main 0 ∷ slot main 0 ∷ slot main 1 ∷ slot main 0 ∷ global 0 ∷ slot main 0 ∷ slot main 0 ∷ slot main 1 ∷ slot main 0 ∷ global 0 ∷ slot main 0 ∷ []) (str ∷ false_value ∷ int ∷ str ∷ str ∷ str ∷ true_value ∷ int ∷ int ∷ int ∷ int ∷ [])
  text_9 = assign loop_module items closed (op.LoadName 0) _ (str ∷ []) (yields.Read 0) str (slot main 0) text_out refl refl refl refl (omega arith) (omega arith) refl (refl, tt) 0 refl refl refl

  text_10 : Arrives loop_module items 11 0 (global 1 ∷ slot main 0 ∷ slot main 0 ∷ slot main 1 ∷ slot main 0 ∷ global 0 ∷ slot main 0 ∷ slot main 0 ∷ slot main 1 ∷ slot main 0 ∷ global 0 ∷ slot main 0 ∷ []) (str ∷ str ∷ false_value ∷ int ∷ str ∷ str ∷ str ∷ true_value ∷ int ∷ int ∷ int ∷ int ∷ [])
  text_10 = assign loop_module items closed (op.StoreName 1) _ (str ∷ []) (yields.Read 0) str (global 1) text_9 refl refl refl refl (omega arith) (omega arith) refl (refl, tt) 0 refl refl refl

  text_11 : Arrives loop_module items 12 1 (slot main 0 ∷ global 1 ∷ slot main 0 ∷ slot main 0 ∷ slot main 1 ∷ slot main 0 ∷ global 0 ∷ slot main 0 ∷ slot main 0 ∷ slot main 1 ∷ slot main 0 ∷ global 0 ∷ slot main 0 ∷ []) (str ∷ str ∷ str ∷ false_value ∷ int ∷ str ∷ str ∷ str ∷ true_value ∷ int ∷ int ∷ int ∷ int ∷ [])
  text_11 = assign loop_module items closed (op.LoadName 0) _ (str ∷ []) (yields.Read 0) str (slot main 0) text_10 refl refl refl refl (omega arith) (omega arith) refl (refl, tt) 0 refl refl refl

  pub negation_is_found : IsFinding loop_module items (record { line = 5; kind = kind.UnsupportedOperands; text = codes "- str" })
  negation_is_found = finds loop_module items closed (op.Unary un.Minus) _ (str ∷ []) text_11 refl refl (refl, tt) (fault.Unary un.Minus) refl 5 refl

  text_12 : Arrives loop_module items 13 1 (global 1 ∷ global 0 ∷ []) (str ∷ str ∷ [])
  text_12 = keep loop_module items closed (op.Unary un.Minus) (global 1 ∷ global 0 ∷ []) (str ∷ str ∷ []) (slot main 0) text_11 refl refl refl refl (omega arith) (omega arith) refl refl (refl, (refl, tt))

  text_13 : Arrives loop_module items 14 0 (global 1 ∷ global 0 ∷ []) (str ∷ str ∷ [])
  text_13 = keep loop_module items closed (op.StoreName 2) (global 1 ∷ global 0 ∷ []) (str ∷ str ∷ []) (global 2) text_12 refl refl refl refl (omega arith) (omega arith) refl refl (refl, (refl, tt))

  pub x_ends_with_str : EndsWith loop_module items 0 str
  x_ends_with_str = ends loop_module items closed 0 str text_13 refl refl

  pub y_ends_with_str : EndsWith loop_module items 1 str
  y_ends_with_str = ends loop_module items closed 1 str text_13 refl refl

module _ (items : List Item) (closed : IsClosed branch_module items) where
  branch_0 : Arrives branch_module items 0 0 [] []
  branch_0 = begin branch_module items closed (omega arith) refl

  branch_1 : Arrives branch_module items 1 1 (slot main 0 ∷ []) (none ∷ [])
  branch_1 = assign branch_module items closed (op.Const const.NoneValue) _ [] yields.NoneValue none (slot main 0) branch_0 refl refl refl refl (omega arith) (omega arith) refl tt 0 refl refl refl

  branch_2 : Arrives branch_module items 2 0 (global 0 ∷ slot main 0 ∷ []) (none ∷ none ∷ [])
  branch_2 = assign branch_module items closed (op.StoreName 0) _ (none ∷ []) (yields.Read 0) none (global 0) branch_1 refl refl refl refl (omega arith) (omega arith) refl (refl, tt) 0 refl refl refl

  branch_3 : Arrives branch_module items 3 1 (slot main 0 ∷ global 0 ∷ slot main 0 ∷ []) (none ∷ none ∷ none ∷ [])
  branch_3 = assign branch_module items closed (op.LoadName 0) _ (none ∷ []) (yields.Read 0) none (slot main 0) branch_2 refl refl refl refl (omega arith) (omega arith) refl (refl, tt) 0 refl refl refl

  branch_4 : Arrives branch_module items 4 2 (slot main 1 ∷ slot main 0 ∷ global 0 ∷ slot main 0 ∷ []) (none ∷ none ∷ none ∷ none ∷ [])
  branch_4 = assign branch_module items closed (op.Const const.NoneValue) _ [] yields.NoneValue none (slot main 1) branch_3 refl refl refl refl (omega arith) (omega arith) refl tt 0 refl refl refl

  branch_5 : Arrives branch_module items 5 1 (slot main 0 ∷ slot main 1 ∷ slot main 0 ∷ global 0 ∷ slot main 0 ∷ []) (true_value ∷ none ∷ none ∷ none ∷ none ∷ [])
  branch_5 = assign branch_module items closed (op.Compare cmp.Is) _ (none ∷ none ∷ []) yields.TrueValue true_value (slot main 0) branch_4 refl refl refl refl (omega arith) (omega arith) refl (refl, (refl, tt)) 0 refl refl refl

  branch_6 : Arrives branch_module items 6 0 (slot main 0 ∷ slot main 1 ∷ slot main 0 ∷ global 0 ∷ slot main 0 ∷ []) (true_value ∷ none ∷ none ∷ none ∷ none ∷ [])
  branch_6 = pass branch_module items closed (op.JumpIfFalse 9) branch_5 refl refl refl (passes true_value refl (inl refl)) (omega arith) (omega arith) refl

  branch_7 : Arrives branch_module items 7 1 (slot main 0 ∷ slot main 0 ∷ slot main 1 ∷ slot main 0 ∷ global 0 ∷ slot main 0 ∷ []) (int ∷ true_value ∷ none ∷ none ∷ none ∷ none ∷ [])
  branch_7 = assign branch_module items closed (op.Const const.Int) _ [] yields.Int int (slot main 0) branch_6 refl refl refl refl (omega arith) (omega arith) refl tt 0 refl refl refl

  branch_8 : Arrives branch_module items 8 0 (global 1 ∷ slot main 0 ∷ slot main 0 ∷ slot main 1 ∷ slot main 0 ∷ global 0 ∷ slot main 0 ∷ []) (int ∷ int ∷ true_value ∷ none ∷ none ∷ none ∷ none ∷ [])
  branch_8 = assign branch_module items closed (op.StoreName 1) _ (int ∷ []) (yields.Read 0) int (global 1) branch_7 refl refl refl refl (omega arith) (omega arith) refl (refl, tt) 0 refl refl refl

  branch_end : Arrives branch_module items 11 0 (global 1 ∷ slot main 0 ∷ slot main 0 ∷ slot main 1 ∷ slot main 0 ∷ global 0 ∷ slot main 0 ∷ []) (int ∷ int ∷ true_value ∷ none ∷ none ∷ none ∷ none ∷ [])
  branch_end = jump branch_module items closed (op.Jump 11) _ branch_8 refl refl unasked (omega arith) (omega arith)

  pub x_ends_with_none : EndsWith branch_module items 0 none
  x_ends_with_none = ends branch_module items closed 0 none branch_end refl refl

  pub y_of_branch_ends_with_int : EndsWith branch_module items 1 int
  y_of_branch_ends_with_int = ends branch_module items closed 1 int branch_end refl refl
