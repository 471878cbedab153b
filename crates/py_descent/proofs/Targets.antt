-- An expression whose tree is a target stands for one.
use Rattle.std.proofs.Common.{◌≡◌, ℕ, ◌+◌, ◌-◌, ◌&&◌, Bool, true, false, slice_get, refl, ap, ◌∙◌, arith}
use Rattle.py_tokens.specs.declared.token.Op.TheVariants as op
use Rattle.py_tree.specs.Tree.{Expr, Exprs, no_exprs, expr}
use Rattle.py_grammar.specs.Cursor.{Cursor, kind_in, BeginsOp, past}
use Rattle.py_grammar.specs.Expressions.{IsTest, test_or, test_choice, IsOr, or_and, or_or, IsAnd, and_not, and_and, IsNot, not_compare, not_not, IsCompare, compare_one, compare_two, IsOperation, operation_factor, operation_next, operation_binary, IsFactor, factor_power, factor_unary, IsPower, power_primary, power_pow, IsPrimary, primary_atom, primary_attr, primary_call, primary_item, primary_slice, IsAtom, atom_name, atom_int, atom_float, atom_strs, atom_octets, atom_none, atom_true, atom_false, atom_unit, atom_group, atom_empty_list, atom_list, atom_dict, atom_super, AreTests, tests_last, tests_comma, tests_more, IsTests, tests_one, tests_single, tests_tuple}
use Rattle.py_grammar.specs.Statements.{IsSingle, single_name, single_attr, IsTarget, target_single, target_item, target_group, target_list, AreTargets, targets_last, targets_comma, targets_more, IsTargets, targets_one, targets_single, targets_tuple, is_plural}
use Rattle.py_descent.specs.Takings.{is_name_in}
use Rattle.py_descent.specs.Bodies.{is_target, some_targets, are_targets, is_single, after_name}
use Rattle.py_descent.proofs.Parts.{ArePrimaries, primaries_last, primaries_comma, primaries_more}

pub both_first : (a b : Bool) → (a && b) ≡ true → a ≡ true
both_first true b h = refl
both_first false b h = absurd cc

pub both_second : (a b : Bool) → (a && b) ≡ true → b ≡ true
both_second true b h = h
both_second false b h = absurd cc

some_are : (es : Exprs) → some_targets es ≡ true → are_targets es ≡ true
unfolding is_target
some_are no_exprs h = absurd cc
some_are (expr e es) h = h

mutual
  unfolding is_target

  test_target : {c d : Cursor} {e : Expr} → IsTest c e d → is_target e ≡ true → IsTarget c e d
  test_target (test_or h) t = or_target h t
  test_target (test_choice _ _ _ _ _) t = absurd cc

  or_target : {c d : Cursor} {e : Expr} → IsOr c e d → is_target e ≡ true → IsTarget c e d
  or_target (or_and h) t = and_target h t
  or_target (or_or _ _ _) t = absurd cc

  and_target : {c d : Cursor} {e : Expr} → IsAnd c e d → is_target e ≡ true → IsTarget c e d
  and_target (and_not h) t = not_target h t
  and_target (and_and _ _ _) t = absurd cc

  not_target : {c d : Cursor} {e : Expr} → IsNot c e d → is_target e ≡ true → IsTarget c e d
  not_target (not_compare h) t = compare_target h t
  not_target (not_not _ _) t = absurd cc

  compare_target : {c d : Cursor} {e : Expr} → IsCompare c e d → is_target e ≡ true → IsTarget c e d
  compare_target (compare_one h) t = operation_target h t
  compare_target (compare_two _ _ _) t = absurd cc

  operation_target : {n : ℕ} {c d : Cursor} {e : Expr} → IsOperation n c e d → is_target e ≡ true → IsTarget c e d
  operation_target (operation_factor h) t = factor_target h t
  operation_target (operation_next h) t = operation_target h t
  operation_target (operation_binary _ _ _ _) t = absurd cc

  factor_target : {c d : Cursor} {e : Expr} → IsFactor c e d → is_target e ≡ true → IsTarget c e d
  factor_target (factor_power h) t = power_target h t
  factor_target (factor_unary _ _ _) t = absurd cc

  power_target : {c d : Cursor} {e : Expr} → IsPower c e d → is_target e ≡ true → IsTarget c e d
  power_target (power_primary h) t = primary_target h t
  power_target (power_pow _ _ _) t = absurd cc

  pub primary_target : {c d : Cursor} {e : Expr} → IsPrimary c e d → is_target e ≡ true → IsTarget c e d
  primary_target (primary_atom h) t = atom_target h t
  primary_target (primary_attr h k p) t = target_single (single_attr h k p)
  primary_target (primary_call _ _ _ _) t = absurd cc
  primary_target (primary_item h k i r) t = target_item h k i r
  primary_target (primary_slice _ _ _ _) t = absurd cc

  atom_target : {c d : Cursor} {e : Expr} → IsAtom c e d → is_target e ≡ true → IsTarget c e d
  atom_target (atom_name h) t = target_single (single_name h)
  atom_target (atom_int _) t = absurd cc
  atom_target (atom_float _) t = absurd cc
  atom_target (atom_strs _) t = absurd cc
  atom_target (atom_octets _) t = absurd cc
  atom_target (atom_none _) t = absurd cc
  atom_target (atom_true _) t = absurd cc
  atom_target (atom_false _) t = absurd cc
  atom_target (atom_unit _ _) t = absurd cc
  atom_target (atom_group k h r) t = target_group k (tests_target h t) r
  atom_target (atom_empty_list _ _) t = absurd cc
  atom_target (atom_list {es = es} k h r) t = target_list k (list_targets h (some_are es t)) r
  atom_target (atom_dict _ _ _) t = absurd cc
  atom_target (atom_super _ _ _ _ _ _) t = absurd cc

  list_targets : {c d : Cursor} {es : Exprs} → AreTests c es d → are_targets es ≡ true → AreTargets c es d
  list_targets (tests_last h) t = targets_last (test_target h (both_first _ _ t))
  list_targets (tests_comma h k) t = targets_comma (test_target h (both_first _ _ t)) k
  list_targets (tests_more {e = e} h k hs) t = targets_more (test_target h (both_first _ _ t)) k (list_targets hs (both_second (is_target e) _ t))

  pub tests_target : {c d : Cursor} {e : Expr} → IsTests c e d → is_target e ≡ true → IsTargets c e d
  tests_target (tests_one h) t = targets_one (test_target h t)
  tests_target (tests_single h k) t = targets_single (test_target h (both_first _ _ t)) k
  tests_target (tests_tuple {e = e} h k hs) t = targets_tuple (test_target h (both_first _ _ t)) k (list_targets hs (both_second (is_target e) _ t))

-- the same of primaries, one after the other
pub primaries_targets : {c d : Cursor} {es : Exprs} → ArePrimaries c es d → are_targets es ≡ true → AreTargets c es d
unfolding is_target
primaries_targets (primaries_last h) t = targets_last (primary_target h (both_first _ _ t))
primaries_targets (primaries_comma h k) t = targets_comma (primary_target h (both_first _ _ t)) k
primaries_targets (primaries_more {e = e} h k hs) t = targets_more (primary_target h (both_first _ _ t)) k (primaries_targets hs (both_second (is_target e) _ t))

-- ---- Targets that are no tuple or list

pub lone_target : {c d : Cursor} {e : Expr} → IsTargets c e d → is_plural e ≡ false → IsTarget c e d
lone_target (targets_one h) p = h
lone_target (targets_single _ _) p = absurd cc
lone_target (targets_tuple _ _ _) p = absurd cc

-- what is in brackets has one before its end
bracket_before : (d : Cursor) → BeginsOp op.RightParen d → after_name (past d) ≡ false
unfolding after_name
bracket_before d r = let same : (d.place + 1) - 1 ≡ d.place = omega arith in ap (λ n. is_name_in (kind_in (slice_get d.tokens n))) same ∙ ap is_name_in r

not_both : (z : Bool) → z ≡ false → z ≡ true → ⊥
not_both z h k = cc

atom_single : {c d : Cursor} {e : Expr} → IsAtom c e d → is_single e ≡ true → after_name d ≡ true → IsSingle c e d
atom_single (atom_name h) s n = single_name h
atom_single (atom_int _) s n = absurd cc
atom_single (atom_float _) s n = absurd cc
atom_single (atom_strs _) s n = absurd cc
atom_single (atom_octets _) s n = absurd cc
atom_single (atom_none _) s n = absurd cc
atom_single (atom_true _) s n = absurd cc
atom_single (atom_false _) s n = absurd cc
atom_single (atom_unit _ _) s n = absurd cc
atom_single (atom_group {d = u} _ _ r) s n = absurd (not_both _ (bracket_before u r) n)
atom_single (atom_empty_list _ _) s n = absurd cc
atom_single (atom_list _ _ _) s n = absurd cc
atom_single (atom_dict _ _ _) s n = absurd cc
atom_single (atom_super _ _ _ _ _ _) s n = absurd cc

primary_single : {c d : Cursor} {e : Expr} → IsPrimary c e d → is_single e ≡ true → after_name d ≡ true → IsSingle c e d
primary_single (primary_atom h) s n = atom_single h s n
primary_single (primary_attr h k p) s n = single_attr h k p
primary_single (primary_call _ _ _ _) s n = absurd cc
primary_single (primary_item _ _ _ _) s n = absurd cc
primary_single (primary_slice _ _ _ _) s n = absurd cc

operation_single : {l : ℕ} {c d : Cursor} {e : Expr} → IsOperation l c e d → is_single e ≡ true → after_name d ≡ true → IsSingle c e d
operation_single (operation_factor (factor_power (power_primary h))) s n = primary_single h s n
operation_single (operation_factor (factor_power (power_pow _ _ _))) s n = absurd cc
operation_single (operation_factor (factor_unary _ _ _)) s n = absurd cc
operation_single (operation_next h) s n = operation_single h s n
operation_single (operation_binary _ _ _ _) s n = absurd cc

test_single : {c d : Cursor} {e : Expr} → IsTest c e d → is_single e ≡ true → after_name d ≡ true → IsSingle c e d
test_single (test_choice _ _ _ _ _) s n = absurd cc
test_single (test_or (or_or _ _ _)) s n = absurd cc
test_single (test_or (or_and (and_and _ _ _))) s n = absurd cc
test_single (test_or (or_and (and_not (not_not _ _)))) s n = absurd cc
test_single (test_or (or_and (and_not (not_compare (compare_two _ _ _))))) s n = absurd cc
test_single (test_or (or_and (and_not (not_compare (compare_one h))))) s n = operation_single h s n

pub tests_are_single : {c d : Cursor} {e : Expr} → IsTests c e d → is_single e ≡ true → after_name d ≡ true → IsSingle c e d
tests_are_single (tests_one h) s n = test_single h s n
tests_are_single (tests_single _ _) s n = absurd cc
tests_are_single (tests_tuple _ _ _) s n = absurd cc
