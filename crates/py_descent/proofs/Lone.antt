-- A test that is a name before `=` is that name alone.
use Rattle.std.proofs.Common.{◌≡◌, ℕ, Bool, Some, refl, sym, ap, ◌∙◌, subst, arith}
use Rattle.py_tokens.specs.declared.token.TokenKind.TheVariants as kind
use Rattle.py_tokens.specs.declared.token.Keyword.TheVariants as word
use Rattle.py_tokens.specs.declared.token.Op.{Op}
use Rattle.py_tokens.specs.declared.token.Op.TheVariants as op
use Rattle.place_ids.specs.declared.operators.BinOp.{BinOp}
use Rattle.place_ids.specs.declared.operators.CompareOp.{CompareOp}
use Rattle.py_tree.specs.Tree.{Expr}
use Rattle.py_grammar.specs.Cursor.{Cursor, next, past, Begins, BeginsOp, BeginsWord}
use Rattle.py_grammar.specs.Operators
use Rattle.py_grammar.specs.Operators.{IsBinary}
use Rattle.py_grammar.specs.Expressions.{AreStrs, strs_one, strs_more, AreOctets, octets_one, octets_more, IsComparison, IsTest, test_or, test_choice, IsOr, or_and, or_or, IsAnd, and_not, and_and, IsNot, not_compare, not_not, IsCompare, compare_one, compare_two, IsOperation, operation_factor, operation_next, operation_binary, IsFactor, factor_power, factor_unary, IsPower, power_primary, power_pow, IsPrimary, primary_atom, primary_attr, primary_call, primary_item, primary_slice, IsAtom, atom_name, atom_int, atom_float, atom_strs, atom_octets, atom_none, atom_true, atom_false, atom_unit, atom_group, atom_empty_list, atom_list, atom_dict, atom_super}
use Rattle.py_descent.proofs.Stops.{pull, comparison_pull}

-- two tokens that differ don't stand at one place
apart : (c : Cursor) (k l : _) → next c ≡ Some k → next c ≡ Some l → k ≡ l
apart c k l h i = let same : Some k ≡ Some l = sym h ∙ i in cc

module _ (c : Cursor) (n : ℕ) (name : next c ≡ Some (kind.Name n)) (assign : BeginsOp op.Assign (past c)) where
  lone_strs : (b : Bool) (d : Cursor) → AreStrs c b d → BeginsOp op.Assign d
  lone_strs _ _ (strs_one h) = absurd (no h) where
    no : {b : Bool} → next c ≡ Some (kind.Str b) → ⊥
    no h = let same = sym name ∙ h in cc
  lone_strs _ _ (strs_more h k) = absurd (no h) where
    no : {b : Bool} → next c ≡ Some (kind.Str b) → ⊥
    no h = let same = sym name ∙ h in cc

  lone_octets : (b : Bool) (d : Cursor) → AreOctets c b d → BeginsOp op.Assign d
  lone_octets _ _ (octets_one h) = absurd (no h) where
    no : {b : Bool} → next c ≡ Some (kind.Bytes b) → ⊥
    no h = let same = sym name ∙ h in cc
  lone_octets _ _ (octets_more h k) = absurd (no h) where
    no : {b : Bool} → next c ≡ Some (kind.Bytes b) → ⊥
    no h = let same = sym name ∙ h in cc

  lone_atom : (e : Expr) (d : Cursor) → IsAtom c e d → BeginsOp op.Assign d
  lone_atom _ _ (atom_name h) = assign
  lone_atom _ _ (atom_int h) = let same = sym name ∙ h in absurd cc
  lone_atom _ _ (atom_float h) = let same = sym name ∙ h in absurd cc
  lone_atom _ _ (atom_strs h) = lone_strs _ _ h
  lone_atom _ _ (atom_octets h) = lone_octets _ _ h
  lone_atom _ _ (atom_none h) = let same = sym name ∙ h in absurd cc
  lone_atom _ _ (atom_true h) = let same = sym name ∙ h in absurd cc
  lone_atom _ _ (atom_false h) = let same = sym name ∙ h in absurd cc
  lone_atom _ _ (atom_unit h k) = let same = sym name ∙ h in absurd cc
  lone_atom _ _ (atom_group h k l) = let same = sym name ∙ h in absurd cc
  lone_atom _ _ (atom_empty_list h k) = let same = sym name ∙ h in absurd cc
  lone_atom _ _ (atom_list h k l) = let same = sym name ∙ h in absurd cc
  lone_atom _ _ (atom_dict h k l) = let same = sym name ∙ h in absurd cc
  lone_atom _ _ (atom_super h i j k l m) = let same = sym assign ∙ j in absurd cc

  lone_primary : (e : Expr) (d : Cursor) → IsPrimary c e d → BeginsOp op.Assign d
  lone_primary _ _ (primary_atom h) = lone_atom _ _ h
  lone_primary _ _ (primary_attr h i j) = let same = sym (lone_primary _ _ h) ∙ i in absurd cc
  lone_primary _ _ (primary_call h i j k) = let same = sym (lone_primary _ _ h) ∙ i in absurd cc
  lone_primary _ _ (primary_item h i j k) = let same = sym (lone_primary _ _ h) ∙ i in absurd cc
  lone_primary _ _ (primary_slice h i j k) = let same = sym (lone_primary _ _ h) ∙ i in absurd cc

  lone_power : (e : Expr) (d : Cursor) → IsPower c e d → BeginsOp op.Assign d
  lone_power _ _ (power_primary h) = lone_primary _ _ h
  lone_power _ _ (power_pow h i j) = let same = sym (lone_primary _ _ h) ∙ i in absurd cc

  lone_factor : (e : Expr) (d : Cursor) → IsFactor c e d → BeginsOp op.Assign d
  lone_factor _ _ (factor_power h) = lone_power _ _ h
  lone_factor _ _ (factor_unary h i j) = let same = sym name ∙ h in absurd cc

  no_binary_assign : (t : Op) (m : ℕ) (o : BinOp) → IsBinary t m o → op.Assign ≡ t → ⊥
  no_binary_assign _ _ _ Operators.binary_or e = cc
  no_binary_assign _ _ _ Operators.binary_xor e = cc
  no_binary_assign _ _ _ Operators.binary_and e = cc
  no_binary_assign _ _ _ Operators.binary_shift_left e = cc
  no_binary_assign _ _ _ Operators.binary_shift_right e = cc
  no_binary_assign _ _ _ Operators.binary_add e = cc
  no_binary_assign _ _ _ Operators.binary_sub e = cc
  no_binary_assign _ _ _ Operators.binary_mul e = cc
  no_binary_assign _ _ _ Operators.binary_div e = cc
  no_binary_assign _ _ _ Operators.binary_floor_div e = cc
  no_binary_assign _ _ _ Operators.binary_mod e = cc
  no_binary_assign _ _ _ Operators.binary_mat_mul e = cc

  lone_operation : (m : ℕ) (e : Expr) (d : Cursor) → IsOperation m c e d → BeginsOp op.Assign d
  lone_operation _ _ _ (operation_factor h) = lone_factor _ _ h
  lone_operation _ _ _ (operation_next h) = lone_operation _ _ _ h
  lone_operation _ _ _ (operation_binary {t = t} h i j k) = let same = sym (lone_operation _ _ _ h) ∙ i in let tok : op.Assign ≡ t = cc in absurd (no_binary_assign _ _ _ j tok)

  lone_compare : (e : Expr) (d : Cursor) → IsCompare c e d → BeginsOp op.Assign d
  lone_compare _ _ (compare_one h) = lone_operation _ _ _ h
  lone_compare _ _ (compare_two h i j) = absurd (no (ap pull (lone_operation _ _ _ h)) (comparison_pull _ _ _ i)) where
    no : {m : ℕ} → m ≡ 0 → m ≡ 5 → ⊥
    no h i = let same = sym h ∙ i in omega (arith, same)

  lone_not : (e : Expr) (d : Cursor) → IsNot c e d → BeginsOp op.Assign d
  lone_not _ _ (not_compare h) = lone_compare _ _ h
  lone_not _ _ (not_not h i) = let same = sym name ∙ h in absurd cc

  lone_and : (e : Expr) (d : Cursor) → IsAnd c e d → BeginsOp op.Assign d
  lone_and _ _ (and_not h) = lone_not _ _ h
  lone_and _ _ (and_and h i j) = let same = sym (lone_and _ _ h) ∙ i in absurd cc

  lone_or : (e : Expr) (d : Cursor) → IsOr c e d → BeginsOp op.Assign d
  lone_or _ _ (or_and h) = lone_and _ _ h
  lone_or _ _ (or_or h i j) = let same = sym (lone_or _ _ h) ∙ i in absurd cc

  pub lone_test : (e : Expr) (d : Cursor) → IsTest c e d → BeginsOp op.Assign d
  lone_test _ _ (test_or h) = lone_or _ _ h
  lone_test _ _ (test_choice h i j k l) = let same = sym (lone_or _ _ h) ∙ i in absurd cc
