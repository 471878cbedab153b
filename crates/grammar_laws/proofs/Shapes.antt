-- What the grammar alone says of expressions, where each name among the tokens has a number.
use Rattle.std.proofs.Common.{◌≡◌, ℕ, ◌<◌, Bool, true, Some, slice_get, refl}
use Rattle.place_ids.specs.declared.operators.CompareOp.{CompareOp}
use Rattle.py_tree.specs.Tree.{Expr, Exprs, Bound, Args, Pairs}
use Rattle.py_tokens.specs.declared.token.TokenKind.TheVariants as kind
use Rattle.py_grammar.specs.Cursor.{Cursor, kind_in, past}
use Rattle.py_grammar.specs.Names.{IsName}
use Rattle.py_grammar.specs.Expressions.{AreStrs, strs_one, strs_more, AreOctets, octets_one, octets_more, IsComparison, comparison_less, comparison_greater, comparison_less_eq, comparison_greater_eq, comparison_equal, comparison_not_equal, comparison_is, comparison_is_not, comparison_within, comparison_not_within, IsTest, test_or, test_choice, IsOr, or_and, or_or, IsAnd, and_not, and_and, IsNot, not_compare, not_not, IsCompare, compare_one, compare_two, IsOperation, operation_factor, operation_next, operation_binary, IsFactor, factor_power, factor_unary, IsPower, power_primary, power_pow, IsPrimary, primary_atom, primary_attr, primary_call, primary_item, primary_slice, IsSlice, slice_two, slice_three, IsBound, bound_none, bound_some, AreArgs, args_none, args_last, args_more, arg_test, arg_named, IsAtom, atom_name, atom_int, atom_float, atom_strs, atom_octets, atom_none, atom_true, atom_false, atom_unit, atom_group, atom_empty_list, atom_list, atom_dict, atom_super, ArePairs, pairs_none, pairs_last, pairs_more, AreTests, tests_last, tests_comma, tests_more, IsTests, tests_one, tests_single, tests_tuple}
use Rattle.scope_rules.specs.WellFormed.{Surroundings, IsFormed, AreFormed, IsFormedBound, AreFormedArgs, AreFormedPairs}

-- where everything may stand
abbrev pub anywhere : ℕ → Surroundings
anywhere count = record { names = count; in_loop = true; in_function = true; in_method = true }

-- The names among a place's tokens have numbers below this one.
abbrev pub Numbered : ℕ → Cursor → Type 0
Numbered count c = (place n : ℕ) → kind_in (slice_get c.tokens place) ≡ Some (kind.Name n) → n < count

pub number_of : (count n : ℕ) (c : Cursor) → Numbered count c → IsName c n → n < count
number_of count n c h name = h c.place n name.begins

pub strs_numbered : {c d : Cursor} {b : Bool} (count : ℕ) → AreStrs c b d → Numbered count c → Numbered count d
strs_numbered count (strs_one b) h = h
strs_numbered count (strs_more b more) h = strs_numbered count more h

pub octets_numbered : {c d : Cursor} {b : Bool} (count : ℕ) → AreOctets c b d → Numbered count c → Numbered count d
octets_numbered count (octets_one b) h = h
octets_numbered count (octets_more b more) h = octets_numbered count more h

comparison_numbered : {c d : Cursor} {o : CompareOp} (count : ℕ) → IsComparison c o d → Numbered count c → Numbered count d
comparison_numbered count (comparison_less b) h = h
comparison_numbered count (comparison_greater b) h = h
comparison_numbered count (comparison_less_eq b) h = h
comparison_numbered count (comparison_greater_eq b) h = h
comparison_numbered count (comparison_equal b) h = h
comparison_numbered count (comparison_not_equal b) h = h
comparison_numbered count (comparison_is b other) h = h
comparison_numbered count (comparison_is_not b also) h = h
comparison_numbered count (comparison_within b) h = h
comparison_numbered count (comparison_not_within b also) h = h

mutual
  pub test_shape : {c d : Cursor} {e : Expr} (count : ℕ) → IsTest c e d → Numbered count c → IsFormed (anywhere count) e × Numbered count d
  test_shape count (test_or a) h = or_shape count a h
  test_shape count (test_choice a if' t else' o) h =
      let first = or_shape count a h in
      let second = or_shape count t first.1 in
      let third = test_shape count o second.1 in
      ((first.0, second.0, third.0), third.1)

  or_shape : {c d : Cursor} {e : Expr} (count : ℕ) → IsOr c e d → Numbered count c → IsFormed (anywhere count) e × Numbered count d
  or_shape count (or_and a) h = and_shape count a h
  or_shape count (or_or a word b) h =
      let first = or_shape count a h in
      let second = and_shape count b first.1 in
      ((first.0, second.0), second.1)

  and_shape : {c d : Cursor} {e : Expr} (count : ℕ) → IsAnd c e d → Numbered count c → IsFormed (anywhere count) e × Numbered count d
  and_shape count (and_not a) h = not_shape count a h
  and_shape count (and_and a word b) h =
      let first = and_shape count a h in
      let second = not_shape count b first.1 in
      ((first.0, second.0), second.1)

  not_shape : {c d : Cursor} {e : Expr} (count : ℕ) → IsNot c e d → Numbered count c → IsFormed (anywhere count) e × Numbered count d
  not_shape count (not_compare a) h = compare_shape count a h
  not_shape count (not_not word a) h = not_shape count a h

  compare_shape : {c d : Cursor} {e : Expr} (count : ℕ) → IsCompare c e d → Numbered count c → IsFormed (anywhere count) e × Numbered count d
  compare_shape count (compare_one a) h = operation_shape count a h
  compare_shape count (compare_two a o b) h =
      let first = operation_shape count a h in
      let second = operation_shape count b (comparison_numbered count o first.1) in
      ((first.0, second.0), second.1)

  operation_shape : {n : ℕ} {c d : Cursor} {e : Expr} (count : ℕ) → IsOperation n c e d → Numbered count c → IsFormed (anywhere count) e × Numbered count d
  operation_shape count (operation_factor a) h = factor_shape count a h
  operation_shape count (operation_next a) h = operation_shape count a h
  operation_shape count (operation_binary a word o b) h =
      let first = operation_shape count a h in
      let second = operation_shape count b first.1 in
      ((first.0, second.0), second.1)

  factor_shape : {c d : Cursor} {e : Expr} (count : ℕ) → IsFactor c e d → Numbered count c → IsFormed (anywhere count) e × Numbered count d
  factor_shape count (factor_power a) h = power_shape count a h
  factor_shape count (factor_unary word o a) h = factor_shape count a h

  power_shape : {c d : Cursor} {e : Expr} (count : ℕ) → IsPower c e d → Numbered count c → IsFormed (anywhere count) e × Numbered count d
  power_shape count (power_primary a) h = primary_shape count a h
  power_shape count (power_pow a word b) h =
      let first = primary_shape count a h in
      let second = factor_shape count b first.1 in
      ((first.0, second.0), second.1)

  pub primary_shape : {c d : Cursor} {e : Expr} (count : ℕ) → IsPrimary c e d → Numbered count c → IsFormed (anywhere count) e × Numbered count d
  primary_shape count (primary_atom a) h = atom_shape count a h
  primary_shape count (primary_attr {d = d} {n = n} a dot own) h =
      let first = primary_shape count a h in
      ((first.0, number_of count n (past d) first.1 own.name), first.1)
  primary_shape count (primary_call a open' xs close) h =
      let first = primary_shape count a h in
      let second = args_shape count xs first.1 in
      ((first.0, second.0), second.1)
  primary_shape count (primary_item a open' i close) h =
      let first = primary_shape count a h in
      let second = tests_shape count i first.1 in
      ((first.0, second.0), second.1)
  primary_shape count (primary_slice a open' s close) h =
      let first = primary_shape count a h in
      let second = slice_shape count s first.1 in
      ((first.0, second.0.0, second.0.1, second.0.2), second.1)

  slice_shape : {c d : Cursor} {l u s : Bound} (count : ℕ) → IsSlice c l u s d → Numbered count c → (IsFormedBound (anywhere count) l × IsFormedBound (anywhere count) u × IsFormedBound (anywhere count) s) × Numbered count d
  slice_shape count (slice_two l colon u) h =
      let first = bound_shape count l h in
      let second = bound_shape count u first.1 in
      ((first.0, second.0, tt), second.1)
  slice_shape count (slice_three l colon u again s) h =
      let first = bound_shape count l h in
      let second = bound_shape count u first.1 in
      let third = bound_shape count s second.1 in
      ((first.0, second.0, third.0), third.1)

  bound_shape : {c d : Cursor} {b : Bound} (count : ℕ) → IsBound c b d → Numbered count c → IsFormedBound (anywhere count) b × Numbered count d
  bound_shape count bound_none h = (tt, h)
  bound_shape count (bound_some a) h = test_shape count a h

  args_shape : {b : Bool} {c d : Cursor} {xs : Args} (count : ℕ) → AreArgs b c xs d → Numbered count c → AreFormedArgs (anywhere count) b xs × Numbered count d
  args_shape count args_none h = (tt, h)
  args_shape count (args_last (arg_test a)) h =
      let first = test_shape count a h in
      ((refl, first.0, tt), first.1)
  args_shape count (args_last (arg_named {c = c} {n = n} own word a)) h =
      let first = test_shape count a h in
      ((number_of count n c h own, first.0, tt), first.1)
  args_shape count (args_more (arg_test a) comma xs) h =
      let first = test_shape count a h in
      let others = args_shape count xs first.1 in
      ((refl, first.0, others.0), others.1)
  args_shape count (args_more (arg_named {c = c} {n = n} own word a) comma xs) h =
      let first = test_shape count a h in
      let others = args_shape count xs first.1 in
      ((number_of count n c h own, first.0, others.0), others.1)

  atom_shape : {c d : Cursor} {e : Expr} (count : ℕ) → IsAtom c e d → Numbered count c → IsFormed (anywhere count) e × Numbered count d
  atom_shape count (atom_name {c = c} {n = n} own) h = (number_of count n c h own.name, h)
  atom_shape count (atom_int b) h = (tt, h)
  atom_shape count (atom_float b) h = (tt, h)
  atom_shape count (atom_strs s) h = (tt, strs_numbered count s h)
  atom_shape count (atom_octets s) h = (tt, octets_numbered count s h)
  atom_shape count (atom_none b) h = (tt, h)
  atom_shape count (atom_true b) h = (tt, h)
  atom_shape count (atom_false b) h = (tt, h)
  atom_shape count (atom_unit open' close) h = (tt, h)
  atom_shape count (atom_group open' a close) h = tests_shape count a h
  atom_shape count (atom_empty_list open' close) h = (tt, h)
  atom_shape count (atom_list open' a close) h = all_shape count a h
  atom_shape count (atom_dict open' a close) h = pairs_shape count a h
  atom_shape count (atom_super {c = c} {n = n} own is_super open' close dot taken) h = ((refl, number_of count n (past (past (past (past c)))) h taken.name), h)

  pairs_shape : {c d : Cursor} {ps : Pairs} (count : ℕ) → ArePairs c ps d → Numbered count c → AreFormedPairs (anywhere count) ps × Numbered count d
  pairs_shape count pairs_none h = (tt, h)
  pairs_shape count (pairs_last k colon v) h =
      let first = test_shape count k h in
      let second = test_shape count v first.1 in
      ((first.0, second.0, tt), second.1)
  pairs_shape count (pairs_more k colon v comma ps) h =
      let first = test_shape count k h in
      let second = test_shape count v first.1 in
      let others = pairs_shape count ps second.1 in
      ((first.0, second.0, others.0), others.1)

  pub all_shape : {c d : Cursor} {es : Exprs} (count : ℕ) → AreTests c es d → Numbered count c → AreFormed (anywhere count) es × Numbered count d
  all_shape count (tests_last a) h =
      let first = test_shape count a h in
      ((first.0, tt), first.1)
  all_shape count (tests_comma a comma) h =
      let first = test_shape count a h in
      ((first.0, tt), first.1)
  all_shape count (tests_more a comma es) h =
      let first = test_shape count a h in
      let others = all_shape count es first.1 in
      ((first.0, others.0), others.1)

  pub tests_shape : {c d : Cursor} {e : Expr} (count : ℕ) → IsTests c e d → Numbered count c → IsFormed (anywhere count) e × Numbered count d
  tests_shape count (tests_one a) h = test_shape count a h
  tests_shape count (tests_single a comma) h =
      let first = test_shape count a h in
      ((first.0, tt), first.1)
  tests_shape count (tests_tuple a comma es) h =
      let first = test_shape count a h in
      let others = all_shape count es first.1 in
      ((first.0, others.0), others.1)
