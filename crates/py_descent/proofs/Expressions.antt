-- Where the grammar has an expression, the descent finds it: by induction on the grammar.
use Rattle.std.proofs.Common.{◌≡◌, ℕ, zero, suc, ◌+◌, ◌-◌, ◌<◌, ◌≤◌, ◌&&◌, ◌||◌, ◌==◌, nat_lt, not, if◌then◌else◌, Bool, true, false, List, [], ◌∷◌, ◌++◌, Option, Some, None, refl, sym, ap, ◌∙◌, subst, arith}
use Rattle.std.specs.Option.{is_some}
use Rattle.std.proofs.lemmas.Bool.Decides.{nat_tests}
use Rattle.place_ids.specs.declared.operators.BinOp.{BinOp}
use Rattle.place_ids.specs.declared.operators.BinOp.TheVariants as bin
use Rattle.place_ids.specs.declared.operators.CompareOp.{CompareOp}
use Rattle.place_ids.specs.declared.operators.CompareOp.TheVariants as cmp
use Rattle.place_ids.specs.declared.operators.UnaryOp.{UnaryOp}
use Rattle.py_tokens.specs.declared.token.TokenKind.{TokenKind}
use Rattle.py_tokens.specs.declared.token.TokenKind.TheVariants as kind
use Rattle.py_tokens.specs.declared.token.Keyword.TheVariants as word
use Rattle.py_tokens.specs.declared.token.Op.{Op}
use Rattle.py_tokens.specs.declared.token.Op.TheVariants as op
use Rattle.py_tree.specs.declared.literal.Literal.TheVariants as lit
use Rattle.py_tree.specs.Tree as tree
use Rattle.py_tree.specs.Tree.{Expr, node, Exprs, no_exprs, expr, Bound, no_bound, bound, Args, no_args, arg, Pairs, no_pairs, pair}
use Rattle.py_grammar.specs.Cursor.{Cursor, next, Begins, BeginsOp, BeginsWord, line_of, past, past_two, with_site, made}
use Rattle.py_grammar.specs.Names.{text_of, is_super, IsName, IsPlainName, IsVariable}
use Rattle.py_grammar.specs.Operators
use Rattle.py_grammar.specs.Operators.{IsBinary, IsUnary}
use Rattle.py_grammar.specs.Expressions.{AreStrs, strs_one, strs_more, AreOctets, octets_one, octets_more, IsComparison, comparison_less, comparison_greater, comparison_less_eq, comparison_greater_eq, comparison_equal, comparison_not_equal, comparison_is, comparison_is_not, comparison_within, comparison_not_within, IsTest, test_or, test_choice, IsOr, or_and, or_or, IsAnd, and_not, and_and, IsNot, not_compare, not_not, IsCompare, compare_one, compare_two, IsOperation, operation_factor, operation_next, operation_binary, IsFactor, factor_power, factor_unary, IsPower, power_primary, power_pow, IsPrimary, primary_atom, primary_attr, primary_call, primary_item, primary_slice, IsSlice, slice_two, slice_three, IsBound, bound_none, bound_some, AreArgs, args_none, args_last, args_more, IsArg, arg_test, arg_named, IsAtom, atom_name, atom_int, atom_float, atom_strs, atom_octets, atom_none, atom_true, atom_false, atom_unit, atom_group, atom_empty_list, atom_list, atom_dict, atom_super, ArePairs, pairs_none, pairs_last, pairs_more, AreTests, tests_last, tests_comma, tests_more, IsTests, tests_one, tests_single, tests_tuple}
use Rattle.py_descent.specs.Codes.{Mark, symbol, keyword, is, at}
use Rattle.py_descent.specs.Takings.{name_in, str_in, octets_in, number_in, constant_in, unary_in, unary_of, binary_in, binary_of, of_level, compare_in, begins_in, begins_test, is_barred, is_named_specially, is_named_super}
use Rattle.py_descent.specs.Goals.{Goal, Value, name, plain_name, dots, dotted, part, parts, annotation, item, items, hint, result, strings, octets, literal, super_rest, variable, atom, call_rest, subscript, slice, trailers, primary, power, factor, operations, operation, compare_operator, comparison, inversion, conjunctions, conjunction, disjunctions, disjunction, choice, test, tests_after, more_tests, tests, bounds, stride, argument, arguments, group, list_display, dict_display, pairs, import_part, imports, from_part, froms, return_rest, raise_rest, assert_rest, from_rest, assignment, assigned, annotated, simple_kind, simple, line, param, params, base, function, definition, class_rest, class_member, entry, class_body, entries, for_targets, more_targets, if_rest, while_rest, for_rest, try_rest, else_rest, caught, compound, block, elifs, handlers, statement, statements}
use Rattle.py_descent.specs.Programs.{Answer, gives, said}
use Rattle.py_descent.specs.Bodies.{and_expr, and_arg, and_pair, at_named}
use Rattle.py_descent.specs.Descent.{descent}
use Rattle.py_descent.proofs.Seeing.{at_is, said_is, at_symbol, at_keyword, said_name, unary_from, binary_from}
use Rattle.py_descent.proofs.Means.{way_yes, way_no, told, untold, given}
use Rattle.py_descent.proofs.Doing.{called, found_by}
use Rattle.py_descent.proofs.Stops.{Stops, pull, op_pull, stops_less, stops_at, no_symbol, no_keyword, no_str, no_octets, no_binary, no_compare, stops_binary, comparison_pull}
use Rattle.py_descent.proofs.Begins.{First, first, opens, operand, no_test, test_no_symbol, test_no_keyword, atom_begins, primary_begins, power_begins, factor_begins, compare_begins, operation_begins, test_begins, are_tests_begin, tests_begin, operand_no_not, atom_no_unary}
use Rattle.py_descent.proofs.Lone.{lone_test}

-- ---- Lists with others behind

abbrev pub exprs_behind : Exprs → Exprs → Exprs
exprs_behind no_exprs ys = ys
exprs_behind (expr x xs) ys = expr x (exprs_behind xs ys)

exprs_none : (xs : Exprs) → exprs_behind xs no_exprs ≡ xs
exprs_none no_exprs = refl
exprs_none (expr x xs) = ap (expr x) (exprs_none xs)

pub exprs_one : (xs : Exprs) (y : Expr) → exprs_behind xs (expr y no_exprs) ≡ and_expr xs y
exprs_one no_exprs y = refl
exprs_one (expr x xs) y = ap (expr x) (exprs_one xs y)

pub exprs_more : (xs : Exprs) (y : Expr) (ys : Exprs) → exprs_behind (and_expr xs y) ys ≡ exprs_behind xs (expr y ys)
exprs_more no_exprs y ys = refl
exprs_more (expr x xs) y ys = ap (expr x) (exprs_more xs y ys)

abbrev pub args_behind : Args → Args → Args
args_behind no_args bs = bs
args_behind (arg n e as') bs = arg n e (args_behind as' bs)

args_empty : (xs : Args) → args_behind xs no_args ≡ xs
args_empty no_args = refl
args_empty (arg n e xs) = ap (arg n e) (args_empty xs)

args_one : (xs : Args) (m : Option ℕ) (y : Expr) → args_behind xs (arg m y no_args) ≡ and_arg xs m y
args_one no_args m y = refl
args_one (arg n e xs) m y = ap (arg n e) (args_one xs m y)

args_again : (xs : Args) (m : Option ℕ) (y : Expr) (ys : Args) → args_behind (and_arg xs m y) ys ≡ args_behind xs (arg m y ys)
args_again no_args m y ys = refl
args_again (arg n e xs) m y ys = ap (arg n e) (args_again xs m y ys)

abbrev pub pairs_behind : Pairs → Pairs → Pairs
pairs_behind no_pairs bs = bs
pairs_behind (pair k v ps) bs = pair k v (pairs_behind ps bs)

pairs_empty : (xs : Pairs) → pairs_behind xs no_pairs ≡ xs
pairs_empty no_pairs = refl
pairs_empty (pair k v xs) = ap (pair k v) (pairs_empty xs)

pairs_one : (xs : Pairs) (j w : Expr) → pairs_behind xs (pair j w no_pairs) ≡ and_pair xs j w
pairs_one no_pairs j w = refl
pairs_one (pair k v xs) j w = ap (pair k v) (pairs_one xs j w)

pairs_again : (xs : Pairs) (j w : Expr) (ys : Pairs) → pairs_behind (and_pair xs j w) ys ≡ pairs_behind xs (pair j w ys)
pairs_again no_pairs j w ys = refl
pairs_again (pair k v xs) j w ys = ap (pair k v) (pairs_again xs j w ys)

-- ---- Names and literals

pub here : (o : Op) (c : Cursor) → BeginsOp o c → at (symbol o) c ≡ is (symbol o) (kind.Op o)
here o c h = at_is (symbol o) c (kind.Op o) h

pub here_word : (w : _) (c : Cursor) → BeginsWord w c → at (keyword w) c ≡ is (keyword w) (kind.Keyword w)
here_word w c h = at_is (keyword w) c (kind.Keyword w) h

pub complete_name : (c : Cursor) (n : ℕ) → IsName c n → descent name c ≡ gives n (past c)
unfolding is_barred
complete_name c n h = found_by name c n (past c) (told n (said_is name_in c (kind.Name n) h.begins) (way_no h.allowed (given refl refl)))

neither : (a b : Bool) → a ≡ false → b ≡ false → (a || b) ≡ false
neither true b h k = h
neither false b h k = k

pub complete_plain : (c : Cursor) (n : ℕ) → IsPlainName c n → descent plain_name c ≡ gives n (past c)
unfolding is_barred is_named_specially
complete_plain c n h = found_by plain_name c n (past c) (told n (said_is name_in c (kind.Name n) h.name.begins) (way_no (neither (is_barred c n) (is_named_specially c n) h.name.allowed h.plain) (given refl refl)))

and_assoc : (a b c : Bool) → ((a && b) && c) ≡ (a && (b && c))
and_assoc true b c = refl
and_assoc false b c = refl

and_true : (a : Bool) → (a && true) ≡ a
and_true true = refl
and_true false = refl

-- the texts behind the first ones
pub strings_go : (c : Cursor) (b : Bool) (d : Cursor) → AreStrs c b d → Stops 14 d → (a : Bool) → descent (strings a) c ≡ gives (a && b) d
strings_go _ b d (strs_one {c = c} h) s a =
    found_by (strings a) c (a && b) d (told b (said_is str_in c (kind.Str b) h) (called refl (a && b) d
    (found_by (strings (a && b)) d (a && b) d (untold (no_str 14 d s (omega arith)) (given refl refl))) (given refl refl)))
strings_go _ _ d (strs_more {c = c} {empty = e} {others = o} h k) s a =
    found_by (strings a) c (a && (e && o)) d (told e (said_is str_in c (kind.Str e) h) (called refl ((a && e) && o) d (strings_go _ o d k s (a && e)) (given (and_assoc a e o) refl)))

pub octets_go : (c : Cursor) (b : Bool) (d : Cursor) → AreOctets c b d → Stops 14 d → (a : Bool) → descent (octets a) c ≡ gives (a && b) d
octets_go _ b d (octets_one {c = c} h) s a =
    found_by (octets a) c (a && b) d (told b (said_is octets_in c (kind.Bytes b) h) (called refl (a && b) d
    (found_by (octets (a && b)) d (a && b) d (untold (no_octets 14 d s (omega arith)) (given refl refl))) (given refl refl)))
octets_go _ _ d (octets_more {c = c} {empty = e} {others = o} h k) s a =
    found_by (octets a) c (a && (e && o)) d (told e (said_is octets_in c (kind.Bytes e) h) (called refl ((a && e) && o) d (octets_go _ o d k s (a && e)) (given (and_assoc a e o) refl)))

-- the first text, and the others behind it
pub data Strs (c : Cursor) (b : Bool) (d : Cursor) : Type 0 where
  strs : (e : Bool) → Begins (kind.Str e) c → descent (strings e) (past c) ≡ gives b d → Strs c b d

pub strs_of : (c : Cursor) (b : Bool) (d : Cursor) → AreStrs c b d → Stops 14 d → Strs c b d
strs_of _ b _ (strs_one {c = c} h) s = strs b h (found_by (strings b) (past c) b (past c) (untold (no_str 14 (past c) s (omega arith)) (given refl refl)))
strs_of _ _ d (strs_more {c = c} {empty = e} {others = o} h k) s = strs e h (strings_go _ o d k s e)

pub data Octets (c : Cursor) (b : Bool) (d : Cursor) : Type 0 where
  octs : (e : Bool) → Begins (kind.Bytes e) c → descent (octets e) (past c) ≡ gives b d → Octets c b d

pub octets_of : (c : Cursor) (b : Bool) (d : Cursor) → AreOctets c b d → Stops 14 d → Octets c b d
octets_of _ b _ (octets_one {c = c} h) s = octs b h (found_by (octets b) (past c) b (past c) (untold (no_octets 14 (past c) s (omega arith)) (given refl refl)))
octets_of _ _ d (octets_more {c = c} {empty = e} {others = o} h k) s = octs e h (octets_go _ o d k s e)

-- ---- Comparisons

not_here : (w : _) (c : Cursor) → (BeginsWord w c → ⊥) → at (keyword w) c ≡ false
not_here w c h = by_test (at (keyword w) c) refl where
  by_test : (z : Bool) → at (keyword w) c ≡ z → z ≡ false
  by_test true e = absurd (h (at_keyword w c e))
  by_test false e = refl

complete_comparison : (c : Cursor) (u : CompareOp) (d : Cursor) → IsComparison c u d → descent compare_operator c ≡ gives (Some u) d
complete_comparison _ _ _ (comparison_less {c = c} h) = found_by compare_operator c _ _ (told _ (said_is compare_in c _ h) (given refl refl))
complete_comparison _ _ _ (comparison_greater {c = c} h) = found_by compare_operator c _ _ (told _ (said_is compare_in c _ h) (given refl refl))
complete_comparison _ _ _ (comparison_less_eq {c = c} h) = found_by compare_operator c _ _ (told _ (said_is compare_in c _ h) (given refl refl))
complete_comparison _ _ _ (comparison_greater_eq {c = c} h) = found_by compare_operator c _ _ (told _ (said_is compare_in c _ h) (given refl refl))
complete_comparison _ _ _ (comparison_equal {c = c} h) = found_by compare_operator c _ _ (told _ (said_is compare_in c _ h) (given refl refl))
complete_comparison _ _ _ (comparison_not_equal {c = c} h) = found_by compare_operator c _ _ (told _ (said_is compare_in c _ h) (given refl refl))
complete_comparison _ _ _ (comparison_is {c = c} h k) = found_by compare_operator c _ _ (untold (said_is compare_in c _ h) (way_yes (here_word word.KwIs c h) (way_no (not_here word.KwNot (past c) k) (given refl refl))))
complete_comparison _ _ _ (comparison_is_not {c = c} h k) = found_by compare_operator c _ _ (untold (said_is compare_in c _ h) (way_yes (here_word word.KwIs c h) (way_yes (here_word word.KwNot (past c) k) (given refl refl))))
complete_comparison _ _ _ (comparison_within {c = c} h) = found_by compare_operator c _ _ (untold (said_is compare_in c _ h) (way_no (at_is (keyword word.KwIs) c _ h) (way_yes (here_word word.KwIn c h) (given refl refl))))
complete_comparison _ _ _ (comparison_not_within {c = c} h k) = found_by compare_operator c _ _ (untold (said_is compare_in c _ h) (way_no (at_is (keyword word.KwIs) c _ h) (way_no (at_is (keyword word.KwIn) c _ h) (way_yes (here_word word.KwNot c h) (way_yes (here_word word.KwIn (past c) k) (given refl refl))))))

no_comparison : (c : Cursor) → Stops 5 c → descent compare_operator c ≡ gives None c
no_comparison c s = found_by compare_operator c None c (untold (no_compare c s) (way_no (no_keyword word.KwIs 5 c s (omega arith)) (way_no (no_keyword word.KwIn 5 c s (omega arith)) (way_no (no_keyword word.KwNot 5 c s (omega arith)) (given refl refl)))))

-- ---- Binary operators by their levels

-- what is said of an operator of this level where one as loose as m is looked for
operator_said : (m n : ℕ) (t : Op) (u : BinOp) (c : Cursor) → BeginsOp t c → IsBinary t n u → m ≤ n → said (binary_in m) c ≡ Some (n, u)
operator_said m n t u c h lv le = said_is (binary_in m) c (kind.Op t) h ∙ (ap (of_level m) (binary_from t n u lv) ∙ loose (nat_lt n m) refl) where
  row : ℕ × BinOp
  row = (n, u)

  loose : (z : Bool) → nat_lt n m ≡ z → (if z then None else Some row) ≡ Some row
  loose true e = absurd (grind (arith, nat_tests, e, le))
  loose false e = refl

-- ---- What an atom and an argument begin with

-- an operator's level is at most 5
small_level : (t : Op) (n : ℕ) (u : BinOp) → IsBinary t n u → 6 + n < 12
small_level _ _ _ Operators.binary_or = omega arith
small_level _ _ _ Operators.binary_xor = omega arith
small_level _ _ _ Operators.binary_and = omega arith
small_level _ _ _ Operators.binary_shift_left = omega arith
small_level _ _ _ Operators.binary_shift_right = omega arith
small_level _ _ _ Operators.binary_add = omega arith
small_level _ _ _ Operators.binary_sub = omega arith
small_level _ _ _ Operators.binary_mul = omega arith
small_level _ _ _ Operators.binary_div = omega arith
small_level _ _ _ Operators.binary_floor_div = omega arith
small_level _ _ _ Operators.binary_mod = omega arith
small_level _ _ _ Operators.binary_mat_mul = omega arith

not_super : (c : Cursor) (n : ℕ) → is_super (text_of c n) ≡ false → is_named_super c n ≡ false
unfolding is_named_super
not_super c n h = h

is_super_here : (c : Cursor) (n : ℕ) → is_super (text_of c n) ≡ true → is_named_super c n ≡ true
unfolding is_named_super
is_super_here c n h = h

either : (a b : Bool) → b ≡ true → (a || b) ≡ true
either true b h = refl
either false b h = h

named_here : (c : Cursor) (n : ℕ) → next c ≡ Some (kind.Name n) → BeginsOp op.Assign (past c) → at_named c ≡ true
unfolding at_named
named_here c n h k = subst (λ z. (is_some (name_in z) && at (symbol op.Assign) (past c)) ≡ true) (sym h) (here op.Assign (past c) k)

or_named : (b : Bool) (c : Cursor) (n : ℕ) → next c ≡ Some (kind.Name n) → BeginsOp op.Assign (past c) → (b || at_named c) ≡ true
or_named b c n h k = either b (at_named c) (named_here c n h k)

-- a name that is said is there
name_there : (c : Cursor) → is_some (name_in (next c)) ≡ true → (n : ℕ) × (next c ≡ Some (kind.Name n))
name_there c h = by_kind (next c) refl h where
  by_kind : (k : Option TokenKind) → next c ≡ k → is_some (name_in k) ≡ true → (n : ℕ) × (next c ≡ Some (kind.Name n))
  by_kind None e g = absurd cc
  by_kind (Some (kind.Name n)) e g = (n, e)
  by_kind (Some (kind.Keyword w)) e g = absurd cc
  by_kind (Some (kind.Int n)) e g = absurd cc
  by_kind (Some kind.Float) e g = absurd cc
  by_kind (Some kind.Imaginary) e g = absurd cc
  by_kind (Some (kind.Str b)) e g = absurd cc
  by_kind (Some (kind.Bytes b)) e g = absurd cc
  by_kind (Some (kind.Op p)) e g = absurd cc
  by_kind (Some kind.Newline) e g = absurd cc
  by_kind (Some kind.Indent) e g = absurd cc
  by_kind (Some kind.Dedent) e g = absurd cc
  by_kind (Some kind.End) e g = absurd cc

both_true : (a b : Bool) → (a && b) ≡ true → (a ≡ true) × (b ≡ true)
both_true true b h = (refl, h)
both_true false b h = absurd cc

-- a positional argument is no name before `=`
not_named : (c : Cursor) (e : Expr) (d : Cursor) → IsTest c e d → (BeginsOp op.Assign d → ⊥) → at_named c ≡ false
unfolding at_named
not_named c e d h other = by_test (at_named c) refl where
  by_test : (z : Bool) → at_named c ≡ z → z ≡ false
  by_test true g = let both = both_true (is_some (name_in (next c))) (at (symbol op.Assign) (past c)) g in let there = name_there c both.0 in
      absurd (other (lone_test c there.0 there.1 (at_symbol op.Assign (past c) both.1) e d h))
  by_test false g = refl

end_no_assign : (d : Cursor) → BeginsOp op.RightParen d → BeginsOp op.Assign d → ⊥
end_no_assign d h k = let same = sym h ∙ k in cc

comma_no_assign : (d : Cursor) → BeginsOp op.Comma d → BeginsOp op.Assign d → ⊥
comma_no_assign d h k = let same = sym h ∙ k in cc

-- the program of an atom, at each of its first tokens
strs_atom : (c : Cursor) (b : Bool) (d : Cursor) → Strs c b d → descent atom c ≡ gives (made (tree.literal (lit.Str b)) c d) (with_site d)
strs_atom c b d (strs e h go) = found_by atom c _ _ (untold (said_is constant_in c _ h) (untold (said_is number_in c _ h) (told e (said_is str_in c _ h) (called refl b d go (given refl refl)))))

octets_atom : (c : Cursor) (b : Bool) (d : Cursor) → Octets c b d → descent atom c ≡ gives (made (tree.literal (lit.Bytes b)) c d) (with_site d)
octets_atom c b d (octs e h go) = found_by atom c _ _ (untold (said_is constant_in c _ h) (untold (said_is number_in c _ h) (untold (said_is str_in c _ h) (told e (said_is octets_in c _ h) (called refl b d go (given refl refl))))))

paren_atom : (c : Cursor) → BeginsOp op.LeftParen c → (v : Expr) (x : Cursor) → descent (group (line_of c)) (past c) ≡ gives v x → descent atom c ≡ gives v x
paren_atom c h v x go = found_by atom c v x (untold (said_is constant_in c _ h) (untold (said_is number_in c _ h) (untold (said_is str_in c _ h) (untold (said_is octets_in c _ h) (way_yes (here op.LeftParen c h) (called refl v x go (given refl refl)))))))

square_atom : (c : Cursor) → BeginsOp op.LeftSquare c → (v : Expr) (x : Cursor) → descent (list_display (line_of c)) (past c) ≡ gives v x → descent atom c ≡ gives v x
square_atom c h v x go = found_by atom c v x (untold (said_is constant_in c _ h) (untold (said_is number_in c _ h) (untold (said_is str_in c _ h) (untold (said_is octets_in c _ h) (way_no (at_is (symbol op.LeftParen) c _ h) (way_yes (here op.LeftSquare c h) (called refl v x go (given refl refl))))))))

brace_atom : (c : Cursor) → BeginsOp op.LeftBrace c → (v : Expr) (x : Cursor) → descent (dict_display (line_of c)) (past c) ≡ gives v x → descent atom c ≡ gives v x
brace_atom c h v x go = found_by atom c v x (untold (said_is constant_in c _ h) (untold (said_is number_in c _ h) (untold (said_is str_in c _ h) (untold (said_is octets_in c _ h) (way_no (at_is (symbol op.LeftParen) c _ h) (way_no (at_is (symbol op.LeftSquare) c _ h) (way_yes (here op.LeftBrace c h) (called refl v x go (given refl refl)))))))))

variable_atom : (c : Cursor) (n : ℕ) → next c ≡ Some (kind.Name n) → (v : Expr) (x : Cursor) → descent (variable (line_of c)) c ≡ gives v x → descent atom c ≡ gives v x
variable_atom c n h v x go = found_by atom c v x (untold (said_is constant_in c _ h) (untold (said_is number_in c _ h) (untold (said_is str_in c _ h) (untold (said_is octets_in c _ h) (way_no (at_is (symbol op.LeftParen) c _ h) (way_no (at_is (symbol op.LeftSquare) c _ h) (way_no (at_is (symbol op.LeftBrace) c _ h) (called refl v x go (given refl refl)))))))))

-- ---- Where each list of parts ends

or_end : (l : ℕ) (e : Expr) (d : Cursor) → Stops 3 d → descent (disjunctions l e) d ≡ gives e d
or_end l e d s = found_by (disjunctions l e) d e d (way_no (no_keyword word.KwOr 3 d s (omega arith)) (given refl refl))

and_end : (l : ℕ) (e : Expr) (d : Cursor) → Stops 4 d → descent (conjunctions l e) d ≡ gives e d
and_end l e d s = found_by (conjunctions l e) d e d (way_no (no_keyword word.KwAnd 4 d s (omega arith)) (given refl refl))

operation_end : (l : ℕ) (e : Expr) (d : Cursor) → Stops 6 d → descent (operations 0 l e) d ≡ gives e d
operation_end l e d s = found_by (operations 0 l e) d e d (untold (no_binary 0 d (stops_less 6 (6 + 0) d (omega arith) s)) (given refl refl))

primary_end : (l : ℕ) (e : Expr) (d : Cursor) → Stops 13 d → descent (trailers l e) d ≡ gives e d
primary_end l e d s = found_by (trailers l e) d e d (way_no (no_symbol op.Dot 13 d s (omega arith)) (way_no (no_symbol op.LeftParen 13 d s (omega arith)) (way_no (no_symbol op.LeftSquare 13 d s (omega arith)) (given refl refl))))

arg_not_end : (b : Bool) (c : Cursor) (n : Option ℕ) (e : Expr) (b' : Bool) (d : Cursor) → IsArg b c n e b' d → at (symbol op.RightParen) c ≡ false
arg_not_end _ c _ e _ d (arg_test h) = test_no_symbol op.RightParen c (test_begins c e d h) refl
arg_not_end _ c _ e _ d (arg_named h k m) = at_is (symbol op.RightParen) c _ h.begins

arg_flag : (b : Bool) (c : Cursor) (n : Option ℕ) (e : Expr) (b' : Bool) (d : Cursor) → IsArg b c n e b' d → b' ≡ is_some n
arg_flag _ _ _ _ _ _ (arg_test h) = refl
arg_flag _ _ _ _ _ _ (arg_named h k m) = refl

single_after : (l : ℕ) (e : Expr) (d : Cursor) → BeginsOp op.Comma d → Stops 1 (past d) → descent (tests_after l e) d ≡ gives (node (tree.tuple (expr e no_exprs)) l d.sites) (with_site (past d))
single_after l e d k s = found_by (tests_after l e) d _ _ (way_yes (here op.Comma d k) (called refl (expr e no_exprs) (past d) (found_by (more_tests (expr e no_exprs)) (past d) _ _ (way_no (no_test (past d) s) (given refl refl))) (given refl refl)))

tuple_after : (l : ℕ) (e : Expr) (d : Cursor) (es : Exprs) (f : Cursor) → BeginsOp op.Comma d → descent (more_tests (expr e no_exprs)) (past d) ≡ gives (expr e es) f → descent (tests_after l e) d ≡ gives (node (tree.tuple (expr e es)) l f.sites) (with_site f)
tuple_after l e d es f k go = found_by (tests_after l e) d _ _ (way_yes (here op.Comma d k) (called refl (expr e es) f go (given refl refl)))

-- ---- Expressions

mutual
  pub complete_test : (c : Cursor) (e : Expr) (d : Cursor) → IsTest c e d → Stops 2 d → descent test c ≡ gives e d
  complete_test c e d (test_or h) s = found_by test c e d (called refl e d (or_goes c e d h (stops_less 3 4 d (omega arith) (stops_less 2 3 d (omega arith) s)) e d (or_end (line_of c) e d (stops_less 2 3 d (omega arith) s))) (way_no (no_keyword word.KwIf 2 d s (omega arith)) (given refl refl)))
  complete_test c _ _ (test_choice {d = d} {f = f} {g = g} {e = e} {t = t} {o = o} h i j k l) s =
      found_by test c _ _ (called refl e d (or_goes c e d h (stops_less 3 4 d (omega arith) (stops_at 3 d _ i (omega arith))) e d (or_end (line_of c) e d (stops_at 3 d _ i (omega arith)))) (way_yes (here_word word.KwIf d i) (called refl _ _
      (found_by (choice (line_of c) e) (past d) _ _ (called refl t f (or_goes (past d) t f j (stops_less 3 4 f (omega arith) (stops_at 3 f _ k (omega arith))) t f (or_end (line_of (past d)) t f (stops_at 3 f _ k (omega arith)))) (way_yes (here_word word.KwElse f k) (called refl o g (complete_test (past f) o g l s) (given refl refl)))))
      (given refl refl))))

  or_goes : (c : Cursor) (e : Expr) (d : Cursor) → IsOr c e d → Stops 4 d → (v : Expr) (x : Cursor) → descent (disjunctions (line_of c) e) d ≡ gives v x → descent disjunction c ≡ gives v x
  or_goes c e d (or_and h) s v x go = found_by disjunction c v x (called refl e d (and_goes c e d h (stops_less 4 5 d (omega arith) s) e d (and_end (line_of c) e d s)) (called refl v x go (given refl refl)))
  or_goes c _ _ (or_or {d = d} {f = f} {a = a} {b = b} h i j) s v x go =
      or_goes c a d h (stops_at 4 d _ i (omega arith)) v x (found_by (disjunctions (line_of c) a) d v x (way_yes (here_word word.KwOr d i) (called refl b f (and_goes (past d) b f j (stops_less 4 5 f (omega arith) s) b f (and_end (line_of (past d)) b f s)) (called refl v x go (given refl refl)))))

  and_goes : (c : Cursor) (e : Expr) (d : Cursor) → IsAnd c e d → Stops 5 d → (v : Expr) (x : Cursor) → descent (conjunctions (line_of c) e) d ≡ gives v x → descent conjunction c ≡ gives v x
  and_goes c e d (and_not h) s v x go = found_by conjunction c v x (called refl e d (complete_not c e d h s) (called refl v x go (given refl refl)))
  and_goes c _ _ (and_and {d = d} {f = f} {a = a} {b = b} h i j) s v x go =
      and_goes c a d h (stops_at 5 d _ i (omega arith)) v x (found_by (conjunctions (line_of c) a) d v x (way_yes (here_word word.KwAnd d i) (called refl b f (complete_not (past d) b f j s) (called refl v x go (given refl refl)))))

  complete_not : (c : Cursor) (e : Expr) (d : Cursor) → IsNot c e d → Stops 5 d → descent inversion c ≡ gives e d
  complete_not c e d (not_compare h) s = found_by inversion c e d (way_no (operand_no_not c (compare_begins c e d h)) (called refl e d (complete_compare c e d h s) (given refl refl)))
  complete_not c _ _ (not_not {d = d} {e = e} h i) s = found_by inversion c _ _ (way_yes (here_word word.KwNot c h) (called refl e d (complete_not (past c) e d i s) (given refl refl)))

  complete_compare : (c : Cursor) (e : Expr) (d : Cursor) → IsCompare c e d → Stops 5 d → descent comparison c ≡ gives e d
  complete_compare c e d (compare_one h) s = found_by comparison c e d (called refl e d (operation_goes 0 c e d h (stops_less 6 12 d (omega arith) (stops_less 5 6 d (omega arith) s)) (stops_less 6 (7 + 0) d (omega arith) (stops_less 5 6 d (omega arith) s)) 0 (omega arith) e d (operation_end (line_of c) e d (stops_less 5 6 d (omega arith) s))) (called refl None d (no_comparison d s) (given refl refl)))
  complete_compare c _ _ (compare_two {d = d} {f = f} {g = g} {o = o} {a = a} {b = b} h i j) s =
      found_by comparison c _ _ (called refl a d (operation_goes 0 c a d h (stops_less 6 12 d (omega arith) (omega (arith, comparison_pull d o f i))) (stops_less 6 (7 + 0) d (omega arith) (omega (arith, comparison_pull d o f i))) 0 (omega arith) a d (operation_end (line_of c) a d (omega (arith, comparison_pull d o f i)))) (called refl (Some o) f (complete_comparison d o f i)
      (called refl b g (operation_goes 0 f b g j (stops_less 6 12 g (omega arith) (stops_less 5 6 g (omega arith) s)) (stops_less 6 (7 + 0) g (omega arith) (stops_less 5 6 g (omega arith) s)) 0 (omega arith) b g (operation_end (line_of f) b g (stops_less 5 6 g (omega arith) s))) (given refl refl))))

  operation_goes : (n : ℕ) (c : Cursor) (e : Expr) (d : Cursor) → IsOperation n c e d → Stops 12 d → Stops (7 + n) d → (m : ℕ) → m ≤ n → (v : Expr) (x : Cursor) →
      descent (operations m (line_of c) e) d ≡ gives v x → descent (operation m) c ≡ gives v x
  operation_goes n c e d (operation_factor h) s t m le v x go = found_by (operation m) c v x (called refl e d (complete_factor c e d h s) (called refl v x go (given refl refl)))
  operation_goes n c e d (operation_next h) s t m le v x go = operation_goes (suc n) c e d h s (stops_less (7 + n) (7 + suc n) d (omega arith) t) m (omega (arith, le)) v x go
  operation_goes n c _ _ (operation_binary {d = d} {f = f} {a = a} {b = b} {t = t} {o = o} h i lv j) s u m le v x go =
      let right : descent (operation (n + 1)) (past d) ≡ gives b f =
      operation_goes (suc n) (past d) b f j s (stops_less (7 + n) (7 + suc n) f (omega arith) u) (n + 1) (omega arith) b f
      (found_by (operations (n + 1) (line_of (past d)) b) f b f (untold (no_binary (n + 1) f (stops_less (7 + n) (6 + (n + 1)) f (omega arith) u)) (given refl refl))) in
      operation_goes n c a d h (stops_binary t n 12 o d i lv (small_level t n o lv)) (stops_binary t n (7 + n) o d i lv (omega arith)) m le v x
      (found_by (operations m (line_of c) a) d v x (told (n, o) (operator_said m n t o d i lv le) (called refl b f right (called refl v x go (given refl refl)))))

  complete_factor : (c : Cursor) (e : Expr) (d : Cursor) → IsFactor c e d → Stops 12 d → descent factor c ≡ gives e d
  complete_factor c e d (factor_power h) s = found_by factor c e d (untold (atom_no_unary c (power_begins c e d h)) (called refl e d (complete_power c e d h s) (given refl refl)))
  complete_factor c _ _ (factor_unary {d = d} {e = e} {t = t} {o = o} h i j) s =
      found_by factor c _ _ (told o (said_is unary_in c (kind.Op t) h ∙ unary_from o t i) (called refl e d (complete_factor (past c) e d j s) (given refl refl)))

  complete_power : (c : Cursor) (e : Expr) (d : Cursor) → IsPower c e d → Stops 12 d → descent power c ≡ gives e d
  complete_power c e d (power_primary h) s = found_by power c e d (called refl e d (primary_goes c e d h (stops_less 13 14 d (omega arith) (stops_less 12 13 d (omega arith) s)) e d (primary_end (line_of c) e d (stops_less 12 13 d (omega arith) s))) (way_no (no_symbol op.DoubleStar 12 d s (omega arith)) (given refl refl)))
  complete_power c _ _ (power_pow {d = d} {f = f} {a = a} {b = b} h i j) s =
      found_by power c _ _ (called refl a d (primary_goes c a d h (stops_less 13 14 d (omega arith) (stops_at 13 d _ i (omega arith))) a d (primary_end (line_of c) a d (stops_at 13 d _ i (omega arith)))) (way_yes (here op.DoubleStar d i) (called refl b f (complete_factor (past d) b f j s) (given refl refl))))

  primary_goes : (c : Cursor) (e : Expr) (d : Cursor) → IsPrimary c e d → Stops 14 d → (v : Expr) (x : Cursor) → descent (trailers (line_of c) e) d ≡ gives v x → descent primary c ≡ gives v x
  primary_goes c e d (primary_atom h) s v x go = found_by primary c v x (called refl e d (complete_atom c e d h s) (called refl v x go (given refl refl)))
  primary_goes c _ _ (primary_attr {d = d} {e = e} {n = n} h i j) s v x go =
      primary_goes c e d h (stops_at 14 d _ i (omega arith)) v x (found_by (trailers (line_of c) e) d v x (way_yes (here op.Dot d i) (called refl n (past_two d) (complete_plain (past d) n j) (called refl v x go (given refl refl)))))
  primary_goes c _ _ (primary_call {d = d} {f = f} {e = e} {as' = as'} h i j k) s v x go =
      primary_goes c e d h (stops_at 14 d _ i (omega arith)) v x (found_by (trailers (line_of c) e) d v x (way_no (at_is (symbol op.Dot) d _ i) (way_yes (here op.LeftParen d i) (called refl _ _
      (found_by (call_rest (line_of c) e) (past d) _ _ (called refl as' f (args_go false (past d) as' f j k no_args) (way_yes (here op.RightParen f k) (given refl refl))))
      (called refl v x go (given refl refl))))))
  primary_goes c _ _ (primary_item {d = d} {f = f} {e = e} {i = i} h k l m) s v x go =
      primary_goes c e d h (stops_at 14 d _ k (omega arith)) v x (found_by (trailers (line_of c) e) d v x (way_no (at_is (symbol op.Dot) d _ k) (way_no (at_is (symbol op.LeftParen) d _ k) (way_yes (here op.LeftSquare d k) (called refl _ _
      (item_goes (line_of c) e (past d) i f l m) (called refl v x go (given refl refl)))))))
  primary_goes c _ _ (primary_slice {d = d} {f = f} {e = e} {l = l} {u = u} {s = t} h k m n) s v x go =
      primary_goes c e d h (stops_at 14 d _ k (omega arith)) v x (found_by (trailers (line_of c) e) d v x (way_no (at_is (symbol op.Dot) d _ k) (way_no (at_is (symbol op.LeftParen) d _ k) (way_yes (here op.LeftSquare d k) (called refl _ _
      (slice_goes (line_of c) e (past d) l u t f m n) (called refl v x go (given refl refl)))))))

  item_goes : (l : ℕ) (e : Expr) (c : Cursor) (i : Expr) (d : Cursor) → IsTests c i d → BeginsOp op.RightSquare d → descent (subscript l e) c ≡ gives (node (tree.item e i) l d.sites) (with_site (past d))
  item_goes l e c i d (tests_one h) end = found_by (subscript l e) c _ _ (way_no (test_no_symbol op.Colon c (test_begins c i d h) refl) (called refl i d (complete_test c i d h (stops_at 2 d _ end (omega arith)))
      (way_no (at_is (symbol op.Colon) d _ end) (called refl i d (found_by (tests_after (line_of c) i) d i d (way_no (at_is (symbol op.Comma) d _ end) (given refl refl))) (way_yes (here op.RightSquare d end) (given refl refl))))))
  item_goes l e c _ _ (tests_single {d = d} {e = i} h k) end = found_by (subscript l e) c _ _ (way_no (test_no_symbol op.Colon c (test_begins c i d h) refl) (called refl i d (complete_test c i d h (stops_at 2 d _ k (omega arith)))
      (way_no (at_is (symbol op.Colon) d _ k) (called refl _ _ (single_after (line_of c) i d k (stops_at 1 (past d) _ end (omega arith))) (way_yes (here op.RightSquare (with_site (past d)) end) (given refl refl))))))
  item_goes l e c _ _ (tests_tuple {d = d} {f = f} {e = i} {es = es} h k m) end = found_by (subscript l e) c _ _ (way_no (test_no_symbol op.Colon c (test_begins c i d h) refl) (called refl i d (complete_test c i d h (stops_at 2 d _ k (omega arith)))
      (way_no (at_is (symbol op.Colon) d _ k) (called refl _ _ (tuple_after (line_of c) i d es f k (tests_go (past d) es f m (stops_at 1 f _ end (omega arith)) (expr i no_exprs))) (way_yes (here op.RightSquare (with_site f) end) (given refl refl))))))

  slice_goes : (l : ℕ) (e : Expr) (c : Cursor) (low up step' : Bound) (d : Cursor) → IsSlice c low up step' d → BeginsOp op.RightSquare d → descent (subscript l e) c ≡ gives (node (tree.slice e low up step') l d.sites) (with_site (past d))
  slice_goes l e c low up _ f (slice_two {d = d} h k m) end = low_goes l e c low d h k _ _
      (found_by (slice l e low) (past d) _ _ (called refl up f (complete_bound (past d) up f m (stops_at 1 f _ end (omega arith)))
      (called refl no_bound f (found_by stride f no_bound f (way_no (at_is (symbol op.Colon) f _ end) (given refl refl))) (way_yes (here op.RightSquare f end) (given refl refl)))))
  slice_goes l e c low up t g (slice_three {d = d} {f = f} h k m n o) end = low_goes l e c low d h k _ _
      (found_by (slice l e low) (past d) _ _ (called refl up f (complete_bound (past d) up f m (stops_at 1 f _ n (omega arith)))
      (called refl t g (found_by stride f t g (way_yes (here op.Colon f n) (called refl t g (complete_bound (past f) t g o (stops_at 1 g _ end (omega arith))) (given refl refl)))) (way_yes (here op.RightSquare g end) (given refl refl)))))

  low_goes : (l : ℕ) (e : Expr) (c : Cursor) (low : Bound) (d : Cursor) → IsBound c low d → BeginsOp op.Colon d → (v : Expr) (x : Cursor) → descent (slice l e low) (past d) ≡ gives v x → descent (subscript l e) c ≡ gives v x
  low_goes l e c _ _ bound_none k v x go = found_by (subscript l e) c v x (way_yes (here op.Colon c k) (called refl v x go (given refl refl)))
  low_goes l e c _ d (bound_some {e = i} h) k v x go = found_by (subscript l e) c v x (way_no (test_no_symbol op.Colon c (test_begins c i d h) refl) (called refl i d (complete_test c i d h (stops_at 2 d _ k (omega arith)))
      (way_yes (here op.Colon d k) (called refl v x go (given refl refl)))))

  complete_bound : (c : Cursor) (b : Bound) (d : Cursor) → IsBound c b d → Stops 1 d → descent bounds c ≡ gives b d
  complete_bound c _ _ bound_none s = found_by bounds c no_bound c (way_no (no_test c s) (given refl refl))
  complete_bound c _ d (bound_some {e = e} h) s = found_by bounds c (bound e) d (way_yes (test_begins c e d h) (called refl e d (complete_test c e d h (stops_less 1 2 d (omega arith) s)) (given refl refl)))

  args_go : (b : Bool) (c : Cursor) (as' : Args) (d : Cursor) → AreArgs b c as' d → BeginsOp op.RightParen d → (acc : Args) → descent (arguments b acc) c ≡ gives (args_behind acc as') d
  args_go b c _ _ args_none end acc = found_by (arguments b acc) c _ _ (way_yes (here op.RightParen c end) (given (sym (args_empty acc)) refl))
  args_go b c _ d (args_last {n = n} {e = e} h) end acc = found_by (arguments b acc) c _ _ (way_no (arg_not_end b c n e _ d h) (called refl (n, e) d (complete_arg b c n e _ d h (stops_at 2 d _ end (omega arith)) (end_no_assign d end))
      (way_no (at_is (symbol op.Comma) d _ end) (given (sym (args_one acc n e)) refl))))
  args_go b c _ f (args_more {b' = b'} {d = d} {n = n} {e = e} {as' = as'} h k m) end acc = found_by (arguments b acc) c _ _ (way_no (arg_not_end b c n e _ d h) (called refl (n, e) d (complete_arg b c n e _ d h (stops_at 2 d _ k (omega arith)) (comma_no_assign d k))
      (way_yes (here op.Comma d k) (called refl _ f (subst (λ z. descent (arguments z (and_arg acc n e)) (past d) ≡ gives (args_behind (and_arg acc n e) as') f) (arg_flag b c n e b' d h) (args_go b' (past d) as' f m end (and_arg acc n e)))
      (given (args_again acc n e as') refl)))))

  complete_arg : (b : Bool) (c : Cursor) (n : Option ℕ) (e : Expr) (b' : Bool) (d : Cursor) → IsArg b c n e b' d → Stops 2 d → (BeginsOp op.Assign d → ⊥) → descent (argument b) c ≡ gives (n, e) d
  complete_arg _ c _ e _ d (arg_test h) s no_assign = found_by (argument false) c (None, e) d (way_no (not_named c e d h no_assign) (called refl e d (complete_test c e d h s) (given refl refl)))
  complete_arg b c _ e _ d (arg_named {n = n} h k m) s no_assign = found_by (argument b) c (Some n, e) d (way_yes (or_named b c n h.begins k) (called refl n (past c) (complete_name c n h) (way_yes (here op.Assign (past c) k) (called refl e d (complete_test (past_two c) e d m s) (given refl refl)))))

  complete_atom : (c : Cursor) (e : Expr) (d : Cursor) → IsAtom c e d → Stops 14 d → descent atom c ≡ gives e d
  complete_atom c _ _ (atom_name {n = n} h) s = variable_atom c n h.name.begins _ _ (found_by (variable (line_of c)) c _ _ (called refl n (past c) (complete_name c n h.name) (way_no (not_super c n h.ordinary) (given refl refl))))
  complete_atom c _ _ (atom_int h) s = found_by atom c _ _ (untold (said_is constant_in c _ h) (told _ (said_is number_in c _ h) (given refl refl)))
  complete_atom c _ _ (atom_float h) s = found_by atom c _ _ (untold (said_is constant_in c _ h) (told _ (said_is number_in c _ h) (given refl refl)))
  complete_atom c _ _ (atom_strs {d = d} {empty = b} h) s = strs_atom c b d (strs_of c b d h s)
  complete_atom c _ _ (atom_octets {d = d} {empty = b} h) s = octets_atom c b d (octets_of c b d h s)
  complete_atom c _ _ (atom_none h) s = found_by atom c _ _ (told _ (said_is constant_in c _ h) (given refl refl))
  complete_atom c _ _ (atom_true h) s = found_by atom c _ _ (told _ (said_is constant_in c _ h) (given refl refl))
  complete_atom c _ _ (atom_false h) s = found_by atom c _ _ (told _ (said_is constant_in c _ h) (given refl refl))
  complete_atom c _ _ (atom_unit h k) s = paren_atom c h _ _ (found_by (group (line_of c)) (past c) _ _ (way_yes (here op.RightParen (past c) k) (given refl refl)))
  complete_atom c _ _ (atom_group {d = d} {e = e} h k l) s = paren_atom c h _ _ (found_by (group (line_of c)) (past c) _ _ (way_no (test_no_symbol op.RightParen (past c) (tests_begin (past c) e d k) refl) (called refl e d (complete_tests (past c) e d k (stops_at 1 d _ l (omega arith))) (way_yes (here op.RightParen d l) (given refl refl)))))
  complete_atom c _ _ (atom_empty_list h k) s = square_atom c h _ _ (found_by (list_display (line_of c)) (past c) _ _ (called refl no_exprs (past c) (found_by (more_tests no_exprs) (past c) _ _ (way_no (no_test (past c) (stops_at 1 (past c) _ k (omega arith))) (given refl refl))) (way_yes (here op.RightSquare (past c) k) (given refl refl))))
  complete_atom c _ _ (atom_list {d = d} {es = es} h k l) s = square_atom c h _ _ (found_by (list_display (line_of c)) (past c) _ _ (called refl es d (tests_go (past c) es d k (stops_at 1 d _ l (omega arith)) no_exprs) (way_yes (here op.RightSquare d l) (given refl refl))))
  complete_atom c _ _ (atom_dict {d = d} {ps = ps} h k l) s = brace_atom c h _ _ (found_by (dict_display (line_of c)) (past c) _ _ (called refl ps d (pairs_go (past c) ps d k l no_pairs) (way_yes (here op.RightBrace d l) (given refl refl))))
  complete_atom c _ _ (atom_super {m = m} {n = n} h i j k l p) s = variable_atom c m h.begins _ _ (
      (found_by (variable (line_of c)) c _ _ (called refl m (past c) (complete_name c m h) (way_yes (is_super_here c m i) (called refl _ _
      (found_by (super_rest (line_of c)) (past c) _ _ (way_yes (here op.LeftParen (past c) j) (way_yes (here op.RightParen (past_two c) k) (way_yes (here op.Dot (past (past_two c)) l) (called refl n _ (complete_plain (past_two (past_two c)) n p) (given refl refl))))))
      (given refl refl))))))

  pairs_go : (c : Cursor) (ps : Pairs) (d : Cursor) → ArePairs c ps d → BeginsOp op.RightBrace d → (acc : Pairs) → descent (pairs acc) c ≡ gives (pairs_behind acc ps) d
  pairs_go c _ _ pairs_none end acc = found_by (pairs acc) c _ _ (way_yes (here op.RightBrace c end) (given (sym (pairs_empty acc)) refl))
  pairs_go c _ f (pairs_last {d = d} {k = k} {v = v} h i j) end acc = found_by (pairs acc) c _ _ (way_no (test_no_symbol op.RightBrace c (test_begins c k d h) refl) (called refl k d (complete_test c k d h (stops_at 2 d _ i (omega arith))) (way_yes (here op.Colon d i)
      (called refl v f (complete_test (past d) v f j (stops_at 2 f _ end (omega arith))) (way_no (at_is (symbol op.Comma) f _ end) (given (sym (pairs_one acc k v)) refl))))))
  pairs_go c _ g (pairs_more {d = d} {f = f} {k = k} {v = v} {ps = ps} h i j l m) end acc = found_by (pairs acc) c _ _ (way_no (test_no_symbol op.RightBrace c (test_begins c k d h) refl) (called refl k d (complete_test c k d h (stops_at 2 d _ i (omega arith))) (way_yes (here op.Colon d i)
      (called refl v f (complete_test (past d) v f j (stops_at 2 f _ l (omega arith))) (way_yes (here op.Comma f l) (called refl _ g (pairs_go (past f) ps g m end (and_pair acc k v)) (given (pairs_again acc k v ps) refl)))))))

  pub tests_go : (c : Cursor) (es : Exprs) (d : Cursor) → AreTests c es d → Stops 1 d → (acc : Exprs) → descent (more_tests acc) c ≡ gives (exprs_behind acc es) d
  tests_go c _ d (tests_last {e = e} h) s acc = found_by (more_tests acc) c _ _ (way_yes (test_begins c e d h) (called refl e d (complete_test c e d h (stops_less 1 2 d (omega arith) s)) (way_no (no_symbol op.Comma 1 d s (omega arith)) (given (sym (exprs_one acc e)) refl))))
  tests_go c _ _ (tests_comma {d = d} {e = e} h k) s acc = found_by (more_tests acc) c _ _ (way_yes (test_begins c e d h) (called refl e d (complete_test c e d h (stops_at 2 d _ k (omega arith))) (way_yes (here op.Comma d k)
      (called refl (and_expr acc e) (past d) (found_by (more_tests (and_expr acc e)) (past d) _ _ (way_no (no_test (past d) s) (given refl refl))) (given (sym (exprs_one acc e)) refl)))))
  tests_go c _ f (tests_more {d = d} {e = e} {es = es} h k m) s acc = found_by (more_tests acc) c _ _ (way_yes (test_begins c e d h) (called refl e d (complete_test c e d h (stops_at 2 d _ k (omega arith))) (way_yes (here op.Comma d k)
      (called refl _ f (tests_go (past d) es f m s (and_expr acc e)) (given (exprs_more acc e es) refl)))))

  pub complete_tests : (c : Cursor) (e : Expr) (d : Cursor) → IsTests c e d → Stops 1 d → descent tests c ≡ gives e d
  complete_tests c e d (tests_one h) s = found_by tests c e d (called refl e d (complete_test c e d h (stops_less 1 2 d (omega arith) s)) (called refl e d (found_by (tests_after (line_of c) e) d e d (way_no (no_symbol op.Comma 1 d s (omega arith)) (given refl refl))) (given refl refl)))
  complete_tests c _ _ (tests_single {d = d} {e = e} h k) s = found_by tests c _ _ (called refl e d (complete_test c e d h (stops_at 2 d _ k (omega arith))) (called refl _ _ (single_after (line_of c) e d k s) (given refl refl)))
  complete_tests c _ _ (tests_tuple {d = d} {f = f} {e = e} {es = es} h k m) s = found_by tests c _ _ (called refl e d (complete_test c e d h (stops_at 2 d _ k (omega arith))) (called refl _ _ (tuple_after (line_of c) e d es f k (tests_go (past d) es f m s (expr e no_exprs))) (given refl refl)))

pub complete_primary : (c : Cursor) (e : Expr) (d : Cursor) → IsPrimary c e d → Stops 13 d → descent primary c ≡ gives e d
complete_primary c e d h s = primary_goes c e d h (stops_less 13 14 d (omega arith) s) e d (primary_end (line_of c) e d s)
