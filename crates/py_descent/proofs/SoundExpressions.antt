-- Tests and operations that the descent finds are those of the grammar.
use Rattle.std.proofs.Common.{◌≡◌, ℕ, true, false, Option, arith}
use Rattle.place_ids.specs.declared.operators.CompareOp.{CompareOp}
use Rattle.place_ids.specs.declared.operators.UnaryOp.{UnaryOp}
use Rattle.py_tokens.specs.declared.token.TokenKind.TheVariants as kind
use Rattle.py_tokens.specs.declared.token.Keyword.{Keyword}
use Rattle.py_tokens.specs.declared.token.Keyword.TheVariants as word
use Rattle.py_tree.specs.Tree as tree
use Rattle.py_tree.specs.Tree.{Expr, Exprs, no_exprs, expr}
use Rattle.py_grammar.specs.Cursor.{Cursor, BeginsWord, past, with_site, made}
use Rattle.py_grammar.specs.Expressions.{comparison_is, comparison_is_not, comparison_within, comparison_not_within, IsTest, test_or, test_choice, IsOr, or_and, or_or, IsAnd, and_not, and_and, IsNot, not_compare, not_not, IsCompare, compare_one, compare_two, IsFactor, factor_power, factor_unary, IsPower, power_primary, power_pow, AreTests, tests_last, tests_comma, tests_more, IsTests, tests_one, tests_single, tests_tuple}
use Rattle.py_descent.specs.Codes.{keyword, at}
use Rattle.py_descent.specs.Goals.{test, choice, disjunction, disjunctions, conjunction, conjunctions, inversion, comparison, compare_operator, factor, power, tests, tests_after, more_tests}
use Rattle.py_descent.specs.Bodies.{body}
use Rattle.py_descent.proofs.Means.{way_yes, way_no, told, untold, after, means}
use Rattle.py_descent.proofs.Seeing.{at_is, at_symbol, at_keyword, said_unary, SaysUnary, says_unary, said_compare}
use Rattle.py_descent.proofs.Appends.{then_exprs, then_exprs_one, then_exprs_more}
use Rattle.py_descent.proofs.Parts.{Behind, behind, Since, since, More, more, more_as, OrNone, or_none, or_more, FoundComparison, no_comparison, some_comparison, done}
use Rattle.py_descent.proofs.Found.{found}

-- ---- Tests

pub test_sound : (c : Cursor) (v : Expr) (d : Cursor) → means found (body test) c v d → IsTest c v d
test_sound c v d (after e u h (way_yes k (after _ _ go g))) = done (IsTest c) _ _ v d (go c u since h (at_keyword _ u k) behind) g
test_sound c v d (after e u h (way_no _ g)) = done (IsTest c) _ _ v d (test_or h) g

pub choice_sound : (a b : Cursor) (l : ℕ) (e : Expr) (c : Cursor) (v : Expr) (d : Cursor) → Since a l → IsOr a e b → BeginsWord word.KwIf b → Behind b c → means found (body (choice l e)) c v d → IsTest a v d
choice_sound a b l e c v d since whole first behind (after t f h (way_yes k (after o u hs g))) = done (IsTest a) _ _ v d (test_choice whole first h (at_keyword _ f k) hs) g
choice_sound a b l e c v d since whole first behind (after t f h (way_no _ z)) = absurd z

pub disjunction_sound : (c : Cursor) (v : Expr) (d : Cursor) → means found (body disjunction) c v d → IsOr c v d
disjunction_sound c v d (after e u h (after _ _ go g)) = done (IsOr c) _ _ v d (go c since (or_and h)) g

pub disjunctions_sound : (l : ℕ) (e : Expr) (c : Cursor) (v : Expr) (d : Cursor) → means found (body (disjunctions l e)) c v d → (a : Cursor) → Since a l → IsOr a e c → IsOr a v d
disjunctions_sound l e c v d (way_yes k (after b f h (after _ _ go g))) a since whole = done (IsOr a) _ _ v d (go a since (or_or whole (at_keyword _ c k) h)) g
disjunctions_sound l e c v d (way_no _ g) a since whole = done (IsOr a) _ _ v d whole g

pub conjunction_sound : (c : Cursor) (v : Expr) (d : Cursor) → means found (body conjunction) c v d → IsAnd c v d
conjunction_sound c v d (after e u h (after _ _ go g)) = done (IsAnd c) _ _ v d (go c since (and_not h)) g

pub conjunctions_sound : (l : ℕ) (e : Expr) (c : Cursor) (v : Expr) (d : Cursor) → means found (body (conjunctions l e)) c v d → (a : Cursor) → Since a l → IsAnd a e c → IsAnd a v d
conjunctions_sound l e c v d (way_yes k (after b f h (after _ _ go g))) a since whole = done (IsAnd a) _ _ v d (go a since (and_and whole (at_keyword _ c k) h)) g
conjunctions_sound l e c v d (way_no _ g) a since whole = done (IsAnd a) _ _ v d whole g

pub inversion_sound : (c : Cursor) (v : Expr) (d : Cursor) → means found (body inversion) c v d → IsNot c v d
inversion_sound c v d (way_yes k (after e u h g)) = done (IsNot c) _ _ v d (not_not (at_keyword _ c k) h) g
inversion_sound c v d (way_no _ (after e u h g)) = done (IsNot c) _ _ v d (not_compare h) g

-- ---- Comparisons

not_word : (w : Keyword) (c : Cursor) → at (keyword w) c ≡ false → at (keyword w) c ≡ true → ⊥
not_word w c h k = cc

not_not_next : (c : Cursor) → at (keyword word.KwNot) c ≡ false → BeginsWord word.KwNot c → ⊥
not_not_next c h k = not_word word.KwNot c h (at_is (keyword word.KwNot) c (kind.Keyword word.KwNot) k)

pub compare_operator_sound : (c : Cursor) (v : Option CompareOp) (d : Cursor) → means found (body compare_operator) c v d → FoundComparison c v d
compare_operator_sound c v d (told o h g) = done (FoundComparison c) _ _ v d (some_comparison o (past c) (said_compare o c h)) g
compare_operator_sound c v d (untold _ (way_yes k (way_yes r g))) = done (FoundComparison c) _ _ v d (some_comparison _ _ (comparison_is_not (at_keyword _ c k) (at_keyword _ (past c) r))) g
compare_operator_sound c v d (untold _ (way_yes k (way_no r g))) = done (FoundComparison c) _ _ v d (some_comparison _ _ (comparison_is (at_keyword _ c k) (not_not_next (past c) r))) g
compare_operator_sound c v d (untold _ (way_no _ (way_yes k g))) = done (FoundComparison c) _ _ v d (some_comparison _ _ (comparison_within (at_keyword _ c k))) g
compare_operator_sound c v d (untold _ (way_no _ (way_no _ (way_yes k (way_yes r g))))) = done (FoundComparison c) _ _ v d (some_comparison _ _ (comparison_not_within (at_keyword _ c k) (at_keyword _ (past c) r))) g
compare_operator_sound c v d (untold _ (way_no _ (way_no _ (way_yes k (way_no _ z))))) = absurd z
compare_operator_sound c v d (untold _ (way_no _ (way_no _ (way_no _ g)))) = done (FoundComparison c) _ _ v d no_comparison g

pub comparison_sound : (c : Cursor) (v : Expr) (d : Cursor) → means found (body comparison) c v d → IsCompare c v d
comparison_sound c v d (after a u h (after _ _ no_comparison g)) = done (IsCompare c) _ _ v d (compare_one (h (omega arith)).whole) g
comparison_sound c v d (after a u h (after _ _ (some_comparison o f hs) (after b x k g))) = done (IsCompare c) _ _ v d (compare_two (h (omega arith)).whole hs (k (omega arith)).whole) g

-- ---- Factors and powers

unary_whole : (o : UnaryOp) (e : Expr) (c d : Cursor) → SaysUnary o c → IsFactor (past c) e d → IsFactor c (made (tree.unary o e) c d) (with_site d)
unary_whole o e c d (says_unary t b r) h = factor_unary b r h

pub factor_sound : (c : Cursor) (v : Expr) (d : Cursor) → means found (body factor) c v d → IsFactor c v d
factor_sound c v d (told o h (after e u hs g)) = done (IsFactor c) _ _ v d (unary_whole o e c u (said_unary o c h) hs) g
factor_sound c v d (untold _ (after e u h g)) = done (IsFactor c) _ _ v d (factor_power h) g

pub power_sound : (c : Cursor) (v : Expr) (d : Cursor) → means found (body power) c v d → IsPower c v d
power_sound c v d (after a u h (way_yes k (after b f hs g))) = done (IsPower c) _ _ v d (power_pow h (at_symbol _ u k) hs) g
power_sound c v d (after a u h (way_no _ g)) = done (IsPower c) _ _ v d (power_primary h) g

-- ---- Several tests

pub tests_sound : (c : Cursor) (v : Expr) (d : Cursor) → means found (body tests) c v d → IsTests c v d
tests_sound c v d (after e u h (after _ _ go g)) = done (IsTests c) _ _ v d (go c since h) g

pub tests_after_sound : (l : ℕ) (e : Expr) (c : Cursor) (v : Expr) (d : Cursor) → means found (body (tests_after l e)) c v d → (a : Cursor) → Since a l → IsTest a e c → IsTests a v d
tests_after_sound l e c v d (way_yes k (after _ _ or_none g)) a since whole = done (IsTests a) _ _ v d (tests_single whole (at_symbol _ c k)) g
tests_after_sound l e c v d (way_yes k (after _ _ (or_more _ _ (more es u h)) g)) a since whole = done (IsTests a) _ _ v d (tests_tuple whole (at_symbol _ c k) h) g
tests_after_sound l e c v d (way_no _ g) a since whole = done (IsTests a) _ _ v d (tests_one whole) g

pub more_tests_sound : (es : Exprs) (c : Cursor) (v : Exprs) (d : Cursor) → means found (body (more_tests es)) c v d → OrNone es c (More then_exprs es (AreTests c)) v d
more_tests_sound es c v d (way_yes _ (after e u h (way_yes k (after _ _ or_none g)))) =
    done (OrNone es c (More then_exprs es (AreTests c))) _ _ v d (or_more _ _ (more_as _ _ _ (expr e no_exprs) _ _ (tests_comma h (at_symbol _ u k)) (then_exprs_one es e))) g
more_tests_sound es c v d (way_yes _ (after e u h (way_yes k (after _ _ (or_more _ _ (more xs f hs)) g)))) =
    done (OrNone es c (More then_exprs es (AreTests c))) _ _ v d (or_more _ _ (more_as _ _ _ (expr e xs) _ _ (tests_more h (at_symbol _ u k) hs) (then_exprs_more es xs e))) g
more_tests_sound es c v d (way_yes _ (after e u h (way_no _ g))) =
    done (OrNone es c (More then_exprs es (AreTests c))) _ _ v d (or_more _ _ (more_as _ _ _ (expr e no_exprs) _ _ (tests_last h) (then_exprs_one es e))) g
more_tests_sound es c v d (way_no _ g) = done (OrNone es c (More then_exprs es (AreTests c))) _ _ v d or_none g
