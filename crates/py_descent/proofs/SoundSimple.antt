-- Simple statements and lines of them that the descent finds are those of the grammar.
use Rattle.std.proofs.Common.{◌≡◌, ℕ, ◌&&◌, Bool, true, false, not, List, [], ◌∷◌, ◌++◌, None, refl, subst}
use Rattle.place_ids.specs.declared.operators.BinOp.{BinOp}
use Rattle.py_tokens.specs.declared.token.Keyword.TheVariants as word
use Rattle.py_tokens.specs.declared.token.Op.TheVariants as op
use Rattle.py_tree.specs.Tree as tree
use Rattle.py_tree.specs.Tree.{Expr, Exprs, no_exprs, expr, ImportPart, FromPart, Stmt, StmtKind, Stmts, no_stmts, stmt}
use Rattle.py_grammar.specs.Cursor.{Cursor, BeginsOp, BeginsWord, past, stated}
use Rattle.py_grammar.specs.Expressions.{IsTests}
use Rattle.py_grammar.specs.Statements.{dots_none, dots_more, dotted as dotted_name, IsDotted, IsSingle, IsTargets, targets_one, targets_single, targets_tuple, is_plural, IsImport, import_name, import_as, AreImports, imports_one, imports_more, IsFrom, from_name, from_as, froms_one, froms_more, IsAssigned, assigned_last, assigned_more, IsSimple, simple_pass, simple_break, simple_continue, simple_ellipsis, simple_return, simple_return_value, simple_raise, simple_raise_value, simple_raise_from, simple_assert, simple_assert_message, simple_import, simple_from, simple_from_group, simple_from_comma, simple_assign, simple_augment, simple_annotated, simple_annotated_value, simple_expression, IsLine, line_last, line_semi, line_more, then_all}
use Rattle.py_descent.specs.Goals.{import_part, imports, from_part, froms, return_rest, raise_rest, assert_rest, from_rest, assignment, assigned, annotated, simple_kind, simple, line, for_targets, more_targets}
use Rattle.py_descent.specs.Bodies.{body, and_expr, is_lone, is_target, some_targets, are_targets}
use Rattle.py_descent.proofs.Means.{way_yes, way_no, told, untold, after, means}
use Rattle.py_descent.proofs.Seeing.{at_symbol, at_keyword, at_newline, said_augment, SaysAugmenting, says_augment}
use Rattle.py_descent.proofs.Appends.{then_exprs, then_exprs_one, then_exprs_more, then_list_more, then_all_one, then_all_more}
use Rattle.py_descent.proofs.Parts.{Behind, behind, found_name, More, more, more_as, OrNone, or_none, or_more, FoundFroms, froms_end, froms_comma, FoundAssigned, assigned_value, assigned_on, FoundSimple, found_simple, ArePrimaries, primaries_last, primaries_comma, primaries_more, done}
use Rattle.py_descent.proofs.Targets.{both_first, both_second, primary_target, tests_target, primaries_targets, lone_target, tests_are_single}
use Rattle.py_descent.proofs.Found.{found}

-- ---- Imports

lone_import : (c : Cursor) (ns : List ℕ) (d : Cursor) → IsDotted c ns d → is_lone ns ≡ true → IsImport c (record { path = ns; alias = None }) d
lone_import c ns d (dotted_name h dots_none) t = import_name h
lone_import c ns d (dotted_name h (dots_more _ _ _)) t = absurd cc

pub import_part_sound : (c : Cursor) (v : ImportPart) (d : Cursor) → means found (body import_part) c v d → IsImport c v d
import_part_sound c v d (after ns u h (way_yes k (after m _ (found_name hs) g))) = done (IsImport c) _ _ v d (import_as h (at_keyword _ u k) hs) g
import_part_sound c v d (after ns u h (way_no _ (way_yes t g))) = done (IsImport c) _ _ v d (lone_import c ns u h t) g
import_part_sound c v d (after ns u h (way_no _ (way_no _ z))) = absurd z

pub imports_sound : (ps : List ImportPart) (c : Cursor) (v : List ImportPart) (d : Cursor) → means found (body (imports ps)) c v d → More ◌++◌ ps (AreImports c) v d
imports_sound ps c v d (after p u h (way_yes k (after _ _ (more qs f hs) g))) =
    done (More ◌++◌ ps (AreImports c)) _ _ v d (more_as _ _ _ (p ∷ qs) _ _ (imports_more h (at_symbol _ u k) hs) (then_list_more ps qs p)) g
imports_sound ps c v d (after p u h (way_no _ g)) = done (More ◌++◌ ps (AreImports c)) _ _ v d (more (p ∷ []) u (imports_one h)) g

pub from_part_sound : (c : Cursor) (v : FromPart) (d : Cursor) → means found (body from_part) c v d → IsFrom c v d
from_part_sound c v d (after n _ (found_name h) (way_yes k (after m _ (found_name hs) g))) = done (IsFrom c) _ _ v d (from_as h (at_keyword _ (past c) k) hs) g
from_part_sound c v d (after n _ (found_name h) (way_no _ g)) = done (IsFrom c) _ _ v d (from_name h) g

-- one part before others
froms_before : (grouped : Bool) (ps : List FromPart) (p : FromPart) (c u : Cursor) (v : List FromPart) (d : Cursor) → IsFrom c p u → BeginsOp op.Comma u → FoundFroms grouped (ps ++ p ∷ []) (past u) v d → FoundFroms grouped ps c v d
froms_before grouped ps p c u v d h k (froms_end _ _ (more qs f hs)) = froms_end _ _ (more_as _ _ _ (p ∷ qs) _ _ (froms_more h k hs) (then_list_more ps qs p))
froms_before grouped ps p c u v d h k (froms_comma _ _ t (more qs f hs) comma closed) = froms_comma _ _ t (more_as _ _ _ (p ∷ qs) _ _ (froms_more h k hs) (then_list_more ps qs p)) comma closed

pub froms_sound : (grouped : Bool) (ps : List FromPart) (c : Cursor) (v : List FromPart) (d : Cursor) → means found (body (froms grouped ps)) c v d → FoundFroms grouped ps c v d
froms_sound grouped ps c v d (after p u h (way_yes k (way_yes t g))) =
    done (FoundFroms grouped ps c) _ _ v d (froms_comma _ _ (both_first _ _ t) (more (p ∷ []) u (froms_one h)) (at_symbol _ u k) (at_symbol _ (past u) (both_second grouped _ t))) g
froms_sound grouped ps c v d (after p u h (way_yes k (way_no _ (after _ _ hs g)))) = done (FoundFroms grouped ps c) _ _ v d (froms_before grouped ps p c u _ _ h (at_symbol _ u k) hs) g
froms_sound grouped ps c v d (after p u h (way_no _ g)) = done (FoundFroms grouped ps c) _ _ v d (froms_end _ _ (more (p ∷ []) u (froms_one h))) g

pub from_rest_sound : (a : Cursor) (c : Cursor) (v : StmtKind) (d : Cursor) → BeginsWord word.KwFrom a → Behind a c → means found (body from_rest) c v d → IsSimple a v d
from_rest_sound a c v d begun behind (after ns u h (way_yes k (way_yes r (after _ _ (froms_end _ _ (more ps f hs)) (way_yes x g))))) = done (IsSimple a) _ _ v d (simple_from_group begun h (at_keyword _ u k) (at_symbol _ (past u) r) hs (at_symbol _ f x)) g
from_rest_sound a c v d begun behind (after ns u h (way_yes k (way_yes r (after _ _ (froms_end _ _ (more ps f hs)) (way_no _ z))))) = absurd z
from_rest_sound a c v d begun behind (after ns u h (way_yes k (way_yes r (after _ _ (froms_comma _ f _ (more ps _ hs) comma closed) (way_yes x g))))) = done (IsSimple a) _ _ v d (simple_from_comma begun h (at_keyword _ u k) (at_symbol _ (past u) r) hs comma closed) g
from_rest_sound a c v d begun behind (after ns u h (way_yes k (way_yes r (after _ _ (froms_comma _ f _ (more ps _ hs) comma closed) (way_no _ z))))) = absurd z
from_rest_sound a c v d begun behind (after ns u h (way_yes k (way_no _ (after _ _ (froms_end _ _ (more ps f hs)) g)))) = done (IsSimple a) _ _ v d (simple_from begun h (at_keyword _ u k) hs) g
from_rest_sound a c v d begun behind (after ns u h (way_yes k (way_no _ (after _ _ (froms_comma _ _ t _ _ _) g)))) = absurd cc
from_rest_sound a c v d begun behind (after ns u h (way_no _ z)) = absurd z

-- ---- What follows a word

pub return_rest_sound : (a : Cursor) (c : Cursor) (v : StmtKind) (d : Cursor) → BeginsWord word.KwReturn a → Behind a c → means found (body return_rest) c v d → IsSimple a v d
return_rest_sound a c v d begun behind (way_yes _ (after e u h g)) = done (IsSimple a) _ _ v d (simple_return_value begun h) g
return_rest_sound a c v d begun behind (way_no _ g) = done (IsSimple a) _ _ v d (simple_return begun) g

pub raise_rest_sound : (a : Cursor) (c : Cursor) (v : StmtKind) (d : Cursor) → BeginsWord word.KwRaise a → Behind a c → means found (body raise_rest) c v d → IsSimple a v d
raise_rest_sound a c v d begun behind (way_yes _ (after e u h (way_yes k (after o f hs g)))) = done (IsSimple a) _ _ v d (simple_raise_from begun h (at_keyword _ u k) hs) g
raise_rest_sound a c v d begun behind (way_yes _ (after e u h (way_no _ g))) = done (IsSimple a) _ _ v d (simple_raise_value begun h) g
raise_rest_sound a c v d begun behind (way_no _ g) = done (IsSimple a) _ _ v d (simple_raise begun) g

pub assert_rest_sound : (a : Cursor) (c : Cursor) (v : StmtKind) (d : Cursor) → BeginsWord word.KwAssert a → Behind a c → means found (body assert_rest) c v d → IsSimple a v d
assert_rest_sound a c v d begun behind (after e u h (way_yes k (after o f hs g))) = done (IsSimple a) _ _ v d (simple_assert_message begun h (at_symbol _ u k) hs) g
assert_rest_sound a c v d begun behind (after e u h (way_no _ g)) = done (IsSimple a) _ _ v d (simple_assert begun h) g

-- ---- Assignments

assigned_as : (ts us all : Exprs) (c : Cursor) (w : Expr) (d : Cursor) → IsAssigned c us w d → then_exprs ts us ≡ all → FoundAssigned ts c (tree.assign all w) d
assigned_as ts us all c w d h e = subst (λ z. FoundAssigned ts c (tree.assign z w) d) e (assigned_on us w d h)

-- one target before what follows
assigned_before : (ts : Exprs) (t : Expr) (c u : Cursor) (v : StmtKind) (d : Cursor) → IsTargets c t u → BeginsOp op.Assign u → FoundAssigned (and_expr ts t) (past u) v d → FoundAssigned ts c v d
assigned_before ts t c u v d h k (assigned_value w f hs) = assigned_as ts (expr t no_exprs) (and_expr ts t) c w f (assigned_last h k hs) (then_exprs_one ts t)
assigned_before ts t c u v d h k (assigned_on us w f hs) = assigned_as ts (expr t us) (then_exprs (and_expr ts t) us) c w f (assigned_more h k hs) (then_exprs_more ts us t)

pub assigned_sound : (ts : Exprs) (c : Cursor) (v : StmtKind) (d : Cursor) → means found (body (assigned ts)) c v d → FoundAssigned ts c v d
assigned_sound ts c v d (after w u h (way_yes _ (way_yes t (way_yes k (after _ _ hs g))))) = done (FoundAssigned ts c) _ _ v d (assigned_before ts w c u _ _ (tests_target h t) (at_symbol _ u k) hs) g
assigned_sound ts c v d (after w u h (way_yes _ (way_yes t (way_no _ z)))) = absurd z
assigned_sound ts c v d (after w u h (way_yes _ (way_no _ z))) = absurd z
assigned_sound ts c v d (after w u h (way_no _ g)) = done (FoundAssigned ts c) _ _ v d (assigned_value w u h) g

assigned_whole : (t : Expr) (c u : Cursor) (v : StmtKind) (d : Cursor) → IsTargets c t u → BeginsOp op.Assign u → FoundAssigned (expr t no_exprs) (past u) v d → IsSimple c v d
assigned_whole t c u v d h k (assigned_value w f hs) = simple_assign (assigned_last h k hs)
assigned_whole t c u v d h k (assigned_on us w f hs) = simple_assign (assigned_more h k hs)

not_true : (z : Bool) → not z ≡ true → z ≡ false
not_true false h = refl
not_true true h = absurd cc

augment_whole : (e w : Expr) (o : BinOp) (c u d : Cursor) → IsTests c e u → (is_target e && not (is_plural e)) ≡ true → SaysAugmenting o u → IsTests (past u) w d → IsSimple c (tree.augment e o w) d
augment_whole e w o c u d h t (says_augment _ b r) hs =
    let lone = not_true (is_plural e) (both_second (is_target e) _ t) in simple_augment (lone_target (tests_target h (both_first _ _ t)) lone) lone b r hs

pub assignment_sound : (c : Cursor) (v : StmtKind) (d : Cursor) → means found (body assignment) c v d → IsSimple c v d
assignment_sound c v d (after e u h (way_yes _ (way_yes t (way_yes k (after _ _ hs g))))) = done (IsSimple c) _ _ v d (assigned_whole e c u _ _ (tests_target h t) (at_symbol _ u k) hs) g
assignment_sound c v d (after e u h (way_yes _ (way_yes t (way_no _ z)))) = absurd z
assignment_sound c v d (after e u h (way_yes _ (way_no _ z))) = absurd z
assignment_sound c v d (after e u h (way_no _ (told o k (way_yes t (after w f hs g))))) = done (IsSimple c) _ _ v d (augment_whole e w o c u f h t (said_augment o u k) hs) g
assignment_sound c v d (after e u h (way_no _ (told o k (way_no _ z)))) = absurd z
assignment_sound c v d (after e u h (way_no _ (untold _ (way_yes k (way_yes t (after _ _ go g)))))) = done (IsSimple c) _ _ v d (go c u (tests_are_single h (both_first _ _ t) (both_second _ _ t)) (at_symbol _ u k) behind) g
assignment_sound c v d (after e u h (way_no _ (untold _ (way_yes k (way_no _ z))))) = absurd z
assignment_sound c v d (after e u h (way_no _ (untold _ (way_no _ g)))) = done (IsSimple c) _ _ v d (simple_expression h) g

pub annotated_sound : (a b : Cursor) (e : Expr) (c : Cursor) (v : StmtKind) (d : Cursor) → IsSingle a e b → BeginsOp op.Colon b → Behind b c → means found (body (annotated e)) c v d → IsSimple a v d
annotated_sound a b e c v d target colon behind (after _ u h (way_yes k (after w f hs g))) = done (IsSimple a) _ _ v d (simple_annotated_value target colon h (at_symbol _ u k) hs) g
annotated_sound a b e c v d target colon behind (after _ u h (way_no _ g)) = done (IsSimple a) _ _ v d (simple_annotated target colon h) g

-- ---- Statements and lines

pub simple_kind_sound : (c : Cursor) (v : StmtKind) (d : Cursor) → means found (body simple_kind) c v d → IsSimple c v d
simple_kind_sound c v d (way_yes k g) = done (IsSimple c) _ _ v d (simple_pass (at_keyword _ c k)) g
simple_kind_sound c v d (way_no _ (way_yes k g)) = done (IsSimple c) _ _ v d (simple_break (at_keyword _ c k)) g
simple_kind_sound c v d (way_no _ (way_no _ (way_yes k g))) = done (IsSimple c) _ _ v d (simple_continue (at_keyword _ c k)) g
simple_kind_sound c v d (way_no _ (way_no _ (way_no _ (way_yes k g)))) = done (IsSimple c) _ _ v d (simple_ellipsis (at_symbol _ c k)) g
simple_kind_sound c v d (way_no _ (way_no _ (way_no _ (way_no _ (way_yes k (after _ _ go g)))))) = done (IsSimple c) _ _ v d (go c (at_keyword _ c k) behind) g
simple_kind_sound c v d (way_no _ (way_no _ (way_no _ (way_no _ (way_no _ (way_yes k (after _ _ go g))))))) = done (IsSimple c) _ _ v d (go c (at_keyword _ c k) behind) g
simple_kind_sound c v d (way_no _ (way_no _ (way_no _ (way_no _ (way_no _ (way_no _ (way_yes k (after _ _ go g)))))))) = done (IsSimple c) _ _ v d (go c (at_keyword _ c k) behind) g
simple_kind_sound c v d (way_no _ (way_no _ (way_no _ (way_no _ (way_no _ (way_no _ (way_no _ (way_yes k (after _ _ (more ps u h) g))))))))) = done (IsSimple c) _ _ v d (simple_import (at_keyword _ c k) h) g
simple_kind_sound c v d (way_no _ (way_no _ (way_no _ (way_no _ (way_no _ (way_no _ (way_no _ (way_no _ (way_yes k (after _ _ go g)))))))))) = done (IsSimple c) _ _ v d (go c (at_keyword _ c k) behind) g
simple_kind_sound c v d (way_no _ (way_no _ (way_no _ (way_no _ (way_no _ (way_no _ (way_no _ (way_no _ (way_no _ (after k u h g)))))))))) = done (IsSimple c) _ _ v d h g

pub simple_sound : (c : Cursor) (v : Stmt) (d : Cursor) → means found (body simple) c v d → FoundSimple c v d
simple_sound c v d (after k u h g) = done (FoundSimple c) _ _ v d (found_simple k u h) g

pub line_sound : (ss : Stmts) (c : Cursor) (v : Stmts) (d : Cursor) → means found (body (line ss)) c v d → More then_all ss (IsLine c) v d
line_sound ss c v d (after _ _ (found_simple k u h) (way_yes x (way_yes y g))) =
    done (More then_all ss (IsLine c)) _ _ v d (more_as _ _ _ (stmt (stated k c) no_stmts) _ _ (line_semi h (at_symbol _ u x) (at_newline (past u) y)) (then_all_one ss _)) g
line_sound ss c v d (after _ _ (found_simple k u h) (way_yes x (way_no _ (after _ _ (more ts f hs) g)))) =
    done (More then_all ss (IsLine c)) _ _ v d (more_as _ _ _ (stmt (stated k c) ts) _ _ (line_more h (at_symbol _ u x) hs) (then_all_more ss ts _)) g
line_sound ss c v d (after _ _ (found_simple k u h) (way_no _ (way_yes y g))) =
    done (More then_all ss (IsLine c)) _ _ v d (more_as _ _ _ (stmt (stated k c) no_stmts) _ _ (line_last h (at_newline u y)) (then_all_one ss _)) g
line_sound ss c v d (after _ _ (found_simple k u h) (way_no _ (way_no _ z))) = absurd z

-- ---- The targets of `for`

first_target : (e : Expr) (es : Exprs) → some_targets (expr e es) ≡ true → is_target e ≡ true
unfolding is_target
first_target e es h = both_first _ _ h

other_targets : (e : Expr) (es : Exprs) → some_targets (expr e es) ≡ true → are_targets es ≡ true
unfolding is_target
other_targets e es h = both_second (is_target e) _ h

pub for_targets_sound : (c : Cursor) (v : Expr) (d : Cursor) → means found (body for_targets) c v d → IsTargets c v d
for_targets_sound c v d (after e u h (way_yes k (after _ _ or_none (way_yes t g)))) = done (IsTargets c) _ _ v d (targets_single (primary_target h (first_target e no_exprs t)) (at_symbol _ u k)) g
for_targets_sound c v d (after e u h (way_yes k (after _ _ or_none (way_no _ z)))) = absurd z
for_targets_sound c v d (after e u h (way_yes k (after _ _ (or_more _ _ (more es f hs)) (way_yes t g)))) = done (IsTargets c) _ _ v d (targets_tuple (primary_target h (first_target e es t)) (at_symbol _ u k) (primaries_targets hs (other_targets e es t))) g
for_targets_sound c v d (after e u h (way_yes k (after _ _ (or_more _ _ (more es f hs)) (way_no _ z)))) = absurd z
for_targets_sound c v d (after e u h (way_no _ (way_yes t g))) = done (IsTargets c) _ _ v d (targets_one (primary_target h t)) g
for_targets_sound c v d (after e u h (way_no _ (way_no _ z))) = absurd z

pub more_targets_sound : (es : Exprs) (c : Cursor) (v : Exprs) (d : Cursor) → means found (body (more_targets es)) c v d → OrNone es c (More then_exprs es (ArePrimaries c)) v d
more_targets_sound es c v d (way_yes _ (after e u h (way_yes k (after _ _ or_none g)))) =
    done (OrNone es c (More then_exprs es (ArePrimaries c))) _ _ v d (or_more _ _ (more_as _ _ _ (expr e no_exprs) _ _ (primaries_comma h (at_symbol _ u k)) (then_exprs_one es e))) g
more_targets_sound es c v d (way_yes _ (after e u h (way_yes k (after _ _ (or_more _ _ (more xs f hs)) g)))) =
    done (OrNone es c (More then_exprs es (ArePrimaries c))) _ _ v d (or_more _ _ (more_as _ _ _ (expr e xs) _ _ (primaries_more h (at_symbol _ u k) hs) (then_exprs_more es xs e))) g
more_targets_sound es c v d (way_yes _ (after e u h (way_no _ g))) =
    done (OrNone es c (More then_exprs es (ArePrimaries c))) _ _ v d (or_more _ _ (more_as _ _ _ (expr e no_exprs) _ _ (primaries_last h) (then_exprs_one es e))) g
more_targets_sound es c v d (way_no _ g) = done (OrNone es c (More then_exprs es (ArePrimaries c))) _ _ v d or_none g
