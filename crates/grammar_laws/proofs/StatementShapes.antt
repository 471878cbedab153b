-- What the grammar alone says of statements and definitions.
use Rattle.std.proofs.Common.{ℕ, ◌<◌, Bool, true, false, List, [], ◌∷◌, Option, refl}
use Rattle.py_tree.specs.declared.literal.Literal.{Literal}
use Rattle.py_tree.specs.Tree as tree
use Rattle.py_tree.specs.Tree.{Expr, Exprs, no_exprs, expr, ImportPart, FromPart, Param, statement, StmtKind, Stmts, no_stmts, stmt, Arms, no_arms, arm, Handlers, no_handlers, handler, FunDef, fun_def, ClassDef, class_def, Member, Members, no_members, member}
use Rattle.py_grammar.specs.Cursor.{Cursor, past}
use Rattle.py_grammar.specs.Expressions.{IsTest}
use Rattle.py_grammar.specs.Statements.{AreDots, dots_none, dots_more, IsDotted, dotted, IsAnnotation, annotation_one, annotation_more, IsPart, part_name, part_items, part_strs, part_none, AreItems, items_last, items_comma, items_more, IsItem, item_annotation, item_ellipsis, item_empty, item_list, IsHint, hint_none, hint_some, IsResult, result_none, result_some, IsSingle, single_name, single_attr, IsTarget, target_single, target_item, target_group, target_list, AreTargets, targets_last, targets_comma, targets_more, IsTargets, targets_one, targets_single, targets_tuple, IsImport, import_name, import_as, AreImports, imports_one, imports_more, IsFrom, from_name, from_as, AreFrom, froms_one, froms_more, IsAssigned, assigned_last, assigned_more, IsSimple, simple_pass, simple_break, simple_continue, simple_ellipsis, simple_return, simple_return_value, simple_raise, simple_raise_value, simple_raise_from, simple_assert, simple_assert_message, simple_import, simple_from, simple_from_group, simple_from_comma, simple_assign, simple_augment, simple_annotated, simple_annotated_value, simple_expression, IsLine, line_last, line_semi, line_more, IsLiteral, literal_int, literal_minus_int, literal_float, literal_minus_float, literal_strs, literal_octets, literal_none, literal_true, literal_false, IsParam, param_plain, param_default, AreParams, params_none, params_last, params_more, IsBase, base_none, base_empty, base_name, IsMember, member_pass, member_ellipsis, member_strs, member_value, member_declared, member_declared_value, then_all, IsBlock, block_line, block_indented, IsStatement, statement_line, statement_compound, statement_def, statement_class, AreStatements, statements_none, statements_more, IsCompound, compound_if, compound_while, compound_for, compound_try, AreElifs, elifs_none, elifs_more, IsElse, else_none, else_block, AreHandlers, handlers_bare, handlers_last, handlers_more, IsCaught, caught_test, caught_as, IsFunction, function, IsClass, class, IsBody, body_line, body_indented, IsEntry, entry_member, entry_method, AreEntries, entries_none, entries_more}
use Rattle.scope_rules.specs.WellFormed.{AreNames, IsNameOrNone, IsPath, AreImported, AreTaken, IsFormed, AreFormed, IsFormedOrNone, IsFormedKind, AreFormedStmts, AreFormedArms, AreFormedHandlers}
use Rattle.grammar_laws.proofs.Shapes.{anywhere, Numbered, number_of, strs_numbered, octets_numbered, test_shape, primary_shape, tests_shape}

-- ---- names

dots_shape : {c d : Cursor} {ns : List ℕ} (count : ℕ) → AreDots c ns d → Numbered count c → AreNames (anywhere count) ns × Numbered count d
dots_shape count dots_none h = (tt, h)
dots_shape count (dots_more {c = c} {n = n} dot own more) h =
    let others = dots_shape count more h in
    ((number_of count n (past c) h own.name, others.0), others.1)

dotted_shape : {c d : Cursor} {ns : List ℕ} (count : ℕ) → IsDotted c ns d → Numbered count c → (IsPath (anywhere count) ns × AreNames (anywhere count) ns) × Numbered count d
dotted_shape count (dotted {c = c} {n = n} own more) h =
    let others = dots_shape count more h in
    (((number_of count n c h own, others.0), (number_of count n c h own, others.0)), others.1)

mutual
  annotation_numbered : {c d : Cursor} (count : ℕ) → IsAnnotation c d → Numbered count c → Numbered count d
  annotation_numbered count (annotation_one a) h = part_numbered count a h
  annotation_numbered count (annotation_more a bar more) h = annotation_numbered count more (part_numbered count a h)

  part_numbered : {c d : Cursor} (count : ℕ) → IsPart c d → Numbered count c → Numbered count d
  part_numbered count (part_name ns) h = (dotted_shape count ns h).1
  part_numbered count (part_items ns open' items close) h = items_numbered count items (dotted_shape count ns h).1
  part_numbered count (part_strs s) h = strs_numbered count s h
  part_numbered count (part_none b) h = h

  items_numbered : {c d : Cursor} (count : ℕ) → AreItems c d → Numbered count c → Numbered count d
  items_numbered count (items_last a) h = item_numbered count a h
  items_numbered count (items_comma a comma) h = item_numbered count a h
  items_numbered count (items_more a comma more) h = items_numbered count more (item_numbered count a h)

  item_numbered : {c d : Cursor} (count : ℕ) → IsItem c d → Numbered count c → Numbered count d
  item_numbered count (item_annotation a) h = annotation_numbered count a h
  item_numbered count (item_ellipsis b) h = h
  item_numbered count (item_empty open' close) h = h
  item_numbered count (item_list open' items close) h = items_numbered count items h

hint_numbered : {c d : Cursor} (count : ℕ) → IsHint c d → Numbered count c → Numbered count d
hint_numbered count hint_none h = h
hint_numbered count (hint_some colon a) h = annotation_numbered count a h

result_numbered : {c d : Cursor} (count : ℕ) → IsResult c d → Numbered count c → Numbered count d
result_numbered count result_none h = h
result_numbered count (result_some arrow a) h = annotation_numbered count a h

-- ---- targets

single_shape : {c d : Cursor} {e : Expr} (count : ℕ) → IsSingle c e d → Numbered count c → IsFormed (anywhere count) e × Numbered count d
single_shape count (single_name {c = c} {n = n} own) h = (number_of count n c h own.name, h)
single_shape count (single_attr {d = d} {n = n} a dot own) h =
    let first = primary_shape count a h in
    ((first.0, number_of count n (past d) first.1 own.name), first.1)

mutual
  target_shape : {c d : Cursor} {e : Expr} (count : ℕ) → IsTarget c e d → Numbered count c → IsFormed (anywhere count) e × Numbered count d
  target_shape count (target_single a) h = single_shape count a h
  target_shape count (target_item a open' i close) h =
      let first = primary_shape count a h in
      let second = tests_shape count i first.1 in
      ((first.0, second.0), second.1)
  target_shape count (target_group open' a close) h = targets_shape count a h
  target_shape count (target_list open' a close) h = all_targets_shape count a h

  all_targets_shape : {c d : Cursor} {es : Exprs} (count : ℕ) → AreTargets c es d → Numbered count c → AreFormed (anywhere count) es × Numbered count d
  all_targets_shape count (targets_last a) h =
      let first = target_shape count a h in
      ((first.0, tt), first.1)
  all_targets_shape count (targets_comma a comma) h =
      let first = target_shape count a h in
      ((first.0, tt), first.1)
  all_targets_shape count (targets_more a comma es) h =
      let first = target_shape count a h in
      let others = all_targets_shape count es first.1 in
      ((first.0, others.0), others.1)

  targets_shape : {c d : Cursor} {e : Expr} (count : ℕ) → IsTargets c e d → Numbered count c → IsFormed (anywhere count) e × Numbered count d
  targets_shape count (targets_one a) h = target_shape count a h
  targets_shape count (targets_single a comma) h =
      let first = target_shape count a h in
      ((first.0, tt), first.1)
  targets_shape count (targets_tuple a comma es) h =
      let first = target_shape count a h in
      let others = all_targets_shape count es first.1 in
      ((first.0, others.0), others.1)

-- ---- simple statements

import_shape : {c d : Cursor} {p : ImportPart} (count : ℕ) → IsImport c p d → Numbered count c → (IsPath (anywhere count) p.path × IsNameOrNone (anywhere count) p.alias) × Numbered count d
import_shape count (import_name {c = c} {n = n} own) h = (((number_of count n c h own, tt), tt), h)
import_shape count (import_as {d = d} {m = m} ns word own) h =
    let path = dotted_shape count ns h in
    ((path.0.0, number_of count m (past d) path.1 own), path.1)

imports_shape : {c d : Cursor} {ps : List ImportPart} (count : ℕ) → AreImports c ps d → Numbered count c → AreImported (anywhere count) ps × Numbered count d
imports_shape count (imports_one p) h =
    let first = import_shape count p h in
    ((first.0.0, first.0.1, tt), first.1)
imports_shape count (imports_more p comma ps) h =
    let first = import_shape count p h in
    let others = imports_shape count ps first.1 in
    ((first.0.0, first.0.1, others.0), others.1)

from_shape : {c d : Cursor} {p : FromPart} (count : ℕ) → IsFrom c p d → Numbered count c → ((p.name < count) × IsNameOrNone (anywhere count) p.alias) × Numbered count d
from_shape count (from_name {c = c} {n = n} own) h = ((number_of count n c h own, tt), h)
from_shape count (from_as {c = c} {n = n} {m = m} own word other) h = ((number_of count n c h own, number_of count m (past (past c)) h other), h)

froms_shape : {c d : Cursor} {ps : List FromPart} (count : ℕ) → AreFrom c ps d → Numbered count c → AreTaken (anywhere count) ps × Numbered count d
froms_shape count (froms_one p) h =
    let first = from_shape count p h in
    ((first.0.0, first.0.1, tt), first.1)
froms_shape count (froms_more p comma ps) h =
    let first = from_shape count p h in
    let others = froms_shape count ps first.1 in
    ((first.0.0, first.0.1, others.0), others.1)

assigned_shape : {c d : Cursor} {ts : Exprs} {v : Expr} (count : ℕ) → IsAssigned c ts v d → Numbered count c → (AreFormed (anywhere count) ts × IsFormed (anywhere count) v) × Numbered count d
assigned_shape count (assigned_last t word v) h =
    let first = targets_shape count t h in
    let second = tests_shape count v first.1 in
    (((first.0, tt), second.0), second.1)
assigned_shape count (assigned_more t word more) h =
    let first = targets_shape count t h in
    let others = assigned_shape count more first.1 in
    (((first.0, others.0.0), others.0.1), others.1)

-- two tests, one after the other
two_tests : {a b f g : Cursor} {e o : Expr} (count : ℕ) → IsTest a e b → (Numbered count b → Numbered count f) → IsTest f o g → Numbered count a → (IsFormed (anywhere count) e × IsFormed (anywhere count) o) × Numbered count g
two_tests count t on u h =
    let first = test_shape count t h in
    let second = test_shape count u (on first.1) in
    ((first.0, second.0), second.1)

simple_shape : {c d : Cursor} {s : StmtKind} (count : ℕ) → IsSimple c s d → Numbered count c → IsFormedKind (anywhere count) s × Numbered count d
simple_shape count (simple_pass b) h = (tt, h)
simple_shape count (simple_break b) h = (refl, h)
simple_shape count (simple_continue b) h = (refl, h)
simple_shape count (simple_ellipsis b) h = (tt, h)
simple_shape count (simple_return b) h = ((refl, tt), h)
simple_shape count (simple_return_value b t) h =
    let first = tests_shape count t h in
    ((refl, first.0), first.1)
simple_shape count (simple_raise b) h = ((tt, tt), h)
simple_shape count (simple_raise_value b t) h =
    let first = test_shape count t h in
    ((first.0, tt), first.1)
simple_shape count (simple_raise_from b t word u) h = two_tests count t (λ k. k) u h
simple_shape count (simple_assert b t) h =
    let first = test_shape count t h in
    ((first.0, tt), first.1)
simple_shape count (simple_assert_message b t comma u) h = two_tests count t (λ k. k) u h
simple_shape count (simple_import b ps) h = imports_shape count ps h
simple_shape count (simple_from b ns word ps) h =
    let path = dotted_shape count ns h in
    let names = froms_shape count ps path.1 in
    ((path.0.0, names.0), names.1)
simple_shape count (simple_from_group b ns word open' ps close) h =
    let path = dotted_shape count ns h in
    let names = froms_shape count ps path.1 in
    ((path.0.0, names.0), names.1)
simple_shape count (simple_from_comma b ns word open' ps comma close) h =
    let path = dotted_shape count ns h in
    let names = froms_shape count ps path.1 in
    ((path.0.0, names.0), names.1)
simple_shape count (simple_assign a) h = assigned_shape count a h
simple_shape count (simple_augment t single word o v) h =
    let first = target_shape count t h in
    let second = tests_shape count v first.1 in
    ((first.0, second.0), second.1)
simple_shape count (simple_annotated t colon a) h =
    let first = single_shape count t h in
    ((first.0, tt), annotation_numbered count a first.1)
simple_shape count (simple_annotated_value t colon a word v) h =
    let first = single_shape count t h in
    let second = tests_shape count v (annotation_numbered count a first.1) in
    ((first.0, second.0), second.1)
simple_shape count (simple_expression t) h = tests_shape count t h

line_shape : {c d : Cursor} {ss : Stmts} (count : ℕ) → IsLine c ss d → Numbered count c → AreFormedStmts (anywhere count) ss × Numbered count d
line_shape count (line_last s b) h =
    let first = simple_shape count s h in
    ((first.0, tt), first.1)
line_shape count (line_semi s semi b) h =
    let first = simple_shape count s h in
    ((first.0, tt), first.1)
line_shape count (line_more s semi ss) h =
    let first = simple_shape count s h in
    let others = line_shape count ss first.1 in
    ((first.0, others.0), others.1)

-- ---- definitions, of which the grammar says nothing of locals

literal_numbered : {c d : Cursor} {l : Literal} (count : ℕ) → IsLiteral c l d → Numbered count c → Numbered count d
literal_numbered count (literal_int b) h = h
literal_numbered count (literal_minus_int b n) h = h
literal_numbered count (literal_float b) h = h
literal_numbered count (literal_minus_float b n) h = h
literal_numbered count (literal_strs s) h = strs_numbered count s h
literal_numbered count (literal_octets s) h = octets_numbered count s h
literal_numbered count (literal_none b) h = h
literal_numbered count (literal_true b) h = h
literal_numbered count (literal_false b) h = h

abbrev pub AreParamNames : ℕ → List Param → Type 0
AreParamNames count [] = Unit {0}
AreParamNames count (p ∷ ps) = (p.name < count) × AreParamNames count ps

abbrev pub HasShape : ℕ → FunDef → Type 0
HasShape count (fun_def id own params body line) = (own < count) × AreParamNames count params × AreFormedStmts (anywhere count) body

abbrev pub MemberHasShape : ℕ → Member → Type 0
MemberHasShape count tree.pass_member = Unit {0}
MemberHasShape count tree.ellipsis_member = Unit {0}
MemberHasShape count tree.text = Unit {0}
MemberHasShape count (tree.value n x line) = (n < count) × IsFormed (anywhere count) x
MemberHasShape count (tree.declared n o line) = (n < count) × IsFormedOrNone (anywhere count) o
MemberHasShape count (tree.method f) = HasShape count f

abbrev pub MembersHaveShape : ℕ → Members → Type 0
MembersHaveShape count no_members = Unit {0}
MembersHaveShape count (member m ms) = MemberHasShape count m × MembersHaveShape count ms

abbrev pub ClassHasShape : ℕ → ClassDef → Type 0
ClassHasShape count (class_def id own base inside line) = (own < count) × IsNameOrNone (anywhere count) base × MembersHaveShape count inside

abbrev pub KindHasShape : ℕ → StmtKind → Type 0
KindHasShape count (tree.def f) = HasShape count f
KindHasShape count (tree.class c) = ClassHasShape count c
KindHasShape count kind = IsFormedKind (anywhere count) kind

abbrev pub HaveShape : ℕ → Stmts → Type 0
HaveShape count no_stmts = Unit {0}
HaveShape count (stmt (statement kind line) rest) = KindHasShape count kind × HaveShape count rest

-- in a block, and directly in the module
abbrev Shaped : Bool → ℕ → Stmts → Type 0
Shaped true count ss = HaveShape count ss
Shaped false count ss = AreFormedStmts (anywhere count) ss

kind_anywhere : (count : ℕ) (kind : StmtKind) → IsFormedKind (anywhere count) kind → KindHasShape count kind
kind_anywhere count (tree.def f) h = absurd h
kind_anywhere count (tree.class c) h = absurd h
kind_anywhere count kind h = h

stmts_anywhere : (count : ℕ) (ss : Stmts) → AreFormedStmts (anywhere count) ss → HaveShape count ss
stmts_anywhere count no_stmts h = tt
stmts_anywhere count (stmt (statement kind line) rest) h = (kind_anywhere count kind h.0, stmts_anywhere count rest h.1)

to_shaped : (top : Bool) (count : ℕ) (ss : Stmts) → AreFormedStmts (anywhere count) ss → Shaped top count ss
to_shaped true count ss h = stmts_anywhere count ss h
to_shaped false count ss h = h

formed_then : (count : ℕ) (ss ts : Stmts) → AreFormedStmts (anywhere count) ss → AreFormedStmts (anywhere count) ts → AreFormedStmts (anywhere count) (then_all ss ts)
formed_then count no_stmts ts h k = k
formed_then count (stmt (statement kind line) ss) ts h k = (h.0, formed_then count ss ts h.1 k)

shapes_then : (count : ℕ) (ss ts : Stmts) → HaveShape count ss → HaveShape count ts → HaveShape count (then_all ss ts)
shapes_then count no_stmts ts h k = k
shapes_then count (stmt (statement kind line) ss) ts h k = (h.0, shapes_then count ss ts h.1 k)

shaped_then : (top : Bool) (count : ℕ) (ss ts : Stmts) → Shaped top count ss → Shaped top count ts → Shaped top count (then_all ss ts)
shaped_then true count ss ts h k = shapes_then count ss ts h k
shaped_then false count ss ts h k = formed_then count ss ts h k

param_shape : {b b' : Bool} {c d : Cursor} {p : Param} (count : ℕ) → IsParam b c p b' d → Numbered count c → (p.name < count) × Numbered count d
param_shape count (param_plain {c = c} {n = n} own hint) h = (number_of count n c h own, hint_numbered count hint h)
param_shape count (param_default {c = c} {n = n} own hint word l) h = (number_of count n c h own, literal_numbered count l (hint_numbered count hint h))

params_shape : {b : Bool} {c d : Cursor} {ps : List Param} (count : ℕ) → AreParams b c ps d → Numbered count c → AreParamNames count ps × Numbered count d
params_shape count params_none h = (tt, h)
params_shape count (params_last p) h =
    let first = param_shape count p h in
    ((first.0, tt), first.1)
params_shape count (params_more p comma ps) h =
    let first = param_shape count p h in
    let others = params_shape count ps first.1 in
    ((first.0, others.0), others.1)

base_shape : {c d : Cursor} {b : Option ℕ} (count : ℕ) → IsBase c b d → Numbered count c → IsNameOrNone (anywhere count) b × Numbered count d
base_shape count base_none h = (tt, h)
base_shape count (base_empty open' close) h = (tt, h)
base_shape count (base_name {c = c} {n = n} open' own close) h = (number_of count n (past c) h own, h)

member_shape : {c d : Cursor} {m : Member} (count : ℕ) → IsMember c m d → Numbered count c → MemberHasShape count m × Numbered count d
member_shape count (member_pass b) h = (tt, h)
member_shape count (member_ellipsis b) h = (tt, h)
member_shape count (member_strs s) h = (tt, strs_numbered count s h)
member_shape count (member_value {c = c} {n = n} own word v) h =
    let first = tests_shape count v h in
    ((number_of count n c h own.name, first.0), first.1)
member_shape count (member_declared {c = c} {n = n} own colon a) h = ((number_of count n c h own.name, tt), annotation_numbered count a h)
member_shape count (member_declared_value {c = c} {n = n} own colon a word v) h =
    let first = tests_shape count v (annotation_numbered count a h) in
    ((number_of count n c h own.name, first.0), first.1)

caught_shape : {c d : Cursor} {e : Expr} {o : Option ℕ} (count : ℕ) → IsCaught c e o d → Numbered count c → (IsFormed (anywhere count) e × IsNameOrNone (anywhere count) o) × Numbered count d
caught_shape count (caught_test t) h =
    let first = test_shape count t h in
    ((first.0, tt), first.1)
caught_shape count (caught_as {d = d} {n = n} t word own) h =
    let first = test_shape count t h in
    ((first.0, number_of count n (past d) first.1 own), first.1)

-- ---- blocks

mutual
  block_shape : {c d : Cursor} {ss : Stmts} (count : ℕ) → IsBlock c ss d → Numbered count c → AreFormedStmts (anywhere count) ss × Numbered count d
  block_shape count (block_line l) h = line_shape count l h
  block_shape count (block_indented {ss = ss} {ts = ts} b i s more d) h =
      let first = statement_shape count s h in
      let others = statements_shape count more first.1 in
      (formed_then count ss ts first.0 others.0, others.1)

  statement_shape : {top : Bool} {c d : Cursor} {ss : Stmts} (count : ℕ) → IsStatement top c ss d → Numbered count c → Shaped top count ss × Numbered count d
  statement_shape count (statement_line {top = top} {ss = ss} l) h =
      let line = line_shape count l h in
      (to_shaped top count ss line.0, line.1)
  statement_shape count (statement_compound {top = top} {c = c} {s = s} k) h =
      let compound = compound_shape count k h in
      (to_shaped top count (stmt (statement s _) no_stmts) (compound.0, tt), compound.1)
  statement_shape count (statement_def {c = c} {n = n} own f) h =
      let fun = function_shape count (number_of count n (past c) h own) f h in
      ((fun.0, tt), fun.1)
  statement_shape count (statement_class k) h =
      let class_ = class_shape count k h in
      ((class_.0, tt), class_.1)

  pub statements_shape : {top : Bool} {c d : Cursor} {ss : Stmts} (count : ℕ) → AreStatements top c ss d → Numbered count c → Shaped top count ss × Numbered count d
  statements_shape count (statements_none {top = top}) h = (to_shaped top count no_stmts tt, h)
  statements_shape count (statements_more {top = top} {ss = ss} {ts = ts} s more) h =
      let first = statement_shape count s h in
      let others = statements_shape count more first.1 in
      (shaped_then top count ss ts first.0 others.0, others.1)

  compound_shape : {c d : Cursor} {s : StmtKind} (count : ℕ) → IsCompound c s d → Numbered count c → IsFormedKind (anywhere count) s × Numbered count d
  compound_shape count (compound_if b t colon body more otherwise) h =
      let test = test_shape count t h in
      let first = block_shape count body test.1 in
      let arms = elifs_shape count more first.1 in
      let others = else_shape count otherwise arms.1 in
      (((test.0, first.0, arms.0), others.0), others.1)
  compound_shape count (compound_while b t colon body) h =
      let test = test_shape count t h in
      let first = block_shape count body test.1 in
      ((test.0, first.0), first.1)
  compound_shape count (compound_for b t word e colon body) h =
      let target = targets_shape count t h in
      let through = tests_shape count e target.1 in
      let first = block_shape count body through.1 in
      ((target.0, through.0, first.0), first.1)
  compound_shape count (compound_try b colon body hs otherwise) h =
      let first = block_shape count body h in
      let handlers = handlers_shape count hs first.1 in
      let others = else_shape count otherwise handlers.1 in
      ((first.0, handlers.0, others.0), others.1)

  elifs_shape : {c d : Cursor} {arms : Arms} (count : ℕ) → AreElifs c arms d → Numbered count c → AreFormedArms (anywhere count) arms × Numbered count d
  elifs_shape count elifs_none h = (tt, h)
  elifs_shape count (elifs_more b t colon body more) h =
      let test = test_shape count t h in
      let first = block_shape count body test.1 in
      let others = elifs_shape count more first.1 in
      ((test.0, first.0, others.0), others.1)

  else_shape : {c d : Cursor} {ss : Stmts} (count : ℕ) → IsElse c ss d → Numbered count c → AreFormedStmts (anywhere count) ss × Numbered count d
  else_shape count else_none h = (tt, h)
  else_shape count (else_block b colon body) h = block_shape count body h

  handlers_shape : {c d : Cursor} {hs : Handlers} (count : ℕ) → AreHandlers c hs d → Numbered count c → AreFormedHandlers (anywhere count) hs × Numbered count d
  handlers_shape count (handlers_bare b colon body) h =
      let first = block_shape count body h in
      ((tt, tt, first.0, tt), first.1)
  handlers_shape count (handlers_last b caught colon body) h =
      let test = caught_shape count caught h in
      let first = block_shape count body test.1 in
      ((test.0.0, test.0.1, first.0, tt), first.1)
  handlers_shape count (handlers_more b caught colon body more) h =
      let test = caught_shape count caught h in
      let first = block_shape count body test.1 in
      let others = handlers_shape count more first.1 in
      ((test.0.0, test.0.1, first.0, others.0), others.1)

  function_shape : {c d : Cursor} {n : ℕ} {f : FunDef} (count : ℕ) → n < count → IsFunction c n f d → Numbered count c → HasShape count f × Numbered count d
  function_shape count own (function b open' ps close result colon body) h =
      let params = params_shape count ps h in
      let first = block_shape count body (result_numbered count result params.1) in
      ((own, params.0, first.0), first.1)

  class_shape : {c d : Cursor} {k : ClassDef} (count : ℕ) → IsClass c k d → Numbered count c → ClassHasShape count k × Numbered count d
  class_shape count (class {c = c} {n = n} b own base colon body) h =
      let above = base_shape count base h in
      let members = body_shape count body above.1 in
      ((number_of count n (past c) h own, above.0, members.0), members.1)

  body_shape : {c d : Cursor} {ms : Members} (count : ℕ) → IsBody c ms d → Numbered count c → MembersHaveShape count ms × Numbered count d
  body_shape count (body_line m b) h =
      let first = member_shape count m h in
      ((first.0, tt), first.1)
  body_shape count (body_indented b i m more d) h =
      let first = entry_shape count m h in
      let others = entries_shape count more first.1 in
      ((first.0, others.0), others.1)

  entry_shape : {c d : Cursor} {m : Member} (count : ℕ) → IsEntry c m d → Numbered count c → MemberHasShape count m × Numbered count d
  entry_shape count (entry_member m b) h = member_shape count m h
  entry_shape count (entry_method {c = c} {n = n} own f) h = function_shape count (number_of count n (past c) h own.name) f h

  entries_shape : {c d : Cursor} {ms : Members} (count : ℕ) → AreEntries c ms d → Numbered count c → MembersHaveShape count ms × Numbered count d
  entries_shape count entries_none h = (tt, h)
  entries_shape count (entries_more m more) h =
      let first = entry_shape count m h in
      let others = entries_shape count more first.1 in
      ((first.0, others.0), others.1)
