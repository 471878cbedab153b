-- The statements of a module, of which those of its classes make their objects, and what holds of the last heap of a run.
use Rattle.std.proofs.Common.{◌≡◌, ◌⊎◌, inl, inr, ℕ, zero, suc, Bool, true, false, List, [], ◌∷◌, ◌++◌, length, Option, Some, None, slice_get, refl, sym, ap, ◌∙◌, subst, arith}
use Rattle.std.proofs.lemmas.List.Elements.{All-nil}
use Rattle.type_terms.specs.Stubs.{Stub}
use Rattle.py_tree.specs.Tree as tree
use Rattle.py_tree.specs.Tree.{Stmts, no_stmts, stmt, statement, StmtKind, FunDef, fun_def, class_def, Members, no_members, member, Module}
use Rattle.scope_rules.specs.WellFormed.{outside, AreFormedHere, IsFormedFun, AreFormedMembers, IsWellFormed}
use Rattle.py_meaning.specs.Values.{Value, ref}
use Rattle.py_meaning.specs.Objects as object
use Rattle.py_meaning.specs.Objects.{Object, object_at}
use Rattle.py_meaning.specs.Programs.{Program, FunRow, program, fun_row, fun_rows, method_rows, printed}
use Rattle.py_meaning.specs.Names.{store}
use Rattle.py_meaning.specs.Statements.{define_function, and_on, then_next, fill_class, exec_kind, exec_all}
use Rattle.py_meaning.specs.Actions.{Memory, with_new, Flow, goes_on, breaks, continues, returns, OutsideCall, Action, bind, then_do}
use Rattle.py_meaning.specs.Runs.{Answer, gave, raised, stopped, carry_out, turns_within, no_memory, start, tell_names, make_calls, run_of, answer, run}
use Rattle.py_meaning.specs.Holds.{Post, Holds, HoldsAfter}
use Rattle.py_meaning.specs.References as points
use Rattle.py_meaning.specs.References.{ReferencesPointIn}
use Rattle.py_meaning.specs.Receivers.{FitsReceiver, ReceiversFit}
use Rattle.py_meaning.specs.ClassLaws.{class_number, class_id, LeavesNumber, NumbersApart, joined, OneObjectAClass, ClassesHaveOneObject}
use Rattle.py_meaning.proofs.Holding.{holds_bind, holds_map, runs_hold}
use Rattle.py_meaning.proofs.Growing.{Heap, ClassesApart, IsBlock, Grows, grown_self, grown_push, grown_class}
use Rattle.py_meaning.proofs.Pointing.{RowFits, RowsFit, within_at, IsWithin, ObjectWithin, ObjectsWithin, within_on}
use Rattle.py_meaning.proofs.Kept.{pointing, pointing_lasts, Ended, Good, Safe, Free, FlowWithin, safe_then, push_at, push_one, good_push, here_within}
use Rattle.py_meaning.proofs.KeptNatives.{store_safe}
use Rattle.py_meaning.proofs.KeptStatements.{and_on_safe, define_function_safe, fill_class_safe, BlockKind, exec_kind_safe}
use Rattle.py_meaning.proofs.KeptRuns.{turn_holds, tell_names_safe, make_calls_safe}

-- ---- the classes that are still to come

abbrev pub NoneYet : Heap → Stmts → Type 0
NoneYet n no_stmts = Unit {0}
NoneYet n (stmt (statement (tree.class k) line) rest) = ((i : ℕ) → class_number (object_at n i) ≡ Some (class_id k) → ⊥) × NoneYet n rest
NoneYet n (stmt _ rest) = NoneYet n rest

pub none_on : (p : Program) (n k : Heap) (ss : Stmts) → ClassesApart p → Grows (ClassesApart p) n k → NoneYet n ss → NoneYet k ss
none_on p n k no_stmts c g h = tt
none_on p n k (stmt (statement (tree.class d) line) rest) c g h = (λ i e. h.0 i (grown_class i (class_id d) g c e), none_on p n k rest c g h.1)
none_on p n k (stmt (statement (tree.def f) line) rest) c g h = none_on p n k rest c g h
none_on p n k (stmt (statement _ line) rest) c g h = none_on p n k rest c g h

other_number : (c d : ℕ) (o : Option ℕ) → (c ≡ d → ⊥) → o ≡ Some c → o ≡ Some d → ⊥
other_number c d o ne e f = ne (let same : Some c ≡ Some d = sym e ∙ f in grind (arith, same))

pub none_pushed : (n : Heap) (c : ℕ) (ss : Stmts) → LeavesNumber c ss → NoneYet n ss → NoneYet (n ++ object.class c [] ∷ []) ss
none_pushed n c no_stmts l h = tt
none_pushed n c (stmt (statement (tree.class d) line) rest) l h = (λ i e. apart (push_at n (object.class c []) i (class_id d) e) (h.0 i), none_pushed n c rest l.1 h.1)
  where
    apart : {A B : Type 0} → A ⊎ (B × (Some c ≡ Some (class_id d))) → (A → ⊥) → ⊥
    apart (inl a) f = f a
    apart (inr b) f = other_number c (class_id d) (Some c) l.0 refl b.1
none_pushed n c (stmt (statement (tree.def f) line) rest) l h = none_pushed n c rest l h
none_pushed n c (stmt (statement _ line) rest) l h = none_pushed n c rest l h

-- ---- statements of the module

-- at an end, in a good memory
abbrev pub Whole : {A : Type 0} → (p : Program) → (root : Heap) → Post (pointing p root) A
Whole p root g m x = Good p root m

-- the statements that are left, where the classes stand apart
abbrev pub Left : Program → Heap → Stmts → Type 0
Left p n ss = ClassesApart p → ((names : ℕ) × AreFormedHere names ss × NumbersApart ss × NoneYet n ss)

plain_holds : (p : Program) (root : Heap) (kind : StmtKind) (line : ℕ) (m : Memory) → Good p root m → BlockKind p kind → Holds (pointing p root) (Ended p root m.heap FlowWithin) (Ended p root m.heap IsWithin) tt m (exec_kind p kind line)
plain_holds p root kind line m good b = (exec_kind_safe p kind line m.heap b).keeps root m good (grown_self m.heap) m.heap (grown_self m.heap)

-- a class's object is made, and filled
class_holds : (p : Program) (root : Heap) (id name : ℕ) (base : Option ℕ) (ms : Members) (own line : ℕ) (m : Memory) → Good p root m → (ClassesApart p → (i : ℕ) → class_number (object_at m.heap i) ≡ Some id → ⊥) →
    Holds (pointing p root) (Ended p root (m.heap ++ object.class id [] ∷ []) FlowWithin) (Ended p root (m.heap ++ object.class id [] ∷ []) IsWithin) tt m (exec_kind p (tree.class (class_def id name base ms own)) line)
class_holds p root id name base ms own line m good apart =
    let o : Object = object.class id [] in
    let n : Heap = m.heap ++ o ∷ [] in
    let c : Value = ref (length m.heap) in
    let made : Good p root (with_new o m) = good_push {p = p} {W = ⊥} m o good (grown_push m.heap o (λ e. absurd e)) tt (λ v f e. absurd (cc)) (λ w. push_one m.heap o (good.classes w) (λ d i e f. apart w i (f ∙ sym e))) in
    let filled : Safe p n FlowWithin (and_on (then_do (fill_class p ms c) (store p name c))) =
    and_on_safe n Free (then_do (fill_class p ms c) (store p name c)) (safe_then n Free Free (fill_class p ms c) (store p name c) (fill_class_safe p ms n c) (λ j le. store_safe p j name c (within_on n j c le (here_within m.heap o)))) in
    (tt, tt, filled.keeps root (with_new o m) made (grown_self n) n (grown_self n))

-- statements that are carried out, where more are to come
abbrev pub Reached : (p : Program) → (root : Heap) → Stmts → Post (pointing p root) Flow
Reached p root more g m flow = Good p root m × (flow ≡ goes_on → Left p m.heap more)

next_holds : (p : Program) (root : Heap) (more : Stmts) (flow : Flow) (a : Action Flow) (m : Memory) → Good p root m → Holds (pointing p root) (Reached p root more) (Whole p root) tt m a → Holds (pointing p root) (Reached p root more) (Whole p root) tt m (then_next flow a)
next_holds p root more goes_on a m good h = h
next_holds p root more breaks a m good h = (good, λ e. absurd (cc))
next_holds p root more continues a m good h = (good, λ e. absurd (cc))
next_holds p root more (returns v) a m good h = (good, λ e. absurd (cc))

-- a statement, and those after it
step_holds : (p : Program) (root n : Heap) (more : Stmts) (s a : Action Flow) (m : Memory) → Holds (pointing p root) (Ended p root n FlowWithin) (Ended p root n IsWithin) tt m s → ((m' : Memory) → Good p root m' → Grows (ClassesApart p) n m'.heap → Holds (pointing p root) (Reached p root more) (Whole p root) tt m' a) →
    Holds (pointing p root) (Reached p root more) (Whole p root) tt m (bind s (λ flow. then_next flow a))
step_holds p root n more s a m h k =
    holds_bind (pointing p root) (Ended p root n FlowWithin) (Reached p root more) (Whole p root) s (λ flow. then_next flow a) tt m
    (holds_map (pointing p root) (Ended p root n FlowWithin) (Ended p root n FlowWithin) (Ended p root n IsWithin) (Whole p root) s tt m h (λ x g m' e. e) (λ v g m' e. e.1))
    (λ flow g m' e. next_holds p root more flow a m' e.1 (k m' e.1 e.0))

pub statements_hold : (p : Program) (root : Heap) (ss more : Stmts) (m : Memory) → Good p root m → Left p m.heap (joined ss more) → Holds (pointing p root) (Reached p root more) (Whole p root) tt m (exec_all p ss)
statements_hold p root no_stmts more m good l = (good, λ e. l)
statements_hold p root (stmt (statement (tree.class (class_def id name base ms own)) line) ss) more m good l =
    step_holds p root (m.heap ++ object.class id [] ∷ []) more (exec_kind p (tree.class (class_def id name base ms own)) line) (exec_all p ss) m (class_holds p root id name base ms own line m good (λ c. (l c).3.0)) (λ m' good' g.
    statements_hold p root ss more m' good' (λ c. ((l c).0, (l c).1.1, (l c).2.1, none_on p (m.heap ++ object.class id [] ∷ []) m'.heap (joined ss more) c g (none_pushed m.heap id (joined ss more) (l c).2.0 (l c).3.1))))
statements_hold p root (stmt (statement (tree.def f) line) ss) more m good l =
    step_holds p root m.heap more (exec_kind p (tree.def f) line) (exec_all p ss) m ((and_on_safe m.heap Free (define_function p f) (define_function_safe p f m.heap)).keeps root m good (grown_self m.heap) m.heap (grown_self m.heap)) (λ m' good' g.
    statements_hold p root ss more m' good' (λ c. ((l c).0, (l c).1.1, (l c).2, none_on p m.heap m'.heap (joined ss more) c g (l c).3)))
statements_hold p root (stmt (statement kind line) ss) more m good l =
    step_holds p root m.heap more (exec_kind p kind line) (exec_all p ss) m (plain_holds p root kind line m good (λ c. (outside (l c).0, (l c).1.0))) (λ m' good' g.
    statements_hold p root ss more m' good' (λ c. ((l c).0, (l c).1.1, (l c).2, none_on p m.heap m'.heap (joined ss more) c g (l c).3)))

-- ---- the last heap of a run

pub nothing_good : (p : Program) → Good p [] no_memory
nothing_good p = record { heap = tt; scope = record { globals = tt; frame = tt; handled = tt }; classes = λ c number i j e f. absurd (grind (arith, e)); goes_on = grown_self []; rows = λ place v f e. absurd (cc) }

nothing_yet : (ss : Stmts) → NoneYet [] ss
nothing_yet no_stmts = tt
nothing_yet (stmt (statement (tree.class k) line) ss) = (λ i e. absurd (grind (arith, e)), nothing_yet ss)
nothing_yet (stmt (statement (tree.def f) line) ss) = nothing_yet ss
nothing_yet (stmt (statement kind line) ss) = nothing_yet ss

ends : (p : Program) (root : Heap) (a : Action (Unit {0})) (m : Memory) → Good p root m → Safe p m.heap Free a → Holds (pointing p root) (Whole p root) (Whole p root) tt m a
ends p root a m good safe = holds_map (pointing p root) (Ended p root m.heap Free) (Whole p root) (Ended p root m.heap IsWithin) (Whole p root) a tt m (safe.keeps root m good (grown_self m.heap) m.heap (grown_self m.heap)) (λ x g m' e. e.1) (λ v g m' e. e.1)

-- the module's statements from some on, its names, and the calls from outside
abbrev pub from_on : Program → Stmts → List OutsideCall → Action (Unit {0})
from_on p ss calls = then_do (then_do (exec_all p ss) (tell_names (printed p))) (make_calls p calls)

joined_none : (ss : Stmts) → joined ss no_stmts ≡ ss
joined_none no_stmts = refl
joined_none (stmt s ss) = ap (stmt s) (joined_none ss)

pub rest_holds : (p : Program) (root : Heap) (ss : Stmts) (calls : List OutsideCall) (m : Memory) → Good p root m → Left p m.heap ss → Holds (pointing p root) (Whole p root) (Whole p root) tt m (from_on p ss calls)
rest_holds p root ss calls m good l =
    holds_bind (pointing p root) (Whole p root) (Whole p root) (Whole p root) (then_do (exec_all p ss) (tell_names (printed p))) (λ x. make_calls p calls) tt m
    (holds_bind (pointing p root) (Reached p root no_stmts) (Whole p root) (Whole p root) (exec_all p ss) (λ flow. tell_names (printed p)) tt m (statements_hold p root ss no_stmts m good (subst (λ x. Left p m.heap x) (sym (joined_none ss)) l))
    (λ flow g m' r. ends p root (tell_names (printed p)) m' r.0 (tell_names_safe (printed p) m'.heap)))
    (λ x g m' good'. ends p root (make_calls p calls) m' good' (make_calls_safe p calls m'.heap))

-- what is kept of the last heap
pub record Kept (p : Program) (root heap : Heap) : Type 0 where
  pub objects : ObjectsWithin heap heap
  pub rows : RowsFit p heap
  pub classes : ClassesApart p → OneObjectAClass heap
  pub goes_on : Grows ⊥ root heap

kept_of : (p : Program) (root : Heap) (m : Memory) → Good p root m → Kept p root m.heap
kept_of p root m good = record { objects = good.heap; rows = good.rows; classes = good.classes; goes_on = good.goes_on }

pub kept_after : (p : Program) (root : Heap) (r : Answer (Unit {0})) → HoldsAfter (pointing p root) (Whole p root) (Whole p root) r → Kept p root (run_of r).heap
kept_after p root (gave a s) h = kept_of p root s.memory h.2
kept_after p root (raised v s) h = kept_of p root s.memory h.2
kept_after p root (stopped why s) h = kept_of p root s.memory h.2

pub nothing_left : (p : Program) → Left p [] p.body
nothing_left p c = (c.body.0, c.body.1, c.numbers, nothing_yet p.body)

last_heap : (m : Module) (stubs : List (List ℕ × Stub)) (n : ℕ) (choices : List ℕ) (calls : List OutsideCall) → Kept (program m stubs) [] (run m stubs n choices calls).heap
unfolding run answer
last_heap m stubs n choices calls =
    let p : Program = program m stubs in
    let a : Action (Unit {0}) = from_on p p.body calls in
    kept_after p [] (carry_out (turns_within p n) a (start n choices))
    (runs_hold (pointing p []) (pointing_lasts p []) p (turn_holds p []) (Whole p []) (Whole p []) n a tt (start n choices) (All-nil ((pointing p []).Told tt no_memory)) (rest_holds p [] p.body calls no_memory (nothing_good p) (nothing_left p)))

-- ---- references

points_object : (n : Heap) (o : Object) → ObjectWithin n o → points.ObjectWithin (length n) o
points_object n (object.view site number receiver vs) h = (h.0, h.1)
points_object n (object.bound_foreign v f) h = h.0
points_object n (object.foreign f) h = tt
points_object n o h = h

points_objects : (n : Heap) (os : List Object) → ObjectsWithin n os → points.ObjectsWithin (length n) os
points_objects n [] h = tt
points_objects n (o ∷ os) h = (points_object n o h.0, points_objects n os h.1)

pub references_point_in : ReferencesPointIn
references_point_in m stubs n choices calls = let heap = (run m stubs n choices calls).heap in points_objects heap heap (last_heap m stubs n choices calls).objects

-- ---- receivers

fits_object : (p : Program) (n : Heap) (o : Object) → ObjectWithin n o → RowFits p n o → FitsReceiver p n o
fits_object p n (object.view site number receiver vs) h r = h.2
fits_object p n (object.bound_foreign v f) h r = r v f refl
fits_object p n (object.foreign f) h r = h
fits_object p n o h r = tt

pub receivers_fit : ReceiversFit
receivers_fit m stubs n choices calls place =
    let p : Program = program m stubs in
    let heap : Heap = (run m stubs n choices calls).heap in
    let kept : Kept p [] heap = last_heap m stubs n choices calls in
    fits_object p heap (object_at heap place) (within_at heap heap place kept.objects) (kept.rows place)

-- ---- classes

abbrev AreBlocks : List FunRow → Type 0
AreBlocks [] = Unit {0}
AreBlocks (row ∷ rows) = IsBlock row.body × AreBlocks rows

blocks_joined : (rows others : List FunRow) → AreBlocks rows → AreBlocks others → AreBlocks (rows ++ others)
blocks_joined [] others h k = k
blocks_joined (row ∷ rows) others h k = (h.0, blocks_joined rows others h.1 k)

block_at : (rows : List FunRow) (f : ℕ) (row : FunRow) → AreBlocks rows → slice_get rows f ≡ Some row → IsBlock row.body
block_at [] f row h e = absurd (grind (arith, e))
block_at (x ∷ rows) zero row h e = let same : x ≡ row = grind (arith, e) in subst (λ r. IsBlock r.body) same h.0
block_at (x ∷ rows) (suc f) row h e = block_at rows f row h.1 e

block_of : (names : ℕ) (in_class : Bool) (f : FunDef) (class : Option ℕ) → IsFormedFun names in_class f → IsBlock (fun_row class f).body
block_of names in_class (fun_def id own params body line) class h = (record { names = names; in_loop = false; in_function = true; in_method = in_class }, h.3)

method_blocks : (names class : ℕ) (ms : Members) → AreFormedMembers names ms → AreBlocks (method_rows class ms)
method_blocks names class no_members h = tt
method_blocks names class (member (tree.method f) rest) h = (block_of names true f (Some class) h.0, method_blocks names class rest h.1)
method_blocks names class (member tree.pass_member rest) h = method_blocks names class rest h.1
method_blocks names class (member _ rest) h = method_blocks names class rest h.1

function_blocks : (names : ℕ) (ss : Stmts) → AreFormedHere names ss → AreBlocks (fun_rows ss)
function_blocks names no_stmts h = tt
function_blocks names (stmt (statement (tree.def f) line) rest) h = (block_of names false f None h.0, function_blocks names rest h.1)
function_blocks names (stmt (statement (tree.class (class_def id own base ms at)) line) rest) h =
    blocks_joined (method_rows id ms) (fun_rows rest) (method_blocks names id ms h.0.2) (function_blocks names rest h.1)
function_blocks names (stmt (statement tree.pass line) rest) h = function_blocks names rest h.1
function_blocks names (stmt (statement kind line) rest) h = function_blocks names rest h.1

pub well_formed_apart : (m : Module) (stubs : List (List ℕ × Stub)) → IsWellFormed m → NumbersApart m.body → ClassesApart (program m stubs)
well_formed_apart m stubs formed apart =
    record { body = (length m.names, formed); numbers = apart; rows = λ f row e. block_at (fun_rows m.body) f row (function_blocks (length m.names) m.body formed) e }

pub classes_have_one_object : ClassesHaveOneObject
classes_have_one_object m stubs n choices calls formed apart = (last_heap m stubs n choices calls).classes (well_formed_apart m stubs formed apart)
