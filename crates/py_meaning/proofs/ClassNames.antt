-- A class has each name that its body binds, from its statement on.
use Rattle.std.proofs.Common.{◌≡◌, ℕ, zero, suc, ◌<◌, ◌≤◌, ◌==◌, Bool, true, false, if◌then◌else◌, List, [], ◌∷◌, ◌++◌, length, Option, Some, None, slice_set, refl, sym, ap, ◌∙◌, subst, arith}
use Rattle.std.specs.Prelude.{is_some}
use Rattle.std.proofs.lemmas.List.Elements.{All-nil}
use Rattle.py_tree.specs.Tree as tree
use Rattle.py_tree.specs.Tree.{Expr, Stmts, no_stmts, stmt, Stmt, statement, fun_def, ClassDef, class_def, Members, no_members, member}
use Rattle.py_meaning.specs.Values.{Value, ref, Entries, entry, with_entry}
use Rattle.py_meaning.specs.Objects as object
use Rattle.py_meaning.specs.Objects.{Object, of_entries, refilled, object_at}
use Rattle.py_meaning.specs.Programs.{Program, program, printed}
use Rattle.py_meaning.specs.Names.{store}
use Rattle.py_meaning.specs.Expressions.{eval}
use Rattle.py_meaning.specs.Statements.{and_on, then_next, with_member, set_member, put_members, put_methods, fill_class, exec, exec_kind, exec_all}
use Rattle.py_meaning.specs.Actions.{Memory, with_new, Flow, goes_on, breaks, continues, returns, OutsideCall, Request, Action, gives, bind, then_do, allocate, done}
use Rattle.py_meaning.specs.Runs.{State, Answer, gave, raised, stopped, carry_out, turns_within, no_memory, start, tell_names, make_calls, run_of, answer, run}
use Rattle.py_meaning.specs.Laws.{going_on}
use Rattle.py_meaning.specs.Holds.{Holds, HoldsAfter}
use Rattle.py_meaning.specs.ClassLaws.{class_number, class_entries, bound_names, HasNames, HasItsNames, joined, ClassesKeepTheirNames}
use Rattle.py_meaning.proofs.Carrying.{one_after_the_other}
use Rattle.py_meaning.proofs.Ending.{last_object}
use Rattle.py_meaning.proofs.Holding.{holds_map, runs_hold}
use Rattle.py_meaning.proofs.Growing.{Heap, ClassesApart, Became, Grows, Grown, grown_self, grown_on, grown_push, longer, became_at, same_class}
use Rattle.py_meaning.proofs.Pointing.{IsWithin, ObjectWithin, within_on}
use Rattle.py_meaning.proofs.Kept.{pointing, pointing_lasts, Ended, SafeIn, Safe, Good, Free, safe_give, safe_bind, safe_then, safe_done, safe_at_now, safe_allocate, enter_class, good_push, push_one, here_within}
use Rattle.py_meaning.proofs.KeptNatives.{store_safe}
use Rattle.py_meaning.proofs.KeptStatements.{eval_safe}
use Rattle.py_meaning.proofs.KeptRuns.{turn_holds}
use Rattle.py_meaning.proofs.KeptModules.{Left, none_on, none_pushed, Reached, Whole, statements_hold, nothing_good, nothing_left, from_on, rest_holds, kept_after, Kept}

-- ---- what is kept of a class's object

-- a class's object stands at a place
pub record Stands (n : Heap) (place id : ℕ) : Type 0 where
  within : place < length n
  class : class_number (object_at n place) ≡ Some id

stands_on : {W : Type 0} {n k : Heap} {place id : ℕ} → Grows W n k → Stands n place id → Stands k place id
stands_on {W} {n} {k} {place} {id} g h =
    let up : length n ≤ length k = longer g in
    record { within = let below : place < length n = h.within in omega arith; class = same_class (object_at n place) (object_at k place) (became_at place g h.within).same ∙ h.class }

names_became : (o q : Object) (names : List ℕ) → Became o q → HasNames o names → HasNames q names
names_became o q [] b h = tt
names_became o q (name ∷ names) b h = (b.names name h.0, names_became o q names b h.1)

names_on : {W : Type 0} {n k : Heap} {place id : ℕ} (names : List ℕ) → Grows W n k → Stands n place id → HasNames (object_at n place) names → HasNames (object_at k place) names
names_on {W} {n} {k} {place} {id} names g s h = names_became (object_at n place) (object_at k place) names (became_at place g s.within) h

abbrev Named : ℕ → List ℕ → {A : Type 0} → Heap → A → Type 0
Named place names n x = HasNames (object_at n place) names

-- what holds at the end may be more than is asked
safe_map : {p : Program} {A : Type 0} (n : Heap) (Q R : Heap → A → Type 0) (a : Action A) → ((k : Heap) (x : A) → Grown p n k → Q k x → R k x) → Safe p n Q a → Safe p n R a
safe_map {p} n Q R a more h = record {
  keeps = λ root m good le base low.
      holds_map (pointing p root) (Ended p root m.heap Q) (Ended p root base R) (Ended p root m.heap IsWithin) (Ended p root base IsWithin) a tt m (h.keeps root m good le m.heap (grown_self m.heap))
      (λ x g u e. (grown_on low e.0, e.1, more u.heap x (grown_on le e.0) e.2)) (λ v g u e. (grown_on low e.0, e.1, e.2));
}

-- ---- one name

number_is_itself : (name : ℕ) → (name == name) ≡ true
number_is_itself name = grind arith

if_true : (b : Bool) (v : Value) (o : Option Value) → b ≡ true → is_some (if b then Some v else o) ≡ true
if_true true v o e = refl
if_true false v o e = absurd (cc)

is_entered : (es : Entries) (name : ℕ) (v : Value) → is_some (entry (with_entry es name v) name) ≡ true
is_entered [] name v = if_true (name == name) v None (number_is_itself name)
is_entered (x ∷ es) name v = either (x.0 == name) refl (is_entered es name v)
  where
    either : (b : Bool) → (x.0 == name) ≡ b → is_some (entry (with_entry es name v) name) ≡ true → is_some (entry (if b then (name, v) ∷ es else x ∷ with_entry es name v) name) ≡ true
    either true e h = if_true (name == name) v (entry es name) (number_is_itself name)
    either false e h = subst (λ b. is_some (if b then Some x.1 else entry (with_entry es name v) name) ≡ true) (sym e) h

set_here : (os : Heap) (place : ℕ) (q : Object) → place < length os → object_at (slice_set os place q) place ≡ q
set_here [] place q lt = absurd (omega (arith, lt))
set_here (o ∷ os) zero q lt = refl
set_here (o ∷ os) (suc place) q lt = set_here os place q (omega (arith, lt))

entered : (c name : ℕ) (es : Entries) (v : Value) (o : Object) → object.class c es ≡ o → is_some (entry (class_entries (refilled o (of_entries (with_entry es name v)))) name) ≡ true
entered c name es v o e = subst (λ q. is_some (entry (class_entries (refilled q (of_entries (with_entry es name v)))) name) ≡ true) e (is_entered es name v)

member_named : {p : Program} {root : Heap} (m : Memory) (place id name : ℕ) (v : Value) (o : Object) → Good p root m → Stands m.heap place id → o ≡ object_at m.heap place → class_number o ≡ Some id → ObjectWithin m.heap o → IsWithin m.heap v →
    SafeIn p root m (Named place (name ∷ [])) (with_member place name v o)
member_named {p} {root} m place id name v (object.class c es) good s e k h a = λ base low.
    let w = enter_class m place c name es v good e h a base low in
    let q : Object = refilled (object_at m.heap place) (of_entries (with_entry es name v)) in
    (w.0, w.1, (subst (λ o. is_some (entry (class_entries o) name) ≡ true) (sym (set_here m.heap place q s.within)) (entered c name es v (object_at m.heap place) e), tt))
member_named {p} {root} m place id name v o good s e k h a = absurd (cc)

set_named : {p : Program} (place id name : ℕ) (n : Heap) (v : Value) → Stands n place id → IsWithin n v → Safe p n (Named place (name ∷ [])) (set_member place name v)
set_named place id name n v s a = safe_at_now n (Named place (name ∷ [])) place (with_member place name v) (λ root m good le o e w.
    let here = stands_on le s in
    member_named m place id name v o good here e (subst (λ q. class_number q ≡ Some id) (sym e) here.class) w (within_on n m.heap v le a))

-- a name, and those after it
then_named : {p : Program} (place id name : ℕ) (names : List ℕ) (n : Heap) (a b : Action (Unit {0})) → Stands n place id → Safe p n (Named place (name ∷ [])) a → ((k : Heap) → Grown p n k → Safe p k (Named place names) b) → Safe p n (Named place (name ∷ names)) (then_do a b)
then_named place id name names n a b s h g =
    safe_bind n (Named place (name ∷ [])) (Named place (name ∷ names)) a (λ x. b) h (λ x k le w.
    safe_map k (Named place names) (Named place (name ∷ names)) b (λ j y up here. ((names_on (name ∷ []) up (stands_on le s) w).0, here)) (g k le))

-- ---- a class's body

abbrev value_names : Members → List ℕ
value_names no_members = []
value_names (member (tree.value name x line) rest) = name ∷ value_names rest
value_names (member (tree.declared name (Some x) line) rest) = name ∷ value_names rest
value_names (member _ rest) = value_names rest

abbrev method_names : Members → List ℕ
method_names no_members = []
method_names (member (tree.method (fun_def id name params body line)) rest) = name ∷ method_names rest
method_names (member _ rest) = method_names rest

all_names : (o : Object) (ms : Members) → HasNames o (value_names ms) → HasNames o (method_names ms) → HasNames o (bound_names ms)
all_names o no_members h k = tt
all_names o (member (tree.value name x line) rest) h k = (h.0, all_names o rest h.1 k)
all_names o (member (tree.declared name (Some x) line) rest) h k = (h.0, all_names o rest h.1 k)
all_names o (member (tree.declared name None line) rest) h k = all_names o rest h k
all_names o (member (tree.method (fun_def id name params body line)) rest) h k = (k.0, all_names o rest h k.1)
all_names o (member _ rest) h k = all_names o rest h k

value_named : (p : Program) (place id name : ℕ) (x : Expr) (n : Heap) → Stands n place id → Safe p n (Named place (name ∷ [])) (bind (eval p x) (set_member place name))
value_named p place id name x n s = safe_bind n IsWithin (Named place (name ∷ [])) (eval p x) (set_member place name) (eval_safe p x n) (λ v k le w. set_named place id name k v (stands_on le s) w)

members_named : (p : Program) (place id : ℕ) (ms : Members) (n : Heap) → Stands n place id → Safe p n (Named place (value_names ms)) (put_members p place ms)
members_named p place id no_members n s = safe_give n (Named place []) tt (λ k le. tt)
members_named p place id (member (tree.value name x line) ms) n s = then_named place id name (value_names ms) n (bind (eval p x) (set_member place name)) (put_members p place ms) s (value_named p place id name x n s) (λ k le. members_named p place id ms k (stands_on le s))
members_named p place id (member (tree.declared name (Some x) line) ms) n s = then_named place id name (value_names ms) n (bind (eval p x) (set_member place name)) (put_members p place ms) s (value_named p place id name x n s) (λ k le. members_named p place id ms k (stands_on le s))
members_named p place id (member (tree.declared name None line) ms) n s = safe_then n Free (Named place (value_names ms)) done (put_members p place ms) (safe_done n) (λ k le. members_named p place id ms k (stands_on le s))
members_named p place id (member tree.pass_member ms) n s = safe_then n Free (Named place (value_names ms)) done (put_members p place ms) (safe_done n) (λ k le. members_named p place id ms k (stands_on le s))
members_named p place id (member _ ms) n s = safe_then n Free (Named place (value_names ms)) done (put_members p place ms) (safe_done n) (λ k le. members_named p place id ms k (stands_on le s))

method_named : (p : Program) (place id name f : ℕ) (n : Heap) → Stands n place id → Safe p n (Named place (name ∷ [])) (bind (allocate (object.function f)) (set_member place name))
method_named p place id name f n s = safe_bind n IsWithin (Named place (name ∷ [])) (allocate (object.function f)) (set_member place name) (safe_allocate n (object.function f) tt) (λ v k le w. set_named place id name k v (stands_on le s) w)

methods_named : (p : Program) (place id : ℕ) (ms : Members) (n : Heap) → Stands n place id → Safe p n (Named place (method_names ms)) (put_methods place ms)
methods_named p place id no_members n s = safe_give n (Named place []) tt (λ k le. tt)
methods_named p place id (member (tree.method (fun_def f name params body line)) ms) n s = then_named place id name (method_names ms) n (bind (allocate (object.function f)) (set_member place name)) (put_methods place ms) s (method_named p place id name f n s) (λ k le. methods_named p place id ms k (stands_on le s))
methods_named p place id (member tree.pass_member ms) n s = safe_then n Free (Named place (method_names ms)) done (put_methods place ms) (safe_done n) (λ k le. methods_named p place id ms k (stands_on le s))
methods_named p place id (member _ ms) n s = safe_then n Free (Named place (method_names ms)) done (put_methods place ms) (safe_done n) (λ k le. methods_named p place id ms k (stands_on le s))

filled_named : (p : Program) (place id : ℕ) (ms : Members) (n : Heap) → Stands n place id → Safe p n (Named place (bound_names ms)) (fill_class p ms (ref place))
filled_named p place id ms n s =
    safe_bind n (Named place (value_names ms)) (Named place (bound_names ms)) (put_members p place ms) (λ x. put_methods place ms) (members_named p place id ms n s) (λ x k le w.
    safe_map k (Named place (method_names ms)) (Named place (bound_names ms)) (put_methods place ms) (λ j y up h. all_names (object_at j place) ms (names_on (value_names ms) up (stands_on le s) w) h) (methods_named p place id ms k (stands_on le s)))

-- ---- a class's statement

abbrev Defined : ClassDef → Heap → Flow → Type 0
Defined c n flow = HasItsNames n c

class_defined : (p : Program) (root : Heap) (id name : ℕ) (parent : Option ℕ) (ms : Members) (own line : ℕ) (m : Memory) → Good p root m → (ClassesApart p → (i : ℕ) → class_number (object_at m.heap i) ≡ Some id → ⊥) →
    Holds (pointing p root) (Ended p root (m.heap ++ object.class id [] ∷ []) (Defined (class_def id name parent ms own))) (Ended p root (m.heap ++ object.class id [] ∷ []) IsWithin) tt m (exec_kind p (tree.class (class_def id name parent ms own)) line)
class_defined p root id name parent ms own line m good apart =
    let o : Object = object.class id [] in
    let n : Heap = m.heap ++ o ∷ [] in
    let place : ℕ = length m.heap in
    let c : Value = ref place in
    let made : Good p root (with_new o m) = good_push {p = p} {root = root} {W = ⊥} m o good (grown_push m.heap o (λ e. absurd e)) tt (λ v f e. absurd (cc)) (λ w. push_one m.heap o (good.classes w) (λ d i e f. apart w i (f ∙ sym e))) in
    let s : Stands n place id = record { within = here_within m.heap o; class = ap class_number (last_object m.heap o) } in
    let stored : Safe p n (Named place (bound_names ms)) (then_do (fill_class p ms c) (store p name c)) =
    safe_bind n (Named place (bound_names ms)) (Named place (bound_names ms)) (fill_class p ms c) (λ x. store p name c) (filled_named p place id ms n s) (λ x k le w.
    safe_map k Free (Named place (bound_names ms)) (store p name c) (λ j y up f. names_on (bound_names ms) up (stands_on le s) w) (store_safe p k name c (within_on n k c le (here_within m.heap o)))) in
    let ended : Safe p n (Defined (class_def id name parent ms own)) (and_on (then_do (fill_class p ms c) (store p name c))) =
    safe_bind n (Named place (bound_names ms)) (Defined (class_def id name parent ms own)) (then_do (fill_class p ms c) (store p name c)) (λ x. gives goes_on) stored (λ x k le w.
    safe_give k (Defined (class_def id name parent ms own)) goes_on (λ j up. (place, (stands_on up (stands_on le s)).class, names_on (bound_names ms) up (stands_on le s) w))) in
    (tt, tt, ended.keeps root (with_new o m) made (grown_self n) n (grown_self n))

-- ---- runs

-- where a class's statement was carried out
Past : (p : Program) (root : Heap) (c : ClassDef) (after : Stmts) → Memory → Type 0
Past p root c after m = Good p root m × Left p m.heap after × HasItsNames m.heap c

past_class : (p : Program) (root : Heap) (c : ClassDef) (line : ℕ) (after : Stmts) (m : Memory) → Good p root m → Left p m.heap (stmt (statement (tree.class c) line) after) → Holds (pointing p root) (λ g u flow. Past p root c after u) (Whole p root) tt m (exec_kind p (tree.class c) line)
unfolding Past
past_class p root (class_def id name parent ms own) line after m good l =
    let n : Heap = m.heap ++ object.class id [] ∷ [] in
    let c : ClassDef = class_def id name parent ms own in
    holds_map (pointing p root) (Ended p root n (Defined c)) (λ g u flow. Past p root c after u) (Ended p root n IsWithin) (Whole p root) (exec_kind p (tree.class c) line) tt m (class_defined p root id name parent ms own line m good (λ w. (l w).3.0))
    (λ flow g u e. (e.1, (λ w. ((l w).0, (l w).1.1, (l w).2.1, none_on p n u.heap after w e.0 (none_pushed m.heap id after (l w).2.0 (l w).3.1))), e.2))
    (λ v g u e. e.1)

-- the same statements, and those after them
skipped : (t : Request → State → Answer Flow) (p : Program) (before more : Stmts) (s u : State) → carry_out t (exec_all p before) s ≡ gave goes_on u → carry_out t (exec_all p (joined before more)) s ≡ carry_out t (exec_all p more) u
skipped t p no_stmts more s u e = ap (carry_out t (exec_all p more)) (let same : s ≡ u = grind (arith, e) in same)
skipped t p (stmt x ss) more s u e =
    one_after_the_other t (exec p x) (λ flow. then_next flow (exec_all p (joined ss more))) s
    ∙ step (carry_out t (exec p x) s) (λ v. skipped t p ss more v u) (sym (one_after_the_other t (exec p x) (λ flow. then_next flow (exec_all p ss)) s) ∙ e)
  where
    step : (r : Answer Flow) → ((v : State) → carry_out t (exec_all p ss) v ≡ gave goes_on u → carry_out t (exec_all p (joined ss more)) v ≡ carry_out t (exec_all p more) u) →
        going_on r (λ flow. carry_out t (then_next flow (exec_all p ss))) ≡ gave goes_on u → going_on r (λ flow. carry_out t (then_next flow (exec_all p (joined ss more)))) ≡ carry_out t (exec_all p more) u
    step (gave goes_on v) h e = h v e
    step (gave breaks v) h e = absurd (cc)
    step (gave continues v) h e = absurd (cc)
    step (gave (returns w) v) h e = absurd (cc)
    step (raised w v) h e = absurd (cc)
    step (stopped why v) h e = absurd (cc)

-- statements that come to the same from two states
same_from : (t : Request → State → Answer Flow) (p : Program) (calls : List OutsideCall) (ss more : Stmts) (s u : State) → carry_out t (exec_all p ss) s ≡ carry_out t (exec_all p more) u → carry_out t (from_on p ss calls) s ≡ carry_out t (from_on p more calls) u
same_from t p calls ss more s u e =
    one_after_the_other t (then_do (exec_all p ss) (tell_names (printed p))) (λ x. make_calls p calls) s
    ∙ ap (λ r. going_on r (λ x. carry_out t (make_calls p calls)))
    (one_after_the_other t (exec_all p ss) (λ x. tell_names (printed p)) s ∙ ap (λ r. going_on r (λ x. carry_out t (tell_names (printed p)))) e ∙ sym (one_after_the_other t (exec_all p more) (λ x. tell_names (printed p)) u))
    ∙ sym (one_after_the_other t (then_do (exec_all p more) (tell_names (printed p))) (λ x. make_calls p calls) u)

place_within : (n : Heap) (place id : ℕ) → class_number (object_at n place) ≡ Some id → place < length n
place_within [] place id e = absurd (cc)
place_within (o ∷ os) zero id e = omega arith
place_within (o ∷ os) (suc place) id e = let below : place < length os = place_within os place id e in omega arith

names_later : (n k : Heap) (c : ClassDef) → Grows ⊥ n k → HasItsNames n c → HasItsNames k c
names_later n k (class_def id name parent ms own) g h =
    let s : Stands n h.0 id = record { within = place_within n h.0 id h.1; class = h.1 } in
    (h.0, (stands_on g s).class, names_on (bound_names ms) g s h.2)

pub classes_keep_their_names : ClassesKeepTheirNames
unfolding run answer Past
classes_keep_their_names m stubs n choices calls before after c line s t body first own =
    let p : Program = program m stubs in
    let turns : Request → State → Answer Flow = turns_within p n in
    let more : Stmts = stmt (statement (tree.class c) line) after in
    let x : Stmt = statement (tree.class c) line in
    let come : HoldsAfter (pointing p []) (Reached p [] more) (Whole p []) (gave goes_on s) =
    subst (λ r. HoldsAfter (pointing p []) (Reached p [] more) (Whole p []) r) first
    (runs_hold (pointing p []) (pointing_lasts p []) p (turn_holds p []) (Reached p [] more) (Whole p []) n (exec_all p before) tt (start n choices) (All-nil ((pointing p []).Told tt no_memory))
    (statements_hold p [] before more no_memory (nothing_good p) (subst (λ b. Left p [] b) body (nothing_left p)))) in
    let past : HoldsAfter (pointing p []) (λ g u flow. Past p [] c after u) (Whole p []) (gave goes_on t) =
    subst (λ r. HoldsAfter (pointing p []) (λ g u flow. Past p [] c after u) (Whole p []) r) own
    (runs_hold (pointing p []) (pointing_lasts p []) p (turn_holds p []) (λ g u flow. Past p [] c after u) (Whole p []) n (exec p x) tt s come.1 (past_class p [] c line after s.memory come.2.0 (come.2.1 refl))) in
    let root : Heap = t.memory.heap in
    let good : Good p root t.memory = record { heap = past.2.0.heap; scope = past.2.0.scope; rows = past.2.0.rows; classes = past.2.0.classes; goes_on = grown_self root } in
    let kept : Kept p root (run_of (carry_out turns (from_on p after calls) t)).heap =
    kept_after p root (carry_out turns (from_on p after calls) t)
    (runs_hold (pointing p root) (pointing_lasts p root) p (turn_holds p root) (Whole p root) (Whole p root) n (from_on p after calls) tt t past.1 (rest_holds p root after calls t.memory good past.2.1)) in
    let same : carry_out turns (from_on p p.body calls) (start n choices) ≡ carry_out turns (from_on p after calls) t =
    same_from turns p calls p.body after (start n choices) t
    (ap (λ b. carry_out turns (exec_all p b) (start n choices)) body ∙ skipped turns p before more (start n choices) s first
    ∙ one_after_the_other turns (exec p x) (λ flow. then_next flow (exec_all p after)) s ∙ ap (λ r. going_on r (λ flow. carry_out turns (then_next flow (exec_all p after)))) own) in
    subst (λ r. HasItsNames (run_of r).heap c) (sym same) (names_later root (run_of (carry_out turns (from_on p after calls) t)).heap c kept.goes_on past.2.2)
