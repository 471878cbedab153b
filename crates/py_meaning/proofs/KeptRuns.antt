-- Calls keep values within the heap, and so does every run.
use Rattle.std.proofs.Common.{ℕ, zero, suc, ◌+◌, ◌≤◌, ◌<◌, Bool, true, false, ◌&&◌, List, [], ◌∷◌, length, Option, Some, None, slice_get, unwrap_or, arith}
use Rattle.std.specs.Prelude.{codes, is_some, nat_eq}
use Rattle.std.specs.List.{list_any}
use Rattle.type_terms.specs.Terms as term
use Rattle.py_tree.specs.declared.literal.Literal.{Literal}
use Rattle.py_tree.specs.Tree.{Param}
use Rattle.py_meaning.specs.Values.{Value, none, ref, Entries, entry, literal_value}
use Rattle.py_meaning.specs.Objects as object
use Rattle.py_meaning.specs.Objects.{Object, Foreign, builtin, stub_fun, stub_class, stub_method, is_unfollowed}
use Rattle.py_meaning.specs.Events.{FaultKind, not_callable, returned, held}
use Rattle.py_meaning.specs.Programs.{Program, FunRow, fun_at, init_of, exception_base}
use Rattle.py_meaning.specs.StubItems.{stub_class_at, stub_at, dotted, fun_in, bases, method_among, read_type}
use Rattle.py_meaning.specs.Fresh.{fresh}
use Rattle.py_meaning.specs.Matching.{Source, receiver, argument, default, Matched, matched, mismatch, native_fault}
use Rattle.py_meaning.specs.Natives.{call_by_texts}
use Rattle.py_meaning.specs.Expressions.{value_of_flow}
use Rattle.py_meaning.specs.Targets.{put}
use Rattle.py_meaning.specs.Statements.{exec_all, run_while, run_for, once_more}
use Rattle.py_meaning.specs.Calls.{default_value, argument_value, source_value, parameters_bound, with_frame, told_return, enter, enter_matched, match_row, call_function, start_instance, instance_matched, plain_arguments, make_plain, make_with, make_instance, match_stub, given_or_fault, call_stub_fun, call_stub_class, call_stub_method, call_foreign, call_object, call_any, outside_value, outside_values, outside_locals, enter_from_outside, finds_at, receivers_if, receivers, method_from_outside, function_from_outside, instance_from_outside, class_from_outside, call_from_outside, returning, perform}
use Rattle.py_meaning.specs.Actions.{Frame, Scope, Memory, Argument, Flow, returns, OutsideCall, calls_function, calls_class, Request, call, while_turn, for_turn, outside_call, Action, gives, looks, bind, changes, allocate, anything, pick, one_of, fails, done}
use Rattle.py_meaning.specs.Runs.{scope_after, tell_if, tell_names, can_be_called, call_if, make_calls}
use Rattle.py_meaning.specs.Holds.{Holds}
use Rattle.py_meaning.proofs.Holding.{GaveInside, RaisedInside, left_by, holds_map}
use Rattle.py_meaning.specs.Receivers.{IsUnbound}
use Rattle.py_meaning.proofs.Growing.{Block, Grows, Heap, Grown, grown_self, grown_on}
use Rattle.py_meaning.proofs.Pointing.{MayHaveRow, AreWithin, EntriesWithin, IsWithin, ObjectWithin, OptionWithin, are_on, entries_on, get_within, option_on, within_on}
use Rattle.py_meaning.proofs.Kept.{safe_known, pointing, Ended, ScopeWithin, safe_changes, safe_give, frame_on, Good, Safe, Free, ArgumentsWithin, RequestWithin, FlowWithin, safe_bind, safe_then, safe_looks, safe_if, safe_allocate, safe_done, safe_at, safe_pick, safe_anything, safe_fails, safe_tells, safe_option, safe_gives}
use Rattle.py_meaning.proofs.KeptValues.{fresh_safe}
use Rattle.py_meaning.proofs.KeptNatives.{arguments_on, call_native_safe}
use Rattle.py_meaning.proofs.KeptStatements.{safe_turn, flow_value, literal_within, may_then, put_safe, gives_flow, once_more_safe, while_safe, for_safe, exec_all_safe}

-- ---- functions of the module

default_of : (n : Heap) (o : Option Literal) → IsWithin n (elim o [ None ↦ none | Some l ↦ literal_value l ])
default_of n None = tt
default_of n (Some l) = literal_within n l

argument_of : (n : Heap) (as' : List Argument) (i : ℕ) → ArgumentsWithin n as' → IsWithin n (argument_value as' i)
argument_of n [] i h = tt
argument_of n (a ∷ as') zero h = h.0
argument_of n (a ∷ as') (suc i) h = argument_of n as' i h.1

source_within : (n : Heap) (v : Value) (as' : List Argument) (q : Param) (s : Source) → IsWithin n v → ArgumentsWithin n as' → IsWithin n (source_value v as' q s)
source_within n v as' q receiver a b = a
source_within n v as' q (argument i) a b = argument_of n as' i b
source_within n v as' q default a b = default_of n q.default

bound_within : (n : Heap) (v : Value) (as' : List Argument) (qs : List Param) (ss : List Source) → IsWithin n v → ArgumentsWithin n as' → EntriesWithin n (parameters_bound v as' qs ss)
bound_within n v as' [] [] a b = tt
bound_within n v as' [] (s ∷ ss) a b = tt
bound_within n v as' (q ∷ qs) [] a b = tt
bound_within n v as' (q ∷ qs) (s ∷ ss) a b = (source_within n v as' q s a b, bound_within n v as' qs ss a b)

in_frame_safe : {p : Program} (n : Heap) (f : Frame) (a : Action Value) → EntriesWithin n f.locals → Safe p n IsWithin a → Safe p n IsWithin (changes (with_frame f) a)
in_frame_safe n f a w h = safe_changes n IsWithin (with_frame f) a (λ c k le good. record { globals = good.globals; frame = entries_on n k f.locals le w; handled = good.handled }) h

told_safe : {p : Program} (n : Heap) (f : ℕ) (flow : Flow) → FlowWithin n flow → Safe p n IsWithin (told_return f flow)
told_safe n f flow h = safe_tells n IsWithin (returned f (value_of_flow flow)) (gives (value_of_flow flow)) (safe_gives n (value_of_flow flow) (flow_value n flow h))

enter_safe : (p : Program) (f : ℕ) (n : Heap) (row : FunRow) (locals : Entries) → EntriesWithin n locals → Block p row.body → Safe p n IsWithin (enter p f row locals)
enter_safe p f n row locals h b =
    in_frame_safe n (record { function = f; locals = locals }) (bind (exec_all p row.body) (told_return f)) h
    (safe_bind n FlowWithin IsWithin (exec_all p row.body) (told_return f) (exec_all_safe p row.body n b) (λ flow j le w. told_safe j f flow w))

enter_matched_safe : (p : Program) (f line : ℕ) (n : Heap) (row : FunRow) (v : Value) (as' : List Argument) (x : Matched) → IsWithin n v → ArgumentsWithin n as' → Block p row.body → Safe p n IsWithin (enter_matched p f line row v as' x)
enter_matched_safe p f line n row v as' (mismatch kind) a b c = safe_fails n IsWithin line kind
enter_matched_safe p f line n row v as' (matched ss) a b c = enter_safe p f n row (parameters_bound v as' row.params ss) (bound_within n v as' row.params ss a b) c

or_none : (n : Heap) (o : Option Value) → OptionWithin n o → IsWithin n (unwrap_or o none)
or_none n None h = tt
or_none n (Some v) h = h

call_function_safe : (p : Program) (f : ℕ) (n : Heap) (o : Option Value) (as' : List Argument) (line : ℕ) → OptionWithin n o → ArgumentsWithin n as' → Safe p n IsWithin (call_function p f o as' line)
call_function_safe p f n o as' line a b =
    safe_known n IsWithin (fun_at p f) (λ row. enter_matched p f line row (unwrap_or o none) as' (match_row row (is_some o) as')) anything
    (λ row e. enter_matched_safe p f line n row (unwrap_or o none) as' (match_row row (is_some o) as') (or_none n o a) b (λ c. c.rows f row e)) (safe_anything n)

-- ---- classes of the module

start_safe : (p : Program) (f : ℕ) (n : Heap) (row : FunRow) (as' : List Argument) (ss : List Source) (v : Value) → IsWithin n v → ArgumentsWithin n as' → Block p row.body → Safe p n IsWithin (start_instance p f row as' ss v)
start_safe p f n row as' ss v a b d =
    safe_then n IsWithin IsWithin (enter p f row (parameters_bound v as' row.params ss)) (gives v) (enter_safe p f n row (parameters_bound v as' row.params ss) (bound_within n v as' row.params ss a b) d) (λ k le. safe_gives k v (within_on n k v le a))

instance_safe : (p : Program) (c f line : ℕ) (n : Heap) (row : FunRow) (as' : List Argument) (x : Matched) → ArgumentsWithin n as' → Block p row.body → Safe p n IsWithin (instance_matched p c f line row as' x)
instance_safe p c f line n row as' (mismatch kind) b d = safe_fails n IsWithin line kind
instance_safe p c f line n row as' (matched ss) b d =
    safe_bind n IsWithin IsWithin (allocate (object.instance c [])) (start_instance p f row as' ss) (safe_allocate n (object.instance c []) tt) (λ v k le w. start_safe p f k row as' ss v w (arguments_on n k as' le b) d)

fault_or : {p : Program} (n : Heap) (line : ℕ) (o : Option FaultKind) (a : Action Value) → Safe p n IsWithin a → Safe p n IsWithin (elim o [ Some kind ↦ fails line kind | None ↦ a ])
fault_or n line None a h = h
fault_or n line (Some kind) a h = safe_fails n IsWithin line kind

make_plain_safe : (p : Program) (c : ℕ) (n : Heap) (as' : List Argument) (line : ℕ) → Safe p n IsWithin (make_plain p c as' line)
make_plain_safe p c n as' line = fault_or n line (native_fault (plain_arguments (exception_base p c)) (call_by_texts p as')) (allocate (object.instance c [])) (safe_allocate n (object.instance c []) tt)

make_with_safe : (p : Program) (c f : ℕ) (n : Heap) (as' : List Argument) (line : ℕ) → ArgumentsWithin n as' → Safe p n IsWithin (make_with p c f as' line)
make_with_safe p c f n as' line b =
    safe_known n IsWithin (fun_at p f) (λ row. instance_matched p c f line row as' (match_row row true as')) anything (λ row e. instance_safe p c f line n row as' (match_row row true as') b (λ c. c.rows f row e)) (safe_anything n)

make_safe : (p : Program) (c : ℕ) (n : Heap) (as' : List Argument) (line : ℕ) → ArgumentsWithin n as' → Safe p n IsWithin (make_instance p c as' line)
make_safe p c n as' line b = safe_option n IsWithin (init_of p c) (λ f. make_with p c f as' line) (make_plain p c as' line) (λ f. make_with_safe p c f n as' line b) (make_plain_safe p c n as' line)

-- ---- stubs

given_safe : {p : Program} (n : Heap) (line : ℕ) (x : Matched) (a : Action Value) → Safe p n IsWithin a → Safe p n IsWithin (given_or_fault line x a)
given_safe n line (mismatch kind) a h = safe_fails n IsWithin line kind
given_safe n line (matched ss) a h = h

stub_fun_safe : (p : Program) (home name : List ℕ) (n : Heap) (as' : List Argument) (line : ℕ) → Safe p n IsWithin (call_stub_fun p home name as' line)
stub_fun_safe p home name n as' line =
    safe_option n IsWithin (stub_at p home) (λ s. elim (fun_in s.funs name) [ None ↦ anything | Some f ↦ given_or_fault line (match_stub p f false as') (fresh p (read_type s home f.answer)) ]) anything
    (λ s. safe_option n IsWithin (fun_in s.funs name) (λ f. given_or_fault line (match_stub p f false as') (fresh p (read_type s home f.answer))) anything
    (λ f. given_safe n line (match_stub p f false as') (fresh p (read_type s home f.answer)) (fresh_safe p (read_type s home f.answer) n)) (safe_anything n)) (safe_anything n)

new_instance : {p : Program} (n : Heap) (name : List ℕ) → Safe p n IsWithin (allocate (object.outside (term.class name)))
new_instance n name = safe_allocate n (object.outside (term.class name)) tt

stub_class_safe : (p : Program) (home name : List ℕ) (n : Heap) (as' : List Argument) (line : ℕ) → Safe p n IsWithin (call_stub_class p home name as' line)
stub_class_safe p home name n as' line =
    safe_option n IsWithin (stub_class_at p (dotted home name)) (λ k. elim (method_among (bases k) (codes "__init__")) [ None ↦ allocate (object.outside (term.class (dotted home name))) | Some f ↦ given_or_fault line (match_stub p f.1 true as') (allocate (object.outside (term.class (dotted home name)))) ]) anything
    (λ k. safe_option n IsWithin (method_among (bases k) (codes "__init__")) (λ f. given_or_fault line (match_stub p f.1 true as') (allocate (object.outside (term.class (dotted home name))))) (allocate (object.outside (term.class (dotted home name))))
    (λ f. given_safe n line (match_stub p f.1 true as') (allocate (object.outside (term.class (dotted home name)))) (new_instance n (dotted home name))) (new_instance n (dotted home name))) (safe_anything n)

stub_method_safe : (p : Program) (home owner name : List ℕ) (n : Heap) (as' : List Argument) (line : ℕ) → Safe p n IsWithin (call_stub_method p home owner name as' line)
stub_method_safe p home owner name n as' line =
    safe_option n IsWithin (stub_class_at p (dotted home owner)) (λ k. elim (fun_in k.class.funs name) [ None ↦ anything | Some f ↦ given_or_fault line (match_stub p f true as') (fresh p (read_type k.stub home f.answer)) ]) anything
    (λ k. safe_option n IsWithin (fun_in k.class.funs name) (λ f. given_or_fault line (match_stub p f true as') (fresh p (read_type k.stub home f.answer))) anything
    (λ f. given_safe n line (match_stub p f true as') (fresh p (read_type k.stub home f.answer)) (fresh_safe p (read_type k.stub home f.answer) n)) (safe_anything n)) (safe_anything n)

-- what a function of another module is to its receiver
abbrev ForeignFits : Heap → Option Value → Foreign → Type 0
ForeignFits n None f = IsUnbound f
ForeignFits n (Some v) f = MayHaveRow n v f

foreign_safe : (p : Program) (o : Option Value) (n : Heap) (as' : List Argument) (site line : ℕ) (f : Foreign) → OptionWithin n o → ArgumentsWithin n as' → ForeignFits n o f → Safe p n IsWithin (call_foreign p o as' site line f)
foreign_safe p None n as' site line (builtin i) a b c = call_native_safe p i None as' site line n a b c
foreign_safe p (Some v) n as' site line (builtin i) a b c = call_native_safe p i (Some v) as' site line n a b c
foreign_safe p o n as' site line (stub_fun home name) a b c = stub_fun_safe p home name n as' line
foreign_safe p o n as' site line (stub_class home name) a b c = stub_class_safe p home name n as' line
foreign_safe p o n as' site line (stub_method home owner name) a b c = stub_method_safe p home owner name n as' line

-- ---- anything that is called

call_object_safe : (p : Program) (n : Heap) (as' : List Argument) (site line : ℕ) (o : Object) → ArgumentsWithin n as' → ObjectWithin n o → Safe p n IsWithin (call_object p as' site line o)
call_object_safe p n as' site line (object.function f) b h = call_function_safe p f n None as' line tt b
call_object_safe p n as' site line (object.bound v f) b h = call_function_safe p f n (Some v) as' line h b
call_object_safe p n as' site line (object.class c es) b h = make_safe p c n as' line b
call_object_safe p n as' site line (object.foreign f) b h = foreign_safe p None n as' site line f tt b h
call_object_safe p n as' site line (object.bound_foreign v f) b h = foreign_safe p (Some v) n as' site line f h.0 b h.1
call_object_safe p n as' site line (object.outside (term.callable t)) b h = fresh_safe p t n
call_object_safe p n as' site line o b h = safe_if n IsWithin (is_unfollowed o) anything (fails line not_callable) (safe_anything n) (safe_fails n IsWithin line not_callable)

call_any_safe : (p : Program) (n : Heap) (v : Value) (as' : List Argument) (site line : ℕ) → ArgumentsWithin n as' → Safe p n IsWithin (call_any p v as' site line)
call_any_safe p n (ref place) as' site line b = safe_at n IsWithin place (call_object p as' site line) (λ o k le w. call_object_safe p k as' site line o (arguments_on n k as' le b) w)
call_any_safe p n none as' site line b = safe_fails n IsWithin line not_callable
call_any_safe p n _ as' site line b = safe_fails n IsWithin line not_callable

-- ---- calls from outside

outside_value_safe : {p : Program} (names : List ℕ) (q : Param) (n : Heap) → Safe p n IsWithin (outside_value names q)
outside_value_safe names q n =
    safe_if n IsWithin (is_some q.default && list_any (nat_eq q.name) names) (gives (default_value q)) anything (safe_gives n (default_value q) (default_of n q.default)) (safe_anything n)

gives_entries : {p : Program} (n : Heap) (es : Entries) → EntriesWithin n es → Safe p n EntriesWithin (gives es)
gives_entries n es h = safe_give n EntriesWithin es (λ k le. entries_on n k es le h)

outside_values_safe : {p : Program} (names : List ℕ) (qs : List Param) (n : Heap) → Safe p n EntriesWithin (outside_values names qs)
outside_values_safe names [] n = gives_entries n [] tt
outside_values_safe names (q ∷ qs) n =
    safe_bind n IsWithin EntriesWithin (outside_value names q) (λ v. bind (outside_values names qs) (λ es. gives ((q.name, v) ∷ es))) (outside_value_safe names q n) (λ v k le w.
    safe_bind k EntriesWithin EntriesWithin (outside_values names qs) (λ es. gives ((q.name, v) ∷ es)) (outside_values_safe names qs k) (λ es j le' x. gives_entries j ((q.name, v) ∷ es) (within_on k j v le' w, x)))

outside_locals_safe : {p : Program} (names : List ℕ) (o : Option Value) (qs : List Param) (n : Heap) → OptionWithin n o → Safe p n EntriesWithin (outside_locals names o qs)
outside_locals_safe names (Some v) (q ∷ qs) n a =
    safe_bind n EntriesWithin EntriesWithin (outside_values names qs) (λ es. gives ((q.name, v) ∷ es)) (outside_values_safe names qs n) (λ es k le w. gives_entries k ((q.name, v) ∷ es) (within_on n k v le a, w))
outside_locals_safe names (Some v) [] n a = outside_values_safe names [] n
outside_locals_safe names None qs n a = outside_values_safe names qs n

from_outside_safe : (p : Program) (f : ℕ) (row : FunRow) (names : List ℕ) (o : Option Value) (n : Heap) → OptionWithin n o → Block p row.body → Safe p n IsWithin (enter_from_outside p f row names o)
from_outside_safe p f row names o n a b = safe_bind n EntriesWithin IsWithin (outside_locals names o row.params) (enter p f row) (outside_locals_safe names o row.params n a) (λ es k le w. enter_safe p f k row es w b)

receivers_if_within : (n : Heap) (b : Bool) (place : ℕ) (vs : List Value) → place < length n → AreWithin n vs → AreWithin n (receivers_if b place vs)
receivers_if_within n true place vs a h = (a, h)
receivers_if_within n false place vs a h = h

receivers_within : (p : Program) (row : FunRow) (owner : ℕ) (n : Heap) (place : ℕ) (os : List Object) → place + length os ≤ length n → AreWithin n (receivers p row owner place os)
receivers_within p row owner n place [] le = tt
receivers_within p row owner n place (o ∷ os) le = receivers_if_within n (finds_at p row owner o) place (receivers p row owner (suc place) os) (omega arith) (receivers_within p row owner n (suc place) os (omega arith))

option_gives : {p : Program} (n : Heap) (o : Option Value) → OptionWithin n o → Safe p n OptionWithin (gives o)
option_gives n o h = safe_give n OptionWithin o (λ k le. option_on n k o le h)

one_value : {p : Program} (n : Heap) (vs : List Value) → AreWithin n vs → Safe p n OptionWithin (one_of vs)
one_value n vs h = safe_bind n Free OptionWithin (pick (length vs)) (λ i. gives (slice_get vs i)) (safe_pick n (length vs)) (λ i k le w. option_gives k (slice_get vs i) (get_within k vs i (are_on n k vs le h)))

method_outside_safe : (p : Program) (f : ℕ) (row : FunRow) (names : List ℕ) (owner : ℕ) (n : Heap) → Block p row.body → Safe p n IsWithin (method_from_outside p f row names owner)
method_outside_safe p f row names owner n b =
    safe_looks n IsWithin (λ m. bind (one_of (receivers p row owner 0 m.heap)) (enter_from_outside p f row names)) (λ root m good le.
    safe_bind m.heap OptionWithin IsWithin (one_of (receivers p row owner 0 m.heap)) (enter_from_outside p f row names) (one_value m.heap (receivers p row owner 0 m.heap) (receivers_within p row owner m.heap 0 m.heap (omega arith))) (λ o k le' w. from_outside_safe p f row names o k w b))

class_or : (p : Program) (f : ℕ) (row : FunRow) (names : List ℕ) (n : Heap) (o : Option ℕ) → Block p row.body → Safe p n IsWithin (elim o [ None ↦ enter_from_outside p f row names None | Some owner ↦ method_from_outside p f row names owner ])
class_or p f row names n None b = from_outside_safe p f row names None n tt b
class_or p f row names n (Some owner) b = method_outside_safe p f row names owner n b

instance_outside_safe : (p : Program) (f : ℕ) (row : FunRow) (names : List ℕ) (v : Value) (n : Heap) → IsWithin n v → Block p row.body → Safe p n IsWithin (instance_from_outside p f row names v)
instance_outside_safe p f row names v n a b = safe_then n IsWithin IsWithin (enter_from_outside p f row names (Some v)) (gives v) (from_outside_safe p f row names (Some v) n a b) (λ k le. safe_gives k v (within_on n k v le a))

class_outside_safe : (p : Program) (c : ℕ) (names : List ℕ) (n : Heap) → Safe p n IsWithin (class_from_outside p c names)
class_outside_safe p c names n =
    safe_bind n IsWithin IsWithin (allocate (object.instance c [])) (λ v. elim (init_of p c) [ None ↦ gives v | Some f ↦ elim (fun_at p f) [ None ↦ gives v | Some row ↦ instance_from_outside p f row names v ] ]) (safe_allocate n (object.instance c []) tt) (λ v k le w.
    safe_option k IsWithin (init_of p c) (λ f. elim (fun_at p f) [ None ↦ gives v | Some row ↦ instance_from_outside p f row names v ]) (gives v)
    (λ f. safe_known k IsWithin (fun_at p f) (λ row. instance_from_outside p f row names v) (gives v) (λ row e. instance_outside_safe p f row names v k w (λ c. c.rows f row e)) (safe_gives k v w)) (safe_gives k v w))

outside_safe : (p : Program) (c : OutsideCall) (n : Heap) → Safe p n IsWithin (call_from_outside p c)
outside_safe p (calls_function f names) n = safe_known n IsWithin (fun_at p f) (λ row. function_from_outside p f row names) anything (λ row e. class_or p f row names n row.class (λ c. c.rows f row e)) (safe_anything n)
outside_safe p (calls_class c names) n = class_outside_safe p c names n

-- ---- what a turn does

returning_safe : {p : Program} (n : Heap) (a : Action Value) → Safe p n IsWithin a → Safe p n FlowWithin (returning a)
returning_safe n a h = safe_bind n IsWithin FlowWithin a (λ v. gives (returns v)) h (λ v k le w. gives_flow k (returns v) w)

perform_safe : (p : Program) (q : Request) (n : Heap) → RequestWithin p n q → Safe p n FlowWithin (perform p q)
perform_safe p (call f as' site line) n h = may_then n FlowWithin (returning (call_any p f as' site line)) (returning_safe n (call_any p f as' site line) (call_any_safe p n f as' site line h.1))
perform_safe p (while_turn test body) n h =
    safe_bind n FlowWithin FlowWithin (exec_all p body) (λ flow. once_more flow (run_while p test body)) (exec_all_safe p body n h) (λ flow k le w. once_more_safe k flow (run_while p test body) w (while_safe p test body k h))
perform_safe p (for_turn target body line v x) n h =
    safe_then n Free FlowWithin (put p target x) (bind (exec_all p body) (λ flow. once_more flow (run_for p target body line v))) (put_safe p target n x h.1) (λ k le.
    safe_bind k FlowWithin FlowWithin (exec_all p body) (λ flow. once_more flow (run_for p target body line v)) (exec_all_safe p body k h.2) (λ flow j le' w. once_more_safe j flow (run_for p target body line v) w (for_safe p target body line j v (within_on n j v (grown_on le le') h.0) h.2)))
perform_safe p (outside_call c) n h = returning_safe n (call_from_outside p c) (outside_safe p c n)

-- ---- runs

-- the caller's frame was within the heap, which has grown
scope_after_within : {W : Type 0} (n k : Heap) (q : Request) (before c : Scope) → Grows W n k → ScopeWithin n before → ScopeWithin k c → ScopeWithin k (scope_after q before c)
scope_after_within n k (call f as' site line) before c le h good = record { globals = good.globals; frame = frame_on n k before.frame le h.frame; handled = option_on n k before.handled le h.handled }
scope_after_within n k (outside_call o) before c le h good = record { globals = good.globals; frame = frame_on n k before.frame le h.frame; handled = option_on n k before.handled le h.handled }
scope_after_within n k (while_turn test body) before c le h good = good
scope_after_within n k (for_turn target body line v x) before c le h good = good

left_good : {p : Program} {root : Heap} (q : Request) (m u : Memory) → Good p root m → Grown p m.heap u.heap → Good p root u → Good p root (left_by (pointing p root) q m u)
left_good q m u good le h = record { heap = h.heap; scope = scope_after_within m.heap u.heap q m.scope u.scope le good.scope h.scope; classes = h.classes; goes_on = h.goes_on; rows = h.rows }

pub turn_holds : (p : Program) (root : Heap) (q : Request) (way g : Unit {0}) (m : Memory) → Good p root m → RequestWithin p m.heap q → Holds (pointing p root) (GaveInside (pointing p root) q way g m) (RaisedInside (pointing p root) q way g m) g m (perform p q)
turn_holds p root q way g m good w =
    holds_map (pointing p root) (Ended p root m.heap FlowWithin) (GaveInside (pointing p root) q way g m) (Ended p root m.heap IsWithin) (RaisedInside (pointing p root) q way g m) (perform p q) g m ((perform_safe p q m.heap w).keeps root m good (grown_self m.heap) m.heap (grown_self m.heap))
    (λ flow one u e. (e.0, left_good q m u good e.0 e.1, e.2)) (λ v one u e. (e.0, left_good q m u good e.0 e.1, e.2))

-- ---- a run of a module

tell_safe : {p : Program} (name : ℕ) (n : Heap) (o : Option Value) (a : Action (Unit {0})) → Safe p n Free a → Safe p n Free (tell_if name o a)
tell_safe name n None a h = h
tell_safe name n (Some v) a h = safe_tells n Free (held name v) a h

pub tell_names_safe : {p : Program} (names : List ℕ) (n : Heap) → Safe p n Free (tell_names names)
tell_names_safe [] n = safe_done n
tell_names_safe (name ∷ names) n = safe_looks n Free (λ m. tell_if name (entry m.scope.globals name) (tell_names names)) (λ root m good le. tell_safe name m.heap (entry m.scope.globals name) (tell_names names) (tell_names_safe names m.heap))

call_if_safe : {p : Program} (b : Bool) (c : OutsideCall) (n : Heap) → Safe p n Free (call_if b c)
call_if_safe false c n = safe_done n
call_if_safe true c n = safe_turn n Free (outside_call c) (λ o. done) tt (λ o j le w. safe_done j)

pub make_calls_safe : (p : Program) (cs : List OutsideCall) (n : Heap) → Safe p n Free (make_calls p cs)
make_calls_safe p [] n = safe_done n
make_calls_safe p (c ∷ cs) n =
    safe_then n Free Free (looks (λ m. call_if (can_be_called p m.heap c) c)) (make_calls p cs) (safe_looks n Free (λ m. call_if (can_be_called p m.heap c) c) (λ root m good le. call_if_safe (can_be_called p m.heap c) c m.heap)) (λ k le. make_calls_safe p cs k)
