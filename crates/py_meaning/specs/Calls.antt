-- What happens in a turn: calls, and one more time through a loop's body (language reference, "Calls", "Callable types").
use Rattle.std.specs.Prelude.{ℕ, suc, Bool, true, false, ◌&&◌, nat_eq, List, [], ◌∷◌, map, Option, Some, None, is_some, slice_get, unwrap_or, if◌then◌else◌, codes}
use Rattle.std.specs.List.{list_any}
use Rattle.std.specs.Str.{bytes_eq}
use Rattle.builtin_stubs.specs.Meanings.{Arguments, exactly, at_least}
use Rattle.type_terms.specs.Stubs as stubs
use Rattle.type_terms.specs.Terms as term
use Rattle.py_tree.specs.Tree.{Param}
use Rattle.py_meaning.specs.Values.{Value, none, ref, Entries, literal_value}
use Rattle.py_meaning.specs.Objects as object
use Rattle.py_meaning.specs.Objects.{Object, Foreign, builtin, stub_fun, stub_class, stub_method, is_unfollowed}
use Rattle.py_meaning.specs.Events.{not_callable, returned}
use Rattle.py_meaning.specs.Programs.{Program, FunRow, fun_at, chain, exception_base, init_of}
use Rattle.py_meaning.specs.StubItems.{stub_class_at, stub_at, dotted, fun_in, bases, method_among, read_type}
use Rattle.py_meaning.specs.Fresh.{fresh}
use Rattle.py_meaning.specs.Matching.{Source, receiver, argument, default, Matched, matched, mismatch, Call, match_arguments, native_fault}
use Rattle.py_meaning.specs.Natives.{positional_count, keywords, call_by_texts, call_native}
use Rattle.py_meaning.specs.Attributes.{first_binding}
use Rattle.py_meaning.specs.Expressions.{value_of_flow}
use Rattle.py_meaning.specs.Targets.{put}
use Rattle.py_meaning.specs.Statements.{exec_all, run_while, run_for, once_more}
use Rattle.py_meaning.specs.Actions.{Frame, Scope, Argument, Flow, returns, OutsideCall, calls_function, calls_class, Request, call, while_turn, for_turn, outside_call, Action, gives, looks, tells, bind, then_do, changes, allocate, anything, at_place, one_of, may_raise, fails}

-- ---- functions of the module: the body runs with locals of its own, and the caller's are back after the turn

abbrev pub call_by_names : List Argument → Call ℕ
call_by_names as' = record { positional = positional_count as'; keywords = keywords as' }

abbrev pub parameter : Param → ℕ × Bool
parameter q = (q.name, is_some q.default)

-- a default is a constant
abbrev pub default_value : Param → Value
default_value q = elim q.default [ None ↦ none | Some l ↦ literal_value l ]

abbrev pub argument_value : List Argument → ℕ → Value
argument_value as' i = elim (slice_get as' i) [ None ↦ none | Some a ↦ a.value ]

abbrev pub source_value : (bound : Value) → List Argument → Param → Source → Value
source_value v as' q receiver = v
source_value v as' q (argument i) = argument_value as' i
source_value v as' q default = default_value q

-- the parameters with their values
abbrev pub parameters_bound : (bound : Value) → List Argument → List Param → List Source → Entries
parameters_bound v as' (q ∷ qs) (s ∷ ss) = (q.name, source_value v as' q s) ∷ parameters_bound v as' qs ss
parameters_bound v as' _ _ = []

abbrev pub with_frame : Frame → Scope → Scope
with_frame f c = record c { frame = Some f }

abbrev pub told_return : (function : ℕ) → Flow → Action Value
told_return f flow = tells (returned f (value_of_flow flow)) (gives (value_of_flow flow))

abbrev pub enter : Program → (function : ℕ) → FunRow → Entries → Action Value
enter p f row locals = changes (with_frame (record { function = f; locals = locals })) (bind (exec_all p row.body) (told_return f))

abbrev pub enter_matched : Program → (function line : ℕ) → FunRow → (bound : Value) → List Argument → Matched → Action Value
enter_matched p f line row v as' (mismatch kind) = fails line kind
enter_matched p f line row v as' (matched ss) = enter p f row (parameters_bound v as' row.params ss)

abbrev pub match_row : FunRow → (bound : Bool) → List Argument → Matched
match_row row bound as' = match_arguments nat_eq (map parameter row.params) bound (call_by_names as')

abbrev pub call_function : Program → (function : ℕ) → (bound : Option Value) → List Argument → (line : ℕ) → Action Value
call_function p f bound as' line =
    elim (fun_at p f) [
      | None ↦ anything
      | Some row ↦ enter_matched p f line row (unwrap_or bound none) as' (match_row row (is_some bound) as')
    ]

-- ---- classes of the module: an instance is made, and `__init__` is run on it in the same turn

abbrev pub start_instance : Program → (function : ℕ) → FunRow → List Argument → List Source → Value → Action Value
start_instance p f row as' ss v = then_do (enter p f row (parameters_bound v as' row.params ss)) (gives v)

abbrev pub instance_matched : Program → (class function line : ℕ) → FunRow → List Argument → Matched → Action Value
instance_matched p c f line row as' (mismatch kind) = fails line kind
instance_matched p c f line row as' (matched ss) = bind (allocate (object.instance c [])) (start_instance p f row as' ss)

-- without `__init__` an exception class takes any arguments by position, and any other class none
abbrev pub plain_arguments : Option (List ℕ) → Arguments
plain_arguments None = exactly 0
plain_arguments (Some base) = at_least 0

abbrev pub make_plain : Program → (class : ℕ) → List Argument → (line : ℕ) → Action Value
make_plain p c as' line =
    elim (native_fault (plain_arguments (exception_base p c)) (call_by_texts p as')) [ Some kind ↦ fails line kind | None ↦ allocate (object.instance c []) ]

abbrev pub make_with : Program → (class function : ℕ) → List Argument → (line : ℕ) → Action Value
make_with p c f as' line = elim (fun_at p f) [ None ↦ anything | Some row ↦ instance_matched p c f line row as' (match_row row true as') ]

abbrev pub make_instance : Program → (class : ℕ) → List Argument → (line : ℕ) → Action Value
make_instance p c as' line = elim (init_of p c) [ None ↦ make_plain p c as' line | Some f ↦ make_with p c f as' line ]

-- ---- stubs: a fresh value of the declared type

abbrev pub stub_parameter : stubs.Param → List ℕ × Bool
stub_parameter q = (q.name, q.has_default)

abbrev pub match_stub : Program → stubs.Fun → (bound : Bool) → List Argument → Matched
match_stub p f bound as' = match_arguments bytes_eq (map stub_parameter f.params) bound (call_by_texts p as')

abbrev pub given_or_fault : (line : ℕ) → Matched → Action Value → Action Value
given_or_fault line (mismatch kind) a = fails line kind
given_or_fault line (matched ss) a = a

abbrev pub call_stub_fun : Program → (home name : List ℕ) → List Argument → (line : ℕ) → Action Value
call_stub_fun p home name as' line =
    elim (stub_at p home) [
      | None ↦ anything
      | Some s ↦ elim (fun_in s.funs name) [ None ↦ anything | Some f ↦ given_or_fault line (match_stub p f false as') (fresh p (read_type s home f.answer)) ]
    ]

-- a class without `__init__` along its bases takes any arguments
abbrev pub call_stub_class : Program → (home name : List ℕ) → List Argument → (line : ℕ) → Action Value
call_stub_class p home name as' line =
    elim (stub_class_at p (dotted home name)) [
      | None ↦ anything
      | Some k ↦ elim (method_among (bases k) (codes "__init__")) [
        | None ↦ allocate (object.outside (term.class (dotted home name)))
        | Some f ↦ given_or_fault line (match_stub p f.1 true as') (allocate (object.outside (term.class (dotted home name))))
      ]
    ]

abbrev pub call_stub_method : Program → (home class name : List ℕ) → List Argument → (line : ℕ) → Action Value
call_stub_method p home owner name as' line =
    elim (stub_class_at p (dotted home owner)) [
      | None ↦ anything
      | Some k ↦ elim (fun_in k.class.funs name) [ None ↦ anything | Some f ↦ given_or_fault line (match_stub p f true as') (fresh p (read_type k.stub home f.answer)) ]
    ]

abbrev pub call_foreign : Program → (receiver : Option Value) → List Argument → (site line : ℕ) → Foreign → Action Value
call_foreign p o as' site line (builtin n) = call_native p n o as' site line
call_foreign p o as' site line (stub_fun home name) = call_stub_fun p home name as' line
call_foreign p o as' site line (stub_class home name) = call_stub_class p home name as' line
call_foreign p o as' site line (stub_method home owner name) = call_stub_method p home owner name as' line

-- ---- anything that is called

abbrev pub call_object : Program → List Argument → (site line : ℕ) → Object → Action Value
call_object p as' site line (object.function f) = call_function p f None as' line
call_object p as' site line (object.bound v f) = call_function p f (Some v) as' line
call_object p as' site line (object.class c es) = make_instance p c as' line
call_object p as' site line (object.foreign f) = call_foreign p None as' site line f
call_object p as' site line (object.bound_foreign v f) = call_foreign p (Some v) as' site line f
call_object p as' site line (object.outside (term.callable t)) = fresh p t
call_object p as' site line o = if is_unfollowed o then anything else fails line not_callable

abbrev pub call_any : Program → (callee : Value) → List Argument → (site line : ℕ) → Action Value
call_any p (ref place) as' site line = at_place place (call_object p as' site line)
call_any p v as' site line = fails line not_callable

-- ---- calls from outside, after the module's end

-- each parameter has a value from outside, or its default where it has one and is left out
abbrev pub outside_value : (left_out : List ℕ) → Param → Action Value
outside_value names q = if is_some q.default && list_any (nat_eq q.name) names then gives (default_value q) else anything

abbrev pub outside_values : (left_out : List ℕ) → List Param → Action Entries
outside_values names [] = gives []
outside_values names (q ∷ qs) = bind (outside_value names q) (λ v. bind (outside_values names qs) (λ es. gives ((q.name, v) ∷ es)))

-- of a method the first parameter is an instance
abbrev pub outside_locals : (left_out : List ℕ) → Option Value → List Param → Action Entries
outside_locals names (Some v) (q ∷ qs) = bind (outside_values names qs) (λ es. gives ((q.name, v) ∷ es))
outside_locals names _ qs = outside_values names qs

abbrev pub enter_from_outside : Program → (function : ℕ) → FunRow → (left_out : List ℕ) → Option Value → Action Value
enter_from_outside p f row names o = bind (outside_locals names o row.params) (enter p f row)

-- whether a class finds a method: the first body along its bases that binds the method's name is that of the method's class
abbrev pub finds : Program → (class : ℕ) → FunRow → (owner : ℕ) → Bool
finds p c row owner = elim (first_binding p (chain p c) row.name) [ None ↦ false | Some d ↦ nat_eq d owner ]

-- the instances in the heap whose class finds a method, from a place on
abbrev pub receivers_if : Bool → (place : ℕ) → List Value → List Value
receivers_if true place vs = ref place ∷ vs
receivers_if false place vs = vs

abbrev pub finds_at : Program → FunRow → (owner : ℕ) → Object → Bool
finds_at p row owner (object.instance c es) = finds p c row owner
finds_at p row owner _ = false

abbrev pub receivers : Program → FunRow → (owner : ℕ) → (place : ℕ) → List Object → List Value
receivers p row owner place [] = []
receivers p row owner place (o ∷ os) = receivers_if (finds_at p row owner o) place (receivers p row owner (suc place) os)

abbrev pub method_from_outside : Program → (function : ℕ) → FunRow → (left_out : List ℕ) → (owner : ℕ) → Action Value
method_from_outside p f row names owner = looks (λ m. bind (one_of (receivers p row owner 0 m.heap)) (enter_from_outside p f row names))

abbrev pub function_from_outside : Program → (function : ℕ) → FunRow → (left_out : List ℕ) → Action Value
function_from_outside p f row names =
    elim row.class [ None ↦ enter_from_outside p f row names None | Some owner ↦ method_from_outside p f row names owner ]

abbrev pub instance_from_outside : Program → (function : ℕ) → FunRow → (left_out : List ℕ) → Value → Action Value
instance_from_outside p f row names v = then_do (enter_from_outside p f row names (Some v)) (gives v)

abbrev pub class_from_outside : Program → (class : ℕ) → (left_out : List ℕ) → Action Value
class_from_outside p c names =
    bind (allocate (object.instance c [])) (λ v.
    elim (init_of p c) [ None ↦ gives v | Some f ↦ elim (fun_at p f) [ None ↦ gives v | Some row ↦ instance_from_outside p f row names v ] ])

abbrev pub call_from_outside : Program → OutsideCall → Action Value
call_from_outside p (calls_function f names) = elim (fun_at p f) [ None ↦ anything | Some row ↦ function_from_outside p f row names ]
call_from_outside p (calls_class c names) = class_from_outside p c names

-- ---- what a turn does

abbrev pub returning : Action Value → Action Flow
returning a = bind a (λ v. gives (returns v))

-- A call is a step that may raise.
abbrev pub perform : Program → Request → Action Flow
perform p (call f as' site line) = then_do may_raise (returning (call_any p f as' site line))
perform p (while_turn test body) = bind (exec_all p body) (λ flow. once_more flow (run_while p test body))
perform p (for_turn target body line v x) =
    then_do (put p target x) (bind (exec_all p body) (λ flow. once_more flow (run_for p target body line v)))
perform p (outside_call c) = returning (call_from_outside p c)
