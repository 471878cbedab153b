-- What raises has taken a choice before.
use Rattle.std.proofs.Common.{◌≡◌, ℕ, zero, suc, ◌<◌, ◌≤◌, ◌+◌, ◌%◌, ◌/◌, ◌==◌, Bool, true, false, if◌then◌else◌, List, [], ◌∷◌, ◌++◌, length, length-append, Option, Some, None, is_some, slice_get, unwrap_or, refl, ap, ◌∙◌, subst, arith}
use Rattle.type_terms.specs.Exceptions.{exception_names}
use Rattle.place_ids.specs.declared.operators.BinOp.{BinOp}
use Rattle.py_tree.specs.Tree as tree
use Rattle.py_tree.specs.Tree.{Expr, node, ExprKind, Exprs, no_exprs, expr, Bound, no_bound, bound, Args, no_args, arg, Pairs, no_pairs, pair, site_of, ImportPart, FromPart, Param, Stmt, statement, StmtKind, Stmts, no_stmts, stmt, Arms, no_arms, arm, FunDef, fun_def, ClassDef, class_def, Member, Members, no_members, member}
use Rattle.py_meaning.specs.Values.{Value, ref}
use Rattle.py_meaning.specs.Objects as object
use Rattle.py_meaning.specs.Objects.{Object, object_at}
use Rattle.py_meaning.specs.Programs.{Program, FunRow, fun_at, init_of}
use Rattle.py_meaning.specs.Truth.{truth_of_object, truth_of}
use Rattle.py_meaning.specs.ClassTests.{class_at}
use Rattle.py_meaning.specs.Subscripts.{unpack_from}
use Rattle.py_meaning.specs.Expressions.{call_value, kept_or, chosen, eval, eval_kind, eval_all, eval_bound, eval_args, eval_pairs}
use Rattle.py_meaning.specs.Targets.{count_of, head_or, tail_of, put, put_kind, put_all, put_each, augment}
use Rattle.py_meaning.specs.Imports.{module_name, import_all, take_all}
use Rattle.py_meaning.specs.Exceptions.{made_exception, raise_value, raise_made, raise_assertion}
use Rattle.py_meaning.specs.Statements.{then_next, evaluated, returned_value, raised, assertion, annotated_target, annotation, run_while, run_for, once_more, with_member, set_member, put_member, put_members, put_method, put_methods, fill_class, define_class, define_function, exec, exec_kind, exec_all, exec_arms}
use Rattle.py_meaning.specs.Names.{store}
use Rattle.py_meaning.specs.Calls.{told_return, enter, outside_value, outside_values, outside_locals, enter_from_outside, receivers, method_from_outside, function_from_outside, instance_from_outside, call_from_outside, default_value, perform}
use Rattle.py_meaning.specs.Actions.{Memory, with_scope, with_new, with_parts, Flow, goes_on, breaks, continues, returns, OutsideCall, calls_function, calls_class, Request, call, while_turn, for_turn, outside_call, came, threw, Action, gives, raises, takes, counts, turn, looks, becomes, makes, refills, tells, attempt, bind, then_do, pick, one_of, anything, raise_builtin, may_raise, done}
use Rattle.py_meaning.specs.Runs as runs
use Rattle.py_meaning.specs.Runs.{State, Answer, gave, stopped, with_memory, with_event, with_choices, with_turns, after_turn, take_choice, carry_out, begin_turn, come_back, turns_within}
use Rattle.py_meaning.specs.Laws.{reached, StepsMayRaise, RaisesTakeAChoice}
use Rattle.py_meaning.proofs.Carrying.{carry_goes, turns_go, from_the_front}

-- ---- an action that raises nothing before a choice, nor behind a turn that came to its end

abbrev Behind : {A : Type 0} → Action A → Type 0
Behind (gives a) = Unit {0}
Behind (raises v) = ⊥
Behind (takes k) = Unit {0}
Behind (counts k) = (n : ℕ) → Behind (k n)
Behind (turn q k) = (flow : Flow) → Behind (k (came flow))
Behind (looks k) = (m : Memory) → Behind (k m)
Behind (becomes c a) = Behind a
Behind (makes o k) = (v : Value) → Behind (k v)
Behind (refills place new a) = Behind a
Behind (tells e a) = Behind a

behind_attempt : {A B : Type 0} (a : Action A) (f : A → Action B) (g : Value → Action B) → Behind a → ((x : A) → Behind (f x)) → Behind (attempt a f g)
behind_attempt (gives x) f g h k = k x
behind_attempt (raises v) f g h k = absurd h
behind_attempt (takes a) f g h k = tt
behind_attempt (counts a) f g h k = λ n. behind_attempt (a n) f g (h n) k
behind_attempt (turn q a) f g h k = λ flow. behind_attempt (a (came flow)) f g (h flow) k
behind_attempt (looks a) f g h k = λ m. behind_attempt (a m) f g (h m) k
behind_attempt (becomes c a) f g h k = behind_attempt a f g h k
behind_attempt (makes o a) f g h k = λ v. behind_attempt (a v) f g (h v) k
behind_attempt (refills place new a) f g h k = behind_attempt a f g h k
behind_attempt (tells e a) f g h k = behind_attempt a f g h k

behind_bind : {A B : Type 0} (a : Action A) (f : A → Action B) → Behind a → ((x : A) → Behind (f x)) → Behind (bind a f)
behind_bind a f h k = behind_attempt a f (λ v. raises v) h k

behind_then : {A B : Type 0} (a : Action A) (b : Action B) → Behind a → Behind b → Behind (then_do a b)
behind_then a b h k = behind_bind a (λ x. b) h (λ x. k)

-- ---- what is carried out

abbrev Took : {A : Type 0} → State → Answer A → Type 0
Took s (gave a t) = Unit {0}
Took s (runs.raised v t) = length t.choices < length s.choices
Took s (stopped why t) = Unit {0}

fewer : (s t : State) → (taken : List ℕ) × (s.choices ≡ taken ++ t.choices) → length t.choices ≤ length s.choices
fewer s t h =
    let long : length s.choices ≡ length (h.0 ++ t.choices) = ap length h.1 in
    let sum : length (h.0 ++ t.choices) ≡ length h.0 + length t.choices = length-append h.0 t.choices in
    omega arith

took_later : {A : Type 0} (s t : State) (r : Answer A) → length t.choices ≤ length s.choices → Took t r → Took s r
took_later s t (gave a u) le h = tt
took_later s t (runs.raised v u) le h = omega (arith, h, le)
took_later s t (stopped why u) le h = tt

-- whatever comes behind a choice
took_behind : {A : Type 0} (s t : State) (r : Answer A) → length t.choices < length s.choices → length (reached r).choices ≤ length t.choices → Took s r
took_behind s t (gave a u) lt le = tt
took_behind s t (runs.raised v u) lt le = omega (arith, lt, le)
took_behind s t (stopped why u) lt le = tt

module _ (t : Request → State → Answer Flow) (took : (q : Request) (s : State) → Took s (t q s)) (goes : (q : Request) (s : State) → from_the_front.Goes s (reached (t q s))) where
  down : {A : Type 0} (a : Action A) (s : State) → length (reached (carry_out t a s)).choices ≤ length s.choices
  down a s = fewer s (reached (carry_out t a s)) (carry_goes from_the_front t goes a s)

  carry_took : {A : Type 0} (a : Action A) (s : State) → Behind a → Took s (carry_out t a s)
  carry_took (gives a) s h = tt
  carry_took (raises v) s h = absurd h
  carry_took (takes k) s h = go s.choices refl
    where
      go : (cs : List ℕ) → s.choices ≡ cs → Took s (take_choice cs (λ c. carry_out t (k c)) s)
      go [] e = tt
      go (c ∷ cs) e =
          let long : length s.choices ≡ suc (length cs) = ap length e in
          took_behind s (with_choices cs s) (carry_out t (k c) (with_choices cs s)) (omega arith) (down (k c) (with_choices cs s))
  carry_took (counts k) s h = carry_took (k (length s.choices)) s (h (length s.choices))
  carry_took (turn q k) s h = go (t q s) (took q s) (fewer s (reached (t q s)) (goes q s)) (λ flow u. carry_took (k (came flow)) u (h flow))
    where
      go : (r : Answer Flow) → Took s r → length (reached r).choices ≤ length s.choices → ((flow : Flow) (u : State) → Took u (carry_out t (k (came flow)) u)) → Took s (after_turn r (λ o. carry_out t (k o)))
      go (gave flow u) w le on = took_later s u (carry_out t (k (came flow)) u) le (on flow u)
      go (runs.raised v u) w le on = took_behind s u (carry_out t (k (threw v)) u) w (down (k (threw v)) u)
      go (stopped why u) w le on = tt
  carry_took (looks k) s h = carry_took (k s.memory) s (h s.memory)
  carry_took (becomes c a) s h = carry_took a (with_memory (with_scope c s.memory) s) h
  carry_took (makes o k) s h = carry_took (k (ref (length s.memory.heap))) (with_memory (with_new o s.memory) s) (h (ref (length s.memory.heap)))
  carry_took (refills place new a) s h = carry_took a (with_memory (with_parts place new s.memory) s) h
  carry_took (tells e a) s h = carry_took a (with_event e s) h

-- ---- expressions

truth_object : (o : Object) → Behind (truth_of_object o)
truth_object (object.list site vs) = tt
truth_object (object.tuple site layout vs) = tt
truth_object (object.dict site qs) = tt
truth_object (object.view site native receiver vs) = tt
truth_object (object.outside t) = tt
truth_object _ = tt

truth_behind : (v : Value) → Behind (truth_of v)
truth_behind (ref place) = λ m. truth_object (object_at m.heap place)
truth_behind v = tt

kept_behind : (b : Bool) (v : Value) (a : Action Value) → Behind a → Behind (kept_or b v a)
kept_behind true v a h = tt
kept_behind false v a h = h

chosen_behind : {A : Type 0} (b : Bool) (x y : Action A) → Behind x → Behind y → Behind (chosen b x y)
chosen_behind true x y h k = h
chosen_behind false x y h k = k

-- a test, and what is done where it is true and where it isn't
tested : {A : Type 0} (a : Action Value) (f : Bool → Action A) → Behind a → ((b : Bool) → Behind (f b)) → Behind (bind a (λ v. bind (truth_of v) f))
tested a f h k = behind_bind a (λ v. bind (truth_of v) f) h (λ v. behind_bind (truth_of v) f (truth_behind v) k)

mutual
  eval_behind : (p : Program) (x : Expr) → Behind (eval p x)
  eval_behind p (node kind line site) = kind_behind p kind line site

  kind_behind : (p : Program) (kind : ExprKind) (line site : ℕ) → Behind (eval_kind p kind line site)
  kind_behind p (tree.name n) line site = tt
  kind_behind p (tree.literal x) line site = tt
  kind_behind p (tree.unary op a) line site = behind_bind (eval p a) _ (eval_behind p a) (λ v. tt)
  kind_behind p (tree.binary op a b) line site = behind_bind (eval p a) _ (eval_behind p a) (λ v. behind_bind (eval p b) _ (eval_behind p b) (λ w. tt))
  kind_behind p (tree.compare op a b) line site = behind_bind (eval p a) _ (eval_behind p a) (λ v. behind_bind (eval p b) _ (eval_behind p b) (λ w. tt))
  kind_behind p (tree.not a) line site = tested (eval p a) _ (eval_behind p a) (λ t. tt)
  kind_behind p (tree.and a b) line site = behind_bind (eval p a) _ (eval_behind p a) (λ v. behind_bind (truth_of v) _ (truth_behind v) (λ t. kept_behind _ v (eval p b) (eval_behind p b)))
  kind_behind p (tree.or a b) line site = behind_bind (eval p a) _ (eval_behind p a) (λ v. behind_bind (truth_of v) _ (truth_behind v) (λ t. kept_behind _ v (eval p b) (eval_behind p b)))
  kind_behind p (tree.choice a c b) line site = tested (eval p c) _ (eval_behind p c) (λ t. chosen_behind t (eval p a) (eval p b) (eval_behind p a) (eval_behind p b))
  kind_behind p (tree.attr a n) line site = behind_bind (eval p a) _ (eval_behind p a) (λ v. tt)
  kind_behind p (tree.super n) line site = tt
  kind_behind p (tree.item a i) line site = behind_bind (eval p a) _ (eval_behind p a) (λ v. behind_bind (eval p i) _ (eval_behind p i) (λ w. tt))
  kind_behind p (tree.slice a low high step) line site =
      behind_bind (eval p a) _ (eval_behind p a) (λ v. behind_then (eval_bound p low) _ (bound_behind p low) (behind_then (eval_bound p high) _ (bound_behind p high) (behind_then (eval_bound p step) _ (bound_behind p step) tt)))
  kind_behind p (tree.call a xs) line site = behind_bind (eval p a) _ (eval_behind p a) (λ v. behind_bind (eval_args p xs) _ (args_behind p xs) (λ given flow. tt))
  kind_behind p (tree.tuple xs) line site = behind_bind (eval_all p xs) _ (all_behind p xs) (λ vs v. tt)
  kind_behind p (tree.list xs) line site = behind_bind (eval_all p xs) _ (all_behind p xs) (λ vs v. tt)
  kind_behind p (tree.dict qs) line site = behind_bind (eval_pairs p qs) _ (pairs_behind p qs) (λ vs v. tt)

  all_behind : (p : Program) (xs : Exprs) → Behind (eval_all p xs)
  all_behind p no_exprs = tt
  all_behind p (expr x xs) = behind_bind (eval p x) _ (eval_behind p x) (λ v. behind_bind (eval_all p xs) _ (all_behind p xs) (λ vs. tt))

  bound_behind : (p : Program) (b : Bound) → Behind (eval_bound p b)
  bound_behind p no_bound = tt
  bound_behind p (bound x) = behind_bind (eval p x) _ (eval_behind p x) (λ v. tt)

  args_behind : (p : Program) (xs : Args) → Behind (eval_args p xs)
  args_behind p no_args = tt
  args_behind p (arg n x xs) = behind_bind (eval p x) _ (eval_behind p x) (λ v. behind_bind (eval_args p xs) _ (args_behind p xs) (λ given. tt))

  pairs_behind : (p : Program) (qs : Pairs) → Behind (eval_pairs p qs)
  pairs_behind p no_pairs = tt
  pairs_behind p (pair k x qs) = behind_bind (eval p k) _ (eval_behind p k) (λ v. behind_bind (eval p x) _ (eval_behind p x) (λ w. behind_bind (eval_pairs p qs) _ (pairs_behind p qs) (λ vs. tt)))

-- ---- targets

store_behind : (p : Program) (name : ℕ) (v : Value) → Behind (store p name v)
store_behind p name v = λ m. tt

unpack_behind : (p : Program) (line count : ℕ) (v : Value) (i : ℕ) (got : List Value) → Behind (unpack_from p line count v i got)
unpack_behind p line count v zero got = tt
unpack_behind p line count v (suc i) got = tt

mutual
  put_behind : (p : Program) (t : Expr) (v : Value) → Behind (put p t v)
  put_behind p (node kind line site) v = put_kind_behind p kind line v

  put_kind_behind : (p : Program) (kind : ExprKind) (line : ℕ) (v : Value) → Behind (put_kind p kind line v)
  put_kind_behind p (tree.name n) line v = store_behind p n v
  put_kind_behind p (tree.attr o n) line v = behind_bind (eval p o) _ (eval_behind p o) (λ w. tt)
  put_kind_behind p (tree.item o i) line v = behind_bind (eval p o) _ (eval_behind p o) (λ w. behind_bind (eval p i) _ (eval_behind p i) (λ j. tt))
  put_kind_behind p (tree.tuple ts) line v = behind_bind (unpack_from p line (count_of ts) v (count_of ts) []) (put_all p ts) (unpack_behind p line (count_of ts) v (count_of ts) []) (λ vs. put_all_behind p ts vs)
  put_kind_behind p (tree.list ts) line v = behind_bind (unpack_from p line (count_of ts) v (count_of ts) []) (put_all p ts) (unpack_behind p line (count_of ts) v (count_of ts) []) (λ vs. put_all_behind p ts vs)
  put_kind_behind p _ line v = tt

  put_all_behind : (p : Program) (ts : Exprs) (vs : List Value) → Behind (put_all p ts vs)
  put_all_behind p no_exprs vs = tt
  put_all_behind p (expr t ts) vs = behind_then (put p t (head_or vs)) _ (put_behind p t (head_or vs)) (put_all_behind p ts (tail_of vs))

put_each_behind : (p : Program) (ts : Exprs) (v : Value) → Behind (put_each p ts v)
put_each_behind p no_exprs v = tt
put_each_behind p (expr t ts) v = behind_then (put p t v) _ (put_behind p t v) (put_each_behind p ts v)

augment_behind : (p : Program) (op : BinOp) (line : ℕ) (t e : Expr) → Behind (augment p op line t e)
augment_behind p op line (node (tree.name n) own site) e = tt
augment_behind p op line (node (tree.attr o n) own site) e = behind_bind (eval p o) _ (eval_behind p o) (λ q. tt)
augment_behind p op line (node (tree.item o i) own site) e = behind_bind (eval p o) _ (eval_behind p o) (λ q. behind_bind (eval p i) _ (eval_behind p i) (λ j. tt))
augment_behind p op line t e = tt

-- ---- simple statements

evaluated_behind : (p : Program) (o : Option Expr) → Behind (evaluated p o)
evaluated_behind p None = tt
evaluated_behind p (Some x) = behind_bind (eval p x) _ (eval_behind p x) (λ v. tt)

returned_behind : (p : Program) (o : Option Expr) → Behind (returned_value p o)
returned_behind p None = tt
returned_behind p (Some x) = behind_bind (eval p x) _ (eval_behind p x) (λ v. tt)

made_behind : (v : Value) (site line : ℕ) → Behind (made_exception v site line)
made_behind v site line = λ m. chosen_behind (is_some (class_at m.heap v)) (call_value v [] site line) (then_do may_raise (gives v)) (λ flow. tt) tt

raise_behind : (p : Program) (v : Value) (site line : ℕ) → Behind (raise_made {A = Flow} p v site line)
raise_behind p v site line = behind_bind (made_exception v site line) (raise_value p) (made_behind v site line) (λ w. tt)

raised_behind : (p : Program) (line : ℕ) (o cause : Option Expr) → Behind (raised p line o cause)
raised_behind p line None cause = tt
raised_behind p line (Some x) cause = behind_bind (eval p x) _ (eval_behind p x) (λ v. behind_then (evaluated p cause) _ (evaluated_behind p cause) (raise_behind p v (site_of x) line))

assertion_behind : (p : Program) (line : ℕ) (x : Expr) (message : Option Expr) → Behind (assertion p line x message)
assertion_behind p line x message =
    tested (eval p x) _ (eval_behind p x) (λ t. chosen_behind t (gives goes_on) (then_do (evaluated p message) (raise_assertion p (site_of x) line)) tt (behind_then (evaluated p message) _ (evaluated_behind p message) tt))

imports_behind : (p : Program) (qs : List ImportPart) → Behind (import_all p qs)
imports_behind p [] = tt
imports_behind p (q ∷ qs) = tt

takes_behind : (p : Program) (home : List ℕ) (qs : List FromPart) → Behind (take_all p home qs)
takes_behind p home [] = tt
takes_behind p home (q ∷ qs) = tt

annotated_behind : (p : Program) (t : Expr) → Behind (annotated_target p t)
annotated_behind p (node (tree.attr o n) line site) = behind_bind (eval p o) _ (eval_behind p o) (λ v. tt)
annotated_behind p t = tt

annotation_behind : (p : Program) (t : Expr) (o : Option Expr) → Behind (annotation p t o)
annotation_behind p t None = annotated_behind p t
annotation_behind p t (Some x) = behind_bind (eval p x) (put p t) (eval_behind p x) (λ v. put_behind p t v)

while_behind : (p : Program) (test : Expr) (body : Stmts) → Behind (run_while p test body)
while_behind p test body = tested (eval p test) _ (eval_behind p test) (λ t. chosen_behind t _ _ (λ flow. tt) tt)

-- ---- definitions

with_member_behind : (place name : ℕ) (v : Value) (o : Object) → Behind (with_member place name v o)
with_member_behind place name v (object.class c es) = tt
with_member_behind place name v _ = tt

set_member_behind : (place name : ℕ) (v : Value) → Behind (set_member place name v)
set_member_behind place name v = λ m. with_member_behind place name v (object_at m.heap place)

member_behind : (p : Program) (place : ℕ) (m : Member) → Behind (put_member p place m)
member_behind p place (tree.value n x line) = behind_bind (eval p x) (set_member place n) (eval_behind p x) (λ v. set_member_behind place n v)
member_behind p place (tree.declared n (Some x) line) = behind_bind (eval p x) (set_member place n) (eval_behind p x) (λ v. set_member_behind place n v)
member_behind p place (tree.declared n None line) = tt
member_behind p place _ = tt

members_behind : (p : Program) (place : ℕ) (ms : Members) → Behind (put_members p place ms)
members_behind p place no_members = tt
members_behind p place (member m ms) = behind_then (put_member p place m) _ (member_behind p place m) (members_behind p place ms)

method_behind : (place : ℕ) (m : Member) → Behind (put_method place m)
method_behind place (tree.method (fun_def id name params body line)) = λ v. set_member_behind place name v
method_behind place _ = tt

methods_behind : (place : ℕ) (ms : Members) → Behind (put_methods place ms)
methods_behind place no_members = tt
methods_behind place (member m ms) = behind_then (put_method place m) _ (method_behind place m) (methods_behind place ms)

fill_behind : (p : Program) (ms : Members) (v : Value) → Behind (fill_class p ms v)
fill_behind p ms (ref place) = behind_then (put_members p place ms) _ (members_behind p place ms) (methods_behind place ms)
fill_behind p ms v = tt

class_behind : (p : Program) (c : ClassDef) → Behind (define_class p c)
class_behind p (class_def id name base ms line) = λ v. behind_then (fill_class p ms v) _ (fill_behind p ms v) (store_behind p name v)

function_behind : (p : Program) (f : FunDef) → Behind (define_function p f)
function_behind p (fun_def id name params body line) = λ v. store_behind p name v

-- ---- statements

next_behind : (flow : Flow) (a : Action Flow) → Behind a → Behind (then_next flow a)
next_behind goes_on a h = h
next_behind breaks a h = tt
next_behind continues a h = tt
next_behind (returns v) a h = tt

on_behind : {A : Type 0} (a : Action A) → Behind a → Behind (bind a (λ x. gives goes_on))
on_behind a h = behind_bind a (λ x. gives goes_on) h (λ x. tt)

mutual
  exec_behind : (p : Program) (s : Stmt) → Behind (exec p s)
  exec_behind p (statement kind line) = exec_kind_behind p kind line

  exec_kind_behind : (p : Program) (kind : StmtKind) (line : ℕ) → Behind (exec_kind p kind line)
  exec_kind_behind p tree.pass line = tt
  exec_kind_behind p tree.break line = tt
  exec_kind_behind p tree.continue line = tt
  exec_kind_behind p tree.ellipsis line = tt
  exec_kind_behind p (tree.return o) line = returned_behind p o
  exec_kind_behind p (tree.raise o cause) line = raised_behind p line o cause
  exec_kind_behind p (tree.assert x message) line = assertion_behind p line x message
  exec_kind_behind p (tree.import qs) line = on_behind (import_all p qs) (imports_behind p qs)
  exec_kind_behind p (tree.from path qs) line = on_behind (take_all p (module_name p path) qs) (takes_behind p (module_name p path) qs)
  exec_kind_behind p (tree.global ns) line = tt
  exec_kind_behind p (tree.assign ts x) line = on_behind (bind (eval p x) (put_each p ts)) (behind_bind (eval p x) (put_each p ts) (eval_behind p x) (λ v. put_each_behind p ts v))
  exec_kind_behind p (tree.augment t op x) line = on_behind (augment p op line t x) (augment_behind p op line t x)
  exec_kind_behind p (tree.annotated t o) line = on_behind (annotation p t o) (annotation_behind p t o)
  exec_kind_behind p (tree.expression x) line = on_behind (eval p x) (eval_behind p x)
  exec_kind_behind p (tree.if arms otherwise) line = arms_behind p arms (exec_all p otherwise) (statements_behind p otherwise)
  exec_kind_behind p (tree.while test body) line = while_behind p test body
  exec_kind_behind p (tree.for target x body) line = behind_bind (eval p x) (run_for p target body line) (eval_behind p x) (λ v. tt)
  exec_kind_behind p (tree.try body handlers otherwise) line = behind_attempt (exec_all p body) _ _ (statements_behind p body) (λ flow. next_behind flow (exec_all p otherwise) (statements_behind p otherwise))
  exec_kind_behind p (tree.def f) line = on_behind (define_function p f) (function_behind p f)
  exec_kind_behind p (tree.class c) line = on_behind (define_class p c) (class_behind p c)

  statements_behind : (p : Program) (ss : Stmts) → Behind (exec_all p ss)
  statements_behind p no_stmts = tt
  statements_behind p (stmt s ss) = behind_bind (exec p s) _ (exec_behind p s) (λ flow. next_behind flow (exec_all p ss) (statements_behind p ss))

  arms_behind : (p : Program) (arms : Arms) (others : Action Flow) → Behind others → Behind (exec_arms p arms others)
  arms_behind p no_arms others h = h
  arms_behind p (arm test body arms) others h = tested (eval p test) _ (eval_behind p test) (λ t. chosen_behind t (exec_all p body) (exec_arms p arms others) (statements_behind p body) (arms_behind p arms others h))

-- ---- turns

once_behind : (flow : Flow) (a : Action Flow) → Behind a → Behind (once_more flow a)
once_behind goes_on a h = h
once_behind continues a h = h
once_behind breaks a h = tt
once_behind (returns v) a h = tt

enter_behind : (p : Program) (f : ℕ) (row : FunRow) (locals : List (ℕ × Value)) → Behind (enter p f row locals)
enter_behind p f row locals = λ m. behind_bind (exec_all p row.body) (told_return f) (statements_behind p row.body) (λ flow. tt)

given_or : (b : Bool) (v : Value) → Behind (if b then gives v else anything)
given_or true v = tt
given_or false v = λ w. tt

values_behind : (names : List ℕ) (qs : List Param) → Behind (outside_values names qs)
values_behind names [] = tt
values_behind names (q ∷ qs) = behind_bind (outside_value names q) _ (given_or _ (default_value q)) (λ v. behind_bind (outside_values names qs) _ (values_behind names qs) (λ es. tt))

locals_behind : (names : List ℕ) (o : Option Value) (qs : List Param) → Behind (outside_locals names o qs)
locals_behind names (Some v) (q ∷ qs) = behind_bind (outside_values names qs) _ (values_behind names qs) (λ es. tt)
locals_behind names (Some v) [] = tt
locals_behind names None qs = values_behind names qs

from_outside : (p : Program) (f : ℕ) (row : FunRow) (names : List ℕ) (o : Option Value) → Behind (enter_from_outside p f row names o)
from_outside p f row names o = behind_bind (outside_locals names o row.params) (enter p f row) (locals_behind names o row.params) (λ locals. enter_behind p f row locals)

pick_behind : (n : ℕ) → Behind (pick n)
pick_behind zero = tt
pick_behind (suc zero) = tt
pick_behind (suc (suc n)) = tt

one_behind : {A : Type 0} (xs : List A) → Behind (one_of xs)
one_behind xs = behind_bind (pick (length xs)) _ (pick_behind (length xs)) (λ i. tt)

function_outside : (p : Program) (f : ℕ) (row : FunRow) (names : List ℕ) → Behind (function_from_outside p f row names)
function_outside p f row names = go row.class
  where
    go : (o : Option ℕ) → Behind (elim o [ None ↦ enter_from_outside p f row names None | Some owner ↦ method_from_outside p f row names owner ])
    go None = from_outside p f row names None
    go (Some owner) = λ m. behind_bind (one_of (receivers p row owner 0 m.heap)) (enter_from_outside p f row names) (one_behind (receivers p row owner 0 m.heap)) (λ o. from_outside p f row names o)

outside_behind : (p : Program) (c : OutsideCall) → Behind (call_from_outside p c)
outside_behind p (calls_function f names) = go (fun_at p f)
  where
    go : (o : Option FunRow) → Behind (elim o [ None ↦ anything | Some row ↦ function_from_outside p f row names ])
    go None = λ v. tt
    go (Some row) = function_outside p f row names
outside_behind p (calls_class c names) = λ v. init v (init_of p c)
  where
    row_of : (v : Value) (f : ℕ) (o : Option FunRow) → Behind (elim o [ None ↦ gives v | Some row ↦ instance_from_outside p f row names v ])
    row_of v f None = tt
    row_of v f (Some row) = behind_then (enter_from_outside p f row names (Some v)) (gives v) (from_outside p f row names (Some v)) tt

    init : (v : Value) (o : Option ℕ) → Behind (elim o [ None ↦ gives v | Some f ↦ elim (fun_at p f) [ None ↦ gives v | Some row ↦ instance_from_outside p f row names v ] ])
    init v None = tt
    init v (Some f) = row_of v f (fun_at p f)

perform_behind : (p : Program) (q : Request) → Behind (perform p q)
perform_behind p (call f given site line) = tt
perform_behind p (while_turn test body) = behind_bind (exec_all p body) _ (statements_behind p body) (λ flow. once_behind flow (run_while p test body) (while_behind p test body))
perform_behind p (for_turn target body line v x) =
    behind_then (put p target x) _ (put_behind p target x) (behind_bind (exec_all p body) _ (statements_behind p body) (λ flow. once_behind flow (run_for p target body line v) tt))
perform_behind p (outside_call c) = behind_bind (call_from_outside p c) _ (outside_behind p c) (λ v. tt)

begin_took : (n : ℕ) (f : State → Answer Flow) (s : State) → ((k : ℕ) → Took s (f (with_turns k s))) → Took s (begin_turn n f s)
begin_took zero f s h = tt
begin_took (suc n) f s h = h n

back_took : (q : Request) (s : State) (r : Answer Flow) → Took s r → Took s (come_back q s.memory.scope r)
back_took q s (gave flow t) h = tt
back_took q s (runs.raised v t) h = h
back_took q s (stopped why t) h = tt

turns_took : (p : Program) (n : ℕ) (q : Request) (s : State) → Took s (turns_within p n q s)
unfolding turns_within
turns_took p zero q s = tt
turns_took p (suc n) q s =
    back_took q s (begin_turn s.turns (carry_out (turns_within p n) (perform p q)) s)
    (begin_took s.turns (carry_out (turns_within p n) (perform p q)) s (λ k. carry_took (turns_within p n) (turns_took p n) (turns_go from_the_front p n) (perform p q) (with_turns k s) (perform_behind p q)))

-- ---- the laws

pub raises_take_a_choice : RaisesTakeAChoice
raises_take_a_choice = record {
  statements = λ p n ss v s t e. subst (Took s) e (carry_took (turns_within p n) (turns_took p n) (turns_go from_the_front p n) (exec_all p ss) s (statements_behind p ss));
  expressions = λ p n x v s t e. subst (Took s) e (carry_took (turns_within p n) (turns_took p n) (turns_go from_the_front p n) (eval p x) s (eval_behind p x));
}

pub steps_may_raise : StepsMayRaise
steps_may_raise = record {
  raises = λ t c cs s e h. ap (λ ds. take_choice ds (λ c. carry_out t (if c % 64 == 63 then raising c else done)) s) e ∙ ap (λ b. carry_out t (if b then raising c else done) (with_choices cs s)) h;
  goes_on = λ t c cs s e h. ap (λ ds. take_choice ds (λ c. carry_out t (if c % 64 == 63 then raising c else done)) s) e ∙ ap (λ b. carry_out t (if b then raising c else done) (with_choices cs s)) h;
}
  where
    raising : ℕ → Action (Unit {0})
    raising c = raise_builtin (unwrap_or (slice_get exception_names ((c / 64) % length exception_names)) [])
