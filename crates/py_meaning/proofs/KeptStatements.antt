-- Expressions, targets and statements keep values within the heap.
use Rattle.std.proofs.Common.{ℕ, Bool, true, false, if◌then◌else◌, List, [], ◌∷◌, map, Option, Some, None, ◌≡◌}
use Rattle.std.specs.Prelude.{codes, is_some, not}
use Rattle.std.specs.Option.{option_and_then}
use Rattle.place_ids.specs.declared.operators.BinOp.{BinOp}
use Rattle.place_ids.specs.declared.operators.BinOp.TheVariants as bin
use Rattle.type_terms.specs.Stubs.{Stub}
use Rattle.type_terms.specs.Terms as term
use Rattle.py_tree.specs.declared.literal.Literal.{Literal}
use Rattle.py_tree.specs.declared.literal.Literal.TheVariants as lit
use Rattle.py_tree.specs.Tree as tree
use Rattle.py_tree.specs.Tree.{Expr, node, ExprKind, Exprs, no_exprs, expr, Bound, no_bound, bound, Args, no_args, arg, Pairs, no_pairs, pair, ImportPart, FromPart, site_of, statement, StmtKind, Stmts, no_stmts, stmt, Arms, no_arms, arm, Handlers, no_handlers, handler, FunDef, fun_def, ClassDef, class_def, Member, Members, no_members, member}
use Rattle.py_meaning.specs.Values.{Value, none, truth, whole, float, text, octets, ref, Entries, entry, without_entry, literal_value}
use Rattle.py_meaning.specs.Objects as object
use Rattle.py_meaning.specs.Objects.{Object, object_at}
use Rattle.py_meaning.specs.Events.{not_iterable}
use Rattle.py_meaning.specs.Programs.{Program, fun_at, class_of_fun, text_at}
use Rattle.py_meaning.specs.StubItems.{Item, item_in, stub_at}
use Rattle.py_meaning.specs.Truth.{by_choice, truth_of_object, truth_of}
use Rattle.py_meaning.specs.Operators.{binary, unary, compare, is_whole, repeated}
use Rattle.py_meaning.specs.Contents.{held}
use Rattle.py_meaning.specs.Iteration.{Step, no_items, ended, element, iterate, is_iterable, items_of}
use Rattle.py_meaning.specs.ClassTests.{class_at, matches}
use Rattle.py_meaning.specs.Natives.{add_parts}
use Rattle.py_meaning.specs.Subscripts.{read_item, read_slice, store_item, unpack}
use Rattle.py_meaning.specs.Attributes.{read_attribute, store_attribute, super_attribute}
use Rattle.py_meaning.specs.Names.{builtin_value, load, store, unbound}
use Rattle.py_meaning.specs.Expressions.{value_of_flow, called, call_value, first_parameter, first_value, super_in, kept_or, chosen, eval, eval_kind, eval_all, eval_bound, eval_args, eval_pairs}
use Rattle.py_meaning.specs.Targets.{in_own_list, in_outside_list, count_of, head_or, tail_of, put, put_kind, put_all, put_each, extend_in_place, repeat_in_place, in_place_object, in_place, augment}
use Rattle.py_meaning.specs.Imports.{module_name, module_value, imported_item, bound_name, store_if, import_one, import_all, take_one, take_all}
use Rattle.py_meaning.specs.Exceptions.{made_exception, is_exception_value, raise_value, raise_made, handled_or_error, raise_again, raise_assertion, with_handled, handling}
use Rattle.py_meaning.specs.Statements as statements
use Rattle.py_meaning.specs.Statements.{and_on, then_next, evaluated, returned_value, assertion, annotated_target, annotation, through, run_while, for_step, run_for, once_more, with_member, set_member, put_member, put_members, put_method, put_methods, fill_class, define_class, define_function, named, exec, exec_kind, exec_all, exec_arms, exec_handlers}
use Rattle.py_meaning.specs.Actions.{Memory, is_even, Frame, Scope, Argument, Flow, goes_on, breaks, continues, returns, Request, call, while_turn, for_turn, outside_call, Outcome, came, threw, Action, gives, raises, turn, looks, bind, then_do, changes, afterwards, allocate, refill, anything, may_raise, raise_builtin, fails, done}
use Rattle.scope_rules.specs.WellFormed.{Surroundings, looped, IsFormedKind, AreFormedArms, AreFormedHandlers}
use Rattle.py_meaning.proofs.Growing.{ClassesApart, Block, Heap, Grown, grown_self, grown_on}
use Rattle.py_meaning.proofs.Pointing.{AreWithin, EntriesWithin, IsWithin, ObjectWithin, OptionWithin, PairsWithin, are_on, entry_within, option_on, within_on, without_entry_within}
use Rattle.py_meaning.proofs.Kept.{SafeIn, Good, safe_at_now, enter_class, safe_give, FrameWithin, ScopeWithin, Safe, safe_changes, safe_afterwards, Free, ArgumentsWithin, RequestWithin, FlowWithin, OutcomeWithin, safe_attempt, safe_raises, safe_bind, safe_then, safe_takes, safe_looks, safe_if, safe_on, safe_allocate, safe_done, safe_values, safe_at, safe_anything, safe_raise, safe_fails, safe_may, safe_gives, safe_gives_all, safe_gives_pairs}
use Rattle.py_meaning.proofs.KeptValues.{all_held, repeated_safe, binary_safe, unary_safe, compare_safe, StepWithin, iterate_safe, items_safe}
use Rattle.py_meaning.proofs.KeptParts.{read_item_safe, store_item_safe, slice_safe, unpack_safe, item_value_safe, attribute_safe, store_attribute_safe, super_safe, matches_safe}
use Rattle.py_meaning.proofs.KeptNatives.{arguments_on, add_parts_safe, builtin_value_safe, load_safe, changed_within, store_safe}

-- ---- turns

pub request_on : {p : Program} (n k : Heap) (q : Request) → Grown p n k → RequestWithin p n q → RequestWithin p k q
request_on n k (call f as' site line) le h = (within_on n k f le h.0, arguments_on n k as' le h.1)
request_on n k (while_turn test body) le h = h
request_on n k (for_turn target body line v x) le h = (within_on n k v le h.0, within_on n k x le h.1, h.2)
request_on n k (outside_call c) le h = tt

pub safe_turn : {p : Program} {A : Type 0} (n : Heap) (P : Heap → A → Type 0) (q : Request) (k : Outcome → Action A) → RequestWithin p n q → ((o : Outcome) (j : Heap) → Grown p n j → OutcomeWithin j o → Safe p j P (k o)) → Safe p n P (turn q k)
safe_turn n P q k w h = record {
  keeps = λ root m good le base low. (good, (tt, request_on n m.heap q le w, λ o one u e. (h o u.heap (grown_on le e.0) e.2).keeps root u e.1 (grown_self u.heap) base (grown_on low e.0)));
}

-- ---- calls

pub flow_value : (n : Heap) (flow : Flow) → FlowWithin n flow → IsWithin n (value_of_flow flow)
flow_value n (returns v) h = h
flow_value n goes_on h = tt
flow_value n breaks h = tt
flow_value n continues h = tt

called_safe : {p : Program} (n : Heap) (o : Outcome) → OutcomeWithin n o → Safe p n IsWithin (called o)
called_safe n (came flow) h = safe_gives n (value_of_flow flow) (flow_value n flow h)
called_safe n (threw v) h = safe_raises n IsWithin v h

pub call_safe : {p : Program} (n : Heap) (f : Value) (as' : List Argument) (site line : ℕ) → IsWithin n f → ArgumentsWithin n as' → Safe p n IsWithin (call_value f as' site line)
call_safe n f as' site line a b = safe_turn n IsWithin (call f as' site line) called (a, b) (λ o j le w. called_safe j o w)

-- ---- `super()`

option_entry : (n : Heap) (o : Option ℕ) (es : Entries) → EntriesWithin n es → OptionWithin n (elim o [ None ↦ None | Some k ↦ entry es k ])
option_entry n None es h = tt
option_entry n (Some k) es h = entry_within n es k h

super_value : (p : Program) (line name : ℕ) (n : Heap) (own : Option ℕ) (o : Option Value) → OptionWithin n o → Safe p n IsWithin (elim o [ None ↦ anything | Some v ↦ super_attribute p line own v name ])
super_value p line name n own None h = safe_anything n
super_value p line name n own (Some v) h = super_safe p line n own v name h

super_in_safe : (p : Program) (line name : ℕ) (n : Heap) (o : Option Frame) → FrameWithin n o → Safe p n IsWithin (super_in p line name o)
super_in_safe p line name n None h = safe_anything n
super_in_safe p line name n (Some f) h = super_value p line name n (class_of_fun p f.function) (first_value p f) (option_entry n (first_parameter (fun_at p f.function)) f.locals h)

-- ---- choices between actions

pub kept_safe : {p : Program} (n : Heap) (b : Bool) (v : Value) (a : Action Value) → IsWithin n v → Safe p n IsWithin a → Safe p n IsWithin (kept_or b v a)
kept_safe n true v a h k = safe_gives n v h
kept_safe n false v a h k = k

pub chosen_safe : {p : Program} {A : Type 0} (n : Heap) (P : Heap → A → Type 0) (b : Bool) (a c : Action A) → Safe p n P a → Safe p n P c → Safe p n P (chosen b a c)
chosen_safe n P true a c h k = h
chosen_safe n P false a c h k = k

free_gives : {p : Program} {A : Type 0} (n : Heap) (x : A) → Safe p n Free (gives x)
free_gives n x = safe_give n Free x (λ k le. tt)

choice_safe : {p : Program} (n : Heap) → Safe p n Free by_choice
choice_safe n = safe_takes n Free _ (λ c. free_gives n (not (is_even c)))

truth_object_safe : {p : Program} (n : Heap) (o : Object) → Safe p n Free (truth_of_object o)
truth_object_safe n (object.list site vs) = free_gives n _
truth_object_safe n (object.tuple site layout vs) = free_gives n _
truth_object_safe n (object.dict site qs) = free_gives n _
truth_object_safe n (object.view site native receiver vs) = choice_safe n
truth_object_safe n (object.outside t) = choice_safe n
truth_object_safe n _ = free_gives n true

pub truth_safe : {p : Program} (n : Heap) (v : Value) → Safe p n Free (truth_of v)
truth_safe n none = free_gives n false
truth_safe n (truth b) = free_gives n b
truth_safe n (whole z) = free_gives n _
truth_safe n float = choice_safe n
truth_safe n (text e) = free_gives n _
truth_safe n (octets e) = free_gives n _
truth_safe n (ref place) = safe_at n Free place truth_of_object (λ o k le w. truth_object_safe k o)

pub literal_within : (n : Heap) (l : Literal) → IsWithin n (literal_value l)
literal_within n lit.NoneValue = tt
literal_within n lit.TrueValue = tt
literal_within n lit.FalseValue = tt
literal_within n (lit.Int b i) = tt
literal_within n lit.Float = tt
literal_within n (lit.Str e) = tt
literal_within n (lit.Bytes e) = tt

-- after a step that may raise
pub may_then : {p : Program} {A : Type 0} (n : Heap) (P : Heap → A → Type 0) (a : Action A) → Safe p n P a → Safe p n P (then_do may_raise a)
may_then n P a h = safe_then n Free P may_raise a (safe_may n) (λ k le. safe_on n k P a le h)

-- ---- expressions

safe_gives_args : {p : Program} (n : Heap) (as' : List Argument) → ArgumentsWithin n as' → Safe p n ArgumentsWithin (gives as')
safe_gives_args n as' h = safe_give n ArgumentsWithin as' (λ k le. arguments_on n k as' le h)

-- an operand, and its truth
with_truth : {p : Program} {A : Type 0} (n : Heap) (P : Heap → A → Type 0) (a : Action Value) (f : Value → Bool → Action A) → Safe p n IsWithin a → ((v : Value) (t : Bool) (k : Heap) → Grown p n k → IsWithin k v → Safe p k P (f v t)) → Safe p n P (bind a (λ v. bind (truth_of v) (f v)))
with_truth n P a f h g =
    safe_bind n IsWithin P a (λ v. bind (truth_of v) (f v)) h (λ v k le w. safe_bind k Free P (truth_of v) (f v) (truth_safe k v) (λ t j le' x. g v t j (grown_on le le') (within_on k j v le' w)))

mutual
  pub eval_safe : (p : Program) (x : Expr) (n : Heap) → Safe p n IsWithin (eval p x)
  eval_safe p (node kind line site) n = eval_kind_safe p kind line site n

  pub eval_kind_safe : (p : Program) (x : ExprKind) (line site : ℕ) (n : Heap) → Safe p n IsWithin (eval_kind p x line site)
  eval_kind_safe p (tree.name i) line site n = load_safe p n i
  eval_kind_safe p (tree.literal l) line site n = safe_gives n (literal_value l) (literal_within n l)
  eval_kind_safe p (tree.unary op a) line site n =
      safe_bind n IsWithin IsWithin (eval p a) (λ v. then_do may_raise (unary op line v)) (eval_safe p a n) (λ v k le w. may_then k IsWithin (unary op line v) (unary_safe op line k v))
  eval_kind_safe p (tree.binary op a b) line site n =
      safe_bind n IsWithin IsWithin (eval p a) (λ v. bind (eval p b) (λ w. then_do may_raise (binary p op site line v w))) (eval_safe p a n) (λ v k le x.
      safe_bind k IsWithin IsWithin (eval p b) (λ w. then_do may_raise (binary p op site line v w)) (eval_safe p b k) (λ w j le' y. may_then j IsWithin (binary p op site line v w) (binary_safe p op site line j v w)))
  eval_kind_safe p (tree.compare op a b) line site n =
      safe_bind n IsWithin IsWithin (eval p a) (λ v. bind (eval p b) (λ w. then_do may_raise (compare op line v w))) (eval_safe p a n) (λ v k le x.
      safe_bind k IsWithin IsWithin (eval p b) (λ w. then_do may_raise (compare op line v w)) (eval_safe p b k) (λ w j le' y. may_then j IsWithin (compare op line v w) (compare_safe op line j v w)))
  eval_kind_safe p (tree.not a) line site n = with_truth n IsWithin (eval p a) (λ v t. gives (truth (not t))) (eval_safe p a n) (λ v t k le w. safe_gives k (truth (not t)) tt)
  eval_kind_safe p (tree.and a b) line site n = with_truth n IsWithin (eval p a) (λ v t. kept_or (not t) v (eval p b)) (eval_safe p a n) (λ v t k le w. kept_safe k (not t) v (eval p b) w (eval_safe p b k))
  eval_kind_safe p (tree.or a b) line site n = with_truth n IsWithin (eval p a) (λ v t. kept_or t v (eval p b)) (eval_safe p a n) (λ v t k le w. kept_safe k t v (eval p b) w (eval_safe p b k))
  eval_kind_safe p (tree.choice a c b) line site n = with_truth n IsWithin (eval p c) (λ v t. chosen t (eval p a) (eval p b)) (eval_safe p c n) (λ v t k le w. chosen_safe k IsWithin t (eval p a) (eval p b) (eval_safe p a k) (eval_safe p b k))
  eval_kind_safe p (tree.attr a i) line site n =
      safe_bind n IsWithin IsWithin (eval p a) (λ v. then_do may_raise (read_attribute p line v i)) (eval_safe p a n) (λ v k le w. may_then k IsWithin (read_attribute p line v i) (attribute_safe p line k v i w))
  eval_kind_safe p (tree.super i) line site n =
      may_then n IsWithin (looks (λ m. super_in p line i m.scope.frame)) (safe_looks n IsWithin (λ m. super_in p line i m.scope.frame) (λ root m good le. super_in_safe p line i m.heap m.scope.frame good.scope.frame))
  eval_kind_safe p (tree.item a i) line site n =
      safe_bind n IsWithin IsWithin (eval p a) (λ v. bind (eval p i) (λ w. then_do may_raise (read_item p line v w))) (eval_safe p a n) (λ v k le x.
      safe_bind k IsWithin IsWithin (eval p i) (λ w. then_do may_raise (read_item p line v w)) (eval_safe p i k) (λ w j le' y. may_then j IsWithin (read_item p line v w) (read_item_safe p line j v w)))
  eval_kind_safe p (tree.slice a low high step) line site n =
      safe_bind n IsWithin IsWithin (eval p a) (λ v. then_do (eval_bound p low) (then_do (eval_bound p high) (then_do (eval_bound p step) (then_do may_raise (read_slice p site line v))))) (eval_safe p a n) (λ v k le w.
      safe_then k Free IsWithin (eval_bound p low) (then_do (eval_bound p high) (then_do (eval_bound p step) (then_do may_raise (read_slice p site line v)))) (eval_bound_safe p low k) (λ i le1.
      safe_then i Free IsWithin (eval_bound p high) (then_do (eval_bound p step) (then_do may_raise (read_slice p site line v))) (eval_bound_safe p high i) (λ j le2.
      safe_then j Free IsWithin (eval_bound p step) (then_do may_raise (read_slice p site line v)) (eval_bound_safe p step j) (λ l le3.
      may_then l IsWithin (read_slice p site line v) (slice_safe p site line l v (within_on k l v (grown_on le1 (grown_on le2 le3)) w))))))
  eval_kind_safe p (tree.call a xs) line site n =
      safe_bind n IsWithin IsWithin (eval p a) (λ v. bind (eval_args p xs) (λ as'. call_value v as' site line)) (eval_safe p a n) (λ v k le w.
      safe_bind k ArgumentsWithin IsWithin (eval_args p xs) (λ as'. call_value v as' site line) (eval_args_safe p xs k) (λ as' j le' x. call_safe j v as' site line (within_on k j v le' w) x))
  eval_kind_safe p (tree.tuple xs) line site n = safe_bind n AreWithin IsWithin (eval_all p xs) (λ vs. allocate (object.tuple site object.places vs)) (eval_all_safe p xs n) (λ vs k le w. safe_allocate k (object.tuple site object.places vs) w)
  eval_kind_safe p (tree.list xs) line site n = safe_bind n AreWithin IsWithin (eval_all p xs) (λ vs. allocate (object.list site vs)) (eval_all_safe p xs n) (λ vs k le w. safe_allocate k (object.list site vs) w)
  eval_kind_safe p (tree.dict qs) line site n = safe_bind n PairsWithin IsWithin (eval_pairs p qs) (λ vs. allocate (object.dict site vs)) (eval_pairs_safe p qs n) (λ vs k le w. safe_allocate k (object.dict site vs) w)

  pub eval_all_safe : (p : Program) (xs : Exprs) (n : Heap) → Safe p n AreWithin (eval_all p xs)
  eval_all_safe p no_exprs n = safe_gives_all n [] tt
  eval_all_safe p (expr x xs) n =
      safe_bind n IsWithin AreWithin (eval p x) (λ v. bind (eval_all p xs) (λ vs. gives (v ∷ vs))) (eval_safe p x n) (λ v k le w.
      safe_bind k AreWithin AreWithin (eval_all p xs) (λ vs. gives (v ∷ vs)) (eval_all_safe p xs k) (λ vs j le' y. safe_gives_all j (v ∷ vs) (within_on k j v le' w, y)))

  eval_bound_safe : (p : Program) (b : Bound) (n : Heap) → Safe p n Free (eval_bound p b)
  eval_bound_safe p no_bound n = safe_done n
  eval_bound_safe p (bound x) n = safe_bind n IsWithin Free (eval p x) (λ v. done) (eval_safe p x n) (λ v k le w. safe_done k)

  eval_args_safe : (p : Program) (xs : Args) (n : Heap) → Safe p n ArgumentsWithin (eval_args p xs)
  eval_args_safe p no_args n = safe_gives_args n [] tt
  eval_args_safe p (arg i x xs) n =
      safe_bind n IsWithin ArgumentsWithin (eval p x) (λ v. bind (eval_args p xs) (λ as'. gives (record { name = i; value = v } ∷ as'))) (eval_safe p x n) (λ v k le w.
      safe_bind k ArgumentsWithin ArgumentsWithin (eval_args p xs) (λ as'. gives (record { name = i; value = v } ∷ as')) (eval_args_safe p xs k) (λ as' j le' y. safe_gives_args j (record { name = i; value = v } ∷ as') (within_on k j v le' w, y)))

  eval_pairs_safe : (p : Program) (qs : Pairs) (n : Heap) → Safe p n PairsWithin (eval_pairs p qs)
  eval_pairs_safe p no_pairs n = safe_gives_pairs n [] tt
  eval_pairs_safe p (pair k x qs) n =
      safe_bind n IsWithin PairsWithin (eval p k) (λ v. bind (eval p x) (λ w. bind (eval_pairs p qs) (λ vs. gives ((v, w) ∷ vs)))) (eval_safe p k n) (λ v i le a.
      safe_bind i IsWithin PairsWithin (eval p x) (λ w. bind (eval_pairs p qs) (λ vs. gives ((v, w) ∷ vs))) (eval_safe p x i) (λ w j le' b.
      safe_bind j PairsWithin PairsWithin (eval_pairs p qs) (λ vs. gives ((v, w) ∷ vs)) (eval_pairs_safe p qs j) (λ vs l le'' c. safe_gives_pairs l ((v, w) ∷ vs) (within_on i l v (grown_on le' le'') a, within_on j l w le'' b, c))))

-- ---- targets

head_within : (n : Heap) (vs : List Value) → AreWithin n vs → IsWithin n (head_or vs)
head_within n [] h = tt
head_within n (v ∷ vs) h = h.0

tail_within : (n : Heap) (vs : List Value) → AreWithin n vs → AreWithin n (tail_of vs)
tail_within n [] h = tt
tail_within n (v ∷ vs) h = h.1

mutual
  pub put_safe : (p : Program) (x : Expr) (n : Heap) (v : Value) → IsWithin n v → Safe p n Free (put p x v)
  put_safe p (node kind line site) n v a = put_kind_safe p kind line n v a

  put_kind_safe : (p : Program) (x : ExprKind) (line : ℕ) (n : Heap) (v : Value) → IsWithin n v → Safe p n Free (put_kind p x line v)
  put_kind_safe p (tree.name i) line n v a = store_safe p n i v a
  put_kind_safe p (tree.attr o i) line n v a =
      safe_bind n IsWithin Free (eval p o) (λ w. then_do may_raise (store_attribute line w i v)) (eval_safe p o n) (λ w k le x. may_then k Free (store_attribute line w i v) (store_attribute_safe line k w i v (within_on n k v le a)))
  put_kind_safe p (tree.item o i) line n v a =
      safe_bind n IsWithin Free (eval p o) (λ w. bind (eval p i) (λ j. then_do may_raise (store_item line w j v))) (eval_safe p o n) (λ w k le x.
      safe_bind k IsWithin Free (eval p i) (λ j. then_do may_raise (store_item line w j v)) (eval_safe p i k) (λ j l le' y. may_then l Free (store_item line w j v) (store_item_safe line l w j v y (within_on n l v (grown_on le le') a))))
  put_kind_safe p (tree.tuple ts) line n v a = safe_bind n AreWithin Free (unpack p line (count_of ts) v) (put_all p ts) (unpack_safe p line (count_of ts) n v a) (λ vs k le w. put_all_safe p ts k vs w)
  put_kind_safe p (tree.list ts) line n v a = safe_bind n AreWithin Free (unpack p line (count_of ts) v) (put_all p ts) (unpack_safe p line (count_of ts) n v a) (λ vs k le w. put_all_safe p ts k vs w)
  put_kind_safe p _ line n v a = safe_done n

  put_all_safe : (p : Program) (xs : Exprs) (n : Heap) (vs : List Value) → AreWithin n vs → Safe p n Free (put_all p xs vs)
  put_all_safe p no_exprs n vs a = safe_done n
  put_all_safe p (expr t ts) n vs a = safe_then n Free Free (put p t (head_or vs)) (put_all p ts (tail_of vs)) (put_safe p t n (head_or vs) (head_within n vs a)) (λ k le. put_all_safe p ts k (tail_of vs) (are_on n k (tail_of vs) le (tail_within n vs a)))

put_each_safe : (p : Program) (xs : Exprs) (n : Heap) (v : Value) → IsWithin n v → Safe p n Free (put_each p xs v)
put_each_safe p no_exprs n v a = safe_done n
put_each_safe p (expr t ts) n v a = safe_then n Free Free (put p t v) (put_each p ts v) (put_safe p t n v a) (λ k le. put_each_safe p ts k v (within_on n k v le a))

extend_safe : (p : Program) (line place : ℕ) (n : Heap) (w : Value) → IsWithin n (ref place) → IsWithin n w → Safe p n IsWithin (extend_in_place p line place w)
extend_safe p line place n w a b =
    safe_looks n IsWithin (λ m. if is_iterable m.heap w then bind (items_of p w) (λ ws. then_do (add_parts place ws) (gives (ref place))) else fails line not_iterable) (λ root m good le.
    safe_if m.heap IsWithin (is_iterable m.heap w) (bind (items_of p w) (λ ws. then_do (add_parts place ws) (gives (ref place)))) (fails line not_iterable)
    (safe_bind m.heap AreWithin IsWithin (items_of p w) (λ ws. then_do (add_parts place ws) (gives (ref place))) (items_safe p m.heap w (within_on n m.heap w le b)) (λ ws k le' x.
    safe_then k Free IsWithin (add_parts place ws) (gives (ref place)) (add_parts_safe place k ws x) (λ j le''. safe_gives j (ref place) (within_on n j (ref place) (grown_on le (grown_on le' le'')) a))))
    (safe_fails m.heap IsWithin line not_iterable))

repeat_safe : (p : Program) (place : ℕ) (n : Heap) (vs : List Value) → IsWithin n (ref place) → AreWithin n vs → Safe p n IsWithin (repeat_in_place p place vs)
repeat_safe p place n vs a b =
    safe_bind n AreWithin IsWithin (repeated p (map held vs)) (λ ws. then_do (refill place (object.of_values ws)) (gives (ref place))) (repeated_safe p n (map held vs) (all_held n vs b)) (λ ws k le w.
    safe_then k Free IsWithin (refill place (object.of_values ws)) (gives (ref place)) (safe_values k place (ws) w) (λ j le'. safe_gives j (ref place) (within_on n j (ref place) (grown_on le le') a)))

own_list_safe : (p : Program) (op : BinOp) (site line place : ℕ) (n : Heap) (w : Value) (vs : List Value) → IsWithin n (ref place) → IsWithin n w → AreWithin n vs → Safe p n IsWithin (in_own_list p op site line place w vs)
own_list_safe p bin.Add site line place n w vs a b h = extend_safe p line place n w a b
own_list_safe p bin.Mul site line place n w vs a b h =
    safe_if n IsWithin (is_whole w) (repeat_in_place p place vs) (binary p bin.Mul site line (ref place) w) (repeat_safe p place n vs a h) (binary_safe p bin.Mul site line n (ref place) w)
own_list_safe p op site line place n w vs a b h = binary_safe p op site line n (ref place) w

outside_list_safe : (p : Program) (op : BinOp) (site line place : ℕ) (n : Heap) (w : Value) → IsWithin n (ref place) → Safe p n IsWithin (in_outside_list p op site line place w)
outside_list_safe p bin.Add site line place n w a = safe_gives n (ref place) a
outside_list_safe p bin.Mul site line place n w a = safe_gives n (ref place) a
outside_list_safe p op site line place n w a = binary_safe p op site line n (ref place) w

in_place_object_safe : (p : Program) (op : BinOp) (site line place : ℕ) (n : Heap) (w : Value) (o : Object) → IsWithin n (ref place) → IsWithin n w → ObjectWithin n o → Safe p n IsWithin (in_place_object p op site line place w o)
in_place_object_safe p op site line place n w (object.list own vs) a b h = own_list_safe p op site line place n w vs a b h
in_place_object_safe p op site line place n w (object.outside (term.list t)) a b h = outside_list_safe p op site line place n w a
in_place_object_safe p op site line place n w o a b h = binary_safe p op site line n (ref place) w

in_place_safe : (p : Program) (op : BinOp) (site line : ℕ) (n : Heap) (v w : Value) → IsWithin n v → IsWithin n w → Safe p n IsWithin (in_place p op site line v w)
in_place_safe p op site line n (ref place) w a b = safe_at n IsWithin place (in_place_object p op site line place w) (λ o k le x. in_place_object_safe p op site line place k w o (within_on n k (ref place) le a) (within_on n k w le b) x)
in_place_safe p op site line n none w a b = binary_safe p op site line n none w
in_place_safe p op site line n v w a b = binary_safe p op site line n v w

-- an operation in place, and the store of what it gives
step_in_place : (p : Program) (op : BinOp) (site line : ℕ) (n : Heap) (v w : Value) (f : Value → Action (Unit {0})) → IsWithin n v → IsWithin n w → ((x : Value) (k : Heap) → Grown p n k → IsWithin k x → Safe p k Free (f x)) → Safe p n Free (then_do may_raise (bind (in_place p op site line v w) f))
step_in_place p op site line n v w f a b g = may_then n Free (bind (in_place p op site line v w) f) (safe_bind n IsWithin Free (in_place p op site line v w) f (in_place_safe p op site line n v w a b) g)

augment_attr : (p : Program) (op : BinOp) (line own site : ℕ) (n : Heap) (i : ℕ) (e : Expr) (q : Value) → IsWithin n q →
    Safe p n Free (bind (read_attribute p own q i) (λ v. bind (eval p e) (λ w. then_do may_raise (bind (in_place p op site line v w) (λ x. then_do may_raise (store_attribute own q i x))))))
augment_attr p op line own site n i e q a =
    safe_bind n IsWithin Free (read_attribute p own q i) (λ v. bind (eval p e) (λ w. then_do may_raise (bind (in_place p op site line v w) (λ x. then_do may_raise (store_attribute own q i x))))) (attribute_safe p own n q i a) (λ v k le b.
    safe_bind k IsWithin Free (eval p e) (λ w. then_do may_raise (bind (in_place p op site line v w) (λ x. then_do may_raise (store_attribute own q i x)))) (eval_safe p e k) (λ w j le' c.
    step_in_place p op site line j v w (λ x. then_do may_raise (store_attribute own q i x)) (within_on k j v le' b) c (λ x l le'' d. may_then l Free (store_attribute own q i x) (store_attribute_safe own l q i x d))))

augment_item : (p : Program) (op : BinOp) (line own site : ℕ) (n : Heap) (e : Expr) (q j : Value) → IsWithin n j →
    Safe p n Free (bind (read_item p own q j) (λ v. bind (eval p e) (λ w. then_do may_raise (bind (in_place p op site line v w) (λ x. then_do may_raise (store_item own q j x))))))
augment_item p op line own site n e q j a =
    safe_bind n IsWithin Free (read_item p own q j) (λ v. bind (eval p e) (λ w. then_do may_raise (bind (in_place p op site line v w) (λ x. then_do may_raise (store_item own q j x))))) (read_item_safe p own n q j) (λ v k le b.
    safe_bind k IsWithin Free (eval p e) (λ w. then_do may_raise (bind (in_place p op site line v w) (λ x. then_do may_raise (store_item own q j x)))) (eval_safe p e k) (λ w i le' c.
    step_in_place p op site line i v w (λ x. then_do may_raise (store_item own q j x)) (within_on k i v le' b) c (λ x l le'' d. may_then l Free (store_item own q j x) (store_item_safe own l q j x (within_on n l j (grown_on le (grown_on le' le'')) a) d))))

augment_safe : (p : Program) (op : BinOp) (line : ℕ) (t e : Expr) (n : Heap) → Safe p n Free (augment p op line t e)
augment_safe p op line (node (tree.name i) own site) e n =
    safe_bind n IsWithin Free (load p i) (λ v. bind (eval p e) (λ w. then_do may_raise (bind (in_place p op site line v w) (store p i)))) (load_safe p n i) (λ v k le a.
    safe_bind k IsWithin Free (eval p e) (λ w. then_do may_raise (bind (in_place p op site line v w) (store p i))) (eval_safe p e k) (λ w j le' b.
    step_in_place p op site line j v w (store p i) (within_on k j v le' a) b (λ x l le'' c. store_safe p l i x c)))
augment_safe p op line (node (tree.attr o i) own site) e n =
    safe_bind n IsWithin Free (eval p o) _ (eval_safe p o n) (λ q k le a. may_then k Free (bind (read_attribute p own q i) (λ v. bind (eval p e) (λ w. then_do may_raise (bind (in_place p op site line v w) (λ x. then_do may_raise (store_attribute own q i x)))))) (augment_attr p op line own site k i e q a))
augment_safe p op line (node (tree.item o i) own site) e n =
    safe_bind n IsWithin Free (eval p o) _ (eval_safe p o n) (λ q k le a. safe_bind k IsWithin Free (eval p i) _ (eval_safe p i k) (λ j l le' b.
    may_then l Free (bind (read_item p own q j) (λ v. bind (eval p e) (λ w. then_do may_raise (bind (in_place p op site line v w) (λ x. then_do may_raise (store_item own q j x)))))) (augment_item p op line own site l e q j b)))
augment_safe p op line (node (tree.literal l) own site) e n = safe_done n
augment_safe p op line (node _ own site) e n = safe_done n

-- ---- imports

module_value_safe : {p : Program} (n : Heap) (home : List ℕ) (o : Option Stub) → Safe p n IsWithin (module_value home o)
module_value_safe n home None = safe_anything n
module_value_safe n home (Some s) = safe_allocate n (object.imported home) tt

imported_safe : (p : Program) (home name : List ℕ) (n : Heap) (o : Option Item) → Safe p n IsWithin (imported_item p home name o)
imported_safe p home name n None = safe_anything n
imported_safe p home name n (Some i) = item_value_safe p home name n i

store_if_safe : (p : Program) (n : Heap) (o : Option ℕ) (v : Value) → IsWithin n v → Safe p n Free (store_if p o v)
store_if_safe p n None v a = safe_done n
store_if_safe p n (Some name) v a = store_safe p n name v a

import_one_safe : (p : Program) (q : ImportPart) (n : Heap) → Safe p n Free (import_one p q)
import_one_safe p q n =
    may_then n Free (bind (module_value (module_name p q.path) (stub_at p (module_name p q.path))) (store_if p (bound_name q.alias q.path)))
    (safe_bind n IsWithin Free (module_value (module_name p q.path) (stub_at p (module_name p q.path))) (store_if p (bound_name q.alias q.path)) (module_value_safe n (module_name p q.path) (stub_at p (module_name p q.path))) (λ v k le w. store_if_safe p k (bound_name q.alias q.path) v w))

import_all_safe : (p : Program) (qs : List ImportPart) (n : Heap) → Safe p n Free (import_all p qs)
import_all_safe p [] n = safe_done n
import_all_safe p (q ∷ qs) n = safe_then n Free Free (import_one p q) (import_all p qs) (import_one_safe p q n) (λ k le. import_all_safe p qs k)

take_one_safe : (p : Program) (home : List ℕ) (q : FromPart) (n : Heap) → Safe p n Free (take_one p home q)
take_one_safe p home q n =
    let item : Option Item = option_and_then (λ s. item_in s home (text_at p q.name)) (stub_at p home) in
    may_then n Free (bind (imported_item p home (text_at p q.name) item) (store_if p (bound_name q.alias (q.name ∷ []))))
    (safe_bind n IsWithin Free (imported_item p home (text_at p q.name) item) (store_if p (bound_name q.alias (q.name ∷ []))) (imported_safe p home (text_at p q.name) n item) (λ v k le w. store_if_safe p k (bound_name q.alias (q.name ∷ [])) v w))

take_all_safe : (p : Program) (home : List ℕ) (qs : List FromPart) (n : Heap) → Safe p n Free (take_all p home qs)
take_all_safe p home [] n = safe_done n
take_all_safe p home (q ∷ qs) n = safe_then n Free Free (take_one p home q) (take_all p home qs) (take_one_safe p home q n) (λ k le. take_all_safe p home qs k)

-- ---- exceptions

made_exception_safe : {p : Program} (n : Heap) (v : Value) (site line : ℕ) → IsWithin n v → Safe p n IsWithin (made_exception v site line)
made_exception_safe n v site line a =
    safe_looks n IsWithin (λ m. chosen (is_some (class_at m.heap v)) (call_value v [] site line) (then_do may_raise (gives v))) (λ root m good le.
    chosen_safe m.heap IsWithin (is_some (class_at m.heap v)) (call_value v [] site line) (then_do may_raise (gives v)) (call_safe m.heap v [] site line (within_on n m.heap v le a) tt) (may_then m.heap IsWithin (gives v) (safe_gives m.heap v (within_on n m.heap v le a))))

raise_value_safe : {A : Type 0} (p : Program) (n : Heap) (P : Heap → A → Type 0) (v : Value) → IsWithin n v → Safe p n P (raise_value p v)
raise_value_safe p n P v a =
    may_then n P (looks (λ m. if is_exception_value p m.heap v then raises v else raise_builtin (codes "TypeError"))) (safe_looks n P (λ m. if is_exception_value p m.heap v then raises v else raise_builtin (codes "TypeError")) (λ root m good le.
    safe_if m.heap P (is_exception_value p m.heap v) (raises v) (raise_builtin (codes "TypeError")) (safe_raises m.heap P v (within_on n m.heap v le a)) (safe_raise m.heap P (codes "TypeError"))))

raise_made_safe : {A : Type 0} (p : Program) (n : Heap) (P : Heap → A → Type 0) (v : Value) (site line : ℕ) → IsWithin n v → Safe p n P (raise_made p v site line)
raise_made_safe p n P v site line a = safe_bind n IsWithin P (made_exception v site line) (raise_value p) (made_exception_safe n v site line a) (λ w k le x. raise_value_safe p k P w x)

handled_safe : {p : Program} {A : Type 0} (n : Heap) (P : Heap → A → Type 0) (o : Option Value) → OptionWithin n o → Safe p n P (handled_or_error o)
handled_safe n P None h = safe_raise n P (codes "RuntimeError")
handled_safe n P (Some v) h = safe_raises n P v h

raise_again_safe : {p : Program} {A : Type 0} (n : Heap) (P : Heap → A → Type 0) → Safe p n P raise_again
raise_again_safe n P = may_then n P (looks (λ m. handled_or_error m.scope.handled)) (safe_looks n P (λ m. handled_or_error m.scope.handled) (λ root m good le. handled_safe m.heap P m.scope.handled good.scope.handled))

raise_assertion_safe : {A : Type 0} (p : Program) (n : Heap) (P : Heap → A → Type 0) (site line : ℕ) → Safe p n P (raise_assertion p site line)
raise_assertion_safe p n P site line =
    safe_bind n IsWithin P (then_do may_raise (builtin_value (codes "AssertionError"))) (λ k. raise_made p k site line) (may_then n IsWithin (builtin_value (codes "AssertionError")) (builtin_value_safe n (codes "AssertionError"))) (λ v k le w. raise_made_safe p k P v site line w)

-- ---- flows

pub flow_on : {p : Program} (n k : Heap) (flow : Flow) → Grown p n k → FlowWithin n flow → FlowWithin k flow
flow_on n k (returns v) le h = within_on n k v le h
flow_on n k goes_on le h = tt
flow_on n k breaks le h = tt
flow_on n k continues le h = tt

pub gives_flow : {p : Program} (n : Heap) (flow : Flow) → FlowWithin n flow → Safe p n FlowWithin (gives flow)
gives_flow n flow h = safe_give n FlowWithin flow (λ k le. flow_on n k flow le h)

pub and_on_safe : {p : Program} {A : Type 0} (n : Heap) (P : Heap → A → Type 0) (a : Action A) → Safe p n P a → Safe p n FlowWithin (and_on a)
and_on_safe n P a h = safe_bind n P FlowWithin a (λ x. gives goes_on) h (λ x k le w. gives_flow k goes_on tt)

pub then_next_safe : {p : Program} (n : Heap) (flow : Flow) (a : Action Flow) → FlowWithin n flow → Safe p n FlowWithin a → Safe p n FlowWithin (then_next flow a)
then_next_safe n goes_on a h k = k
then_next_safe n breaks a h k = gives_flow n breaks tt
then_next_safe n continues a h k = gives_flow n continues tt
then_next_safe n (returns v) a h k = gives_flow n (returns v) h

pub once_more_safe : {p : Program} (n : Heap) (flow : Flow) (a : Action Flow) → FlowWithin n flow → Safe p n FlowWithin a → Safe p n FlowWithin (once_more flow a)
once_more_safe n goes_on a h k = k
once_more_safe n continues a h k = k
once_more_safe n breaks a h k = gives_flow n goes_on tt
once_more_safe n (returns v) a h k = gives_flow n (returns v) h

through_safe : {p : Program} (n : Heap) (o : Outcome) → OutcomeWithin n o → Safe p n FlowWithin (through o)
through_safe n (came flow) h = gives_flow n flow h
through_safe n (threw v) h = safe_raises n FlowWithin v h

-- ---- simple statements

evaluated_safe : (p : Program) (o : Option Expr) (n : Heap) → Safe p n Free (evaluated p o)
evaluated_safe p None n = safe_done n
evaluated_safe p (Some x) n = safe_bind n IsWithin Free (eval p x) (λ v. done) (eval_safe p x n) (λ v k le w. safe_done k)

returned_safe : (p : Program) (o : Option Expr) (n : Heap) → Safe p n FlowWithin (returned_value p o)
returned_safe p None n = gives_flow n (returns none) tt
returned_safe p (Some x) n = safe_bind n IsWithin FlowWithin (eval p x) (λ v. gives (returns v)) (eval_safe p x n) (λ v k le w. gives_flow k (returns v) w)

raised_safe : (p : Program) (line : ℕ) (o cause : Option Expr) (n : Heap) → Safe p n FlowWithin (statements.raised p line o cause)
raised_safe p line None cause n = raise_again_safe n FlowWithin
raised_safe p line (Some x) cause n =
    safe_bind n IsWithin FlowWithin (eval p x) (λ v. then_do (evaluated p cause) (raise_made p v (site_of x) line)) (eval_safe p x n) (λ v k le w.
    safe_then k Free FlowWithin (evaluated p cause) (raise_made p v (site_of x) line) (evaluated_safe p cause k) (λ j le'. raise_made_safe p j FlowWithin v (site_of x) line (within_on k j v le' w)))

assertion_safe : (p : Program) (line : ℕ) (x : Expr) (message : Option Expr) (n : Heap) → Safe p n FlowWithin (assertion p line x message)
assertion_safe p line x message n =
    with_truth n FlowWithin (eval p x) (λ v t. chosen t (gives goes_on) (then_do (evaluated p message) (raise_assertion p (site_of x) line))) (eval_safe p x n) (λ v t k le w.
    chosen_safe k FlowWithin t (gives goes_on) (then_do (evaluated p message) (raise_assertion p (site_of x) line)) (gives_flow k goes_on tt) (safe_then k Free FlowWithin (evaluated p message) (raise_assertion p (site_of x) line) (evaluated_safe p message k) (λ j le'. raise_assertion_safe p j FlowWithin (site_of x) line)))

annotated_safe : (p : Program) (x : Expr) (n : Heap) → Safe p n Free (annotated_target p x)
annotated_safe p (node (tree.attr o i) line site) n = safe_bind n IsWithin Free (eval p o) (λ v. done) (eval_safe p o n) (λ v k le w. safe_done k)
annotated_safe p (node (tree.name i) line site) n = safe_done n
annotated_safe p (node _ line site) n = safe_done n

annotation_safe : (p : Program) (t : Expr) (o : Option Expr) (n : Heap) → Safe p n Free (annotation p t o)
annotation_safe p t None n = annotated_safe p t n
annotation_safe p t (Some x) n = safe_bind n IsWithin Free (eval p x) (put p t) (eval_safe p x n) (λ v k le w. put_safe p t k v w)

assigned_safe : (p : Program) (ts : Exprs) (x : Expr) (n : Heap) → Safe p n Free (bind (eval p x) (put_each p ts))
assigned_safe p ts x n = safe_bind n IsWithin Free (eval p x) (put_each p ts) (eval_safe p x n) (λ v k le w. put_each_safe p ts k v w)

-- ---- loops

pub while_safe : (p : Program) (test : Expr) (body : Stmts) (n : Heap) → Block p body → Safe p n FlowWithin (run_while p test body)
while_safe p test body n b =
    with_truth n FlowWithin (eval p test) (λ v t. chosen t (turn (while_turn test body) through) (gives goes_on)) (eval_safe p test n) (λ v t k le w.
    chosen_safe k FlowWithin t (turn (while_turn test body) through) (gives goes_on) (safe_turn k FlowWithin (while_turn test body) through b (λ o j le' x. through_safe j o x)) (gives_flow k goes_on tt))

for_step_safe : {p : Program} (target : Expr) (body : Stmts) (line : ℕ) (n : Heap) (v : Value) (one : Step) → IsWithin n v → StepWithin n one → Block p body → Safe p n FlowWithin (for_step target body line v one)
for_step_safe target body line n v no_items a h b = safe_fails n FlowWithin line not_iterable
for_step_safe target body line n v ended a h b = gives_flow n goes_on tt
for_step_safe target body line n v (element x) a h b = safe_turn n FlowWithin (for_turn target body line v x) through (a, h, b) (λ o j le w. through_safe j o w)

pub for_safe : (p : Program) (target : Expr) (body : Stmts) (line : ℕ) (n : Heap) (v : Value) → IsWithin n v → Block p body → Safe p n FlowWithin (run_for p target body line v)
for_safe p target body line n v a b =
    may_then n FlowWithin (bind (iterate p v) (for_step target body line v)) (safe_bind n StepWithin FlowWithin (iterate p v) (for_step target body line v) (iterate_safe p n v a) (λ one k le w. for_step_safe target body line k v one (within_on n k v le a) w b))

-- ---- functions and classes

entered_member : {p : Program} {root : Heap} (m : Memory) (place name : ℕ) (v : Value) (o : Object) → Good p root m → o ≡ object_at m.heap place → ObjectWithin m.heap o → IsWithin m.heap v → SafeIn p root m Free (with_member place name v o)
entered_member m place name v (object.class c es) good e h a = enter_class m place c name es v good e h a
entered_member {p} {root} m place name v (object.list site vs) good e h a = (safe_done m.heap).keeps root m good (grown_self m.heap)
entered_member {p} {root} m place name v o good e h a = (safe_done m.heap).keeps root m good (grown_self m.heap)

pub set_member_safe : {p : Program} (place name : ℕ) (n : Heap) (v : Value) → IsWithin n v → Safe p n Free (set_member place name v)
set_member_safe place name n v a = safe_at_now n Free place (with_member place name v) (λ root m good le o e w. entered_member m place name v o good e w (within_on n m.heap v le a))

pub put_member_safe : (p : Program) (place : ℕ) (x : Member) (n : Heap) → Safe p n Free (put_member p place x)
put_member_safe p place (tree.value i x line) n = safe_bind n IsWithin Free (eval p x) (set_member place i) (eval_safe p x n) (λ v k le w. set_member_safe place i k v w)
put_member_safe p place (tree.declared i (Some x) line) n = safe_bind n IsWithin Free (eval p x) (set_member place i) (eval_safe p x n) (λ v k le w. set_member_safe place i k v w)
put_member_safe p place tree.pass_member n = safe_done n
put_member_safe p place _ n = safe_done n

pub put_members_safe : (p : Program) (place : ℕ) (ms : Members) (n : Heap) → Safe p n Free (put_members p place ms)
put_members_safe p place no_members n = safe_done n
put_members_safe p place (member x xs) n = safe_then n Free Free (put_member p place x) (put_members p place xs) (put_member_safe p place x n) (λ k le. put_members_safe p place xs k)

pub put_method_safe : {p : Program} (place : ℕ) (x : Member) (n : Heap) → Safe p n Free (put_method place x)
put_method_safe place (tree.method (fun_def id name params body line)) n = safe_bind n IsWithin Free (allocate (object.function id)) (set_member place name) (safe_allocate n (object.function id) tt) (λ v k le w. set_member_safe place name k v w)
put_method_safe place tree.pass_member n = safe_done n
put_method_safe place _ n = safe_done n

pub put_methods_safe : {p : Program} (place : ℕ) (ms : Members) (n : Heap) → Safe p n Free (put_methods place ms)
put_methods_safe place no_members n = safe_done n
put_methods_safe place (member x xs) n = safe_then n Free Free (put_method place x) (put_methods place xs) (put_method_safe place x n) (λ k le. put_methods_safe place xs k)

pub fill_class_safe : (p : Program) (ms : Members) (n : Heap) (v : Value) → Safe p n Free (fill_class p ms v)
fill_class_safe p ms n (ref place) = safe_then n Free Free (put_members p place ms) (put_methods place ms) (put_members_safe p place ms n) (λ k le. put_methods_safe place ms k)
fill_class_safe p ms n none = safe_done n
fill_class_safe p ms n _ = safe_done n

define_class_safe : (p : Program) (c : ClassDef) (n : Heap) → (ClassesApart p → ⊥) → Safe p n Free (define_class p c)
define_class_safe p (class_def id name base ms line) n h =
    safe_bind n IsWithin Free (allocate (object.class id [])) (λ c. then_do (fill_class p ms c) (store p name c)) (safe_allocate n (object.class id []) (tt, h)) (λ c k le w.
    safe_then k Free Free (fill_class p ms c) (store p name c) (fill_class_safe p ms k c) (λ j le'. store_safe p j name c (within_on k j c le' w)))

pub define_function_safe : (p : Program) (f : FunDef) (n : Heap) → Safe p n Free (define_function p f)
define_function_safe p (fun_def id name params body line) n = safe_bind n IsWithin Free (allocate (object.function id)) (store p name) (safe_allocate n (object.function id) tt) (λ v k le w. store_safe p k name v w)

-- ---- statements

unbound_within : (p : Program) (n : Heap) (name : ℕ) (c : Scope) → ScopeWithin n c → ScopeWithin n (unbound p name c)
unbound_within p n name c good = changed_within p n name (λ es. without_entry es name) c good (λ es h. without_entry_within n es name h) c.frame good.frame

named_safe : (p : Program) (o : Option ℕ) (n : Heap) (v : Value) (a : Action Flow) → IsWithin n v → ((k : Heap) → Grown p n k → Safe p k FlowWithin a) → Safe p n FlowWithin (named p o v a)
named_safe p None n v a w h = h n (grown_self n)
named_safe p (Some name) n v a w h =
    safe_then n Free FlowWithin (store p name v) (afterwards a (unbound p name)) (store_safe p n name v w) (λ k le.
    safe_afterwards k FlowWithin a (unbound p name) gives_flow (λ c j le' good. unbound_within p j name c good) (h k le))

handled_within : (n : Heap) (o : Option Value) (c : Scope) → ScopeWithin n c → OptionWithin n o → ScopeWithin n (with_handled o c)
handled_within n o c good h = record { globals = good.globals; frame = good.frame; handled = h }

handling_safe : {p : Program} (n : Heap) (v : Value) (a : Action Flow) → IsWithin n v → ((k : Heap) → Grown p n k → Safe p k FlowWithin a) → Safe p n FlowWithin (handling v a)
handling_safe n v a w h =
    safe_looks n FlowWithin (λ m. changes (with_handled (Some v)) (afterwards a (with_handled m.scope.handled))) (λ root m good le.
    safe_changes m.heap FlowWithin (with_handled (Some v)) (afterwards a (with_handled m.scope.handled)) (λ c k le' within. handled_within k (Some v) c within (within_on n k v (grown_on le le') w))
    (safe_afterwards m.heap FlowWithin a (with_handled m.scope.handled) gives_flow (λ c k le' within. handled_within k m.scope.handled c within (option_on m.heap k m.scope.handled le' good.scope.handled)) (h m.heap le)))

-- no class stands in a statement, in arms, in clauses
abbrev pub BlockKind : Program → StmtKind → Type 0
BlockKind p kind = ClassesApart p → ((w : Surroundings) × IsFormedKind w kind)

abbrev BlockArms : Program → Arms → Type 0
BlockArms p as' = ClassesApart p → ((w : Surroundings) × AreFormedArms w as')

abbrev BlockHandlers : Program → Handlers → Type 0
BlockHandlers p hs = ClassesApart p → ((w : Surroundings) × AreFormedHandlers w hs)

mutual
  pub exec_kind_safe : (p : Program) (s : StmtKind) (line : ℕ) (n : Heap) → BlockKind p s → Safe p n FlowWithin (exec_kind p s line)
  exec_kind_safe p tree.pass line n b = gives_flow n goes_on tt
  exec_kind_safe p tree.break line n b = gives_flow n breaks tt
  exec_kind_safe p tree.continue line n b = gives_flow n continues tt
  exec_kind_safe p tree.ellipsis line n b = gives_flow n goes_on tt
  exec_kind_safe p (tree.return o) line n b = returned_safe p o n
  exec_kind_safe p (tree.raise o cause) line n b = raised_safe p line o cause n
  exec_kind_safe p (tree.assert x message) line n b = assertion_safe p line x message n
  exec_kind_safe p (tree.import qs) line n b = and_on_safe n Free (import_all p qs) (import_all_safe p qs n)
  exec_kind_safe p (tree.from path qs) line n b = and_on_safe n Free (take_all p (module_name p path) qs) (take_all_safe p (module_name p path) qs n)
  exec_kind_safe p (tree.global is) line n b = gives_flow n goes_on tt
  exec_kind_safe p (tree.assign ts x) line n b = and_on_safe n Free (bind (eval p x) (put_each p ts)) (assigned_safe p ts x n)
  exec_kind_safe p (tree.augment t op x) line n b = and_on_safe n Free (augment p op line t x) (augment_safe p op line t x n)
  exec_kind_safe p (tree.annotated t o) line n b = and_on_safe n Free (annotation p t o) (annotation_safe p t o n)
  exec_kind_safe p (tree.expression x) line n b = and_on_safe n IsWithin (eval p x) (eval_safe p x n)
  exec_kind_safe p (tree.if arms otherwise) line n b = exec_arms_safe p arms (exec_all p otherwise) n (λ c. ((b c).0, (b c).1.0)) (λ k le. exec_all_safe p otherwise k (λ c. ((b c).0, (b c).1.1)))
  exec_kind_safe p (tree.while test body) line n b = while_safe p test body n (λ c. (looped (b c).0, (b c).1.1))
  exec_kind_safe p (tree.for target x body) line n b = safe_bind n IsWithin FlowWithin (eval p x) (run_for p target body line) (eval_safe p x n) (λ v k le w. for_safe p target body line k v w (λ c. (looped (b c).0, (b c).1.2)))
  exec_kind_safe p (tree.try body handlers otherwise) line n b =
      safe_attempt n FlowWithin FlowWithin (exec_all p body) (λ flow. then_next flow (exec_all p otherwise)) (λ v. handling v (exec_handlers p v handlers)) (exec_all_safe p body n (λ c. ((b c).0, (b c).1.0)))
      (λ flow k le w. then_next_safe k flow (exec_all p otherwise) w (exec_all_safe p otherwise k (λ c. ((b c).0, (b c).1.2))))
      (λ v k le w. handling_safe k v (exec_handlers p v handlers) w (λ j le'. exec_handlers_safe p handlers v j (λ c. ((b c).0, (b c).1.1)) (within_on k j v le' w)))
  exec_kind_safe p (tree.def f) line n b = and_on_safe n Free (define_function p f) (define_function_safe p f n)
  exec_kind_safe p (tree.class c) line n b = and_on_safe n Free (define_class p c) (define_class_safe p c n (λ x. (b x).1))

  pub exec_all_safe : (p : Program) (ss : Stmts) (n : Heap) → Block p ss → Safe p n FlowWithin (exec_all p ss)
  exec_all_safe p no_stmts n b = gives_flow n goes_on tt
  exec_all_safe p (stmt (statement kind line) ss) n b = safe_bind n FlowWithin FlowWithin (exec p (statement kind line)) (λ flow. then_next flow (exec_all p ss)) (exec_kind_safe p kind line n (λ c. ((b c).0, (b c).1.0))) (λ flow k le w. then_next_safe k flow (exec_all p ss) w (exec_all_safe p ss k (λ c. ((b c).0, (b c).1.1))))

  exec_arms_safe : (p : Program) (as' : Arms) (others : Action Flow) (n : Heap) → BlockArms p as' → ((k : Heap) → Grown p n k → Safe p k FlowWithin others) → Safe p n FlowWithin (exec_arms p as' others)
  exec_arms_safe p no_arms others n b h = h n (grown_self n)
  exec_arms_safe p (arm test body arms) others n b h =
      with_truth n FlowWithin (eval p test) (λ v t. chosen t (exec_all p body) (exec_arms p arms others)) (eval_safe p test n) (λ v t k le w.
      chosen_safe k FlowWithin t (exec_all p body) (exec_arms p arms others) (exec_all_safe p body k (λ c. ((b c).0, (b c).1.1))) (exec_arms_safe p arms others k (λ c. ((b c).0, (b c).1.2)) (λ j le'. h j (grown_on le le'))))

  exec_handlers_safe : (p : Program) (hs : Handlers) (v : Value) (n : Heap) → BlockHandlers p hs → IsWithin n v → Safe p n FlowWithin (exec_handlers p v hs)
  exec_handlers_safe p no_handlers v n b a = may_then n FlowWithin (raises v) (safe_raises n FlowWithin v a)
  exec_handlers_safe p (handler None name body line hs) v n b a = named_safe p name n v (exec_all p body) a (λ k le. exec_all_safe p body k (λ c. ((b c).0, (b c).1.2)))
  exec_handlers_safe p (handler (Some test) name body line hs) v n b a =
      safe_bind n IsWithin FlowWithin (eval p test) (λ k. then_do may_raise (bind (matches p v k) (λ t. chosen t (named p name v (exec_all p body)) (exec_handlers p v hs)))) (eval_safe p test n) (λ k i le x.
      may_then i FlowWithin (bind (matches p v k) (λ t. chosen t (named p name v (exec_all p body)) (exec_handlers p v hs)))
      (safe_bind i Free FlowWithin (matches p v k) (λ t. chosen t (named p name v (exec_all p body)) (exec_handlers p v hs)) (matches_safe p i v k) (λ t j le' y.
      chosen_safe j FlowWithin t (named p name v (exec_all p body)) (exec_handlers p v hs) (named_safe p name j v (exec_all p body) (within_on n j v (grown_on le le') a) (λ l le''. exec_all_safe p body l (λ c. ((b c).0, (b c).1.2)))) (exec_handlers_safe p hs v j (λ c. ((b c).0, (b c).1.3)) (within_on n j v (grown_on le le') a)))))
