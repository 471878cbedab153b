-- What statements do (language reference, "Simple statements", "Compound statements").
use Rattle.std.specs.Prelude.{ℕ, [], Option, Some, None}
use Rattle.py_tree.specs.Tree as tree
use Rattle.py_tree.specs.Tree.{Expr, site_of, Stmt, statement, StmtKind, Stmts, no_stmts, stmt, Arms, no_arms, arm, Handlers, no_handlers, handler, FunDef, fun_def, ClassDef, class_def, Member, Members, no_members, member}
use Rattle.py_meaning.specs.Values.{Value, none, ref, with_entry}
use Rattle.py_meaning.specs.Objects as object
use Rattle.py_meaning.specs.Objects.{Object}
use Rattle.py_meaning.specs.Events.{not_iterable}
use Rattle.py_meaning.specs.Programs.{Program}
use Rattle.py_meaning.specs.Truth.{truth_of}
use Rattle.py_meaning.specs.Iteration.{Step, no_items, ended, element, iterate}
use Rattle.py_meaning.specs.ClassTests.{matches}
use Rattle.py_meaning.specs.Names.{store, unbound}
use Rattle.py_meaning.specs.Expressions.{eval, chosen}
use Rattle.py_meaning.specs.Targets.{put, put_each, augment}
use Rattle.py_meaning.specs.Imports.{module_name, import_all, take_all}
use Rattle.py_meaning.specs.Exceptions.{raise_made, raise_again, raise_assertion, handling}
use Rattle.py_meaning.specs.Actions.{Flow, goes_on, breaks, continues, returns, while_turn, for_turn, Outcome, came, threw, Action, gives, raises, turn, attempt, bind, then_do, afterwards, allocate, refill, at_place, may_raise, fails, done}

-- goes on after an action
abbrev pub and_on : {A : Type 0} → Action A → Action Flow
and_on a = bind a (λ x. gives goes_on)

-- the next statement, unless the one before it left
abbrev pub then_next : Flow → Action Flow → Action Flow
then_next goes_on a = a
then_next flow a = gives flow

abbrev pub evaluated : Program → Option Expr → Action (Unit {0})
evaluated p None = done
evaluated p (Some x) = bind (eval p x) (λ v. done)

-- ---- simple statements

abbrev pub returned_value : Program → Option Expr → Action Flow
returned_value p None = gives (returns none)
returned_value p (Some x) = bind (eval p x) (λ v. gives (returns v))

-- what is raised and its cause are evaluated first
abbrev pub raised : Program → (line : ℕ) → Option Expr → Option Expr → Action Flow
raised p line None cause = raise_again
raised p line (Some x) cause = bind (eval p x) (λ v. then_do (evaluated p cause) (raise_made p v (site_of x) line))

abbrev pub assertion : Program → (line : ℕ) → Expr → Option Expr → Action Flow
assertion p line x message =
    bind (eval p x) (λ v. bind (truth_of v) (λ t. chosen t (gives goes_on) (then_do (evaluated p message) (raise_assertion p (site_of x) line))))

-- An annotated target without a value isn't stored to; of an attribute the object is evaluated.
abbrev pub annotated_target : Program → Expr → Action (Unit {0})
annotated_target p (tree.node (tree.attr o n) line site) = bind (eval p o) (λ v. done)
annotated_target p x = done

abbrev pub annotation : Program → Expr → Option Expr → Action (Unit {0})
annotation p t None = annotated_target p t
annotation p t (Some x) = bind (eval p x) (put p t)

-- ---- loops: each time through the body is a turn ("The while statement", "The for statement")

abbrev pub through : Outcome → Action Flow
through (came flow) = gives flow
through (threw v) = raises v

abbrev pub run_while : Program → Expr → Stmts → Action Flow
run_while p test body = bind (eval p test) (λ v. bind (truth_of v) (λ t. chosen t (turn (while_turn test body) through) (gives goes_on)))

abbrev pub for_step : (target : Expr) → (body : Stmts) → (line : ℕ) → Value → Step → Action Flow
for_step target body line v no_items = fails line not_iterable
for_step target body line v ended = gives goes_on
for_step target body line v (element x) = turn (for_turn target body line v x) through

abbrev pub run_for : Program → (target : Expr) → (body : Stmts) → (line : ℕ) → Value → Action Flow
run_for p target body line v = then_do may_raise (bind (iterate p v) (for_step target body line v))

-- after the body: once more, unless it left the loop
abbrev pub once_more : Flow → Action Flow → Action Flow
once_more goes_on a = a
once_more continues a = a
once_more breaks a = gives goes_on
once_more (returns v) a = gives (returns v)

-- ---- functions and classes ("Function definitions", "Class definitions")

abbrev pub with_member : (place name : ℕ) → Value → Object → Action (Unit {0})
with_member place name v (object.class c es) = refill place (object.of_entries (with_entry es name v))
with_member place name v _ = done

abbrev pub set_member : (place name : ℕ) → Value → Action (Unit {0})
set_member place name v = at_place place (with_member place name v)

-- a class's values, as they come
abbrev pub put_member : Program → (place : ℕ) → Member → Action (Unit {0})
put_member p place (tree.value n x line) = bind (eval p x) (set_member place n)
put_member p place (tree.declared n (Some x) line) = bind (eval p x) (set_member place n)
put_member p place _ = done

abbrev pub put_members : Program → (place : ℕ) → Members → Action (Unit {0})
put_members p place no_members = done
put_members p place (member m ms) = then_do (put_member p place m) (put_members p place ms)

-- and then its methods
abbrev pub put_method : (place : ℕ) → Member → Action (Unit {0})
put_method place (tree.method (fun_def id name params body line)) = bind (allocate (object.function id)) (set_member place name)
put_method place _ = done

abbrev pub put_methods : (place : ℕ) → Members → Action (Unit {0})
put_methods place no_members = done
put_methods place (member m ms) = then_do (put_method place m) (put_methods place ms)

abbrev pub fill_class : Program → Members → Value → Action (Unit {0})
fill_class p ms (ref place) = then_do (put_members p place ms) (put_methods place ms)
fill_class p ms v = done

abbrev pub define_class : Program → ClassDef → Action (Unit {0})
define_class p (class_def id name base ms line) = bind (allocate (object.class id [])) (λ c. then_do (fill_class p ms c) (store p name c))

abbrev pub define_function : Program → FunDef → Action (Unit {0})
define_function p (fun_def id name params body line) = bind (allocate (object.function id)) (store p name)

-- ---- statements

-- The name of a clause has the exception, and is unbound in whatever way the clause ends.
abbrev pub named : Program → Option ℕ → Value → Action Flow → Action Flow
named p None v a = a
named p (Some name) v a = then_do (store p name v) (afterwards a (unbound p name))

abbrev mutual
  pub exec : Program → Stmt → Action Flow
  exec p (statement kind line) = exec_kind p kind line

  pub exec_kind : Program → StmtKind → (line : ℕ) → Action Flow
  exec_kind p tree.pass line = gives goes_on
  exec_kind p tree.break line = gives breaks
  exec_kind p tree.continue line = gives continues
  exec_kind p tree.ellipsis line = gives goes_on
  exec_kind p (tree.return o) line = returned_value p o
  exec_kind p (tree.raise o cause) line = raised p line o cause
  exec_kind p (tree.assert x message) line = assertion p line x message
  exec_kind p (tree.import qs) line = and_on (import_all p qs)
  exec_kind p (tree.from path qs) line = and_on (take_all p (module_name p path) qs)
  exec_kind p (tree.global ns) line = gives goes_on
  exec_kind p (tree.assign ts x) line = and_on (bind (eval p x) (put_each p ts))
  exec_kind p (tree.augment t op x) line = and_on (augment p op line t x)
  exec_kind p (tree.annotated t o) line = and_on (annotation p t o)
  exec_kind p (tree.expression x) line = and_on (eval p x)
  exec_kind p (tree.if arms otherwise) line = exec_arms p arms (exec_all p otherwise)
  exec_kind p (tree.while test body) line = run_while p test body
  exec_kind p (tree.for target x body) line = bind (eval p x) (run_for p target body line)
  exec_kind p (tree.try body handlers otherwise) line =
      attempt (exec_all p body) (λ flow. then_next flow (exec_all p otherwise)) (λ v. handling v (exec_handlers p v handlers))
  exec_kind p (tree.def f) line = and_on (define_function p f)
  exec_kind p (tree.class c) line = and_on (define_class p c)

  pub exec_all : Program → Stmts → Action Flow
  exec_all p no_stmts = gives goes_on
  exec_all p (stmt s ss) = bind (exec p s) (λ flow. then_next flow (exec_all p ss))

  -- the first arm whose test is true, or else the other statements
  pub exec_arms : Program → Arms → Action Flow → Action Flow
  exec_arms p no_arms others = others
  exec_arms p (arm test body arms) others =
      bind (eval p test) (λ v. bind (truth_of v) (λ t. chosen t (exec_all p body) (exec_arms p arms others)))

  -- The clauses are tried in order. Where none matches the exception is raised again.
  pub exec_handlers : Program → Value → Handlers → Action Flow
  exec_handlers p v no_handlers = then_do may_raise (raises v)
  exec_handlers p v (handler None name body line hs) = named p name v (exec_all p body)
  exec_handlers p v (handler (Some test) name body line hs) =
      bind (eval p test) (λ k. then_do may_raise (bind (matches p v k) (λ t. chosen t (named p name v (exec_all p body)) (exec_handlers p v hs))))
