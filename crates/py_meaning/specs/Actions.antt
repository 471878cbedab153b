-- What a piece of a run does, step by step. An action is a tree of steps: at a step that asks for something, one way on for
-- each answer. Laws of all runs are proved by one induction over these steps.
use Rattle.std.specs.Prelude.{ℕ, zero, suc, ◌/◌, ◌%◌, Bool, ◌==◌, List, [], ◌∷◌, ◌++◌, length, Option, None, slice_get, slice_set, unwrap_or, if◌then◌else◌, codes}
use Rattle.type_terms.specs.Exceptions.{exception_names}
use Rattle.type_terms.specs.Terms as term
use Rattle.py_tree.specs.Tree.{Expr, Stmts}
use Rattle.py_meaning.specs.Values.{Value, truth, Entries}
use Rattle.py_meaning.specs.Objects as object
use Rattle.py_meaning.specs.Objects.{Object, Filling, refilled, object_at}
use Rattle.py_meaning.specs.Events.{FaultKind, on_another, Event, fault}

-- ---- what a run remembers

-- the function that is under way, and its locals (language reference, "Naming and binding")
pub record Frame : Type 0 where
  pub function : ℕ
  pub locals : Entries

-- what names stand for, and what is under way
pub record Scope : Type 0 where
  -- none in the module's own body
  pub frame : Option Frame
  pub globals : Entries
  -- the exception of the innermost `except` clause that is being tried or run
  pub handled : Option Value

pub record Memory : Type 0 where
  pub scope : Scope
  pub heap : List Object

abbrev pub with_scope : Scope → Memory → Memory
with_scope c m = record m { scope = c }

-- with one object more
abbrev pub with_new : Object → Memory → Memory
with_new o m = record m { heap = m.heap ++ o ∷ [] }

-- with other parts of an object
abbrev pub with_parts : ℕ → Filling → Memory → Memory
with_parts place new m = record m { heap = slice_set m.heap place (refilled (object_at m.heap place) new) }

-- ---- what happens in a turn

pub record Argument : Type 0 where
  pub name : Option ℕ
  pub value : Value

-- how statements end: normally, by `break`, by `continue`, or by `return`
pub data Flow : Type 0 where
  goes_on : Flow
  breaks : Flow
  continues : Flow
  returns : Value → Flow

-- A call from outside, after the module's end: of a function or method, or of a class. Each parameter gets a value from outside,
-- but those that have a default and are left out.
pub data OutsideCall : Type 0 where
  calls_function : (function : ℕ) → (left_out : List ℕ) → OutsideCall
  calls_class : (class : ℕ) → (left_out : List ℕ) → OutsideCall

-- A turn is a call of anything that is called, or one more time through a loop's body.
pub data Request : Type 0 where
  call : (callee : Value) → List Argument → (site line : ℕ) → Request
  -- the test and the body
  while_turn : Expr → Stmts → Request
  -- the target, the body, the line, what is gone through, and the element
  for_turn : Expr → Stmts → (line : ℕ) → (through element : Value) → Request
  outside_call : OutsideCall → Request

-- how a turn ended: as statements do, or by an exception
pub data Outcome : Type 0 where
  came : Flow → Outcome
  threw : Value → Outcome

-- ---- steps

pub data Action (A : Type 0) : Type 0 where
  gives : A → Action A
  raises : Value → Action A
  -- the next choice
  takes : (ℕ → Action A) → Action A
  -- how many choices are left, which bounds how often something can go on by choice
  counts : (ℕ → Action A) → Action A
  turn : Request → (Outcome → Action A) → Action A
  looks : (Memory → Action A) → Action A
  -- the scope is another; the heap stays
  becomes : Scope → Action A → Action A
  -- a new object, and other parts of one that is there
  makes : Object → (Value → Action A) → Action A
  refills : (place : ℕ) → Filling → Action A → Action A
  tells : Event → Action A → Action A

-- goes on in one way where the action gives, and in another where it raises
abbrev pub attempt : {A B : Type 0} → Action A → (A → Action B) → (Value → Action B) → Action B
attempt (gives a) f g = f a
attempt (raises v) f g = g v
attempt (takes k) f g = takes (λ c. attempt (k c) f g)
attempt (counts k) f g = counts (λ n. attempt (k n) f g)
attempt (turn q k) f g = turn q (λ o. attempt (k o) f g)
attempt (looks k) f g = looks (λ m. attempt (k m) f g)
attempt (becomes c a) f g = becomes c (attempt a f g)
attempt (makes o k) f g = makes o (λ v. attempt (k v) f g)
attempt (refills place new a) f g = refills place new (attempt a f g)
attempt (tells e a) f g = tells e (attempt a f g)

-- one after the other
abbrev pub bind : {A B : Type 0} → Action A → (A → Action B) → Action B
bind a f = attempt a f (λ v. raises v)

abbrev pub then_do : {A B : Type 0} → Action A → Action B → Action B
then_do a b = bind a (λ x. b)

-- a change of the scope
abbrev pub changes : {A : Type 0} → (Scope → Scope) → Action A → Action A
changes f a = looks (λ m. becomes (f m.scope) a)

abbrev pub done : Action (Unit {0})
done = gives tt

-- a change of the scope at the end, whether the action gives or raises
abbrev pub afterwards : {A : Type 0} → Action A → (Scope → Scope) → Action A
afterwards a f = attempt a (λ x. changes f (gives x)) (λ v. changes f (raises v))

-- ---- the heap

abbrev pub allocate : Object → Action Value
allocate o = makes o (λ v. gives v)

abbrev pub refill : ℕ → Filling → Action (Unit {0})
refill place new = refills place new done

-- the object that a reference points to
abbrev pub at_place : {A : Type 0} → ℕ → (Object → Action A) → Action A
at_place place f = looks (λ m. f (object_at m.heap place))

-- a value from outside that may be anything
abbrev pub anything : Action Value
anything = allocate (object.outside term.any)

-- ---- choices

abbrev pub is_even : ℕ → Bool
is_even c = c % 2 == 0

-- Among so many cases a choice picks one, by its remainder; for one case, or none, no choice is taken.
abbrev pub pick : ℕ → Action ℕ
pick zero = gives 0
pick (suc zero) = gives 0
pick (suc (suc n)) = takes (λ c. gives (c % suc (suc n)))

-- one of some values, where there are any
abbrev pub one_of : {A : Type 0} → List A → Action (Option A)
one_of xs = bind (pick (length xs)) (λ i. gives (slice_get xs i))

-- True by number 0, False by number 1
abbrev pub either_truth : Action Value
either_truth = takes (λ c. gives (truth (is_even c)))

-- ---- exceptions and faults ("Exceptions")

-- an exception of a builtin class, which is made for it
abbrev pub raise_builtin : {A : Type 0} → List ℕ → Action A
raise_builtin name = bind (allocate (object.outside (term.class name))) (λ v. raises v)

-- A step that may raise takes one choice before all others. It raises where the remainder by 64 is 63, and the quotient then
-- numbers the exception classes.
abbrev pub may_raise : Action (Unit {0})
may_raise =
    takes (λ c. if c % 64 == 63 then raise_builtin (unwrap_or (slice_get exception_names ((c / 64) % length exception_names)) []) else done)

-- A call fault and an operand fault raise a TypeError, and an attribute fault an AttributeError.
abbrev pub fails : {A : Type 0} → (line : ℕ) → FaultKind → Action A
fails line kind = tells (fault line kind on_another None) (raise_builtin (codes "TypeError"))
