-- What holds of the objects of a run, and of the frames of its calls.
use Rattle.std.specs.Prelude.{◌≡◌, ℕ, ◌<◌, ◌≢◌, List, [], ◌++◌, map, length, slice_get}
use Rattle.py_meaning.specs.Values.{Value}
use Rattle.py_meaning.specs.Objects as object
use Rattle.py_meaning.specs.Objects.{Object, Filling}
use Rattle.py_meaning.specs.Programs.{Program}
use Rattle.py_meaning.specs.Actions.{Scope, Memory, with_scope, with_new, with_parts, Argument, Flow, OutsideCall, call, outside_call, Action}
use Rattle.py_meaning.specs.Runs.{State, Answer, gave, raised, stopped, carry_out, turns_within}
use Rattle.py_meaning.specs.Laws.{reached}

-- an object without the parts that can change: its kind, its class, the place of the expression that made it
abbrev pub head : Object → Object
head (object.list site vs) = object.list site []
head (object.dict site qs) = object.dict site []
head (object.instance c es) = object.instance c []
head (object.class c es) = object.class c []
head o = o

-- Whatever is done, each object stays where it is and what it is, and the heap only grows.
abbrev pub ObjectsStay : Type 0
ObjectsStay =
    (p : Program) (n : ℕ) (a : Action Flow) (s : State) →
    (more : List Object) × (map head (reached (carry_out (turns_within p n) a s)).memory.heap ≡ map head s.memory.heap ++ more)

-- Parts change by one step alone, and by it those of one object.
pub record PartsChangeByOneStep : Type 0 where
  pub scopes : (c : Scope) (m : Memory) → (with_scope c m).heap ≡ m.heap
  pub new_objects : (o : Object) (m : Memory) (place : ℕ) → place < length m.heap → slice_get (with_new o m).heap place ≡ slice_get m.heap place
  pub fillings : (at place : ℕ) (new : Filling) (m : Memory) → place ≢ at → slice_get (with_parts at new m).heap place ≡ slice_get m.heap place

-- what a call leaves as it was: the caller's locals, and the exception that is under way there
abbrev pub LeavesScope : Scope → Answer Flow → Type 0
LeavesScope c (gave flow s) = (s.memory.scope.frame ≡ c.frame) × (s.memory.scope.handled ≡ c.handled)
LeavesScope c (raised v s) = (s.memory.scope.frame ≡ c.frame) × (s.memory.scope.handled ≡ c.handled)
LeavesScope c (stopped why s) = Unit {0}

pub record CallsLeaveFrames : Type 0 where
  pub calls : (p : Program) (n : ℕ) (f : Value) (given : List Argument) (site line : ℕ) (s : State) → LeavesScope s.memory.scope (turns_within p n (call f given site line) s)
  pub outside_calls : (p : Program) (n : ℕ) (c : OutsideCall) (s : State) → LeavesScope s.memory.scope (turns_within p n (outside_call c) s)
