-- What holds of every run.
use Rattle.std.specs.Prelude.{◌≡◌, ℕ, ◌≤◌, ◌<◌, ◌%◌, ◌/◌, ◌==◌, Bool, true, false, List, [], ◌∷◌, ◌++◌, length, slice_get, unwrap_or}
use Rattle.type_terms.specs.Stubs.{Stub}
use Rattle.type_terms.specs.Terms as term
use Rattle.type_terms.specs.Exceptions.{exception_names}
use Rattle.py_tree.specs.Tree.{Expr, Stmts, Module}
use Rattle.py_meaning.specs.Values.{Value, truth, ref}
use Rattle.py_meaning.specs.Objects.{outside}
use Rattle.py_meaning.specs.Expressions.{eval}
use Rattle.py_meaning.specs.Statements.{exec_all}
use Rattle.py_meaning.specs.Events.{Event}
use Rattle.py_meaning.specs.Programs.{Program, program}
use Rattle.py_meaning.specs.Fresh.{fresh}
use Rattle.py_meaning.specs.Actions.{with_new, Flow, OutsideCall, Request, then_do, may_raise}
use Rattle.py_meaning.specs.Runs.{State, Answer, gave, raised, stopped, with_memory, with_choices, carry_out, turns_within, start, module_action, make_calls, ran_out_of_turns, Ending, run_of, answer, run}

-- the state that was reached
abbrev pub reached : {A : Type 0} → Answer A → State
reached (gave a s) = s
reached (raised v s) = s
reached (stopped why s) = s

-- what comes after an action goes on from where the action gave
abbrev pub going_on : {A B : Type 0} → Answer A → (A → State → Answer B) → Answer B
going_on (gave a s) f = f a s
going_on (raised v s) f = raised v s
going_on (stopped why s) f = stopped why s

-- a run that is over did not run out of turns
abbrev pub IsOver : Ending → Type 0
IsOver ran_out_of_turns = ⊥
IsOver _ = Unit {0}

-- more turns change nothing of a run that is over
abbrev pub MoreTurnsChangeNothing : Type 0
MoreTurnsChangeNothing =
    (m : Module) (stubs : List (List ℕ × Stub)) (n k : ℕ) (choices : List ℕ) (calls : List OutsideCall) → n ≤ k →
    IsOver (run m stubs n choices calls).ending → run m stubs k choices calls ≡ run m stubs n choices calls

-- As many turns as are left may stand one in the other; to let more stand so changes nothing.
abbrev pub NestingIsEnough : Type 0
NestingIsEnough =
    (m : Module) (stubs : List (List ℕ × Stub)) (n k : ℕ) (choices : List ℕ) (calls : List OutsideCall) → n ≤ k →
    carry_out (turns_within (program m stubs) k) (then_do (module_action (program m stubs)) (make_calls (program m stubs) calls)) (start n choices)
    ≡ answer m stubs n choices calls

-- the choices that were taken stand before those that are left
abbrev pub ChoicesFromTheFront : Type 0
ChoicesFromTheFront =
    (m : Module) (stubs : List (List ℕ × Stub)) (n : ℕ) (choices : List ℕ) (calls : List OutsideCall) →
    (taken : List ℕ) × (choices ≡ taken ++ (reached (answer m stubs n choices calls)).choices)

-- a fresh whole number is no truth value
abbrev pub WholeIsNoTruth : Type 0
WholeIsNoTruth =
    (p : Program) (turns_in : Request → State → Answer Flow) (s t : State) (v : Value) (b : Bool) →
    carry_out turns_in (fresh p term.int) s ≡ gave v t → v ≡ truth b → ⊥

-- without calls from outside nothing comes after the module's ending
abbrev pub NothingAfterTheEnding : Type 0
NothingAfterTheEnding =
    (m : Module) (stubs : List (List ℕ × Stub)) (n : ℕ) (choices : List ℕ) →
    run m stubs n choices [] ≡ run_of (carry_out (turns_within (program m stubs) n) (module_action (program m stubs)) (start n choices))

-- calls from outside take nothing back: their events come after those of the module
abbrev pub CallsAddEvents : Type 0
CallsAddEvents =
    (m : Module) (stubs : List (List ℕ × Stub)) (n : ℕ) (choices : List ℕ) (calls : List OutsideCall) →
    (more : List Event) × ((run m stubs n choices calls).events ≡ (run m stubs n choices []).events ++ more)

-- A step that may raise takes one choice: where its remainder by 64 is 63 the step raises an exception that is made for it, and
-- else it does nothing.
pub record StepsMayRaise : Type 0 where
  pub raises :
      (turns_in : Request → State → Answer Flow) (c : ℕ) (cs : List ℕ) (s : State) → s.choices ≡ c ∷ cs → (c % 64 == 63) ≡ true →
      carry_out turns_in may_raise s
      ≡ raised (ref (length s.memory.heap)) (with_memory (with_new (outside (term.class (unwrap_or (slice_get exception_names ((c / 64) % length exception_names)) []))) s.memory) (with_choices cs s))
  pub goes_on :
      (turns_in : Request → State → Answer Flow) (c : ℕ) (cs : List ℕ) (s : State) → s.choices ≡ c ∷ cs → (c % 64 == 63) ≡ false →
      carry_out turns_in may_raise s ≡ gave tt (with_choices cs s)

-- Whatever statements and expressions raise comes behind a choice that they took.
pub record RaisesTakeAChoice : Type 0 where
  pub statements :
      (p : Program) (n : ℕ) (ss : Stmts) (v : Value) (s t : State) → carry_out (turns_within p n) (exec_all p ss) s ≡ raised v t → length t.choices < length s.choices
  pub expressions :
      (p : Program) (n : ℕ) (x : Expr) (v : Value) (s t : State) → carry_out (turns_within p n) (eval p x) s ≡ raised v t → length t.choices < length s.choices
