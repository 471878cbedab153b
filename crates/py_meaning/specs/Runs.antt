-- Runs: an action is carried out with so many turns and a list of choices.
use Rattle.std.specs.Prelude.{ℕ, zero, suc, Bool, true, false, List, [], ◌∷◌, ◌++◌, length, Option, Some, None}
use Rattle.type_terms.specs.Stubs.{Stub}
use Rattle.py_tree.specs.Tree.{Module}
use Rattle.py_meaning.specs.Values.{Value, ref, entry}
use Rattle.py_meaning.specs.Objects.{Object}
use Rattle.py_meaning.specs.Events.{Event, held}
use Rattle.py_meaning.specs.Programs.{Program, FunRow, program, printed, fun_at}
use Rattle.py_meaning.specs.Statements.{exec_all}
use Rattle.py_meaning.specs.Truth.{has_parts}
use Rattle.py_meaning.specs.Calls.{receivers, perform}
use Rattle.py_meaning.specs.Actions.{Scope, Memory, with_scope, with_new, with_parts, Flow, OutsideCall, calls_function, calls_class, Request, call, while_turn, for_turn, outside_call, Outcome, came, threw, Action, gives, raises, takes, counts, turn, looks, becomes, makes, refills, tells, then_do, done}

-- what a run has reached
pub record State : Type 0 where
  pub memory : Memory
  pub events : List Event
  -- the choices that are left, and the number of turns
  pub choices : List ℕ
  pub turns : ℕ

pub data Stop : Type 0 where
  out_of_turns : Stop
  out_of_choices : Stop

pub data Answer (A : Type 0) : Type 0 where
  gave : A → State → Answer A
  raised : Value → State → Answer A
  stopped : Stop → State → Answer A

abbrev pub with_memory : Memory → State → State
with_memory m s = record s { memory = m }

abbrev pub with_event : Event → State → State
with_event e s = record s { events = s.events ++ e ∷ [] }

abbrev pub with_choices : List ℕ → State → State
with_choices cs s = record s { choices = cs }

abbrev pub with_turns : ℕ → State → State
with_turns n s = record s { turns = n }

-- goes on after a turn, unless the run stopped in it
abbrev pub after_turn : {A : Type 0} → Answer Flow → (Outcome → State → Answer A) → Answer A
after_turn (gave flow s) k = k (came flow) s
after_turn (raised v s) k = k (threw v) s
after_turn (stopped why s) k = stopped why s

abbrev pub take_choice : {A : Type 0} → List ℕ → (ℕ → State → Answer A) → State → Answer A
take_choice [] k s = stopped out_of_choices s
take_choice (c ∷ cs) k s = k c (with_choices cs s)

-- `turns_in` says what a turn does
abbrev pub carry_out : {A : Type 0} → (Request → State → Answer Flow) → Action A → State → Answer A
carry_out turns_in (gives a) s = gave a s
carry_out turns_in (raises v) s = raised v s
carry_out turns_in (takes k) s = take_choice s.choices (λ c. carry_out turns_in (k c)) s
carry_out turns_in (counts k) s = carry_out turns_in (k (length s.choices)) s
carry_out turns_in (turn q k) s = after_turn (turns_in q s) (λ o. carry_out turns_in (k o))
carry_out turns_in (looks k) s = carry_out turns_in (k s.memory) s
carry_out turns_in (becomes c a) s = carry_out turns_in a (with_memory (with_scope c s.memory) s)
carry_out turns_in (makes o k) s = carry_out turns_in (k (ref (length s.memory.heap))) (with_memory (with_new o s.memory) s)
carry_out turns_in (refills place new a) s = carry_out turns_in a (with_memory (with_parts place new s.memory) s)
carry_out turns_in (tells e a) s = carry_out turns_in a (with_event e s)

-- A turn begins only where one is left.
abbrev pub begin_turn : ℕ → (State → Answer Flow) → State → Answer Flow
begin_turn zero f s = stopped out_of_turns s
begin_turn (suc n) f s = f (with_turns n s)

-- A call leaves its caller's frame, and the exception that is under way there, as they were; a turn of a loop may bind names.
abbrev pub scope_after : Request → (before : Scope) → Scope → Scope
scope_after (call f as' site line) before c = record before { globals = c.globals }
scope_after (outside_call o) before c = record before { globals = c.globals }
scope_after (while_turn test body) before c = c
scope_after (for_turn target body line v x) before c = c

abbrev pub back_from : Request → (before : Scope) → State → State
back_from q before s = with_memory (with_scope (scope_after q before s.memory.scope) s.memory) s

abbrev pub come_back : Request → (before : Scope) → Answer Flow → Answer Flow
come_back q before (gave flow s) = gave flow (back_from q before s)
come_back q before (raised v s) = raised v (back_from q before s)
come_back q before (stopped why s) = stopped why s

-- what a turn does, where turns stand one in the other so many times at most
unfoldable pub turns_within : Program → ℕ → Request → State → Answer Flow
turns_within p zero q s = stopped out_of_turns s
turns_within p (suc n) q s = come_back q s.memory.scope (begin_turn s.turns (carry_out (turns_within p n) (perform p q)) s)

-- ---- a run of a module

abbrev pub no_memory : Memory
no_memory = record { scope = record { frame = None; globals = []; handled = None }; heap = [] }

abbrev pub start : ℕ → List ℕ → State
start n choices = record { memory = no_memory; events = []; choices = choices; turns = n }

-- what the names that the stub prints hold where the module has ended
abbrev pub tell_if : (name : ℕ) → Option Value → Action (Unit {0}) → Action (Unit {0})
tell_if name None a = a
tell_if name (Some v) a = tells (held name v) a

abbrev pub tell_names : List ℕ → Action (Unit {0})
tell_names [] = done
tell_names (name ∷ names) = looks (λ m. tell_if name (entry m.scope.globals name) (tell_names names))

abbrev pub module_action : Program → Action (Unit {0})
module_action p = then_do (exec_all p p.body) (tell_names (printed p))

-- whether a call from outside can be made: a method needs an instance
abbrev pub row_can_be_called : Program → List Object → FunRow → Bool
row_can_be_called p heap row = elim row.class [ None ↦ true | Some owner ↦ has_parts (receivers p row owner 0 heap) ]

abbrev pub can_be_called : Program → List Object → OutsideCall → Bool
can_be_called p heap (calls_function f names) = elim (fun_at p f) [ None ↦ false | Some row ↦ row_can_be_called p heap row ]
can_be_called p heap (calls_class c names) = true

abbrev pub call_if : Bool → OutsideCall → Action (Unit {0})
call_if false c = done
-- one that raises ends this call alone
call_if true c = turn (outside_call c) (λ o. done)

abbrev pub make_calls : Program → List OutsideCall → Action (Unit {0})
make_calls p [] = done
make_calls p (c ∷ cs) = then_do (looks (λ m. call_if (can_be_called p m.heap c) c)) (make_calls p cs)

-- ---- what is seen of a run

pub data Ending : Type 0 where
  ended : Ending
  raised_out : Value → Ending
  ran_out_of_turns : Ending
  ran_out_of_choices : Ending

pub record Run : Type 0 where
  pub events : List Event
  pub heap : List Object
  pub ending : Ending

abbrev pub ending_of : Stop → Ending
ending_of out_of_turns = ran_out_of_turns
ending_of out_of_choices = ran_out_of_choices

abbrev pub seen : State → Ending → Run
seen s e = record { events = s.events; heap = s.memory.heap; ending = e }

abbrev pub run_of : {A : Type 0} → Answer A → Run
run_of (gave a s) = seen s ended
run_of (raised v s) = seen s (raised_out v)
run_of (stopped why s) = seen s (ending_of why)

-- a module with so many turns, on these choices, followed by these calls from outside where the module ends
unfoldable pub answer : Module → List (List ℕ × Stub) → (turns : ℕ) → (choices : List ℕ) → List OutsideCall → Answer (Unit {0})
answer m stubs n choices calls =
    let p : Program = program m stubs in
    carry_out (turns_within p n) (then_do (module_action p) (make_calls p calls)) (start n choices)

-- The run of a module: its events, its last heap and how it ends.
unfoldable pub run : Module → List (List ℕ × Stub) → (turns : ℕ) → (choices : List ℕ) → List OutsideCall → Run
run m stubs n choices calls = run_of (answer m stubs n choices calls)
