-- What comes after a module's end, and which values a fresh whole number is.
use Rattle.std.proofs.Common.{◌≡◌, ℕ, pos, Bool, List, [], ◌∷◌, ◌++◌, refl, sym, ap, ◌∙◌}
use Rattle.py_meaning.specs.Values.{Value, whole, truth}
use Rattle.py_meaning.specs.Events.{Event}
use Rattle.py_meaning.specs.Programs.{Program, program}
use Rattle.py_meaning.specs.Actions.{Flow, Request, Action, gives, then_do, done}
use Rattle.py_meaning.specs.Runs.{State, Answer, gave, raised, stopped, take_choice, carry_out, turns_within, start, module_action, make_calls, run_of, answer, run}
use Rattle.py_meaning.specs.Laws.{reached, going_on, ChoicesFromTheFront, WholeIsNoTruth, NothingAfterTheEnding, CallsAddEvents}
use Rattle.py_meaning.proofs.Carrying.{one_after_the_other, all_go, from_the_front, events_added, append_nil}

nothing_more : (r : Answer (Unit {0})) (t : Request → State → Answer Flow) → going_on r (λ x. carry_out t done) ≡ r
nothing_more (gave a s) t = refl
nothing_more (raised v s) t = refl
nothing_more (stopped why s) t = refl

-- nothing is done after an action
done_after : (t : Request → State → Answer Flow) (a : Action (Unit {0})) (s : State) → carry_out t (then_do a done) s ≡ carry_out t a s
done_after t a s = one_after_the_other t a (λ x. done) s ∙ nothing_more (carry_out t a s) t

pub nothing_after_the_ending : NothingAfterTheEnding
unfolding run answer
nothing_after_the_ending m stubs n choices =
    let p : Program = program m stubs in ap run_of (done_after (turns_within p n) (module_action p) (start n choices))

pub choices_from_the_front : ChoicesFromTheFront
unfolding answer
choices_from_the_front m stubs n choices calls =
    let p : Program = program m stubs in all_go from_the_front p n (then_do (module_action p) (make_calls p calls)) (start n choices)

events_seen : {A : Type 0} (r : Answer A) → (run_of r).events ≡ (reached r).events
events_seen (gave a s) = refl
events_seen (raised v s) = refl
events_seen (stopped why s) = refl

-- what is added after an action
added_after : (p : Program) (n : ℕ) (b : Action (Unit {0})) (r : Answer (Unit {0})) → (more : List Event) × ((reached (going_on r (λ x. carry_out (turns_within p n) b))).events ≡ (reached r).events ++ more)
added_after p n b (gave a s) = all_go events_added p n b s
added_after p n b (raised v s) = ([], append_nil s.events)
added_after p n b (stopped why s) = ([], append_nil s.events)

pub calls_add_events : CallsAddEvents
unfolding run answer
calls_add_events m stubs n choices calls =
    let p : Program = program m stubs in
    let t : Request → State → Answer Flow = turns_within p n in
    let long : Answer (Unit {0}) = carry_out t (then_do (module_action p) (make_calls p calls)) (start n choices) in
    let short : Answer (Unit {0}) = carry_out t (then_do (module_action p) done) (start n choices) in
    let first : Answer (Unit {0}) = carry_out t (module_action p) (start n choices) in
    let whole_run : carry_out t (then_do (module_action p) (make_calls p calls)) (start n choices) ≡ going_on first (λ x. carry_out t (make_calls p calls)) =
    one_after_the_other t (module_action p) (λ x. make_calls p calls) (start n choices) in
    let short_run : carry_out t (then_do (module_action p) done) (start n choices) ≡ first = done_after t (module_action p) (start n choices) in
    let added : (more : List Event) × ((reached (going_on first (λ x. carry_out t (make_calls p calls)))).events ≡ (reached first).events ++ more) = added_after p n (make_calls p calls) first in
    (added.0, events_seen long ∙ ap (λ r. (reached r).events) whole_run ∙ added.1 ∙ sym (ap (λ es. es ++ added.0) (events_seen short ∙ ap (λ r. (reached r).events) short_run)))

-- ---- a fresh whole number

gave_whole : (cs : List ℕ) (t : Request → State → Answer Flow) (s u : State) (v : Value) (b : Bool) → take_choice cs (λ c. carry_out t (gives (whole (pos c)))) s ≡ gave v u → v ≡ truth b → ⊥
gave_whole [] t s u v b e same = cc
gave_whole (c ∷ cs) t s u v b e same = cc

pub whole_is_no_truth : WholeIsNoTruth
whole_is_no_truth p t s u v b e same = gave_whole s.choices t s u v b e same
