-- How actions are carried out: one after the other, and what every step keeps.
use Rattle.std.proofs.Common.{◌≡◌, ℕ, zero, suc, ◌≤◌, List, [], ◌∷◌, ◌++◌, length, append_assoc, refl, sym, ap, ◌∙◌, arith}
use Rattle.py_meaning.specs.Values.{ref}
use Rattle.py_meaning.specs.Objects.{Object, Filling}
use Rattle.py_meaning.specs.Events.{Event}
use Rattle.py_meaning.specs.Programs.{Program}
use Rattle.py_meaning.specs.Calls.{perform}
use Rattle.py_meaning.specs.Actions.{Scope, with_scope, with_new, with_parts, Flow, Request, Outcome, came, threw, Action, gives, raises, takes, counts, turn, looks, becomes, makes, refills, tells, bind}
use Rattle.py_meaning.specs.Runs.{State, Answer, gave, raised, stopped, with_memory, with_event, with_choices, with_turns, after_turn, take_choice, carry_out, begin_turn, scope_after, come_back, turns_within}
use Rattle.py_meaning.specs.Laws.{reached, going_on}

-- ---- one after the other

after_turn_on : {A B : Type 0} (r : Answer Flow) (k : Outcome → State → Answer A) (j : Outcome → State → Answer B) (f : A → State → Answer B) →
    ((o : Outcome) (s : State) → j o s ≡ going_on (k o s) f) → after_turn r j ≡ going_on (after_turn r k) f
after_turn_on (gave flow s) k j f h = h (came flow) s
after_turn_on (raised v s) k j f h = h (threw v) s
after_turn_on (stopped why s) k j f h = refl

take_choice_on : {A B : Type 0} (cs : List ℕ) (k : ℕ → State → Answer A) (j : ℕ → State → Answer B) (f : A → State → Answer B) (s : State) →
    ((c : ℕ) (t : State) → j c t ≡ going_on (k c t) f) → take_choice cs j s ≡ going_on (take_choice cs k s) f
take_choice_on [] k j f s h = refl
take_choice_on (c ∷ cs) k j f s h = h c (with_choices cs s)

pub one_after_the_other : {A B : Type 0} (t : Request → State → Answer Flow) (a : Action A) (f : A → Action B) (s : State) →
    carry_out t (bind a f) s ≡ going_on (carry_out t a s) (λ x. carry_out t (f x))
one_after_the_other t (gives a) f s = refl
one_after_the_other t (raises v) f s = refl
one_after_the_other t (takes k) f s = take_choice_on s.choices (λ c. carry_out t (k c)) (λ c. carry_out t (bind (k c) f)) (λ x. carry_out t (f x)) s (λ c u. one_after_the_other t (k c) f u)
one_after_the_other t (counts k) f s = one_after_the_other t (k (length s.choices)) f s
one_after_the_other t (turn q k) f s = after_turn_on (t q s) (λ o. carry_out t (k o)) (λ o. carry_out t (bind (k o) f)) (λ x. carry_out t (f x)) (λ o u. one_after_the_other t (k o) f u)
one_after_the_other t (looks k) f s = one_after_the_other t (k s.memory) f s
one_after_the_other t (becomes c a) f s = one_after_the_other t a f (with_memory (with_scope c s.memory) s)
one_after_the_other t (makes o k) f s = one_after_the_other t (k (ref (length s.memory.heap))) f (with_memory (with_new o s.memory) s)
one_after_the_other t (refills place new a) f s = one_after_the_other t a f (with_memory (with_parts place new s.memory) s)
one_after_the_other t (tells e a) f s = one_after_the_other t a f (with_event e s)

-- ---- what every step keeps, every run keeps

pub record Steady : Type 1 where
  pub Goes : State → State → Type 0
  pub self : (s : State) → Goes s s
  pub on : (s t u : State) → Goes s t → Goes t u → Goes s u
  pub scope : (s : State) (c : Scope) → Goes s (with_memory (with_scope c s.memory) s)
  pub object : (s : State) (o : Object) → Goes s (with_memory (with_new o s.memory) s)
  pub filling : (s : State) (place : ℕ) (new : Filling) → Goes s (with_memory (with_parts place new s.memory) s)
  pub event : (s : State) (e : Event) → Goes s (with_event e s)
  pub choice : (s : State) (c : ℕ) (cs : List ℕ) → s.choices ≡ c ∷ cs → Goes s (with_choices cs s)
  pub a_turn : (s : State) (n : ℕ) → s.turns ≡ suc n → Goes s (with_turns n s)

module _ (L : Steady) where
  after_turn_goes : {A : Type 0} (s : State) (r : Answer Flow) (k : Outcome → State → Answer A) → L.Goes s (reached r) → ((o : Outcome) (t : State) → L.Goes t (reached (k o t))) → L.Goes s (reached (after_turn r k))
  after_turn_goes s (gave flow t) k h g = L.on s t _ h (g (came flow) t)
  after_turn_goes s (raised v t) k h g = L.on s t _ h (g (threw v) t)
  after_turn_goes s (stopped why t) k h g = h

  take_choice_goes : {A : Type 0} (s : State) (cs : List ℕ) (k : ℕ → State → Answer A) → s.choices ≡ cs → ((c : ℕ) (t : State) → L.Goes t (reached (k c t))) → L.Goes s (reached (take_choice cs k s))
  take_choice_goes s [] k e g = L.self s
  take_choice_goes s (c ∷ cs) k e g = L.on s (with_choices cs s) _ (L.choice s c cs e) (g c (with_choices cs s))

  pub carry_goes : {A : Type 0} (t : Request → State → Answer Flow) → ((q : Request) (s : State) → L.Goes s (reached (t q s))) → (a : Action A) (s : State) → L.Goes s (reached (carry_out t a s))
  carry_goes t h (gives a) s = L.self s
  carry_goes t h (raises v) s = L.self s
  carry_goes t h (takes k) s = take_choice_goes s s.choices (λ c. carry_out t (k c)) refl (λ c u. carry_goes t h (k c) u)
  carry_goes t h (counts k) s = carry_goes t h (k (length s.choices)) s
  carry_goes t h (turn q k) s = after_turn_goes s (t q s) (λ o. carry_out t (k o)) (h q s) (λ o u. carry_goes t h (k o) u)
  carry_goes t h (looks k) s = carry_goes t h (k s.memory) s
  carry_goes t h (becomes c a) s = L.on s (with_memory (with_scope c s.memory) s) _ (L.scope s c) (carry_goes t h a (with_memory (with_scope c s.memory) s))
  carry_goes t h (makes o k) s = L.on s (with_memory (with_new o s.memory) s) _ (L.object s o) (carry_goes t h (k (ref (length s.memory.heap))) (with_memory (with_new o s.memory) s))
  carry_goes t h (refills place new a) s = L.on s (with_memory (with_parts place new s.memory) s) _ (L.filling s place new) (carry_goes t h a (with_memory (with_parts place new s.memory) s))
  carry_goes t h (tells e a) s = L.on s (with_event e s) _ (L.event s e) (carry_goes t h a (with_event e s))

  begin_goes : (n : ℕ) (f : State → Answer Flow) (s : State) → s.turns ≡ n → ((t : State) → L.Goes t (reached (f t))) → L.Goes s (reached (begin_turn n f s))
  begin_goes zero f s e g = L.self s
  begin_goes (suc n) f s e g = L.on s (with_turns n s) _ (L.a_turn s n e) (g (with_turns n s))

  back_goes : (q : Request) (s : State) (before : Scope) (r : Answer Flow) → L.Goes s (reached r) → L.Goes s (reached (come_back q before r))
  back_goes q s before (gave flow t) h = L.on s t _ h (L.scope t (scope_after q before t.memory.scope))
  back_goes q s before (raised v t) h = L.on s t _ h (L.scope t (scope_after q before t.memory.scope))
  back_goes q s before (stopped why t) h = h

  pub turns_go : (p : Program) (n : ℕ) (q : Request) (s : State) → L.Goes s (reached (turns_within p n q s))
  unfolding turns_within
  turns_go p zero q s = L.self s
  turns_go p (suc n) q s =
      back_goes q s s.memory.scope (begin_turn s.turns (carry_out (turns_within p n) (perform p q)) s)
      (begin_goes s.turns (carry_out (turns_within p n) (perform p q)) s refl (λ t. carry_goes (turns_within p n) (turns_go p n) (perform p q) t))

  pub all_go : {A : Type 0} (p : Program) (n : ℕ) (a : Action A) (s : State) → L.Goes s (reached (carry_out (turns_within p n) a s))
  all_go p n a s = carry_goes (turns_within p n) (turns_go p n) a s

-- ---- turns are used up, choices are taken from the front, and events are added at the end

abbrev pub fewer_turns : Steady
fewer_turns = record {
  Goes = λ s t. t.turns ≤ s.turns;
  self = λ s. omega arith;
  on = λ s t u g h. omega arith;
  scope = λ s c. omega arith;
  object = λ s o. omega arith;
  filling = λ s place new. omega arith;
  event = λ s e. omega arith;
  choice = λ s c cs e. omega arith;
  a_turn = λ s n e. omega arith;
}

abbrev pub from_the_front : Steady
from_the_front = record {
  Goes = λ s t. (taken : List ℕ) × (s.choices ≡ taken ++ t.choices);
  self = λ s. ([], refl);
  on = λ s t u g h. (g.0 ++ h.0, g.1 ∙ ap (λ cs. g.0 ++ cs) h.1 ∙ sym (append_assoc g.0 h.0 u.choices));
  scope = λ s c. ([], refl);
  object = λ s o. ([], refl);
  filling = λ s place new. ([], refl);
  event = λ s e. ([], refl);
  choice = λ s c cs e. (c ∷ [], e);
  a_turn = λ s n e. ([], refl);
}

pub append_nil : {A : Type 0} (xs : List A) → xs ≡ xs ++ []
append_nil [] = refl
append_nil (x ∷ xs) = ap (λ ys. x ∷ ys) (append_nil xs)

abbrev pub events_added : Steady
events_added = record {
  Goes = λ s t. (more : List Event) × (t.events ≡ s.events ++ more);
  self = λ s. ([], append_nil s.events);
  on = λ s t u g h. (g.0 ++ h.0, h.1 ∙ ap (λ es. es ++ h.0) g.1 ∙ append_assoc s.events g.0 h.0);
  scope = λ s c. ([], append_nil s.events);
  object = λ s o. ([], append_nil s.events);
  filling = λ s place new. ([], append_nil s.events);
  event = λ s e. (e ∷ [], refl);
  choice = λ s c cs e. ([], append_nil s.events);
  a_turn = λ s n e. ([], append_nil s.events);
}
