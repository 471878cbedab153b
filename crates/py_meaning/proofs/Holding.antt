-- One rule for each way in which actions are put together, each with what comes after, and what holds of each run.
use Rattle.std.proofs.Common.{ℕ, zero, suc, Bool, true, false, if◌then◌else◌, List, [], ◌∷◌, length, None, unwrap_or, slice_get, ◌%◌, ◌/◌, ◌==◌}
use Rattle.std.specs.Prelude.{codes}
use Rattle.std.specs.List.{All}
use Rattle.std.proofs.lemmas.List.Elements.{All-append, All-cons, All-nil}
use Rattle.type_terms.specs.Exceptions.{exception_names}
use Rattle.type_terms.specs.Terms as term
use Rattle.py_meaning.specs.Values.{Value, ref}
use Rattle.py_meaning.specs.Objects as object
use Rattle.py_meaning.specs.Objects.{Object, Filling}
use Rattle.py_meaning.specs.Events.{FaultKind, on_another, Event, fault}
use Rattle.py_meaning.specs.Programs.{Program}
use Rattle.py_meaning.specs.Calls.{perform}
use Rattle.py_meaning.specs.Actions.{Scope, Memory, with_scope, with_new, with_parts, Flow, Request, Outcome, came, threw, Action, gives, raises, takes, counts, turn, looks, becomes, makes, refills, tells, attempt, bind, then_do, changes, afterwards, pick, raise_builtin, may_raise, done, fails}
use Rattle.py_meaning.specs.Runs.{State, Answer, gave, raised, stopped, with_memory, with_event, with_choices, with_turns, after_turn, take_choice, carry_out, begin_turn, scope_after, come_back, turns_within}
use Rattle.py_meaning.specs.Holds.{Account, Lasts, Post, Holds, HoldsAfter}

module _ (L : Account) where
  -- ---- one after the other

  -- also where the first raises
  pub holds_attempt : {A B : Type 0} (P : Post L A) (R : Post L Value) (Q : Post L B) (S : Post L Value) (a : Action A) (f : A → Action B) (h : Value → Action B) (g : L.Kept) (m : Memory) → Holds L P R g m a →
      ((x : A) (g' : L.Kept) (m' : Memory) → P g' m' x → Holds L Q S g' m' (f x)) → ((v : Value) (g' : L.Kept) (m' : Memory) → R g' m' v → Holds L Q S g' m' (h v)) → Holds L Q S g m (attempt a f h)
  holds_attempt P R Q S (gives x) f h g m w k j = k x g m w
  holds_attempt P R Q S (raises v) f h g m w k j = j v g m w
  holds_attempt P R Q S (takes a) f h g m w k j = (w.0, λ c. holds_attempt P R Q S (a c) f h g m (w.1 c) k j)
  holds_attempt P R Q S (counts a) f h g m w k j = λ n. holds_attempt P R Q S (a n) f h g m (w n) k j
  holds_attempt P R Q S (turn q a) f h g m w k j = (w.0, (w.1.0, w.1.1, λ o g' m' x. holds_attempt P R Q S (a o) f h g' m' (w.1.2 o g' m' x) k j))
  holds_attempt P R Q S (looks a) f h g m w k j = holds_attempt P R Q S (a m) f h g m w k j
  holds_attempt P R Q S (becomes c a) f h g m w k j = holds_attempt P R Q S a f h g (with_scope c m) w k j
  holds_attempt P R Q S (makes o a) f h g m w k j = (w.0, w.1, holds_attempt P R Q S (a (ref (length m.heap))) f h w.0 (with_new o m) w.2 k j)
  holds_attempt P R Q S (refills place new a) f h g m w k j = holds_attempt P R Q S a f h g (with_parts place new m) w k j
  holds_attempt P R Q S (tells e a) f h g m w k j = (w.0, holds_attempt P R Q S a f h g m w.1 k j)

  pub holds_bind : {A B : Type 0} (P : Post L A) (Q : Post L B) (R : Post L Value) (a : Action A) (f : A → Action B) (g : L.Kept) (m : Memory) →
      Holds L P R g m a → ((x : A) (g' : L.Kept) (m' : Memory) → P g' m' x → Holds L Q R g' m' (f x)) → Holds L Q R g m (bind a f)
  holds_bind P Q R a f g m w k = holds_attempt P R Q R a f (λ v. raises v) g m w k (λ v g' m' r. r)

  pub holds_then : {A B : Type 0} (P : Post L A) (Q : Post L B) (R : Post L Value) (a : Action A) (b : Action B) (g : L.Kept) (m : Memory) →
      Holds L P R g m a → ((x : A) (g' : L.Kept) (m' : Memory) → P g' m' x → Holds L Q R g' m' b) → Holds L Q R g m (then_do a b)
  holds_then P Q R a b g m w k = holds_bind P Q R a (λ x. b) g m w k

  -- what holds at an end may be more than is asked
  pub holds_map : {A : Type 0} (P Q : Post L A) (R S : Post L Value) (a : Action A) (g : L.Kept) (m : Memory) → Holds L P R g m a →
      ((x : A) (g' : L.Kept) (m' : Memory) → P g' m' x → Q g' m' x) → ((v : Value) (g' : L.Kept) (m' : Memory) → R g' m' v → S g' m' v) → Holds L Q S g m a
  holds_map P Q R S (gives x) g m w p r = p x g m w
  holds_map P Q R S (raises v) g m w p r = r v g m w
  holds_map P Q R S (takes k) g m w p r = (w.0, λ c. holds_map P Q R S (k c) g m (w.1 c) p r)
  holds_map P Q R S (counts k) g m w p r = λ n. holds_map P Q R S (k n) g m (w n) p r
  holds_map P Q R S (turn q k) g m w p r = (w.0, (w.1.0, w.1.1, λ o g' m' x. holds_map P Q R S (k o) g' m' (w.1.2 o g' m' x) p r))
  holds_map P Q R S (looks k) g m w p r = holds_map P Q R S (k m) g m w p r
  holds_map P Q R S (becomes c a) g m w p r = holds_map P Q R S a g (with_scope c m) w p r
  holds_map P Q R S (makes o k) g m w p r = (w.0, w.1, holds_map P Q R S (k (ref (length m.heap))) w.0 (with_new o m) w.2 p r)
  holds_map P Q R S (refills place new a) g m w p r = holds_map P Q R S a g (with_parts place new m) w p r
  holds_map P Q R S (tells e a) g m w p r = (w.0, holds_map P Q R S a g m w.1 p r)

  -- a change of the scope at the end, whichever the end is
  pub holds_afterwards : {A : Type 0} (P Q : Post L A) (R S : Post L Value) (a : Action A) (f : Scope → Scope) (g : L.Kept) (m : Memory) → Holds L P R g m a →
      ((x : A) (g' : L.Kept) (m' : Memory) → P g' m' x → Q g' (with_scope (f m'.scope) m') x) → ((v : Value) (g' : L.Kept) (m' : Memory) → R g' m' v → S g' (with_scope (f m'.scope) m') v) → Holds L Q S g m (afterwards a f)
  holds_afterwards P Q R S a f g m w p r = holds_attempt P R Q S a (λ x. changes f (gives x)) (λ v. changes f (raises v)) g m w p r

  -- ---- single steps

  pub holds_pick : {A : Type 0} (Q : Post L A) (R : Post L Value) (n : ℕ) (f : ℕ → Action A) (g : L.Kept) (m : Memory) → L.Always g m → ((i : ℕ) → Holds L Q R g m (f i)) → Holds L Q R g m (bind (pick n) f)
  holds_pick Q R zero f g m w k = k 0
  holds_pick Q R (suc zero) f g m w k = k 0
  holds_pick Q R (suc (suc n)) f g m w k = (w, λ c. k (c % suc (suc n)))

  -- an instance of a builtin exception is raised
  pub holds_raise : {A : Type 0} (Q : Post L A) (R : Post L Value) (name : List ℕ) (g : L.Kept) (m : Memory) →
      ((later : L.Kept) × L.Made g m (object.outside (term.class name)) later × R later (with_new (object.outside (term.class name)) m) (ref (length m.heap))) → Holds L Q R g m (raise_builtin {A = A} name)
  holds_raise Q R name g m w = w

  -- a step that may raise, and what comes after it
  pub holds_may_raise : {A : Type 0} (Q : Post L A) (R : Post L Value) (b : Action A) (g : L.Kept) (m : Memory) → L.Always g m →
      ((name : List ℕ) → (later : L.Kept) × L.Made g m (object.outside (term.class name)) later × R later (with_new (object.outside (term.class name)) m) (ref (length m.heap))) → Holds L Q R g m b → Holds L Q R g m (then_do may_raise b)
  holds_may_raise {A} Q R b g m w r k = (w, λ c. either (c % 64 == 63) (unwrap_or (slice_get exception_names ((c / 64) % length exception_names)) []))
    where
      either : (up : Bool) (name : List ℕ) → Holds L Q R g m (then_do (if up then raise_builtin name else done) b)
      either true name = r name
      either false name = k

  -- a fault is told, and a TypeError raised
  pub holds_fails : {A : Type 0} (Q : Post L A) (R : Post L Value) (line : ℕ) (kind : FaultKind) (g : L.Kept) (m : Memory) → L.Told g m (fault line kind on_another None) →
      ((later : L.Kept) × L.Made g m (object.outside (term.class (codes "TypeError"))) later × R later (with_new (object.outside (term.class (codes "TypeError"))) m) (ref (length m.heap))) → Holds L Q R g m (fails {A = A} line kind)
  holds_fails Q R line kind g m t w = (t, w)

  -- ---- runs

  -- what holds after a turn, in the memory that it leaves
  abbrev pub GaveTurn : (q : Request) → L.Way q → L.Kept → Memory → Post L Flow
  GaveTurn q way g m g' m' flow = L.Answered q way g m (came flow) g' m'

  abbrev pub RaisedTurn : (q : Request) → L.Way q → L.Kept → Memory → Post L Value
  RaisedTurn q way g m g' m' v = L.Answered q way g m (threw v) g' m'

  -- the same before the caller's frame is back
  abbrev pub left_by : Request → Memory → Memory → Memory
  left_by q before m = with_scope (scope_after q before.scope m.scope) m

  abbrev pub GaveInside : (q : Request) → L.Way q → L.Kept → Memory → Post L Flow
  GaveInside q way g m g' m' flow = L.Answered q way g m (came flow) g' (left_by q m m')

  abbrev pub RaisedInside : (q : Request) → L.Way q → L.Kept → Memory → Post L Value
  RaisedInside q way g m g' m' v = L.Answered q way g m (threw v) g' (left_by q m m')

  abbrev pub TurnsHold : (Request → State → Answer Flow) → Type 0
  TurnsHold t = (q : Request) (way : L.Way q) (g : L.Kept) (s : State) → All (L.Told g s.memory) s.events → L.Always g s.memory → L.Asked q way g s.memory → HoldsAfter L (GaveTurn q way g s.memory) (RaisedTurn q way g s.memory) (t q s)

  module _ (lasts : Lasts L) where
    told_in_scope : (g : L.Kept) (m : Memory) (c : Scope) (es : List Event) → All (L.Told g m) es → All (L.Told g (with_scope c m)) es
    told_in_scope g m c es w = λ k e at. lasts.in_scope g m c _ (w k e at)

    told_with_object : (g : L.Kept) (m : Memory) (o : Object) (later : L.Kept) (es : List Event) → L.Made g m o later → All (L.Told g m) es → All (L.Told later (with_new o m)) es
    told_with_object g m o later es made w = λ k e at. lasts.with_object g m o later _ made (w k e at)

    told_with_filling : (g : L.Kept) (m : Memory) (place : ℕ) (new : Filling) (es : List Event) → All (L.Told g m) es → All (L.Told g (with_parts place new m)) es
    told_with_filling g m place new es w = λ k e at. lasts.with_filling g m place new _ (w k e at)

    module _ (t : Request → State → Answer Flow) (hold : TurnsHold t) where
      pub carry_holds : {A : Type 0} (P : Post L A) (R : Post L Value) (a : Action A) (g : L.Kept) (s : State) → All (L.Told g s.memory) s.events → Holds L P R g s.memory a → HoldsAfter L P R (carry_out t a s)
      carry_holds P R (gives a) g s w k = (g, w, k)
      carry_holds P R (raises v) g s w k = (g, w, k)
      carry_holds P R (takes a) g s w k = go s.choices (λ c cs. carry_holds P R (a c) g (with_choices cs s) w (k.1 c))
        where
          go : (cs : List ℕ) → ((c : ℕ) (ds : List ℕ) → HoldsAfter L P R (carry_out t (a c) (with_choices ds s))) → HoldsAfter L P R (take_choice cs (λ c. carry_out t (a c)) s)
          go [] h = (g, w, k.0)
          go (c ∷ cs) h = h c cs
      carry_holds P R (counts a) g s w k = carry_holds P R (a (length s.choices)) g s w (k (length s.choices))
      carry_holds P R (turn q a) g s w k = go (t q s) (hold q k.1.0 g s w k.0 k.1.1) (λ o g' u w' x. carry_holds P R (a o) g' u w' (k.1.2 o g' u.memory x))
        where
          go : (r : Answer Flow) → HoldsAfter L (GaveTurn q k.1.0 g s.memory) (RaisedTurn q k.1.0 g s.memory) r →
              ((o : Outcome) (g' : L.Kept) (u : State) → All (L.Told g' u.memory) u.events → L.Answered q k.1.0 g s.memory o g' u.memory → HoldsAfter L P R (carry_out t (a o) u)) → HoldsAfter L P R (after_turn r (λ o. carry_out t (a o)))
          go (gave flow u) h on = on (came flow) h.0 u h.1 h.2
          go (raised v u) h on = on (threw v) h.0 u h.1 h.2
          go (stopped why u) h on = h
      carry_holds P R (looks a) g s w k = carry_holds P R (a s.memory) g s w k
      carry_holds P R (becomes c a) g s w k = carry_holds P R a g (with_memory (with_scope c s.memory) s) (told_in_scope g s.memory c s.events w) k
      carry_holds P R (makes o a) g s w k = carry_holds P R (a (ref (length s.memory.heap))) k.0 (with_memory (with_new o s.memory) s) (told_with_object g s.memory o k.0 s.events k.1 w) k.2
      carry_holds P R (refills place new a) g s w k = carry_holds P R a g (with_memory (with_parts place new s.memory) s) (told_with_filling g s.memory place new s.events w) k
      carry_holds P R (tells e a) g s w k = carry_holds P R a g (with_event e s) (All-append (L.Told g s.memory) s.events (e ∷ []) w (All-cons (L.Told g s.memory) e [] k.0 (All-nil (L.Told g s.memory)))) k.1

    back_holds : (q : Request) (way : L.Way q) (g : L.Kept) (m : Memory) (r : Answer Flow) → HoldsAfter L (GaveInside q way g m) (RaisedInside q way g m) r → HoldsAfter L (GaveTurn q way g m) (RaisedTurn q way g m) (come_back q m.scope r)
    back_holds q way g m (gave flow s) h = (h.0, told_in_scope h.0 s.memory (scope_after q m.scope s.memory.scope) s.events h.1, h.2)
    back_holds q way g m (raised v s) h = (h.0, told_in_scope h.0 s.memory (scope_after q m.scope s.memory.scope) s.events h.1, h.2)
    back_holds q way g m (stopped why s) h = h

    -- It is enough to show what is done in one turn.
    pub turns_hold : (p : Program) → ((q : Request) (way : L.Way q) (g : L.Kept) (m : Memory) → L.Always g m → L.Asked q way g m → Holds L (GaveInside q way g m) (RaisedInside q way g m) g m (perform p q)) → (n : ℕ) → TurnsHold (turns_within p n)
    unfolding turns_within
    turns_hold p one zero q way g s w always asked = (g, w, always)
    turns_hold p one (suc n) q way g s w always asked =
        back_holds q way g s.memory (begin_turn s.turns (carry_out (turns_within p n) (perform p q)) s)
        (go s.turns (λ k. carry_holds (turns_within p n) (turns_hold p one n) (GaveInside q way g s.memory) (RaisedInside q way g s.memory) (perform p q) g (with_turns k s) w (one q way g s.memory always asked)))
      where
        go : (k : ℕ) → ((k : ℕ) → HoldsAfter L (GaveInside q way g s.memory) (RaisedInside q way g s.memory) (carry_out (turns_within p n) (perform p q) (with_turns k s))) →
            HoldsAfter L (GaveInside q way g s.memory) (RaisedInside q way g s.memory) (begin_turn k (carry_out (turns_within p n) (perform p q)) s)
        go zero more = (g, w, always)
        go (suc k) more = more k

    -- Where each request's performance holds, every run holds.
    pub runs_hold : (p : Program) → ((q : Request) (way : L.Way q) (g : L.Kept) (m : Memory) → L.Always g m → L.Asked q way g m → Holds L (GaveInside q way g m) (RaisedInside q way g m) g m (perform p q)) →
        {A : Type 0} (P : Post L A) (R : Post L Value) (n : ℕ) (a : Action A) (g : L.Kept) (s : State) → All (L.Told g s.memory) s.events → Holds L P R g s.memory a → HoldsAfter L P R (carry_out (turns_within p n) a s)
    runs_hold p one P R n a g s w k = carry_holds (turns_within p n) (turns_hold p one n) P R a g s w k
