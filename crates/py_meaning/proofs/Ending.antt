-- What holds of all that an action gives, wherever its turns lead.
use Rattle.std.proofs.Common.{◌≡◌, ℕ, zero, suc, ◌<◌, List, [], ◌∷◌, ◌++◌, length, refl, ap, arith}
use Rattle.std.proofs.Math.Nat.{mod-lt}
use Rattle.std.specs.List.{All}
use Rattle.py_meaning.specs.Values.{Value, ref}
use Rattle.py_meaning.specs.Objects.{Object, object_at, kind_of, kind_of_object}
use Rattle.builtin_stubs.specs.declared.basic.Basic.{Basic}
use Rattle.py_meaning.specs.Actions.{Memory, with_scope, with_new, with_parts, Flow, Request, Action, gives, raises, takes, counts, turn, looks, becomes, makes, refills, tells, bind, allocate, pick}
use Rattle.py_meaning.specs.Runs.{State, Answer, gave, raised, stopped, carry_out}
use Rattle.py_meaning.specs.Holds.{Account, Lasts, Post, Holds, HoldsAfter}
use Rattle.py_meaning.proofs.Holding.{holds_bind, holds_map, GaveTurn, RaisedTurn, TurnsHold, carry_holds}

abbrev pub anywhere : Account
anywhere = record {
  Kept = Unit {0};
  Always = λ g m. Unit {0};
  Way = λ q. Unit {0};
  Asked = λ q way g m. Unit {0};
  Answered = λ q way g m o later m'. Unit {0};
  Made = λ g m o later. Unit {0};
  Told = λ g m e. Unit {0};
}

anywhere_lasts : Lasts anywhere
anywhere_lasts = record { in_scope = λ g m c e t. tt; with_object = λ g m o later e made t. tt; with_filling = λ g m place new e t. tt }

abbrev pub Raises : Post anywhere Value
Raises g m v = Unit {0}

abbrev pub Ends : {A : Type 0} → (Memory → A → Type 0) → Action A → Memory → Type 0
Ends Q a m = Holds anywhere (λ g m' x. Q m' x) Raises tt m a

abbrev pub Free : {A : Type 0} → Memory → A → Type 0
Free m a = Unit {0}

pub ends_all : {A : Type 0} (a : Action A) (m : Memory) → Ends Free a m
ends_all (gives a) m = tt
ends_all (raises v) m = tt
ends_all (takes k) m = (tt, λ c. ends_all (k c) m)
ends_all (counts k) m = λ n. ends_all (k n) m
ends_all (turn q k) m = (tt, (tt, tt, λ o g m' w. ends_all (k o) m'))
ends_all (looks k) m = ends_all (k m) m
ends_all (becomes c a) m = ends_all a (with_scope c m)
ends_all (makes o k) m = (tt, tt, ends_all (k (ref (length m.heap))) (with_new o m))
ends_all (refills place new a) m = ends_all a (with_parts place new m)
ends_all (tells e a) m = (tt, ends_all a m)

pub ends_bind : {A B : Type 0} (R : Memory → A → Type 0) (Q : Memory → B → Type 0) (a : Action A) (f : A → Action B) (m : Memory) → Ends R a m → ((x : A) (m' : Memory) → R m' x → Ends Q (f x) m') → Ends Q (bind a f) m
ends_bind R Q a f m h k = holds_bind anywhere (λ g m' x. R m' x) (λ g m' x. Q m' x) Raises a f tt m h (λ x g m' w. k x m' w)

pub ends_on : {A : Type 0} (R Q : Memory → A → Type 0) → ((m : Memory) (x : A) → R m x → Q m x) → (a : Action A) (m : Memory) → Ends R a m → Ends Q a m
ends_on R Q more a m h = holds_map anywhere (λ g m' x. R m' x) (λ g m' x. Q m' x) Raises Raises a tt m h (λ x g m' w. more m' x w) (λ v g m' w. w)

-- ---- what is carried out

abbrev pub OfGiven : {A : Type 0} → (Memory → A → Type 0) → Answer A → Type 0
OfGiven Q (gave x s) = Q s.memory x
OfGiven Q (raised v s) = Unit {0}
OfGiven Q (stopped why s) = Unit {0}

all_told : (s : State) → All (anywhere.Told tt s.memory) s.events
all_told s = λ k e at. tt

any_turns : (t : Request → State → Answer Flow) → TurnsHold anywhere t
any_turns t q way g s told always asked = any_answer (t q s)
  where
    any_answer : (r : Answer Flow) → HoldsAfter anywhere (GaveTurn anywhere q way g s.memory) (RaisedTurn anywhere q way g s.memory) r
    any_answer (gave flow u) = (tt, all_told u, tt)
    any_answer (raised v u) = (tt, all_told u, tt)
    any_answer (stopped why u) = (tt, all_told u, tt)

of_given : {A : Type 0} (Q : Memory → A → Type 0) (r : Answer A) → HoldsAfter anywhere (λ g m x. Q m x) Raises r → OfGiven Q r
of_given Q (gave x s) h = h.2
of_given Q (raised v s) h = tt
of_given Q (stopped why s) h = tt

pub carried : {A : Type 0} (t : Request → State → Answer Flow) (Q : Memory → A → Type 0) (a : Action A) (s : State) → Ends Q a s.memory → OfGiven Q (carry_out t a s)
carried t Q a s h = of_given Q (carry_out t a s) (carry_holds anywhere anywhere_lasts t (any_turns t) (λ g m x. Q m x) Raises a tt s (all_told s) h)

-- ---- kinds

abbrev pub OfKind : Basic → Memory → Value → Type 0
OfKind k m x = kind_of m.heap x ≡ k

pub last_object : (os : List Object) (o : Object) → object_at (os ++ o ∷ []) (length os) ≡ o
last_object [] o = refl
last_object (x ∷ os) o = last_object os o

pub allocated : (o : Object) (m : Memory) → Ends (OfKind (kind_of_object o)) (allocate o) m
allocated o m = (tt, tt, ap kind_of_object (last_object m.heap o))

-- a choice among some cases
pub pick_ends : (n : ℕ) (m : Memory) → 0 < n → Ends (λ _ i. i < n) (pick n) m
pick_ends zero m lt = absurd (omega (arith, lt))
pick_ends (suc zero) m lt = lt
pick_ends (suc (suc n)) m lt = (tt, λ c. mod-lt c lt)
