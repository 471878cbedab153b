-- A logic of actions: what holds of an action, whatever is chosen and however its turns end, beside an account that is kept of the run.
use Rattle.std.specs.Prelude.{ℕ, length}
use Rattle.std.specs.List.{All}
use Rattle.py_meaning.specs.Values.{Value, ref}
use Rattle.py_meaning.specs.Objects.{Object, Filling}
use Rattle.py_meaning.specs.Events.{Event}
use Rattle.py_meaning.specs.Actions.{Scope, Memory, with_scope, with_new, with_parts, Request, Outcome, Action, gives, raises, takes, counts, turn, looks, becomes, makes, refills, tells}
use Rattle.py_meaning.specs.Runs.{Answer, gave, raised, stopped}

-- What is kept of a run beside its memory, as which of its objects are followed, and what is said with it.
pub record Account : Type 1 where
  pub Kept : Type 0
  -- at each moment at which a run may stop
  pub Always : Kept → Memory → Type 0
  -- A request is made in some way: what holds where it is made so, and after it.
  pub Way : Request → Type 0
  pub Asked : (q : Request) → Way q → Kept → Memory → Type 0
  pub Answered : (q : Request) → Way q → Kept → Memory → Outcome → Kept → Memory → Type 0
  -- what may be kept from where an object is made on
  pub Made : Kept → Memory → Object → Kept → Type 0
  -- of an event that was told
  pub Told : Kept → Memory → Event → Type 0

-- What is said of an event is still so in each later memory of the turn.
pub record Lasts (L : Account) : Type 0 where
  pub in_scope : (g : L.Kept) (m : Memory) (c : Scope) (e : Event) → L.Told g m e → L.Told g (with_scope c m) e
  pub with_object : (g : L.Kept) (m : Memory) (o : Object) (later : L.Kept) (e : Event) → L.Made g m o later → L.Told g m e → L.Told later (with_new o m) e
  pub with_filling : (g : L.Kept) (m : Memory) (place : ℕ) (new : Filling) (e : Event) → L.Told g m e → L.Told g (with_parts place new m) e

module _ (L : Account) where
  -- what holds at an end, of what was given or raised
  abbrev pub Post : Type 0 → Type 1
  Post A = L.Kept → Memory → A → Type 0

  module _ {A : Type 0} (P : Post A) (R : Post Value) where
    abbrev pub Holds : L.Kept → Memory → Action A → Type 0
    Holds g m (gives a) = P g m a
    Holds g m (raises v) = R g m v
    Holds g m (takes k) = L.Always g m × ((c : ℕ) → Holds g m (k c))
    Holds g m (counts k) = (n : ℕ) → Holds g m (k n)
    Holds g m (turn q k) = L.Always g m × ((way : L.Way q) × L.Asked q way g m × ((o : Outcome) (g' : L.Kept) (m' : Memory) → L.Answered q way g m o g' m' → Holds g' m' (k o)))
    Holds g m (looks k) = Holds g m (k m)
    Holds g m (becomes c a) = Holds g (with_scope c m) a
    Holds g m (makes o k) = (later : L.Kept) × L.Made g m o later × Holds later (with_new o m) (k (ref (length m.heap)))
    Holds g m (refills place new a) = Holds g (with_parts place new m) a
    Holds g m (tells e a) = L.Told g m e × Holds g m a

    -- What holds of an answer, in the last memory: each event so far was told rightly, whether it gave, raised or stopped.
    abbrev pub HoldsAfter : Answer A → Type 0
    HoldsAfter (gave a s) = (g : L.Kept) × All (L.Told g s.memory) s.events × P g s.memory a
    HoldsAfter (raised v s) = (g : L.Kept) × All (L.Told g s.memory) s.events × R g s.memory v
    HoldsAfter (stopped why s) = (g : L.Kept) × All (L.Told g s.memory) s.events × L.Always g s.memory
