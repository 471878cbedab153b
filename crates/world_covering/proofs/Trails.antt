-- What is said of a run that goes along its module's code: a walk is kept of it.
use Rattle.std.proofs.Common.{ℕ, List, []}
use Rattle.world_rules.specs.Places.{Context}
use Rattle.world_rules.specs.Sources.{Source}
use Rattle.world_rules.specs.Items.{Item}
use Rattle.world_rules.specs.Findings.{IsReported}
use Rattle.py_meaning.specs.Values.{Value}
use Rattle.py_meaning.specs.Objects.{Object}
use Rattle.py_meaning.specs.Events.{Event, returned, held, fault}
use Rattle.py_meaning.specs.Actions.{Memory, with_scope, with_new, with_parts, Action, gives, raises, takes, counts, turn, looks, becomes, makes, refills, tells}
use Rattle.py_meaning.specs.Values.{ref}
use Rattle.py_meaning.specs.Holds.{Lasts, Post, Holds}
use Rattle.std.specs.Prelude.{length}
use Rattle.tree_covering.specs.Trails.{Trail}
use Rattle.tree_covering.specs.Turns.{account}
use Rattle.world_covering.specs.Standing.{Grows}
use Rattle.world_covering.specs.RowLaws.{turnless}
use Rattle.world_covering.specs.Keeping.{code_in, Entry, Kept, Pending}
use Rattle.world_covering.specs.Covering.{IsEnding}
use Rattle.world_covering.proofs.Growing.{grows_new, grows_set, stands_on}

module _ (s : Source) (items : List Item) (error : ℕ) where
  abbrev pub IsTold : List Object → Event → Type 0
  IsTold heap (fault line kind holder attribute) = IsReported s items line
  IsTold heap (held n v) = IsEnding s items heap n v
  IsTold heap (returned f v) = ⊥

  -- a turn is one of a loop, and no object is followed
  abbrev pub covering : Trail
  covering =
      record {
        Context = Context;
        code = λ c. code_in s c;
        locals = λ c. [];
        error = error;
        Since = Entry;
        Kept = Unit {0};
        Always = λ g m. Unit {0};
        Made = λ g m o later. Unit {0};
        Told = λ g m e. IsTold m.heap e;
        Way = λ q. ⊥;
        Asked = λ q way g m. Unit {0};
        Answered = λ q way g m o later m'. Unit {0};
        IsAt = λ c since place stack g m. Kept s items c since place stack m;
        IsSent = λ c since outer stack v g m. Pending s items c since outer stack m;
        IsReturned = λ c since v g m. ⊥;
        IsHandled = λ since v. Unit {0};
      }

  told_on : (h j : List Object) (e : Event) → Grows h j → IsTold h e → IsTold j e
  told_on h j (fault line kind holder attribute) g w = w
  told_on h j (held n v) g w = record { shape = w.shape; ends = w.ends; stands = stands_on h j v w.shape g w.stands }
  told_on h j (returned f v) g w = w

  pub lasts : Lasts (account covering)
  lasts =
      record {
        in_scope = λ g m c e w. w;
        with_object = λ g m o later e made w. told_on m.heap (with_new o m).heap e (grows_new m.heap o) w;
        with_filling = λ g m place new e w. told_on m.heap (with_parts place new m).heap e (grows_set m.heap place new) w;
      }

  -- what holds of an action that takes no turn holds along the run too
  module _ (Told : Event → Type 0) (said : (h : List Object) (e : Event) → Told e → IsTold h e) {A : Type 0} (P : Post (turnless Told) A) (R : Post (turnless Told) Value) (Q : Post (account covering) A) (S : Post (account covering) Value)
      (on : (m : Memory) (a : A) → P tt m a → Q tt m a) (off : (m : Memory) (v : Value) → R tt m v → S tt m v) where
    pub along : (action : Action A) (m : Memory) → Holds (turnless Told) P R tt m action → Holds (account covering) Q S tt m action
    along (gives a) m w = on m a w
    along (raises v) m w = off m v w
    along (takes k) m w = (tt, λ c. along (k c) m (w.1 c))
    along (counts k) m w = λ n. along (k n) m (w n)
    along (turn q k) m w = absurd w.1.0
    along (looks k) m w = along (k m) m w
    along (becomes c a) m w = along a (with_scope c m) w
    along (makes o k) m w = (tt, tt, along (k (ref (length m.heap))) (with_new o m) w.2)
    along (refills place new a) m w = along a (with_parts place new m) w
    along (tells e a) m w = (said m.heap e w.0, along a m w.1)
