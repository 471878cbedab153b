-- What single instructions leave of a run, and how tests and raises go on.
use Rattle.std.proofs.Common.{◌≡◌, ℕ, suc, Bool, true, false, not, List, [], ◌∷◌, ◌++◌, length, subst}
use Rattle.type_terms.specs.Terms as term
use Rattle.stack_code.specs.declared.op.Op.{Op}
use Rattle.stack_code.specs.Effects.{may_raise}
use Rattle.py_meaning.specs.Values.{Value, ref}
use Rattle.py_meaning.specs.Objects as object
use Rattle.py_meaning.specs.Programs.{Program}
use Rattle.py_meaning.specs.Expressions.{chosen, kept_or}
use Rattle.py_meaning.specs.Actions as actions
use Rattle.py_meaning.specs.Actions.{Memory, with_new, Action, raises, bind, then_do}
use Rattle.py_meaning.specs.Holds.{Post, Holds}
use Rattle.py_meaning.proofs.Holding.{holds_attempt, holds_may_raise}
use Rattle.tree_covering.specs.Trails.{Trail, Around, OpIn, At, ValueAt, DoneAt, SentOver}
use Rattle.tree_covering.specs.Turns.{account}
use Rattle.tree_covering.specs.Follows.{Gives, Takes, ChoiceAt, RaisesNew, Follows}

module _ (t : Trail) (p : Program) (steps : Follows t p) where
  -- ---- one after the other

  -- the first may raise over more of the stack
  pub seq_over : {A B : Type 0} (P : Post (account t) A) (R : Post (account t) Value) (Q : Post (account t) B) (S : Post (account t) Value) (a : Action A) (f : A → Action B) (g : t.Kept) (m : Memory) → Holds (account t) P R g m a →
      ((v : Value) (g' : t.Kept) (m' : Memory) → R g' m' v → S g' m' v) → ((x : A) (g' : t.Kept) (m' : Memory) → P g' m' x → Holds (account t) Q S g' m' (f x)) → Holds (account t) Q S g m (bind a f)
  seq_over P R Q S a f g m h r k = holds_attempt (account t) P R Q S a f (λ v. raises v) g m h k r

  -- ---- places

  pub at_to : (x : Around t) (place to : ℕ) (stack : List Value) (g : t.Kept) (m : Memory) → place ≡ to → At t x place stack g m → At t x to stack g m
  at_to x place to stack g m e k = subst (λ n. At t x n stack g m) e k

  pub value_to : (x : Around t) (place to : ℕ) (stack : List Value) (R : Post (account t) Value) (a : Action Value) (g : t.Kept) (m : Memory) → place ≡ to → Holds (account t) (ValueAt t x place stack) R g m a → Holds (account t) (ValueAt t x to stack) R g m a
  value_to x place to stack R a g m e h = subst (λ n. Holds (account t) (ValueAt t x n stack) R g m a) e h

  pub done_to : (x : Around t) (place to : ℕ) (stack : List Value) (R : Post (account t) Value) (a : Action (Unit {0})) (g : t.Kept) (m : Memory) → place ≡ to → Holds (account t) (DoneAt t x place stack) R g m a → Holds (account t) (DoneAt t x to stack) R g m a
  done_to x place to stack R a g m e h = subst (λ n. Holds (account t) (DoneAt t x n stack) R g m a) e h

  -- ---- raises

  pub sunk : (x : Around t) (above stack : List Value) (v : Value) (g : t.Kept) (m : Memory) → SentOver t x (above ++ stack) g m v → SentOver t x stack g m v
  sunk x [] stack v g m h = h
  sunk x (u ∷ above) stack v g m h = sunk x above stack v g m (steps.sinks x (above ++ stack) u v g m h)

  -- an instruction that may raise, before what it does; the exception may lie over less of the stack
  pub may_over : {A : Type 0} (Q : Post (account t) A) (x : Around t) (place line : ℕ) (o : Op) (full stack : List Value) (b : Action A) (g : t.Kept) (m : Memory) → OpIn t x place o line → may_raise o ≡ true → At t x place full g m →
      ((v : Value) (g' : t.Kept) (m' : Memory) → SentOver t x full g' m' v → SentOver t x stack g' m' v) → Holds (account t) Q (SentOver t x stack) g m b → Holds (account t) Q (SentOver t x stack) g m (then_do actions.may_raise b)
  may_over Q x place line o full stack b g m l may k down h = holds_may_raise (account t) Q (SentOver t x stack) b g m (steps.always x place full g m k) new h
    where
      new : (name : List ℕ) → (later : t.Kept) × t.Made g m (object.outside (term.class name)) later × SentOver t x stack later (with_new (object.outside (term.class name)) m) (ref (length m.heap))
      new name =
          let r : RaisesNew t x full g m name = steps.raises_any x place line o full g m name l may k in
          (r.0, r.1, down (ref (length m.heap)) r.0 (with_new (object.outside (term.class name)) m) r.2)

  pub may_then : {A : Type 0} (Q : Post (account t) A) (x : Around t) (place line : ℕ) (o : Op) (above stack : List Value) (b : Action A) (g : t.Kept) (m : Memory) → OpIn t x place o line → may_raise o ≡ true → At t x place (above ++ stack) g m →
      Holds (account t) Q (SentOver t x stack) g m b → Holds (account t) Q (SentOver t x stack) g m (then_do actions.may_raise b)
  may_then Q x place line o above stack b g m l may k h = may_over Q x place line o (above ++ stack) stack b g m l may k (λ v g' m' r. sunk x above stack v g' m' r) h

  -- the same with what comes behind its value
  pub may_go_on : {B : Type 0} (Q : Post (account t) B) (x : Around t) (o : Op) (used rest stack : List Value) (action : ℕ → Action Value) → Gives t x o used action → may_raise o ≡ true →
      ((v : Value) (g : t.Kept) (m : Memory) → SentOver t x rest g m v → SentOver t x stack g m v) → (place line : ℕ) (f : Value → Action B) (g : t.Kept) (m : Memory) → OpIn t x place o line → At t x place (used ++ rest) g m →
      ((v : Value) (g' : t.Kept) (m' : Memory) → At t x (suc place) (v ∷ rest) g' m' → Holds (account t) Q (SentOver t x stack) g' m' (f v)) → Holds (account t) Q (SentOver t x stack) g m (then_do actions.may_raise (bind (action line) f))
  may_go_on Q x o used rest stack action gives may down place line f g m l k more =
      may_over Q x place line o (used ++ rest) stack (bind (action line) f) g m l may k (λ v g' m' r. down v g' m' (sunk x used rest v g' m' r))
      (seq_over (ValueAt t x (suc place) rest) (SentOver t x rest) Q (SentOver t x stack) (action line) f g m (gives place line rest g m l k) down more)

  -- an instruction that may raise and gives a value
  pub may_give : (x : Around t) (o : Op) (used : List Value) (action : ℕ → Action Value) → Gives t x o used action → may_raise o ≡ true → (place to line : ℕ) (stack : List Value) (g : t.Kept) (m : Memory) → suc place ≡ to → OpIn t x place o line → At t x place (used ++ stack) g m →
      Holds (account t) (ValueAt t x to stack) (SentOver t x stack) g m (then_do actions.may_raise (action line))
  may_give x o used action gives may place to line stack g m e l k =
      may_then (ValueAt t x to stack) x place line o used stack (action line) g m l may k (value_to x (suc place) to stack (SentOver t x stack) (action line) g m e (gives place line stack g m l k))

  pub may_take : (x : Around t) (o : Op) (used : List Value) (action : ℕ → Action (Unit {0})) → Takes t x o used action → may_raise o ≡ true → (place to line : ℕ) (stack : List Value) (g : t.Kept) (m : Memory) → suc place ≡ to → OpIn t x place o line → At t x place (used ++ stack) g m →
      Holds (account t) (DoneAt t x to stack) (SentOver t x stack) g m (then_do actions.may_raise (action line))
  may_take x o used action takes may place to line stack g m e l k =
      may_then (DoneAt t x to stack) x place line o used stack (action line) g m l may k (done_to x (suc place) to stack (SentOver t x stack) (action line) g m e (takes place line stack g m l k))

  -- ---- tests

  pub holds_chosen : {A : Type 0} (Q : Post (account t) A) (R : Post (account t) Value) (x : Around t) (if_true if_false : ℕ) (on_true on_false : List Value) (b : Bool) (one other : Action A) (g : t.Kept) (m : Memory) → ChoiceAt t x if_true if_false on_true on_false g m b →
      (At t x if_true on_true g m → Holds (account t) Q R g m one) → (At t x if_false on_false g m → Holds (account t) Q R g m other) → Holds (account t) Q R g m (chosen b one other)
  holds_chosen Q R x if_true if_false on_true on_false true one other g m c h k = h c
  holds_chosen Q R x if_true if_false on_true on_false false one other g m c h k = k c

  -- the first operand of `and`, and of `or`, where it decides
  pub holds_and : (Q R : Post (account t) Value) (x : Around t) (on behind : ℕ) (stack : List Value) (v : Value) (b : Bool) (a : Action Value) (g : t.Kept) (m : Memory) → ChoiceAt t x on behind stack (v ∷ stack) g m b →
      (At t x on stack g m → Holds (account t) Q R g m a) → (At t x behind (v ∷ stack) g m → Q g m v) → Holds (account t) Q R g m (kept_or (not b) v a)
  holds_and Q R x on behind stack v true a g m c h k = h c
  holds_and Q R x on behind stack v false a g m c h k = k c

  pub holds_or : (Q R : Post (account t) Value) (x : Around t) (on behind : ℕ) (stack : List Value) (v : Value) (b : Bool) (a : Action Value) (g : t.Kept) (m : Memory) → ChoiceAt t x behind on (v ∷ stack) stack g m b →
      (At t x on stack g m → Holds (account t) Q R g m a) → (At t x behind (v ∷ stack) g m → Q g m v) → Holds (account t) Q R g m (kept_or b v a)
  holds_or Q R x on behind stack v true a g m c h k = k c
  holds_or Q R x on behind stack v false a g m c h k = h c
