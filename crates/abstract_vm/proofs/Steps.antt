-- One step after another.
use Rattle.std.proofs.Common.{◌≡◌, ℕ, zero, suc, ◌+◌, ◌<◌, ◌≤◌, Bool, true, false, ◌||◌, Result, Ok, Err, List, [], ◌∷◌, take, get_or, length, ◌⊎◌, inl, inr, refl, sym, ap, subst, ◌∙◌, arith, add-one}
use Rattle.std.specs.List.{Contains}
use Rattle.std.specs.Prelude.{IfOk, OnOk, IsErr}
use Rattle.graph_walks.proofs.Lists.{empty, first_as, later, first_or_later}
use Rattle.world_rules.specs.Places.{Point}
use Rattle.world_rules.specs.Sources.{Source}
use Rattle.world_rules.specs.Items.{Item}
use Rattle.abstract_vm.specs.Worlds.{WorldState, items_in, IsWorldOf}
use Rattle.abstract_vm.specs.Firing.{IsFired}
use Rattle.abstract_vm.specs.Steps.{NumbersStay, IsFlag, IsStep, IsOneOf}
use Rattle.abstract_vm.proofs.Fired.{fired_itself, fired_same, fired_on, flag_none, flag_on}
use Rattle.abstract_vm.proofs.Stay.{stay_itself, stay_same, stay_on}

module _ {E : Type 0} (Given : Source → Type 0) (p : Point) (Wanted : Source → Item → Type 0) where
  -- nothing was added, and what was wanted was there
  pub step_none : (v w : WorldState) → w ≡ v → ((s : Source) → IsWorldOf s v → Given s → (i : Item) → Wanted s i → Contains (items_in v) i) → IsStep {E = E} Given p Wanted (Ok false) v w
  step_none v w e has =
      record {
        stay = stay_same v w e;
        fired = λ s h g. fired_same s p v w e h;
        told = λ s h g. subst (IsFlag false v) (sym e) (flag_none v);
        has = λ s h g i k. subst (λ x. Contains (items_in x) i) (sym e) (has s h g i k);
      }

  pub step_refused : (v w : WorldState) (error : E) → w ≡ v → IsStep Given p Wanted (Err error) v w
  step_refused v w error e = record { stay = stay_same v w e; fired = λ s h g. fired_same s p v w e h; told = λ s h g. tt; has = λ s h g. tt }

-- what two steps answer
abbrev pub joined : {E : Type 0} → Bool → Result Bool E → Result Bool E
joined one (Ok other) = Ok (one || other)
joined one (Err e) = Err e

module _ {E : Type 0} (G H : Source → Type 0) (p q : Point) (V W X : Source → Item → Type 0) (one : Bool) (u v w : WorldState) (a : IsStep {E = E} G p V (Ok one) u v) (same : q ≡ p)
    (gives : (s : Source) → IsWorldOf s u → G s → IsFired s p u v → H s) (covers : (s : Source) → IsWorldOf s u → G s → IsFired s p u v → (i : Item) → X s i → V s i ⊎ W s i) where
  pub step_then : (r : Result Bool E) → IsStep H q W r v w → IsStep G p X (joined one r) u w
  step_then r b =
      record {
        stay = stay_on u v w a.stay b.stay;
        fired = λ s h g. all_fired s h g;
        told = λ s h g. told s h g r (b.told s (a.fired s h g).world (gives s h g (a.fired s h g)));
        has = λ s h g. has s h g r (b.has s (a.fired s h g).world (gives s h g (a.fired s h g)));
      }
    where
      then_fired : (s : Source) → IsWorldOf s u → G s → IsFired s p v w
      then_fired s h g = subst (λ x. IsFired s x v w) same (b.fired s (a.fired s h g).world (gives s h g (a.fired s h g)))

      all_fired : (s : Source) → IsWorldOf s u → G s → IsFired s p u w
      all_fired s h g = fired_on s p u v w (a.fired s h g) (then_fired s h g)

      told : (s : Source) → IsWorldOf s u → G s → (r : Result Bool E) → IfOk r (λ grown. IsFlag grown v w) → IfOk (joined one r) (λ grown. IsFlag grown u w)
      told s h g (Err e) t = tt
      told s h g (Ok other) t = flag_on u v w (a.fired s h g).contained (then_fired s h g).contained one other (a.told s h g) t

      has : (s : Source) → IsWorldOf s u → G s → (r : Result Bool E) → OnOk r ((i : Item) → W s i → Contains (items_in w) i) → OnOk (joined one r) ((i : Item) → X s i → Contains (items_in w) i)
      has s h g (Err e) t = tt
      has s h g (Ok other) t = λ i k. elim (covers s h g (a.fired s h g) i k) [ inl m ↦ (then_fired s h g).contained.at i (a.has s h g i m) | inr m ↦ t i m ]

-- ---- loops

-- what is among the first and the next is among the first, or is the next
taken_cases : {X : Type 0} (xs : List X) (k : ℕ) (x y : X) → k < length xs → x ≡ get_or xs k x → Contains (take (suc k) xs) y → Contains (take k xs) y ⊎ (y ≡ x)
taken_cases [] k x y l e c = absurd (omega (arith, l))
taken_cases (z ∷ xs) zero x y l e c = elim (first_or_later z y (take zero xs) c) [ inl same ↦ inr (same ∙ sym e) | inr d ↦ empty y d ]
taken_cases (z ∷ xs) (suc k) x y l e c =
    elim (first_or_later z y (take (suc k) xs) c) [
      | inl same ↦ inl (first_as z y (take k xs) same)
      | inr d ↦ elim (taken_cases xs k x y (omega (arith, l)) e d) [ inl m ↦ inl (later z y (take k xs) m) | inr q ↦ inr q ]
    ]

module _ {X : Type 0} (W : X → Item → Type 0) where
  pub one_of_none : (i : Item) → IsOneOf W [] i → (A : Type 0) → A
  one_of_none i o A = empty o.one o.among

  -- wanted for one of the first, or for the next
  pub one_of_more : (xs : List X) (k : ℕ) (x : X) (i : Item) → k < length xs → x ≡ get_or xs k x → IsOneOf W (take (k + 1) xs) i → IsOneOf W (take k xs) i ⊎ W x i
  one_of_more xs k x i l e o = go (taken_cases xs k x o.one l e (subst (λ n. Contains (take n xs) o.one) (add-one k) o.among))
    where
      go : Contains (take k xs) o.one ⊎ (o.one ≡ x) → IsOneOf W (take k xs) i ⊎ W x i
      go (inl c) = inl (record { one = o.one; among = c; is = o.is })
      go (inr same) = inr (subst (λ y. W y i) same o.is)

-- all of them were taken
pub take_all : {X : Type 0} (xs : List X) → take (length xs) xs ≡ xs
take_all [] = refl
take_all (x ∷ xs) = ap (λ ys. x ∷ ys) (take_all xs)

-- the one at a place is among them
pub at_place : {X : Type 0} (xs : List X) (k : ℕ) (x : X) → k < length xs → x ≡ get_or xs k x → Contains xs x
at_place xs k x l e = (k, l, sym e)

-- less is wanted, and more is given
pub step_as : {E : Type 0} (G H : Source → Type 0) (p : Point) (V W : Source → Item → Type 0) (r : Result Bool E) (u v : WorldState) → ((s : Source) → IsWorldOf s u → H s → G s) → ((s : Source) → IsWorldOf s u → H s → (i : Item) → W s i → V s i) →
    IsStep G p V r u v → IsStep H p W r u v
step_as {E = E} G H p V W r u v given wanted a =
    record {
      stay = a.stay;
      fired = λ s h g. a.fired s h (given s h g);
      told = λ s h g. a.told s h (given s h g);
      has = λ s h g. has s h g r (a.has s h (given s h g));
    }
  where
    has : (s : Source) → IsWorldOf s u → H s → (r : Result Bool E) → OnOk r ((i : Item) → V s i → Contains (items_in v) i) → OnOk r ((i : Item) → W s i → Contains (items_in v) i)
    has s h g (Err e) t = tt
    has s h g (Ok b) t = λ i k. t i (wanted s h g i k)

-- numbers were added, and no item
module _ {E : Type 0} (G : Source → Type 0) (p : Point) (u v : WorldState) (n : NumbersStay u v) (same : (s : Source) → IsWorldOf s u → IsWorldOf s v × (items_in v ≡ items_in u)) where
  pub step_quiet : IsStep {E = E} G p (λ s i. ⊥) (Ok false) u v
  step_quiet =
      record {
        stay = n;
        fired = λ s h g. record {
          world = (same s h).0;
          contained = record { at = λ i k. subst (λ is. Contains is i) (sym (same s h).1) k };
          given = λ i k. inl (subst (λ is. Contains is i) (same s h).1 k);
          flow = n.flow;
          points = n.points;
          variables = n.variables;
          budget = n.budget;
          library = n.library;
        };
        told = λ s h g. record { yes = λ e. cc; no = λ e m. m.fresh (subst (λ is. Contains is m.item) (same s h).1 m.is) };
        has = λ s h g i k. absurd k;
      }

pub joined_none : {E : Type 0} (r : Result Bool E) → joined false r ≡ r
joined_none (Ok b) = refl
joined_none (Err e) = refl

-- where a step was refused, nothing more is told
told_nothing : {F : Type 0} (P : Bool → Type 0) (r : Result Bool F) → IsErr r → IfOk r P
told_nothing P (Err x) h = tt
told_nothing P (Ok b) h = let z : ⊥ = cc in absurd z

has_nothing : {F : Type 0} (P : Type 0) (r : Result Bool F) → IsErr r → OnOk r P
has_nothing P (Err x) h = tt
has_nothing P (Ok b) h = let z : ⊥ = cc in absurd z

pub step_error : {E F : Type 0} {G : Source → Type 0} {p : Point} {V W : Source → Item → Type 0} {e : Result Bool E} {u v : WorldState} (r : Result Bool F) → IsErr r → IsStep G p V e u v → IsStep G p W r u v
step_error {E} {F} {G} {p} {V} {W} {e} {u} {v} r h a =
    record {
      stay = a.stay;
      fired = a.fired;
      told = λ s w g. told_nothing (λ grown. IsFlag grown u v) r h;
      has = λ s w g. has_nothing ((i : Item) → W s i → Contains (items_in v) i) r h;
    }

-- at the end of a loop all of them were taken
pub taken_whole : {X : Type 0} (xs : List X) (k : ℕ) → k ≤ length xs → length xs ≤ k → take k xs ≡ xs
taken_whole xs k l m = let e : k ≡ length xs = omega (arith, l, m) in ap (λ n. take n xs) e ∙ take_all xs

pub step_whole : {E X : Type 0} {G : Source → Type 0} {p : Point} (W : Source → X → Item → Type 0) {r : Result Bool E} {u v : WorldState} (xs : List X) (k : ℕ) → k ≤ length xs → length xs ≤ k →
    IsStep G p (λ s. IsOneOf (W s) (take k xs)) r u v → IsStep G p (λ s. IsOneOf (W s) xs) r u v
step_whole {E} {X} {G} {p} W {r} {u} {v} xs k l m a = subst (λ ys. IsStep G p (λ s. IsOneOf (W s) ys) r u v) (taken_whole xs k l m) a
