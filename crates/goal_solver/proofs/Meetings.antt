-- Searches that meet more states.
use Rattle.std.proofs.Common.{◌≡◌, ℕ, suc, zero, ◌+◌, ◌<◌, ◌≤◌, Bool, true, false, Some, List, [], ◌∷◌, ◌++◌, map, length, get_or, take, refl, sym, ap, subst, ◌∙◌, arith, ◌⊎◌, inl, inr, IsTrue, slice_get, length-append}
use Rattle.std.specs.List.{Contains}
use Rattle.std.proofs.lemmas.List.Elements.{Contains-append_left, Contains-push, Contains-push_cases}
use Rattle.std.proofs.lemmas.List.{take_more}
use Rattle.std.proofs.lemmas.Option.{slice_get-get_or}
use Rattle.graph_walks.specs.Worlds.{Memory}
use Rattle.graph_walks.proofs.Lists.{empty, got, stands, Stands, map_has, Origin, map_from}
use Rattle.goal_solver.specs.declared.state.State.{State}
use Rattle.goal_solver.specs.declared.search.Search.{Search}
use Rattle.goal_solver.specs.States.{state_of, IsMet, IsAdded, was_there, put_last}
use Rattle.goal_solver.specs.Searches as spec
use Rattle.goal_solver.specs.Searches.{IsKnown, IsFresh, IsExtended, AreKnown, IsOnWay, IsOfWay, IsWayBack}
use Rattle.goal_solver.specs.Backs.{FromSome}

-- places in a list that got longer
module _ {X : Type 0} where
  pub at_left : (xs ys : List X) (k : ℕ) (x : X) → slice_get xs k ≡ Some x → slice_get (xs ++ ys) k ≡ Some x
  at_left [] ys k x e = cc
  at_left (z ∷ xs) ys zero x e = e
  at_left (z ∷ xs) ys (suc k) x e = at_left xs ys k x e

  pub at_last : (xs : List X) (x : X) → slice_get (xs ++ x ∷ []) (length xs) ≡ Some x
  at_last [] x = refl
  at_last (z ∷ xs) x = at_last xs x

  pub at_push : (xs : List X) (y : X) (k : ℕ) (x : X) → slice_get (xs ++ y ∷ []) k ≡ Some x → (slice_get xs k ≡ Some x) ⊎ ((k ≡ length xs) × (x ≡ y))
  at_push [] y zero x e = let same : y ≡ x = cc in inr (refl, sym same)
  at_push [] y (suc k) x e = cc
  at_push (z ∷ xs) y zero x e = inl e
  at_push (z ∷ xs) y (suc k) x e = go (at_push xs y k x e)
    where
      go : (slice_get xs k ≡ Some x) ⊎ ((k ≡ length xs) × (x ≡ y)) → (slice_get xs k ≡ Some x) ⊎ ((suc k ≡ suc (length xs)) × (x ≡ y))
      go (inl i) = inl i
      go (inr (i, j)) = inr (ap suc i, j)

  pub at_within : (xs : List X) (k : ℕ) (x : X) → slice_get xs k ≡ Some x → k < length xs
  at_within [] k x e = cc
  at_within (z ∷ xs) zero x e = omega arith
  at_within (z ∷ xs) (suc k) x e = let l : k < length xs = at_within xs k x e in omega arith

  pub record Here (xs : List X) (k : ℕ) : Type 0 where
    pub item : X
    pub at : slice_get xs k ≡ Some item

  pub there : (xs : List X) (k : ℕ) → k < length xs → Here xs k
  there [] k l = absurd (omega arith)
  there (z ∷ xs) zero l = record { item = z; at = refl }
  there (z ∷ xs) (suc k) l = let h : Here xs k = there xs k (omega arith) in record { item = h.item; at = h.at }

  pub one_at : (xs : List X) (k : ℕ) (x y : X) → slice_get xs k ≡ Some x → slice_get xs k ≡ Some y → x ≡ y
  one_at xs k x y e f = let z : Some x ≡ Some y = sym e ∙ f in cc

pub met_here : (xs : List State) (y x : State) → Contains xs y → state_of y ≡ state_of x → IsMet xs x
met_here xs y x c e = subst (λ z. Contains (map state_of xs) z) e (map_has state_of xs y c)

-- what is met stays met where each state stays
pub met_in : (xs ys : List State) → ((x : State) → Contains xs x → Contains ys x) → (z : ℕ × Memory ℕ ℕ) → Contains (map state_of xs) z → Contains (map state_of ys) z
met_in xs ys all z c = let o : Origin state_of xs z = map_from state_of xs z c in subst (λ u. Contains (map state_of ys) u) o.same (map_has state_of ys o.item (all o.item o.is))

pub all_at : (xs ys : List State) → ((k : ℕ) (x : State) → slice_get xs k ≡ Some x → slice_get ys k ≡ Some x) → (x : State) → Contains xs x → Contains ys x
all_at xs ys at x c = let s : Stands xs x = stands xs x c in got ys s.place x (at s.place x s.at)

pub extended_same : (list : List State) (P : State → Type 0) (s : Search) → IsExtended list P s s
extended_same list P s =
    record {
      states = λ k x e. e;
      parents = λ k p e. e;
      waiting = λ k c. c;
      noted = λ x c. c;
      new_states = λ k x e. inl e;
      new_waiting = λ k c. inl c;
      new_noted = λ x c. inl c;
      count = refl;
      even = λ e. e;
      parent = refl;
      limit = refl;
      uses_list = refl;
    }

pub extended_as : (list : List State) (P Q : State → Type 0) (old new : Search) → ((x : State) → P x → Q x) → IsExtended list P old new → IsExtended list Q old new
extended_as list P Q old new f s =
    record {
      states = s.states;
      parents = s.parents;
      waiting = s.waiting;
      noted = s.noted;
      new_states = λ k x e. fresh k x (s.new_states k x e);
      new_waiting = s.new_waiting;
      new_noted = λ x c. note x (s.new_noted x c);
      count = s.count;
      even = s.even;
      parent = s.parent;
      limit = s.limit;
      uses_list = s.uses_list;
    }
  where
    fresh : (k : ℕ) (x : State) → (slice_get old.states k ≡ Some x) ⊎ IsFresh P new k x → (slice_get old.states k ≡ Some x) ⊎ IsFresh Q new k x
    fresh k x (inl e) = inl e
    fresh k x (inr h) = inr (record { is = f x h.is; waits = h.waits; parent = h.parent })

    note : (x : State) → Contains old.noted x ⊎ (P x × IsMet list x × IsTrue old.uses_list) → Contains old.noted x ⊎ (Q x × IsMet list x × IsTrue old.uses_list)
    note x (inl c) = inl c
    note x (inr h) = inr (f x h.0, h.1, h.2)

pub extended_listed : (list : List State) (P : State → Type 0) (old new : Search) → IsExtended [] P old new → IsExtended list P old new
extended_listed list P old new s =
    record {
      states = s.states;
      parents = s.parents;
      waiting = s.waiting;
      noted = s.noted;
      new_states = s.new_states;
      new_waiting = s.new_waiting;
      new_noted = λ x c. inl (note x (s.new_noted x c));
      count = s.count;
      even = s.even;
      parent = s.parent;
      limit = s.limit;
      uses_list = s.uses_list;
    }
  where
    note : (x : State) → Contains old.noted x ⊎ (P x × IsMet [] x × IsTrue old.uses_list) → Contains old.noted x
    note x (inl c) = c
    note x (inr h) = empty (state_of x) h.1

pub extended_on : (list : List State) (P : State → Type 0) (old mid new : Search) → IsExtended list P old mid → IsExtended list P mid new → IsExtended list P old new
extended_on list P old mid new s t =
    record {
      states = λ k x e. t.states k x (s.states k x e);
      parents = λ k p e. t.parents k p (s.parents k p e);
      waiting = λ k c. t.waiting k (s.waiting k c);
      noted = λ x c. t.noted x (s.noted x c);
      new_states = λ k x e. fresh k x (t.new_states k x e);
      new_waiting = λ k c. waits k (t.new_waiting k c);
      new_noted = λ x c. note x (t.new_noted x c);
      count = omega (arith, s.count, t.count);
      even = λ e. t.even (s.even e);
      parent = t.parent ∙ s.parent;
      limit = t.limit ∙ s.limit;
      uses_list = t.uses_list ∙ s.uses_list;
    }
  where
    before : (k : ℕ) (x : State) → (slice_get old.states k ≡ Some x) ⊎ IsFresh P mid k x → (slice_get old.states k ≡ Some x) ⊎ IsFresh P new k x
    before k x (inl e) = inl e
    before k x (inr h) = inr (record { is = h.is; waits = t.waiting k h.waits; parent = t.parents k mid.parent h.parent ∙ ap Some (sym t.parent) })

    fresh : (k : ℕ) (x : State) → (slice_get mid.states k ≡ Some x) ⊎ IsFresh P new k x → (slice_get old.states k ≡ Some x) ⊎ IsFresh P new k x
    fresh k x (inl e) = before k x (s.new_states k x e)
    fresh k x (inr h) = inr h

    early : (k : ℕ) → Contains old.waiting.items k ⊎ (k < length mid.states) → Contains old.waiting.items k ⊎ (k < length new.states)
    early k (inl c) = inl c
    early k (inr l) = let h : Here mid.states k = there mid.states k l in inr (at_within new.states k h.item (t.states k h.item h.at))

    waits : (k : ℕ) → Contains mid.waiting.items k ⊎ (k < length new.states) → Contains old.waiting.items k ⊎ (k < length new.states)
    waits k (inl c) = early k (s.new_waiting k c)
    waits k (inr l) = inr l

    noted_before : (x : State) → Contains old.noted x ⊎ (P x × IsMet list x × IsTrue old.uses_list) → Contains old.noted x ⊎ (P x × IsMet list x × IsTrue old.uses_list)
    noted_before x n = n

    note : (x : State) → Contains mid.noted x ⊎ (P x × IsMet list x × IsTrue mid.uses_list) → Contains old.noted x ⊎ (P x × IsMet list x × IsTrue old.uses_list)
    note x (inl c) = s.new_noted x c
    note x (inr h) = inr (h.0, h.1, subst (λ b. IsTrue b) s.uses_list h.2)

pub known_on : (list : List State) (P : State → Type 0) (old new : Search) → IsExtended list P old new → (z : ℕ × Memory ℕ ℕ) → IsKnown old z → IsKnown new z
known_on list P old new s z (inl c) = inl (met_in old.states new.states (all_at old.states new.states s.states) z c)
known_on list P old new s z (inr c) = inr (met_in old.noted new.noted s.noted z c)

-- over a list of items, each of which gives states
module _ {X : Type 0} (list : List State) (Q : X → State → Type 0) (xs : List X) where
  pub some_more : (i : ℕ) (x : X) (mid new : Search) → i < length xs → get_or xs i x ≡ x → AreKnown (FromSome (take i xs) Q) mid → ((z : ℕ × Memory ℕ ℕ) → IsKnown mid z → IsKnown new z) → AreKnown (Q x) new → AreKnown (FromSome (take (i + 1) xs) Q) new
  some_more i x mid new l e before on now y f = go (Contains-push_cases (take i xs) x f.item (subst (λ ys. Contains ys f.item) (take_more xs i x l ∙ ap (λ z. take i xs ++ z ∷ []) e) f.is))
    where
      go : Contains (take i xs) f.item ⊎ (x ≡ f.item) → IsKnown new (state_of y)
      go (inl c) = on (state_of y) (before y (record { item = f.item; is = c; at = f.at }))
      go (inr i) = now y (subst (λ z. Q z y) (sym i) f.at)

  pub some_skipped : (i : ℕ) (x : X) (mid : Search) → i < length xs → get_or xs i x ≡ x → AreKnown (FromSome (take i xs) Q) mid → ((y : State) → Q x y → ⊥) → AreKnown (FromSome (take (i + 1) xs) Q) mid
  some_skipped i x mid l e before none = some_more i x mid mid l e before (λ z k. k) (λ y q. absurd (none y q))

  pub none_yet : (s : Search) → AreKnown (FromSome (take 0 xs) Q) s
  none_yet s y f = empty f.item f.is

-- what a set has once a state is added
pub added_new : (xs ys : List State) (x : State) (fresh : Bool) → IsAdded xs x fresh ys → fresh ≡ true → ys ≡ xs ++ x ∷ []
added_new xs ys x fresh (was_there m f e) t = cc
added_new xs ys x fresh (put_last n f e) t = e

pub added_old : (xs ys : List State) (x : State) (fresh : Bool) → IsAdded xs x fresh ys → fresh ≡ false → (ys ≡ xs) × IsMet xs x
added_old xs ys x fresh (was_there m f e) t = (e, m)
added_old xs ys x fresh (put_last n f e) t = let k : true ≡ false = sym f ∙ t in cc

pub added_kept : (xs ys : List State) (x : State) (fresh : Bool) → IsAdded xs x fresh ys → (y : State) → Contains xs y → Contains ys y
added_kept xs ys x fresh (was_there m f e) y c = subst (λ zs. Contains zs y) (sym e) c
added_kept xs ys x fresh (put_last n f e) y c = subst (λ zs. Contains zs y) (sym e) (Contains-append_left xs (x ∷ []) y c)

pub added_from : (xs ys : List State) (x : State) (fresh : Bool) → IsAdded xs x fresh ys → (y : State) → Contains ys y → Contains xs y ⊎ (y ≡ x)
added_from xs ys x fresh (was_there m f e) y c = inl (subst (λ zs. Contains zs y) e c)
added_from xs ys x fresh (put_last n f e) y c = go (Contains-push_cases xs x y (subst (λ zs. Contains zs y) e c))
  where
    go : Contains xs y ⊎ (x ≡ y) → Contains xs y ⊎ (y ≡ x)
    go (inl d) = inl d
    go (inr i) = inr (sym i)

pub added_met : (xs ys : List State) (x : State) (fresh : Bool) → IsAdded xs x fresh ys → IsMet ys x
added_met xs ys x fresh (was_there m f e) = subst (λ zs. IsMet zs x) (sym e) m
added_met xs ys x fresh (put_last n f e) = subst (λ zs. IsMet zs x) (sym e) (met_here (xs ++ x ∷ []) x x (Contains-push xs x) refl)

-- a state that is entered
pub entered : (old new : Search) (x : State) → length old.parents.items ≡ length old.states → new.states ≡ old.states ++ x ∷ [] → new.parents.items ≡ old.parents.items ++ old.parent ∷ [] → new.waiting.items ≡ old.waiting.items ++ length old.states ∷ [] → new.noted ≡ old.noted → new.parent ≡ old.parent → new.limit ≡ old.limit → new.uses_list ≡ old.uses_list → IsExtended [] (λ y. y ≡ x) old new
entered old new x even s p w n pa li us =
    record {
      states = λ k y e. subst (λ ys. slice_get ys k ≡ Some y) (sym s) (at_left old.states (x ∷ []) k y e);
      parents = λ k y e. subst (λ ys. slice_get ys k ≡ Some y) (sym p) (at_left old.parents.items (old.parent ∷ []) k y e);
      waiting = λ k c. subst (λ ys. Contains ys k) (sym w) (Contains-append_left old.waiting.items (length old.states ∷ []) k c);
      noted = λ y c. subst (λ ys. Contains ys y) (sym n) c;
      new_states = λ k y e. fresh k y (at_push old.states x k y (subst (λ ys. slice_get ys k ≡ Some y) s e));
      new_waiting = λ k c. waits k (Contains-push_cases old.waiting.items (length old.states) k (subst (λ ys. Contains ys k) w c));
      new_noted = λ y c. inl (subst (λ ys. Contains ys y) n c);
      count = omega (arith, longer, ap length w, length-append old.waiting.items (length old.states ∷ []));
      even = λ e. omega (arith, longer, e, ap length p, length-append old.parents.items (old.parent ∷ []));
      parent = pa;
      limit = li;
      uses_list = us;
    }
  where
    longer : length new.states ≡ length old.states + 1
    longer = omega (arith, ap length s, length-append old.states (x ∷ []))

    fresh : (k : ℕ) (y : State) → (slice_get old.states k ≡ Some y) ⊎ ((k ≡ length old.states) × (y ≡ x)) → (slice_get old.states k ≡ Some y) ⊎ IsFresh (λ z. z ≡ x) new k y
    fresh k y (inl e) = inl e
    fresh k y (inr (i, j)) =
        inr (record {
          is = j;
          waits = subst (λ ys. Contains ys k) (sym w) (subst (λ m. Contains (old.waiting.items ++ length old.states ∷ []) m) (sym i) (Contains-push old.waiting.items (length old.states)));
          parent = subst (λ ys. slice_get ys k ≡ Some new.parent) (sym p) (subst (λ m. slice_get (old.parents.items ++ old.parent ∷ []) m ≡ Some new.parent) (even ∙ sym i) (at_last old.parents.items old.parent ∙ ap Some (sym pa)));
        })

    waits : (k : ℕ) → Contains old.waiting.items k ⊎ (length old.states ≡ k) → Contains old.waiting.items k ⊎ (k < length new.states)
    waits k (inl c) = inl c
    waits k (inr e) = inr (omega (arith, e, longer))

-- nothing but the states that are noted, and the numbers, may differ
pub noted_one : (list : List State) (old new : Search) (x : State) → new.states ≡ old.states → new.parents.items ≡ old.parents.items → new.waiting.items ≡ old.waiting.items → ((y : State) → Contains old.noted y → Contains new.noted y) → ((y : State) → Contains new.noted y → Contains old.noted y ⊎ ((y ≡ x) × IsMet list x × IsTrue old.uses_list)) → new.parent ≡ old.parent → new.limit ≡ old.limit → new.uses_list ≡ old.uses_list → IsExtended list (λ y. y ≡ x) old new
noted_one list old new x s p w n f pa li us =
    record {
      states = λ k y e. ap (λ ys. slice_get ys k) s ∙ e;
      parents = λ k y e. ap (λ ys. slice_get ys k) p ∙ e;
      waiting = λ k c. subst (λ ys. Contains ys k) (sym w) c;
      noted = n;
      new_states = λ k y e. inl (ap (λ ys. slice_get ys k) (sym s) ∙ e);
      new_waiting = λ k c. inl (subst (λ ys. Contains ys k) w c);
      new_noted = λ y c. note y (f y c);
      count = omega (arith, ap length s, ap length w);
      even = λ e. omega (arith, ap length s, ap length p, e);
      parent = pa;
      limit = li;
      uses_list = us;
    }
  where
    note : (y : State) → Contains old.noted y ⊎ ((y ≡ x) × IsMet list x × IsTrue old.uses_list) → Contains old.noted y ⊎ ((y ≡ x) × IsMet list y × IsTrue old.uses_list)
    note y (inl c) = inl c
    note y (inr (i, m, u)) = inr (i, subst (λ z. IsMet list z) (sym i) m, u)

pub noted_by : (list : List State) (old new : Search) (x : State) (fresh : Bool) → new.states ≡ old.states → new.parents.items ≡ old.parents.items → new.waiting.items ≡ old.waiting.items → IsAdded old.noted x fresh new.noted → IsTrue old.uses_list × IsMet list x → new.parent ≡ old.parent → new.limit ≡ old.limit → new.uses_list ≡ old.uses_list → IsExtended list (λ y. y ≡ x) old new
noted_by list old new x fresh s p w a m pa li us = noted_one list old new x s p w (added_kept old.noted new.noted x fresh a) (λ y c. go y (added_from old.noted new.noted x fresh a y c)) pa li us
  where
    go : (y : State) → Contains old.noted y ⊎ (y ≡ x) → Contains old.noted y ⊎ ((y ≡ x) × IsMet list x × IsTrue old.uses_list)
    go y (inl c) = inl c
    go y (inr e) = inr (e, m.1, m.0)

last_or : (k n : ℕ) → k < n + 1 → (k < n) ⊎ (k ≡ n)
last_or zero zero l = inr refl
last_or zero (suc n) l = inl (omega arith)
last_or (suc k) zero l = absurd (omega arith)
last_or (suc k) (suc n) l = go (last_or k n (omega arith))
  where
    go : (k < n) ⊎ (k ≡ n) → (suc k < suc n) ⊎ (suc k ≡ suc n)
    go (inl h) = inl (omega arith)
    go (inr e) = inr (ap suc e)

-- one more of the noted states is entered
pub left_more : (noted : List State) (place : ℕ) (y : State) (mid new : Search) → slice_get noted place ≡ Some y → IsExtended [] (λ x. IsMet noted x) mid new → ((k : ℕ) (x : State) → k < place → slice_get noted k ≡ Some x → IsMet mid.states x) → IsMet new.states y → (k : ℕ) (x : State) → k < place + 1 → slice_get noted k ≡ Some x → IsMet new.states x
left_more noted place y mid new at ext before now k x l e = go (last_or k place l)
  where
    go : (k < place) ⊎ (k ≡ place) → IsMet new.states x
    go (inl h) = met_in mid.states new.states (all_at mid.states new.states ext.states) (state_of x) (before k x h e)
    go (inr i) = let same : y ≡ x = one_at noted place y x at (subst (λ n. slice_get noted n ≡ Some x) i e) in subst (λ z. IsMet new.states z) same now

-- the states on the way so far
pub record IsWaySoFar (s : Search) (place at : ℕ) (way : List State) : Type 0 where
  pub each : (x : State) → Contains way x → IsOfWay s place x
  pub on : IsOnWay s.parents.items place at
  pub within : at < length s.states
  pub last : (x : State) → slice_get s.states at ≡ Some x → IsMet way x

way_more : (s : Search) (place p : ℕ) (x y : State) (old new : List State) (fresh : Bool) → ((z : State) → Contains old z → IsOfWay s place z) → IsOnWay s.parents.items place p → IsAdded old x fresh new → slice_get s.states p ≡ Some y → x ≡ y → IsWaySoFar s place p new
way_more s place p x y old new fresh each on a at same =
    record {
      each = λ z c. go z (added_from old new x fresh a z c);
      on = on;
      within = at_within s.states p y at;
      last = λ z e. let i : y ≡ z = one_at s.states p y z at e in subst (λ w. IsMet new w) (same ∙ i) (added_met old new x fresh a);
    }
  where
    go : (z : State) → Contains old z ⊎ (z ≡ x) → IsOfWay s place z
    go z (inl c) = each z c
    go z (inr e) = record { at = p; on = on; state = y; stands = at; same = ap state_of (e ∙ same) }

pub way_begins : (s : Search) (place : ℕ) (x y : State) (old new : List State) (fresh : Bool) → old ≡ [] → IsAdded old x fresh new → slice_get s.states place ≡ Some y → x ≡ y → IsWaySoFar s place place new
way_begins s place x y old new fresh none a at same = way_more s place place x y old new fresh (λ z c. empty z (subst (λ zs. Contains zs z) none c)) spec.here a at same

pub way_goes_on : (s : Search) (place child p : ℕ) (x y : State) (old new : List State) (fresh : Bool) → IsWaySoFar s place child old → 0 < child → slice_get s.parents.items child ≡ Some p → IsAdded old x fresh new → slice_get s.states p ≡ Some y → x ≡ y → IsWaySoFar s place p new
way_goes_on s place child p x y old new fresh w l h a at same = way_more s place p x y old new fresh w.each (spec.back child p w.on l h) a at same

pub way_ends : (s : Search) (place at : ℕ) (way : List State) → IsWaySoFar s place at way → at ≤ 0 → IsWayBack s place way
way_ends s place at way w z = record { each = w.each; query = λ x e. w.last x (let i : 0 ≡ at = omega (arith, z) in subst (λ n. slice_get s.states n ≡ Some x) i e) }

pub any_default : {X : Type 0} (xs : List X) (k : ℕ) (d e : X) → k < length xs → get_or xs k d ≡ get_or xs k e
any_default xs k d e l = let z : Some (get_or xs k d) ≡ Some (get_or xs k e) = sym (slice_get-get_or xs k d l) ∙ slice_get-get_or xs k e l in cc
