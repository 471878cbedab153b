-- What a search keeps, and what it shows where it ends.
use Rattle.std.proofs.Common.{◌≡◌, ℕ, suc, zero, ◌+◌, ◌<◌, ◌≤◌, Bool, true, false, cond, Option, Some, None, List, [], ◌∷◌, ◌++◌, map, length, get_or, take, refl, sym, ap, subst, ◌∙◌, arith, ◌⊎◌, inl, inr, IsTrue, ◌↔◌, nat_eq, slice_get, length-append, get_or-take, length-take-le}
use Rattle.std.specs.List.{Contains}
use Rattle.std.proofs.lemmas.List.{length-map, map-append}
use Rattle.std.proofs.lemmas.List.Elements.{Contains-push_cases, Contains-append_left, Contains-append_right, Contains-append_cases, Contains-get_or}
use Rattle.graph_walks.specs.Worlds as worlds
use Rattle.graph_walks.specs.Worlds.{Memory, nothing}
use Rattle.graph_walks.specs.Walks.{Visible}
use Rattle.graph_walks.specs.Backs.{BackState, Reached, here, back, Heavy}
use Rattle.graph_walks.proofs.Lists.{empty, only, first, got, stands, Stands, Origin, map_from}
use Rattle.typegraph.specs.declared.goals.Binding.{Binding}
use Rattle.typegraph.specs.Maps.{look}
use Rattle.typegraph.proofs.Looks.{equal_itself}
use Rattle.typegraph.specs.Graphs.{GraphTables}
use Rattle.goal_solver.specs.declared.state.State.{State}
use Rattle.goal_solver.specs.declared.search.Search.{Search}
use Rattle.goal_solver.specs.Graphs.{world_of}
use Rattle.goal_solver.specs.States.{state_of, IsMet, AreApart}
use Rattle.goal_solver.specs.Backs.{IsBackOf}
use Rattle.goal_solver.specs.Searches as spec
use Rattle.goal_solver.specs.Searches.{IsKnown, IsFresh, IsExtended, AreBacksKnown, IsBegun, IsOnWay, IsOfWay, IsWayBack, IsRootState, IsLeft, IsRoomMade, IsClosed, AreVisible, HaveNoRoot, IsWhole}
use Rattle.goal_solver.proofs.Ahead.{visible_back, visible_root}
use Rattle.goal_solver.proofs.Meetings.{at_within, Here, there, one_at, met_here, met_in, all_at, known_on}

none_past : {X : Type 0} (xs : List X) (k : ℕ) → slice_get xs k ≡ None → length xs ≤ k
none_past [] k e = omega arith
none_past (x ∷ xs) zero e = cc
none_past (x ∷ xs) (suc k) e = let l : length xs ≤ k = none_past xs k e in omega arith

module _ (g : GraphTables) (q : State) (light : List State) (roots : Bool) where
  -- a state whose back states are known, and that is no root that is looked for
  pub record IsDone (s : Search) (x : State) : Type 0 where
    pub backs : AreBacksKnown g x s
    pub root : IsTrue roots → IsRootState g x → ⊥

  -- from which state the one at the place was met
  pub record IsWayTo (s : Search) (place : ℕ) (x : State) : Type 0 where
    pub parent : ℕ
    pub stands : slice_get s.parents.items place ≡ Some parent
    pub earlier : parent < place
    pub before : State
    pub at : slice_get s.states parent ≡ Some before
    pub is : IsBackOf g before x

  abbrev pub FromQuery : State → Type 0
  FromQuery x = Reached (world_of g) q.point (look q.goals) x.point (look x.goals)

  pub record IsSearched (s : Search) : Type 0 where
    pub first : slice_get s.states 0 ≡ Some q
    pub reached : (k : ℕ) (x : State) → slice_get s.states k ≡ Some x → FromQuery x
    pub noted_reached : (x : State) → Contains s.noted x → FromQuery x
    pub noted_light : (x : State) → Contains s.noted x → IsMet light x
    pub done : (k : ℕ) (x : State) → slice_get s.states k ≡ Some x → Contains s.waiting.items k ⊎ IsDone s x
    pub places : (k : ℕ) → Contains s.waiting.items k → k < length s.states
    pub ways : IsTrue roots → (k : ℕ) (x : State) → slice_get s.states k ≡ Some x → (k ≡ 0) ⊎ IsWayTo s k x
    pub even : length s.parents.items ≡ length s.states
    pub left : s.uses_list ≡ false → (x : State) → Contains s.noted x → IsMet s.states x
    pub listed : IsTrue roots → s.uses_list ≡ false

  pub search_begins : (limit : ℕ) (uses : Bool) (s : Search) → IsBegun q limit uses s → (IsTrue roots → uses ≡ false) → IsSearched s
  search_begins limit uses s b u =
      record {
        first = ap (λ ys. slice_get ys 0) b.states;
        reached = λ k x e. reach k x (at k x e);
        noted_reached = λ x c. empty x (subst (λ ys. Contains ys x) b.noted c);
        noted_light = λ x c. empty x (subst (λ ys. Contains ys x) b.noted c);
        done = λ k x e. inl (subst (λ ys. Contains ys k) (sym b.waiting) (waits k (at_within (q ∷ []) k x (at k x e))));
        places = λ k c. let z : k ≡ 0 = only 0 k (subst (λ ys. Contains ys k) b.waiting c) in omega (arith, z, ap length b.states);
        ways = λ r k x e. let l : k < 1 = at_within (q ∷ []) k x (at k x e) in inl (omega (arith, l));
        even = omega (arith, ap length b.states, ap length b.parents);
        left = λ z x c. empty x (subst (λ ys. Contains ys x) b.noted c);
        listed = λ r. b.uses_is ∙ u r;
      }
    where
      at : (k : ℕ) (x : State) → slice_get s.states k ≡ Some x → slice_get (q ∷ []) k ≡ Some x
      at k x e = ap (λ ys. slice_get ys k) (sym b.states) ∙ e

      reach : (k : ℕ) (x : State) → slice_get (q ∷ []) k ≡ Some x → FromQuery x
      reach zero x e = let same : q ≡ x = cc in subst (λ z. FromQuery z) same here
      reach (suc k) x e = cc

      waits : (k : ℕ) → k < 1 → Contains (0 ∷ []) k
      waits k l = let z : k ≡ 0 = omega (arith, l) in subst (λ n. Contains (0 ∷ []) n) (sym z) (first 0 [])

  -- the search after states were met, where all that waited still waits or is done
  module _ (s m t : Search) (p : ℕ) (u : Bool) (list : List State) (P : State → Type 0) (ext : IsExtended list P (record s { waiting = m.waiting; parent = p; uses_list = u }) t) (i : IsSearched s) where
    grows : ((x : State) → P x → FromQuery x) → ((k : ℕ) (x : State) → slice_get s.states k ≡ Some x → Contains s.waiting.items k → Contains m.waiting.items k ⊎ IsDone t x) → ((x : State) → IsMet list x → IsTrue u → IsMet light x) → (IsTrue roots → (p < length s.states) × ((x : State) → P x → (b : State) × (slice_get s.states p ≡ Some b) × IsBackOf g b x)) → ((k : ℕ) → Contains m.waiting.items k → Contains s.waiting.items k) → (t.uses_list ≡ false → (x : State) → Contains t.noted x → IsMet t.states x) → (IsTrue roots → t.uses_list ≡ false) → IsSearched t
    grows reach still listed_in way waits left listed =
        record {
          first = ext.states 0 q i.first;
          reached = λ k x e. reached k x (ext.new_states k x e);
          noted_reached = λ x c. noted x (ext.new_noted x c);
          noted_light = λ x c. noted_in x (ext.new_noted x c);
          done = λ k x e. done k x (ext.new_states k x e);
          places = λ k c. place k (ext.new_waiting k c);
          ways = λ r k x e. ways r k x e (ext.new_states k x e);
          even = ext.even i.even;
          left = left;
          listed = listed;
        }
      where
        reached : (k : ℕ) (x : State) → (slice_get s.states k ≡ Some x) ⊎ IsFresh P t k x → FromQuery x
        reached k x (inl e) = i.reached k x e
        reached k x (inr f) = reach x f.is

        noted : (x : State) → Contains s.noted x ⊎ (P x × IsMet list x × IsTrue u) → FromQuery x
        noted x (inl c) = i.noted_reached x c
        noted x (inr h) = reach x h.0

        noted_in : (x : State) → Contains s.noted x ⊎ (P x × IsMet list x × IsTrue u) → IsMet light x
        noted_in x (inl c) = i.noted_light x c
        noted_in x (inr h) = listed_in x h.1 h.2

        done_on : (x : State) → IsDone s x → IsDone t x
        done_on x d = record { backs = λ e h to b. known_on list P (record s { waiting = m.waiting; parent = p; uses_list = u }) t ext (e.from, h) (d.backs e h to b); root = d.root }

        now_still : (k : ℕ) (x : State) → Contains m.waiting.items k ⊎ IsDone t x → Contains t.waiting.items k ⊎ IsDone t x
        now_still k x (inl c) = inl (ext.waiting k c)
        now_still k x (inr d) = inr d

        then_still : (k : ℕ) (x : State) → slice_get s.states k ≡ Some x → Contains s.waiting.items k ⊎ IsDone s x → Contains t.waiting.items k ⊎ IsDone t x
        then_still k x e (inl c) = now_still k x (still k x e c)
        then_still k x e (inr d) = inr (done_on x d)

        done : (k : ℕ) (x : State) → (slice_get s.states k ≡ Some x) ⊎ IsFresh P t k x → Contains t.waiting.items k ⊎ IsDone t x
        done k x (inl e) = then_still k x e (i.done k x e)
        done k x (inr f) = inl f.waits

        place : (k : ℕ) → Contains m.waiting.items k ⊎ (k < length t.states) → k < length t.states
        place k (inl c) = let h : Here s.states k = there s.states k (i.places k (waits k c)) in at_within t.states k h.item (ext.states k h.item h.at)
        place k (inr l) = l

        way_on : (k : ℕ) (x : State) → (k ≡ 0) ⊎ IsWayTo s k x → (k ≡ 0) ⊎ IsWayTo t k x
        way_on k x (inl z) = inl z
        way_on k x (inr h) = inr (record { parent = h.parent; stands = ext.parents k h.parent h.stands; earlier = h.earlier; before = h.before; at = ext.states h.parent h.before h.at; is = h.is })

        fresh_way : IsTrue roots → (k : ℕ) (x : State) → length s.states ≤ k → IsFresh P t k x → IsWayTo t k x
        fresh_way r k x l f =
            let h : (b : State) × (slice_get s.states p ≡ Some b) × IsBackOf g b x = (way r).1 x f.is in
            let near : p < length s.states = (way r).0 in
            record { parent = p; stands = f.parent ∙ ap Some ext.parent; earlier = omega (arith, near, l); before = h.0; at = ext.states p h.0 h.1; is = h.2 }

        ways : IsTrue roots → (k : ℕ) (x : State) → slice_get t.states k ≡ Some x → (slice_get s.states k ≡ Some x) ⊎ IsFresh P t k x → (k ≡ 0) ⊎ IsWayTo t k x
        ways r k x e (inl h) = way_on k x (i.ways r k x h)
        ways r k x e (inr f) = go (slice_get s.states k) refl
          where
            go : (o : Option State) → slice_get s.states k ≡ o → (k ≡ 0) ⊎ IsWayTo t k x
            go None h = inr (fresh_way r k x (none_past s.states k h) f)
            go (Some y) h = let same : y ≡ x = one_at t.states k y x (ext.states k y h) e in way_on k x (i.ways r k x (subst (λ z. slice_get s.states k ≡ Some z) same h))

  back_reached : (x y : State) → FromQuery x → IsBackOf g x y → FromQuery y
  back_reached x y r b =
      subst (λ n. Reached (world_of g) q.point (look q.goals) n (look y.goals)) b.from
      (back b.edge (subst (λ n. Reached (world_of g) q.point (look q.goals) n (look x.goals)) (sym b.to) r) b.is)

  pub search_goes_on : (s m t : Search) (place : ℕ) (x : State) → s.waiting.items ≡ m.waiting.items ++ place ∷ [] → slice_get s.states place ≡ Some x → (IsTrue roots → IsRootState g x → ⊥) → IsExtended light (IsBackOf g x) (record s { waiting = m.waiting; parent = place }) t → AreBacksKnown g x t → IsSearched s → IsSearched t
  search_goes_on s m t place x w at no_root ext known i =
      grows s m t place s.uses_list light (IsBackOf g x) ext i
      (λ y b. back_reached x y (i.reached place x at) b)
      (λ k y e c. still k y e (Contains-push_cases m.waiting.items place k (subst (λ ys. Contains ys k) w c)))
      (λ y l u. l)
      (λ r. (at_within s.states place x at, λ y b. (x, at, b)))
      (λ k c. subst (λ ys. Contains ys k) (sym w) (Contains-append_left m.waiting.items (place ∷ []) k c))
      (λ z y c. left z y (ext.new_noted y c))
      (λ r. ext.uses_list ∙ i.listed r)
    where
      still : (k : ℕ) (y : State) → slice_get s.states k ≡ Some y → Contains m.waiting.items k ⊎ (place ≡ k) → Contains m.waiting.items k ⊎ IsDone t y
      still k y e (inl c) = inl c
      still k y e (inr h) =
          let same : x ≡ y = one_at s.states k x y (subst (λ n. slice_get s.states n ≡ Some x) h at) e in
          inr (subst (λ z. IsDone t z) same (record { backs = known; root = no_root }))

      left : t.uses_list ≡ false → (y : State) → Contains s.noted y ⊎ (IsBackOf g x y × IsMet light y × IsTrue s.uses_list) → IsMet t.states y
      left z y (inl c) = met_in s.states t.states (all_at s.states t.states ext.states) (state_of y) (i.left (sym ext.uses_list ∙ z) y c)
      left z y (inr h) = let k : s.uses_list ≡ false = sym ext.uses_list ∙ z in let l : s.uses_list ≡ true = h.2 in cc

  search_left : (s t : Search) → IsTrue s.uses_list → IsLeft s t → IsSearched s → IsSearched t
  search_left s t u l i =
      grows s s t s.parent false [] (IsMet s.noted) l.extended i
      (λ x c. reach x (map_from state_of s.noted (state_of x) c))
      (λ k x e c. inl c)
      (λ x c f. empty (state_of x) c)
      (λ r. let k : s.uses_list ≡ false = i.listed r in let h : s.uses_list ≡ true = u in cc)
      (λ k c. c)
      (λ z x c. met x (l.extended.new_noted x c))
      (λ r. l.extended.uses_list)
    where
      reach : (x : State) → Origin state_of s.noted (state_of x) → FromQuery x
      reach x o = subst (λ z. Reached (world_of g) q.point (look q.goals) z.0 z.1) o.same (i.noted_reached o.item o.is)

      met : (x : State) → Contains s.noted x ⊎ (IsMet s.noted x × IsMet [] x × IsTrue false) → IsMet t.states x
      met x (inl c) = l.met x c
      met x (inr h) = empty (state_of x) h.1

  pub search_has_room : (room : ℕ) (s t : Search) → IsRoomMade room s t → IsSearched s → IsSearched t
  search_has_room room s t r i = go r.is
    where
      go : (t ≡ s) ⊎ (IsTrue s.uses_list × IsLeft s t) → IsSearched t
      go (inl e) = subst (λ z. IsSearched z) (sym e) i
      go (inr h) = search_left s t h.0 h.1 i

  -- where more states than the budget are met
  pub search_many : (s : Search) (budget : ℕ) → ((k : ℕ) (x : State) → slice_get s.states k ≡ Some x → FromQuery x) → AreApart s.states → budget < length s.states → Heavy (world_of g) q.point (look q.goals) budget
  search_many s budget reached apart l =
      let all : List (ℕ × Memory ℕ ℕ) = map state_of s.states in
      let len : length all ≡ length s.states = length-map s.states state_of in
      let size : length (take (budget + 1) all) ≡ budget + 1 = length-take-le (budget + 1) all (omega (arith, l, len)) in
      record {
        states = take (budget + 1) all;
        many = size;
        apart = λ i j d h k. rw (get_or-take (budget + 1) all i d (omega (arith, h, k, size)), get_or-take (budget + 1) all j d (omega (arith, k, size))) (apart i j d h (omega (arith, k, size, l, len)));
        reached = λ k d h. rw (get_or-take (budget + 1) all k d (omega (arith, h, size))) (at (get_or all k d) (map_from state_of s.states (get_or all k d) (Contains-get_or all k d (omega (arith, h, size, l, len)))));
      }
    where
      at : (z : ℕ × Memory ℕ ℕ) → Origin state_of s.states z → Reached (world_of g) q.point (look q.goals) z.0 z.1
      at z o = let h : Stands s.states o.item = stands s.states o.item o.is in subst (λ u. Reached (world_of g) q.point (look q.goals) u.0 u.1) o.same (reached h.place o.item h.at)

  pub search_full : (s m t : Search) (place budget : ℕ) (x : State) → slice_get s.states place ≡ Some x → IsExtended light (IsBackOf g x) (record s { waiting = m.waiting; parent = place }) t → IsSearched s → AreApart t.states → budget < length t.states → Heavy (world_of g) q.point (look q.goals) budget
  search_full s m t place budget x at ext i apart l = search_many t budget (λ k y e. go k y (ext.new_states k y e)) apart l
    where
      go : (k : ℕ) (y : State) → (slice_get s.states k ≡ Some y) ⊎ IsFresh (IsBackOf g x) t k y → FromQuery y
      go k y (inl e) = i.reached k y e
      go k y (inr f) = back_reached x y (i.reached place x at) f.is

  -- where nothing waits
  module _ (s : Search) (i : IsSearched s) (w : s.waiting.items ≡ []) where
    ended : (x : State) → Contains s.states x → IsDone s x
    ended x c = let h : Stands s.states x = stands s.states x c in go h.place (i.done h.place x h.at)
      where
        go : (k : ℕ) → Contains s.waiting.items k ⊎ IsDone s x → IsDone s x
        go k (inl d) = empty k (subst (λ ys. Contains ys k) w d)
        go k (inr d) = d

    pub search_none : IsTrue roots → HaveNoRoot g s.states
    search_none r x c n = (ended x c).root r n

    known_back : (e : worlds.Edge ℕ ℕ ℕ) (after before : Memory ℕ ℕ) → Contains (map state_of s.states) (e.to, after) → BackState (world_of g) e after before → IsKnown s (e.from, before)
    known_back e k h c b = go (map_from state_of s.states (e.to, k) c)
      where
        go : Origin state_of s.states (e.to, k) → IsKnown s (e.from, h)
        go o = (ended o.item o.is).backs e h (ap (λ z. z.0) (sym o.same)) (subst (λ z. BackState (world_of g) e z h) (ap (λ z. z.1) (sym o.same)) b)

    with_list : (budget : ℕ) → IsClosed g light → length s.states + length light ≤ budget → IsWhole g q budget (s.states ++ light)
    with_list budget closed few =
        record {
          has = left (state_of q) (met_here s.states q q (got s.states 0 q i.first) refl);
          closed = record { backs = λ e k h c b. backs e k h b (Contains-append_cases (map state_of s.states) (map state_of light) (e.to, k) (subst (λ zs. Contains zs (e.to, k)) (map-append state_of s.states light) c)) };
          few = omega (arith, few, length-append s.states light);
        }
      where
        left : (z : ℕ × Memory ℕ ℕ) → Contains (map state_of s.states) z → Contains (map state_of (s.states ++ light)) z
        left z c = met_in s.states (s.states ++ light) (λ x d. Contains-append_left s.states light x d) z c

        right : (z : ℕ × Memory ℕ ℕ) → Contains (map state_of light) z → Contains (map state_of (s.states ++ light)) z
        right z c = met_in light (s.states ++ light) (λ x d. Contains-append_right s.states light x d) z c

        noted : (z : ℕ × Memory ℕ ℕ) → Origin state_of s.noted z → Contains (map state_of (s.states ++ light)) z
        noted z o = subst (λ y. Contains (map state_of (s.states ++ light)) y) o.same (right (state_of o.item) (i.noted_light o.item o.is))

        known : (z : ℕ × Memory ℕ ℕ) → IsKnown s z → Contains (map state_of (s.states ++ light)) z
        known z (inl c) = left z c
        known z (inr c) = noted z (map_from state_of s.noted z c)

        backs : (e : worlds.Edge ℕ ℕ ℕ) (k h : Memory ℕ ℕ) → BackState (world_of g) e k h → Contains (map state_of s.states) (e.to, k) ⊎ Contains (map state_of light) (e.to, k) → Contains (map state_of (s.states ++ light)) (e.from, h)
        backs e k h b (inl c) = known (e.from, h) (known_back e k h c b)
        backs e k h b (inr c) = right (e.from, h) (closed.backs e k h c b)

    alone : (budget : ℕ) → s.uses_list ≡ false → length s.states ≤ budget → IsWhole g q budget s.states
    alone budget u few =
        record {
          has = met_here s.states q q (got s.states 0 q i.first) refl;
          closed = record { backs = λ e k h c b. known (e.from, h) (known_back e k h c b) };
          few = few;
        }
      where
        noted : (z : ℕ × Memory ℕ ℕ) → Origin state_of s.noted z → Contains (map state_of s.states) z
        noted z o = subst (λ y. Contains (map state_of s.states) y) o.same (i.left u o.item o.is)

        known : (z : ℕ × Memory ℕ ℕ) → IsKnown s z → Contains (map state_of s.states) z
        known z (inl c) = c
        known z (inr c) = noted z (map_from state_of s.noted z c)

    pub search_whole : (budget : ℕ) → IsClosed g light → length s.states ≤ budget → (IsTrue s.uses_list → length s.states + length light ≤ budget) → IsWhole g q budget (cond s.uses_list (s.states ++ light) s.states)
    search_whole budget closed few room = go s.uses_list refl
      where
        go : (b : Bool) → s.uses_list ≡ b → IsWhole g q budget (cond b (s.states ++ light) s.states)
        go true e = with_list budget closed (room e)
        go false e = alone budget e few

  -- the way back from a visible state
  module _ (s : Search) (i : IsSearched s) (r : IsTrue roots) (place : ℕ) (aim : State) (at : slice_get s.states place ≡ Some aim) (visible : Visible (world_of g) aim.point (look aim.goals)) where
    way_back : (x y : State) → IsBackOf g x y → Visible (world_of g) y.point (look y.goals) → Visible (world_of g) x.point (look x.goals)
    way_back x y b v =
        subst (λ n. Visible (world_of g) n (look x.goals)) b.to
        (visible_back (world_of g) b.edge (look x.goals) (look y.goals) b.is (subst (λ n. Visible (world_of g) n (look y.goals)) (sym b.from) v))

    from_child : (child parent : ℕ) (x : State) → slice_get s.states parent ≡ Some x → 0 < child → slice_get s.parents.items child ≡ Some parent → ((y : State) → slice_get s.states child ≡ Some y → Visible (world_of g) y.point (look y.goals)) → Visible (world_of g) x.point (look x.goals)
    from_child child parent x e l h child_is = go (there s.states child (omega (arith, i.even, at_within s.parents.items child parent h)))
      where
        is_x : (y : State) → IsWayTo s child y → IsBackOf g x y
        is_x y t =
            let p : t.parent ≡ parent = one_at s.parents.items child t.parent parent t.stands h in
            let same : t.before ≡ x = one_at s.states parent t.before x (subst (λ n. slice_get s.states n ≡ Some t.before) p t.at) e in
            subst (λ z. IsBackOf g z y) same t.is

        from : (y : State) → slice_get s.states child ≡ Some y → (child ≡ 0) ⊎ IsWayTo s child y → Visible (world_of g) x.point (look x.goals)
        from y f (inl z) = absurd (omega (arith, l, z))
        from y f (inr t) = way_back x y (is_x y t) (child_is y f)

        go : Here s.states child → Visible (world_of g) x.point (look x.goals)
        go y = from y.item y.at (i.ways r child y.item y.at)

    on_way : (k : ℕ) → IsOnWay s.parents.items place k → (x : State) → slice_get s.states k ≡ Some x → Visible (world_of g) x.point (look x.goals)
    on_way k spec.here x e = let same : aim ≡ x = one_at s.states place aim x at e in subst (λ z. Visible (world_of g) z.point (look z.goals)) same visible
    on_way k (spec.back child parent w l h) x e = from_child child parent x e l h (λ y f. on_way child w y f)

    pub search_way : (way : List State) → IsWayBack s place way → IsMet way q × AreVisible g way
    search_way way b = (b.query q i.first, λ x c. of x (b.each x c))
      where
        of : (x : State) → IsOfWay s place x → Visible (world_of g) x.point (look x.goals)
        of x o = subst (λ z. Visible (world_of g) z.0 z.1) (sym o.same) (on_way o.at o.on o.state o.stands)

  pub ways_earlier : (s : Search) → IsSearched s → IsTrue roots → (child parent : ℕ) → slice_get s.parents.items child ≡ Some parent → 0 < child → parent < child
  ways_earlier s i r child parent h l = go (there s.states child (omega (arith, i.even, at_within s.parents.items child parent h)))
    where
      from : (y : State) → (child ≡ 0) ⊎ IsWayTo s child y → parent < child
      from y (inl z) = absurd (omega (arith, l, z))
      from y (inr t) = let p : t.parent ≡ parent = one_at s.parents.items child t.parent parent t.stands h in omega (arith, p, t.earlier)

      go : Here s.states child → parent < child
      go y = from y.item (i.ways r child y.item y.at)

  pub room_counts : (room : ℕ) (s t : Search) → IsRoomMade room s t → length t.waiting.items + length s.states ≡ length s.waiting.items + length t.states
  room_counts room s t r = go r.is
    where
      go : (t ≡ s) ⊎ (IsTrue s.uses_list × IsLeft s t) → length t.waiting.items + length s.states ≡ length s.waiting.items + length t.states
      go (inl e) = subst (λ z. length z.waiting.items + length s.states ≡ length s.waiting.items + length z.states) (sym e) refl
      go (inr h) = h.1.extended.count

  pub room_limit : (room : ℕ) (s t : Search) → IsRoomMade room s t → t.limit ≡ s.limit
  room_limit room s t r = go r.is
    where
      go : (t ≡ s) ⊎ (IsTrue s.uses_list × IsLeft s t) → t.limit ≡ s.limit
      go (inl e) = ap (λ z. z.limit) e
      go (inr h) = h.1.extended.limit

-- a state at which a search ends is visible
pub aim_visible : (g : GraphTables) (known : List State) (x : State) → AreVisible g known → IsRootState g x ⊎ IsMet known x → Visible (world_of g) x.point (look x.goals)
aim_visible g known x v (inl r) = visible_root (world_of g) x.point (look x.goals) r.0 r.1
aim_visible g known x v (inr m) = go (map_from state_of known (state_of x) m)
  where
    go : Origin state_of known (state_of x) → Visible (world_of g) x.point (look x.goals)
    go o = subst (λ z. Visible (world_of g) z.0 z.1) o.same (v o.item o.is)

-- a map with nothing in it
empty_by_look : (goals : List Binding) → look goals ≡ nothing → goals ≡ []
empty_by_look [] e = refl
empty_by_look (b ∷ bs) e =
    let k : cond (nat_eq b.var b.var) (Some b.shape) (look bs b.var) ≡ None = ap (λ m. m b.var) e in
    let t : nat_eq b.var b.var ≡ true = equal_itself b.var in
    let i : Some b.shape ≡ None = rw t at k in
    cc

pub root_right : (o : Bool) → o ≡ true → (goals : List Binding) (r : Bool) → IsTrue r ↔ goals ≡ [] → IsTrue r ↔ (IsTrue o × (look goals ≡ nothing))
root_right o t goals r h = (λ i. (t, ap look (h.0 i)), λ p. h.1 (empty_by_look goals p.1))
