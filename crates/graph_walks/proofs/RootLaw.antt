-- A query is visible exactly where a root with nothing wanted is reached from it.
use Rattle.std.proofs.Common.{◌≡◌, ◌≢◌, ◌↔◌, ℕ, Bool, true, false, cond, Option, Some, None, ◌⊎◌, inl, inr, refl, sym, ap, subst, ◌∙◌}
use Rattle.graph_walks.specs.Worlds.{Memory, nothing, Within, Ask, Edge, World, HasFact, assigned, FactGives, AllGiven}
use Rattle.graph_walks.specs.Walks.{Answers, unasked, passes, Comes, kept, made, Step, Walk, start, step, Visible}
use Rattle.graph_walks.specs.Backs as backs
use Rattle.graph_walks.specs.Backs.{Wanted, still, by_source, by_ask, Explains, unwanted, by_fact, Asks, asked, BackState, Reached, here, back, RootReached, Seen}

pub some_same : {A : Type 0} {x y : A} → Some x ≡ Some y → x ≡ y
some_same e = cc

pub none_is_some : {A B : Type 0} {x : A} → None ≡ Some x → B
none_is_some e = cc

-- the map of a relation, where each variable's answer is known
module _ {V S : Type 0} (R : V → S → Type 0) where
  Known : V → Type 0
  Known v = ((s : S) × R v s) ⊎ ((s : S) → R v s → ⊥)

  known : (v : V) → Known v → Option S
  unfolding Known
  known v (inl p) = Some p.0
  known v (inr n) = None

  known_is : ((v : V) (s t : S) → R v s → R v t → s ≡ t) → (v : V) (a : Known v) (s : S) → known v a ≡ Some s ↔ R v s
  unfolding Known known
  known_is one v (inl p) s = (λ e. subst (R v) (some_same e) p.1, λ r. ap Some (one v p.0 s p.1 r))
  known_is one v (inr n) s = (λ e. none_is_some e, λ r. absurd (n s r))

module _ {P V S : Type 0} (w : World P V S) where
  target_of : (e : Edge P V S) (v : V) → assigned w e ≡ Some v → w.target e.from ≡ Some v
  target_of e v h = go e.assigns (w.target e.from) h
    where
      go : (a : Bool) (t : Option V) → cond a t None ≡ Some v → t ≡ Some v
      go true t h = h
      go false t h = none_is_some h

  given_after : (e : Edge P V S) (m : Memory V S) (v : V) (s : S) → Comes w e m v s → (m v ≡ Some s → FactGives w v s) → FactGives w v s
  given_after e m v s (kept n i) before = before i
  given_after e m v s (made a source f i) before = record { point = e.from; source = source; target = target_of e v a; fact = f }

  given_in : {p : P} {m : Memory V S} → Walk w p m → (v : V) (s : S) → m v ≡ Some s → FactGives w v s
  given_in (start r) v s h = none_is_some h
  given_in (step {before} e k st) v s h = given_after e before v s (st.comes v s h) (given_in k v s)

  pub walk_given : (p : P) (m : Memory V S) → Walk w p m → AllGiven w m
  walk_given p m k = record { at = given_in k }

  pub visible_given : (q : P) (g : Memory V S) → Visible w q g → AllGiven w g
  visible_given q g v = record { at = λ u s i. given_in v.walk u s (v.holds.at u s i) }

  pub seen_given : (q : P) (g : Memory V S) (budget : ℕ) → Seen w q g budget → AllGiven w g
  seen_given q g budget (inl v) = visible_given q g v
  seen_given q g budget (inr h) = h.1

module _ {P V S : Type 0} (w : World P V S) (same : Discrete V) where
  is_assigned : (d : Option V) (v : V) → Dec (d ≡ Some v)
  is_assigned None v = no (λ h. none_is_some h)
  is_assigned (Some u) v = go (same u v)
    where
      go : Dec (u ≡ v) → Dec (Some u ≡ Some v)
      go (yes i) = yes (ap Some i)
      go (no n) = no (λ h. n (some_same h))

  -- from a walk to a back state, on along the edge, with just the memory that was wanted
  answers_in : {a : Option (Ask V S)} {pair : Option (V × S)} {m : Memory V S} → Asks w a pair → ((v : V) (s : S) → pair ≡ Some (v, s) → m v ≡ Some s) → Answers w a m
  answers_in backs.unasked h = unasked
  answers_in (asked a s p g) h = passes s (h a.var s refl) p

  made_here : (e : Edge P V S) (g source m : Memory V S) (v : V) (s : S) → assigned w e ≡ Some v → g v ≡ Some s → Explains w (assigned w e) e.from g source → Within source m → Comes w e m v s
  made_here e g source m v s a i (unwanted n) b = none_is_some (sym (n v a) ∙ i)
  made_here e g source m v s a i (by_fact u t c j k f) b =
      let same_var : u ≡ v = some_same (sym c ∙ a) in
      let same_shape : t ≡ s = some_same (sym j ∙ ap g same_var ∙ i) in
      made a source (subst (λ r. HasFact w e.from r source) same_shape f) b

  step_on : (e : Edge P V S) (g h m : Memory V S) → BackState w e g h → Within h m → Step w e m g
  step_on e g h m b i =
      let all : (v : V) (s : S) → Wanted (assigned w e) g b.source b.pair v s → m v ≡ Some s = λ v s k. i.at v s ((b.wanted v s).1 k) in
      record {
        edge = b.edge;
        answers = answers_in b.asks (λ v s k. all v s (by_ask k));
        comes = λ v s k. go v s k (is_assigned (assigned w e) v) all;
      }
    where
      go : (v : V) (s : S) → g v ≡ Some s → Dec (assigned w e ≡ Some v) → ((v : V) (s : S) → Wanted (assigned w e) g b.source b.pair v s → m v ≡ Some s) → Comes w e m v s
      go v s k (yes a) all = made_here e g b.source m v s a k b.explains (record { at = λ u t j. all u t (by_source j) })
      go v s k (no n) all = kept n (all v s (still n k))

  walk_on : {q : P} {g : Memory V S} {p : P} {h m : Memory V S} → Reached w q g p h → Walk w p m → Within h m → Visible w q g
  walk_on {m} here k i = record { memory = m; walk = k; holds = i }
  walk_on {m} (back {after} {before} e r b) k j = walk_on r (step e k (step_on e after before m b j)) (record { at = λ v s x. x })

  visible_by_root : (q : P) (g : Memory V S) → RootReached w q g → Visible w q g
  visible_by_root q g r = walk_on r.reached (start r.is) (record { at = λ v s x. x })

  -- from the last step of a walk to a back state within the memory before it
  wanted_at : (e : Edge P V S) (g source : Memory V S) (pair : Option (V × S)) (v : V) → Known (Wanted (assigned w e) g source pair) v
  unfolding Known
  wanted_at e g source pair v = by_pair pair refl
    where
      by_goal : (x : Option S) → g v ≡ x → source v ≡ None → ((s : S) → pair ≡ Some (v, s) → ⊥) → assigned w e ≢ Some v → Known (Wanted (assigned w e) g source pair) v
      by_goal None i j k n = inr (λ s r. none s r)
        where
          none : (s : S) → Wanted (assigned w e) g source pair v s → ⊥
          none s (still m h) = none_is_some (sym i ∙ h)
          none s (by_source h) = none_is_some (sym j ∙ h)
          none s (by_ask h) = k s h
      by_goal (Some s) i j k n = inl (s, still n i)

      by_target : Dec (assigned w e ≡ Some v) → source v ≡ None → ((s : S) → pair ≡ Some (v, s) → ⊥) → Known (Wanted (assigned w e) g source pair) v
      by_target (no n) j k = by_goal (g v) refl j k n
      by_target (yes a) j k = inr (λ s r. none s r)
        where
          none : (s : S) → Wanted (assigned w e) g source pair v s → ⊥
          none s (still m h) = m a
          none s (by_source h) = none_is_some (sym j ∙ h)
          none s (by_ask h) = k s h

      by_shape : (x : Option S) → source v ≡ x → ((s : S) → pair ≡ Some (v, s) → ⊥) → Known (Wanted (assigned w e) g source pair) v
      by_shape None i k = by_target (is_assigned (assigned w e) v) i k
      by_shape (Some s) i k = inl (s, by_source i)

      by_var : (u : V) (s : S) → pair ≡ Some (u, s) → Dec (u ≡ v) → Known (Wanted (assigned w e) g source pair) v
      by_var u s i (yes h) = inl (s, by_ask (i ∙ ap (λ x. Some (x, s)) h))
      by_var u s i (no n) = by_shape (source v) refl (λ t h. n (ap (λ x. x.0) (some_same (sym i ∙ h))))

      by_pair : (x : Option (V × S)) → pair ≡ x → Known (Wanted (assigned w e) g source pair) v
      by_pair None i = by_shape (source v) refl (λ s h. none_is_some (sym i ∙ h))
      by_pair (Some (u, s)) i = by_var u s i (same u v)

  record Explained (e : Edge P V S) (g m : Memory V S) : Type 0 where
    source : Memory V S
    explains : Explains w (assigned w e) e.from g source
    within : Within source m

  record Pair (a : Option (Ask V S)) (m : Memory V S) : Type 0 where
    pair : Option (V × S)
    asks : Asks w a pair
    within : (v : V) (s : S) → pair ≡ Some (v, s) → m v ≡ Some s

  explained : (e : Edge P V S) (g m : Memory V S) → ((v : V) (s : S) → g v ≡ Some s → Comes w e m v s) → Explained e g m
  explained e g m comes = by_target (assigned w e) refl
    where
      none : ((v : V) → assigned w e ≡ Some v → g v ≡ None) → Explained e g m
      none h = record { source = nothing; explains = unwanted h; within = record { at = λ v s x. none_is_some x } }

      by_comes : (t : V) (s : S) → assigned w e ≡ Some t → g t ≡ Some s → Comes w e m t s → Explained e g m
      by_comes t s a i (kept n x) = absurd (n a)
      by_comes t s a i (made b source f x) = record { source = source; explains = by_fact t s a i source f; within = x }

      by_goal : (t : V) → assigned w e ≡ Some t → (x : Option S) → g t ≡ x → Explained e g m
      by_goal t a None i = none (λ v b. ap g (some_same (sym b ∙ a)) ∙ i)
      by_goal t a (Some s) i = by_comes t s a i (comes t s i)

      by_target : (d : Option V) → assigned w e ≡ d → Explained e g m
      by_target None i = none (λ v h. none_is_some (sym i ∙ h))
      by_target (Some t) i = by_goal t i (g t) refl

  pair_of : (a : Option (Ask V S)) (m : Memory V S) → Answers w a m → ((v : V) (s : S) → m v ≡ Some s → FactGives w v s) → Pair a m
  pair_of None m unasked given = record { pair = None; asks = backs.unasked; within = λ v s h. none_is_some h }
  pair_of (Some a) m (passes s i p) given =
      record {
        pair = Some (a.var, s);
        asks = asked a s p (given a.var s i);
        within = λ v t h. let e : (a.var, s) ≡ (v, t) = some_same h in ap m (sym (ap (λ x. x.0) e)) ∙ i ∙ ap (λ x. Some x.1) e;
      }

  wanted_before : (e : Edge P V S) (g source : Memory V S) (pair : Option (V × S)) (m : Memory V S) → ((v : V) (s : S) → g v ≡ Some s → Comes w e m v s) → Within source m → ((v : V) (s : S) → pair ≡ Some (v, s) → m v ≡ Some s) → (v : V) (s : S) → Wanted (assigned w e) g source pair v s → m v ≡ Some s
  wanted_before e g source pair m comes i j v s (still n k) = by_comes (comes v s k)
    where
      by_comes : Comes w e m v s → m v ≡ Some s
      by_comes (kept n x) = x
      by_comes (made a r f x) = absurd (n a)
  wanted_before e g source pair m comes i j v s (by_source k) = i.at v s k
  wanted_before e g source pair m comes i j v s (by_ask k) = j v s k

  record StepBack (e : Edge P V S) (g m : Memory V S) : Type 0 where
    before : Memory V S
    is : BackState w e g before
    within : Within before m

  step_back : (e : Edge P V S) (g m after : Memory V S) → Step w e m after → Within g after → ((v : V) (s : S) → m v ≡ Some s → FactGives w v s) → StepBack e g m
  unfolding Known
  step_back e g m after st i given =
      let comes : (v : V) (s : S) → g v ≡ Some s → Comes w e m v s = λ v s k. st.comes v s (i.at v s k) in
      let f : Explained e g m = explained e g m comes in
      let o : Pair e.asks m = pair_of e.asks m st.answers given in
      let R : V → S → Type 0 = Wanted (assigned w e) g f.source o.pair in
      let all : (v : V) (s : S) → R v s → m v ≡ Some s = wanted_before e g f.source o.pair m comes f.within o.within in
      let before : Memory V S = λ v. known R v (wanted_at e g f.source o.pair v) in
      let is : (v : V) (s : S) → before v ≡ Some s ↔ R v s = λ v. known_is R (λ u s t x y. some_same (sym (all u s x) ∙ all u t y)) v (wanted_at e g f.source o.pair v) in
      record {
        before = before;
        is = record { edge = st.edge; source = f.source; explains = f.explains; pair = o.pair; asks = o.asks; wanted = is };
        within = record { at = λ v s x. all v s ((is v s).0 x) };
      }

  within_nothing : (g : Memory V S) → Within g nothing → g ≡ nothing
  within_nothing g i = λ k v. at (g v) refl k
    where
      at : {v : V} (x : Option S) → g v ≡ x → x ≡ None
      at None e = refl
      at {v} (Some s) e = none_is_some (i.at v s e)

  back_to_root : {p : P} {m : Memory V S} → Walk w p m → (q : P) (g h : Memory V S) → Reached w q g p h → Within h m → RootReached w q g
  back_to_root (start {p} r) q g h t i = record { root = p; is = r; reached = subst (Reached w q g p) (within_nothing h i) t }
  back_to_root (step {before} {after} e k st) q g h t i =
      let b : StepBack e h before = step_back e h before after st i (given_in w k) in
      back_to_root k q g b.before (back e t b.is) b.within

  root_by_visible : (q : P) (g : Memory V S) → Visible w q g → RootReached w q g
  root_by_visible q g v = back_to_root v.walk q g g here v.holds

  pub root_law : (q : P) (g : Memory V S) → Visible w q g ↔ RootReached w q g
  root_law q g = (root_by_visible q g, visible_by_root q g)
