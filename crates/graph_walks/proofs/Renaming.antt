-- A world and the same world under other names have the same visible, reached, heavy and seen queries.
use Rattle.std.proofs.Common.{◌≡◌, ◌≢◌, ◌↔◌, ℕ, suc, zero, ◌<◌, Bool, true, false, cond, Option, Some, None, List, [], ◌∷◌, length, get_or, inl, inr, refl, sym, ap, subst, ◌∙◌, arith, option_and_then, IsTrue}
use Rattle.std.specs.List.{All, AllPairs, Contains}
use Rattle.std.proofs.lemmas.List.Elements.{All-head, All-tail, All-cons, All-nil}
use Rattle.std.proofs.lemmas.Option.{some_pair_parts}
use Rattle.graph_walks.specs.Worlds.{Memory, nothing, Within, Test, Ask, Edge, Fact, World, PassesBy, HasFact, assigned, FactGives, AllGiven}
use Rattle.graph_walks.specs.Walks.{Answers, unasked, passes, Comes, kept, made, Walk, start, step, Visible}
use Rattle.graph_walks.specs.Backs as backs
use Rattle.graph_walks.specs.Backs.{Wanted, still, by_source, by_ask, Explains, unwanted, by_fact, Asks, asked, BackState, Reached, here, back, Heavy, Seen}
use Rattle.graph_walks.specs.Renamings.{Names, swapped, renamed, HasNames, SameTest, same_true, same_false, same_is, SameAsk, same_none, same_some, SameEdge, SameFact, IsCarried}
use Rattle.graph_walks.proofs.RootLaw.{some_same, none_is_some}

-- a pair of a memory, by the names of its variable and its shape
record NamedPair {V S V' S' : Type 0} (vars : Names V V') (shapes : Names S S') (m : Memory V S) (v' : V') (s' : S') : Type 0 where
  var : V
  shape : S
  var_is : vars.name var ≡ Some v'
  shape_is : shapes.name shape ≡ Some s'
  at : m var ≡ Some shape

module _ {V S V' S' : Type 0} (vars : Names V V') (shapes : Names S S') where
  renamed_at : (m : Memory V S) (v : V) (s : S) (v' : V') (s' : S') → vars.name v ≡ Some v' → shapes.name s ≡ Some s' → m v ≡ Some s → renamed vars shapes m v' ≡ Some s'
  renamed_at m v s v' s' i j h = ap (λ o. option_and_then (λ v. option_and_then shapes.name (m v)) o) (vars.named v v' i) ∙ ap (λ o. option_and_then shapes.name o) h ∙ j

  pair_at : (m : Memory V S) (v' : V') (s' : S') → renamed vars shapes m v' ≡ Some s' → NamedPair vars shapes m v' s'
  pair_at m v' s' h = go (vars.thing v') refl h
    where
      at : (v : V) → vars.thing v' ≡ Some v → (o : Option S) → m v ≡ o → option_and_then shapes.name o ≡ Some s' → NamedPair vars shapes m v' s'
      at v i None j h = none_is_some h
      at v i (Some s) j h = record { var = v; shape = s; var_is = vars.names v v' i; shape_is = h; at = j }

      go : (o : Option V) → vars.thing v' ≡ o → option_and_then (λ v. option_and_then shapes.name (m v)) o ≡ Some s' → NamedPair vars shapes m v' s'
      go None i h = none_is_some h
      go (Some v) i h = at v i (m v) refl h

  renamed_nothing : renamed vars shapes nothing ≡ nothing
  renamed_nothing = λ i v'. go (vars.thing v') i
    where
      go : (o : Option V) → option_and_then (λ v. option_and_then shapes.name (nothing v)) o ≡ None
      go None = refl
      go (Some v) = refl

  renamed_within : (g m : Memory V S) → Within g m → Within (renamed vars shapes g) (renamed vars shapes m)
  renamed_within g m i = record { at = λ v' s' h. let p : NamedPair vars shapes g v' s' = pair_at g v' s' h in renamed_at m p.var p.shape v' s' p.var_is p.shape_is (i.at p.var p.shape p.at) }

  nothing_named : HasNames vars shapes nothing
  nothing_named = record { at = λ v s h. none_is_some h }

  same_by_pairs : (g h : Memory V S) → ((v : V) (s : S) → g v ≡ Some s → h v ≡ Some s) → ((v : V) (s : S) → h v ≡ Some s → g v ≡ Some s) → g ≡ h
  same_by_pairs g h f k = λ i v. at v (g v) refl (h v) refl i
    where
      at : (v : V) (x : Option S) → g v ≡ x → (y : Option S) → h v ≡ y → g v ≡ h v
      at v (Some s) i y j = i ∙ sym (f v s i)
      at v None i (Some s) j = k v s j ∙ sym j
      at v None i None j = i ∙ sym j

  -- two memories with the same renamed one are the same
  renamed_apart : (g h : Memory V S) → HasNames vars shapes g → HasNames vars shapes h → renamed vars shapes g ≡ renamed vars shapes h → g ≡ h
  renamed_apart g h n k e = same_by_pairs g h (into g h n e) (into h g k (sym e))
    where
      into : (a b : Memory V S) → HasNames vars shapes a → renamed vars shapes a ≡ renamed vars shapes b → (v : V) (s : S) → a v ≡ Some s → b v ≡ Some s
      into a b n e v s i =
          let x : ((v' : V') × (vars.name v ≡ Some v')) × ((s' : S') × (shapes.name s ≡ Some s')) = n.at v s i in
          let p : NamedPair vars shapes b x.0.0 x.1.0 = pair_at b x.0.0 x.1.0 (ap (λ m. m x.0.0) (sym e) ∙ renamed_at a v s x.0.0 x.1.0 x.0.1 x.1.1 i) in
          let sv : p.var ≡ v = some_same (sym (vars.named p.var x.0.0 p.var_is) ∙ vars.named v x.0.0 x.0.1) in
          let ss : p.shape ≡ s = some_same (sym (shapes.named p.shape x.1.0 p.shape_is) ∙ shapes.named s x.1.0 x.1.1) in
          ap b (sym sv) ∙ p.at ∙ ap Some ss

  pub named_back : (m : Memory V S) → HasNames (swapped vars) (swapped shapes) (renamed vars shapes m)
  unfolding swapped
  named_back m = record { at = λ v' s' h. let p : NamedPair vars shapes m v' s' = pair_at m v' s' h in ((p.var, vars.named p.var v' p.var_is), (p.shape, shapes.named p.shape s' p.shape_is)) }

-- there and back
pub renamed_back : {V S V' S' : Type 0} (vars : Names V V') (shapes : Names S S') (m : Memory V S) → HasNames vars shapes m → renamed (swapped vars) (swapped shapes) (renamed vars shapes m) ≡ m
unfolding swapped
renamed_back {V} {S} {V'} {S'} vars shapes m n = same_by_pairs vars shapes (renamed (swapped vars) (swapped shapes) (renamed vars shapes m)) m from to
  where
    to : (v : V) (s : S) → m v ≡ Some s → renamed (swapped vars) (swapped shapes) (renamed vars shapes m) v ≡ Some s
    to v s h =
        let x : ((v' : V') × (vars.name v ≡ Some v')) × ((s' : S') × (shapes.name s ≡ Some s')) = n.at v s h in
        renamed_at (swapped vars) (swapped shapes) (renamed vars shapes m) x.0.0 x.1.0 v s (vars.named v x.0.0 x.0.1) (shapes.named s x.1.0 x.1.1) (renamed_at vars shapes m v s x.0.0 x.1.0 x.0.1 x.1.1 h)

    from : (v : V) (s : S) → renamed (swapped vars) (swapped shapes) (renamed vars shapes m) v ≡ Some s → m v ≡ Some s
    from v s h =
        let p : NamedPair (swapped vars) (swapped shapes) (renamed vars shapes m) v s = pair_at (swapped vars) (swapped shapes) (renamed vars shapes m) v s h in
        let q : NamedPair vars shapes m p.var p.shape = pair_at vars shapes m p.var p.shape p.at in
        let sv : q.var ≡ v = some_same (sym (vars.named q.var p.var q.var_is) ∙ p.var_is) in
        let ss : q.shape ≡ s = some_same (sym (shapes.named q.shape p.shape q.shape_is) ∙ p.shape_is) in
        ap m (sym sv) ∙ q.at ∙ ap Some ss

-- from a world into the other
module _ {P V S P' V' S' : Type 0} (points : Names P P') (vars : Names V V') (shapes : Names S S') (w : World P V S) (w' : World P' V' S') (into : IsCarried points vars shapes w w') (from : IsCarried (swapped points) (swapped vars) (swapped shapes) w' w) where
  abbrev ren : Memory V S → Memory V' S'
  ren m = renamed vars shapes m

  target_back : (p : P) (p' : P') (v' : V') → points.name p ≡ Some p' → w'.target p' ≡ Some v' → (v : V) × (vars.name v ≡ Some v') × (w.target p ≡ Some v)
  unfolding swapped
  target_back p p' v' i h = let x : (v : V) × (vars.thing v' ≡ Some v) × (w.target p ≡ Some v) = from.targets p' p v' (points.named p p' i) h in (x.0, vars.names x.0 v' x.1, x.2)

  passes_to : (t : Test S) (t' : Test S') (s : S) (s' : S') → SameTest points vars shapes t t' → shapes.name s ≡ Some s' → PassesBy w.truth t s → PassesBy w'.truth t' s'
  passes_to t t' s s' same_true i (inl h) = inl (into.truths s s' _ i h)
  passes_to t t' s s' same_true i (inr h) = inr (into.truths s s' _ i h)
  passes_to t t' s s' same_false i (inl h) = inl (into.truths s s' _ i h)
  passes_to t t' s s' same_false i (inr h) = inr (into.truths s s' _ i h)
  passes_to t t' s s' (same_is j) i h = some_same (sym i ∙ ap shapes.name h ∙ j)

  assigned_to : (e : Edge P V S) (f : Edge P' V' S') → SameEdge points vars shapes e f → (v : V) (v' : V') → vars.name v ≡ Some v' → assigned w e ≡ Some v → assigned w' f ≡ Some v'
  assigned_to e f s v v' i h = go e.assigns refl h
    where
      at : (u : V') → vars.name v ≡ Some u → w'.target f.from ≡ Some u → e.assigns ≡ true → assigned w' f ≡ Some v'
      at u j k a = let b : f.assigns ≡ true = sym s.assigns ∙ a in ap (λ t. cond t (w'.target f.from) None) b ∙ k ∙ sym j ∙ i

      go : (t : Bool) → e.assigns ≡ t → cond t (w.target e.from) None ≡ Some v → assigned w' f ≡ Some v'
      go false a h = none_is_some h
      go true a h = let t : (u : V') × (vars.name v ≡ Some u) × (w'.target f.from ≡ Some u) = into.targets e.from f.from v s.from h in at t.0 t.1 t.2 a

  assigned_from : (e : Edge P V S) (f : Edge P' V' S') → SameEdge points vars shapes e f → (v : V) (v' : V') → vars.name v ≡ Some v' → assigned w' f ≡ Some v' → assigned w e ≡ Some v
  assigned_from e f s v v' i h = go f.assigns refl h
    where
      at : (u : V) → vars.name u ≡ Some v' → w.target e.from ≡ Some u → f.assigns ≡ true → assigned w e ≡ Some v
      at u j k a =
          let b : e.assigns ≡ true = s.assigns ∙ a in
          let c : u ≡ v = some_same (sym (vars.named u v' j) ∙ vars.named v v' i) in
          ap (λ t. cond t (w.target e.from) None) b ∙ k ∙ ap Some c

      go : (t : Bool) → f.assigns ≡ t → cond t (w'.target f.from) None ≡ Some v' → assigned w e ≡ Some v
      go false a h = none_is_some h
      go true a h = let t : (u : V) × (vars.name u ≡ Some v') × (w.target e.from ≡ Some u) = target_back e.from f.from v' s.from h in at t.0 t.1 t.2 a

  -- a fact under its names
  record FactThere (p : P) (s : S) (m : Memory V S) : Type 0 where
    point : P'
    shape : S'
    point_is : points.name p ≡ Some point
    shape_is : shapes.name s ≡ Some shape
    source : HasNames vars shapes m
    is : HasFact w' point shape (ren m)

  fact_there : (p : P) (s : S) (m : Memory V S) → HasFact w p s m → FactThere p s m
  fact_there p s m h =
      let x : (f : Fact P' V' S') × SameFact points vars shapes (record { point = p; shape = s; source = m }) f × Contains w'.facts f = into.facts _ h in
      record {
        point = x.0.point;
        shape = x.0.shape;
        point_is = x.1.point;
        shape_is = x.1.shape;
        source = x.1.source;
        is = subst (λ n. HasFact w' x.0.point x.0.shape n) (sym x.1.renamed) x.2;
      }

  -- the fact at a point whose name is known, of a shape whose name is known
  fact_at : (p : P) (s : S) (m : Memory V S) → HasFact w p s m → (p' : P') (s' : S') → points.name p ≡ Some p' → shapes.name s ≡ Some s' → HasFact w' p' s' (ren m)
  fact_at p s m h p' s' i j =
      let x : FactThere p s m = fact_there p s m h in
      subst (λ n. HasFact w' n s' (ren m)) (some_same (sym x.point_is ∙ i)) (subst (λ n. HasFact w' x.point n (ren m)) (some_same (sym x.shape_is ∙ j)) x.is)

  gives_to : (v : V) (s : S) (v' : V') (s' : S') → vars.name v ≡ Some v' → shapes.name s ≡ Some s' → FactGives w v s → FactGives w' v' s'
  gives_to v s v' s' i j g =
      let x : FactThere g.point s g.source = fact_there g.point s g.source g.fact in
      let y : (u : V') × (vars.name v ≡ Some u) × (w'.target x.point ≡ Some u) = into.targets g.point x.point v x.point_is g.target in
      record { point = x.point; source = ren g.source; target = y.2 ∙ sym y.1 ∙ i; fact = fact_at g.point s g.source g.fact x.point s' x.point_is j }

  abbrev Both : V → S → Type 0
  Both v s = ((v' : V') × (vars.name v ≡ Some v')) × ((s' : S') × (shapes.name s ≡ Some s'))

  pub given_to : (g : Memory V S) → AllGiven w g → AllGiven w' (ren g)
  given_to g a = record { at = λ v' s' h. let p : NamedPair vars shapes g v' s' = pair_at vars shapes g v' s' h in gives_to p.var p.shape v' s' p.var_is p.shape_is (a.at p.var p.shape p.at) }

  -- walks
  answers_to : (a : Option (Ask V S)) (b : Option (Ask V' S')) (m : Memory V S) → SameAsk points vars shapes a b → HasNames vars shapes m → Answers w a m → Answers w' b (ren m)
  answers_to a b m same_none n unasked = unasked
  answers_to (Some a) (Some b) m (same_some i t) n (passes s h p) =
      let s' : (x : S') × (shapes.name s ≡ Some x) = (n.at a.var s h).1 in
      passes s'.0 (renamed_at vars shapes m a.var s b.var s'.0 i s'.1 h) (passes_to a.test b.test s s'.0 t s'.1 p)

  record WalkThere (p : P) (m : Memory V S) : Type 0 where
    point : P'
    is : points.name p ≡ Some point
    named : HasNames vars shapes m
    walk : Walk w' point (ren m)

  comes_named : (e : Edge P V S) (m : Memory V S) → HasNames vars shapes m → (v : V) (s : S) → Comes w e m v s → Both v s
  comes_named e m n v s (kept a h) = n.at v s h
  comes_named e m n v s (made a source f i) = go (fact_there e.from s source f) e.assigns a
    where
      go : FactThere e.from s source → (b : Bool) → cond b (w.target e.from) None ≡ Some v → Both v s
      go x false h = none_is_some h
      go x true h = let y : (v' : V') × (vars.name v ≡ Some v') × (w'.target x.point ≡ Some v') = into.targets e.from x.point v x.point_is h in ((y.0, y.1), (x.shape, x.shape_is))

  comes_to : (e : Edge P V S) (f : Edge P' V' S') → SameEdge points vars shapes e f → (m : Memory V S) (v : V) (s : S) (v' : V') (s' : S') → vars.name v ≡ Some v' → shapes.name s ≡ Some s' → Comes w e m v s → Comes w' f (ren m) v' s'
  comes_to e f same m v s v' s' i j (kept n h) = kept (λ a. n (assigned_from e f same v v' i a)) (renamed_at vars shapes m v s v' s' i j h)
  comes_to e f same m v s v' s' i j (made a source k b) =
      made (assigned_to e f same v v' i a) (ren source) (fact_at e.from s source k f.from s' same.from j) (renamed_within vars shapes source m b)

  walk_to : {p : P} {m : Memory V S} → Walk w p m → WalkThere p m
  walk_to (start {p} r) =
      let q : (p' : P') × (points.name p ≡ Some p') × IsTrue (w'.root p') = into.roots p r in
      record { point = q.0; is = q.1; named = nothing_named vars shapes; walk = subst (λ m. Walk w' q.0 m) (sym (renamed_nothing vars shapes)) (start q.2) }
  walk_to (step {before} {after} e k s) = go (walk_to k) (into.edges e s.edge)
    where
      go : WalkThere e.from before → (f : Edge P' V' S') × SameEdge points vars shapes e f × Contains w'.edges f → WalkThere e.to after
      go x y =
          record {
            point = y.0.to;
            is = y.1.to;
            named = record { at = λ v t h. comes_named e before x.named v t (s.comes v t h) };
            walk = step y.0 (subst (λ p. Walk w' p (ren before)) (some_same (sym x.is ∙ y.1.from)) x.walk) (record {
              edge = y.2;
              answers = answers_to e.asks y.0.asks before y.1.asks x.named s.answers;
              comes = λ v' s' h. let p : NamedPair vars shapes after v' s' = pair_at vars shapes after v' s' h in comes_to e y.0 y.1 before p.var p.shape v' s' p.var_is p.shape_is (s.comes p.var p.shape p.at);
            });
          }

  pub visible_to : (q : P) (q' : P') (g : Memory V S) → points.name q ≡ Some q' → Visible w q g → Visible w' q' (ren g)
  visible_to q q' g i v =
      let x : WalkThere q v.memory = walk_to v.walk in
      record { memory = ren v.memory; walk = subst (λ p. Walk w' p (ren v.memory)) (some_same (sym x.is ∙ i)) x.walk; holds = renamed_within vars shapes g v.memory v.holds }

  -- back states
  record ExplainsThere (e : Edge P V S) (f : Edge P' V' S') (g source : Memory V S) : Type 0 where
    named : HasNames vars shapes source
    is : Explains w' (assigned w' f) f.from (ren g) (ren source)

  unwanted_to : (e : Edge P V S) (f : Edge P' V' S') → SameEdge points vars shapes e f → (g : Memory V S) → ((v : V) → assigned w e ≡ Some v → g v ≡ None) → (v' : V') → assigned w' f ≡ Some v' → ren g v' ≡ None
  unwanted_to e f s g n v' a = go f.assigns a
    where
      at : (v : V) → vars.name v ≡ Some v' → ren g v' ≡ None
      at v i = ap (λ o. option_and_then (λ v. option_and_then shapes.name (g v)) o) (vars.named v v' i) ∙ ap (λ o. option_and_then shapes.name o) (n v (assigned_from e f s v v' i a))

      go : (b : Bool) → cond b (w'.target f.from) None ≡ Some v' → ren g v' ≡ None
      go false h = none_is_some h
      go true h = let t : (v : V) × (vars.name v ≡ Some v') × (w.target e.from ≡ Some v) = target_back e.from f.from v' s.from h in at t.0 t.1

  explains_to : (e : Edge P V S) (f : Edge P' V' S') → SameEdge points vars shapes e f → (g source : Memory V S) → Explains w (assigned w e) e.from g source → ExplainsThere e f g source
  explains_to e f s g source (unwanted n) =
      record {
        named = nothing_named vars shapes;
        is = subst (λ m. Explains w' (assigned w' f) f.from (ren g) m) (sym (renamed_nothing vars shapes)) (unwanted (unwanted_to e f s g n));
      }
  explains_to e f s g source (by_fact v t a i m k) = go (fact_there e.from t m k) e.assigns a
    where
      go : FactThere e.from t m → (b : Bool) → cond b (w.target e.from) None ≡ Some v → ExplainsThere e f g m
      go x false h = none_is_some h
      go x true h =
          let y : (v' : V') × (vars.name v ≡ Some v') × (w'.target f.from ≡ Some v') = into.targets e.from f.from v s.from h in
          record {
            named = x.source;
            is = by_fact y.0 x.shape (assigned_to e f s v y.0 y.1 a) (renamed_at vars shapes g v t y.0 x.shape y.1 x.shape_is i) (ren m) (fact_at e.from t m k f.from x.shape s.from x.shape_is);
          }

  data SamePair : Option (V × S) → Option (V' × S') → Type 0 where
    no_pair : SamePair None None
    one_pair : (v : V) (s : S) (v' : V') (s' : S') → vars.name v ≡ Some v' → shapes.name s ≡ Some s' → SamePair (Some (v, s)) (Some (v', s'))

  record AsksThere (b : Option (Ask V' S')) (pair : Option (V × S)) : Type 0 where
    there : Option (V' × S')
    same : SamePair pair there
    is : Asks w' b there

  asks_to : (a : Option (Ask V S)) (b : Option (Ask V' S')) (pair : Option (V × S)) → SameAsk points vars shapes a b → Asks w a pair → AsksThere b pair
  asks_to a b pair same_none backs.unasked = record { there = None; same = no_pair; is = backs.unasked }
  asks_to (Some a) (Some b) pair (same_some i t) (asked c s p g) =
      let x : FactThere g.point s g.source = fact_there g.point s g.source g.fact in
      record {
        there = Some (b.var, x.shape);
        same = one_pair a.var s b.var x.shape i x.shape_is;
        is = asked b x.shape (passes_to a.test b.test s x.shape t x.shape_is p) (gives_to a.var s b.var x.shape i x.shape_is g);
      }

  pair_named : (pair : Option (V × S)) (there : Option (V' × S')) → SamePair pair there → (v : V) (s : S) → pair ≡ Some (v, s) → Both v s
  pair_named None there no_pair v s i = none_is_some i
  pair_named (Some m) there (one_pair u r u' r' j k) v s i = let q : (u ≡ v) × (r ≡ s) = some_pair_parts _ _ _ _ i in ((u', ap vars.name (sym q.0) ∙ j), (r', ap shapes.name (sym q.1) ∙ k))

  pair_to : (pair : Option (V × S)) (there : Option (V' × S')) → SamePair pair there → (v : V) (s : S) (v' : V') (s' : S') → vars.name v ≡ Some v' → shapes.name s ≡ Some s' → pair ≡ Some (v, s) → there ≡ Some (v', s')
  pair_to None there no_pair v s v' s' c d i = none_is_some i
  pair_to (Some m) there (one_pair u r u' r' j k) v s v' s' c d i =
      let q : (u ≡ v) × (r ≡ s) = some_pair_parts _ _ _ _ i in
      let sv : u' ≡ v' = some_same (sym j ∙ ap vars.name q.0 ∙ c) in
      let ss : r' ≡ s' = some_same (sym k ∙ ap shapes.name q.1 ∙ d) in
      ap (λ z. Some (z, r')) sv ∙ ap (λ z. Some (v', z)) ss

  record PairHere (pair : Option (V × S)) (v' : V') (s' : S') : Type 0 where
    var : V
    shape : S
    var_is : vars.name var ≡ Some v'
    shape_is : shapes.name shape ≡ Some s'
    is : pair ≡ Some (var, shape)

  pair_from : (pair : Option (V × S)) (there : Option (V' × S')) → SamePair pair there → (v' : V') (s' : S') → there ≡ Some (v', s') → PairHere pair v' s'
  pair_from pair None no_pair v' s' i = none_is_some i
  pair_from pair (Some m) (one_pair u r u' r' j k) v' s' i =
      let q : (u' ≡ v') × (r' ≡ s') = some_pair_parts _ _ _ _ i in
      record { var = u; shape = r; var_is = j ∙ ap Some q.0; shape_is = k ∙ ap Some q.1; is = refl }

  record BackThere (e : Edge P V S) (g h : Memory V S) : Type 0 where
    edge : Edge P' V' S'
    same : SameEdge points vars shapes e edge
    named : HasNames vars shapes h
    is : BackState w' edge (ren g) (ren h)

  module _ (e : Edge P V S) (f : Edge P' V' S') (s : SameEdge points vars shapes e f) (g source : Memory V S) (pair : Option (V × S)) (there : Option (V' × S')) (x : HasNames vars shapes source) (y : SamePair pair there) where
    wanted_named : HasNames vars shapes g → (v : V) (t : S) → Wanted (assigned w e) g source pair v t → Both v t
    wanted_named n v t (still a i) = n.at v t i
    wanted_named n v t (by_source i) = x.at v t i
    wanted_named n v t (by_ask i) = pair_named pair there y v t i

    wanted_to : (v : V) (t : S) (v' : V') (s' : S') → vars.name v ≡ Some v' → shapes.name t ≡ Some s' → Wanted (assigned w e) g source pair v t → Wanted (assigned w' f) (ren g) (ren source) there v' s'
    wanted_to v t v' s' c d (still a i) = still (λ k. a (assigned_from e f s v v' c k)) (renamed_at vars shapes g v t v' s' c d i)
    wanted_to v t v' s' c d (by_source i) = by_source (renamed_at vars shapes source v t v' s' c d i)
    wanted_to v t v' s' c d (by_ask i) = by_ask (pair_to pair there y v t v' s' c d i)

    -- each pair that is wanted there is one of the memory h that has all that is wanted here
    wanted_from : (h : Memory V S) → ((v : V) (t : S) → Wanted (assigned w e) g source pair v t → h v ≡ Some t) → (v' : V') (s' : S') → Wanted (assigned w' f) (ren g) (ren source) there v' s' → ren h v' ≡ Some s'
    wanted_from h k v' s' (still a i) =
        let p : NamedPair vars shapes g v' s' = pair_at vars shapes g v' s' i in
        renamed_at vars shapes h p.var p.shape v' s' p.var_is p.shape_is (k p.var p.shape (still (λ l. a (assigned_to e f s p.var v' p.var_is l)) p.at))
    wanted_from h k v' s' (by_source i) =
        let p : NamedPair vars shapes source v' s' = pair_at vars shapes source v' s' i in
        renamed_at vars shapes h p.var p.shape v' s' p.var_is p.shape_is (k p.var p.shape (by_source p.at))
    wanted_from h k v' s' (by_ask i) =
        let p : PairHere pair v' s' = pair_from pair there y v' s' i in
        renamed_at vars shapes h p.var p.shape v' s' p.var_is p.shape_is (k p.var p.shape (by_ask p.is))

  back_to : (e : Edge P V S) (g h : Memory V S) → HasNames vars shapes g → BackState w e g h → BackThere e g h
  back_to e g h n b = go (into.edges e b.edge)
    where
      all : (f : Edge P' V' S') → SameEdge points vars shapes e f → Contains w'.edges f → ExplainsThere e f g b.source → AsksThere f.asks b.pair → BackThere e g h
      all f s c x y =
          record {
            edge = f;
            same = s;
            named = record { at = λ v t i. wanted_named e f s g b.source b.pair y.there x.named y.same n v t ((b.wanted v t).0 i) };
            is = record {
              edge = c;
              source = ren b.source;
              explains = x.is;
              pair = y.there;
              asks = y.is;
              wanted = λ v' s'. (
                λ i. let p : NamedPair vars shapes h v' s' = pair_at vars shapes h v' s' i in wanted_to e f s g b.source b.pair y.there x.named y.same p.var p.shape v' s' p.var_is p.shape_is ((b.wanted p.var p.shape).0 p.at),
                wanted_from e f s g b.source b.pair y.there x.named y.same h (λ v t. (b.wanted v t).1) v' s',
              );
            };
          }

      go : (f : Edge P' V' S') × SameEdge points vars shapes e f × Contains w'.edges f → BackThere e g h
      go z = all z.0 z.1 z.2 (explains_to e z.0 z.1 g b.source b.explains) (asks_to e.asks z.0.asks b.pair z.1.asks b.asks)

  record ReachedThere (q' : P') (g : Memory V S) (p : P) (h : Memory V S) : Type 0 where
    point : P'
    is : points.name p ≡ Some point
    named : HasNames vars shapes h
    reached : Reached w' q' (ren g) point (ren h)

  reached_there : (q : P) (q' : P') (g : Memory V S) → points.name q ≡ Some q' → HasNames vars shapes g → (p : P) (h : Memory V S) → Reached w q g p h → ReachedThere q' g p h
  reached_there q q' g i n p h here = record { point = q'; is = i; named = n; reached = here }
  reached_there q q' g i n p h (back {after} e r b) = go (reached_there q q' g i n e.to after r)
    where
      go : ReachedThere q' g e.to after → ReachedThere q' g e.from h
      go x =
          let y : BackThere e after h = back_to e after h x.named b in
          record {
            point = y.edge.from;
            is = y.same.from;
            named = y.named;
            reached = back y.edge (subst (λ z. Reached w' q' (ren g) z (ren after)) (some_same (sym x.is ∙ y.same.to)) x.reached) y.is;
          }

  pub reached_to : (q : P) (q' : P') (g : Memory V S) → points.name q ≡ Some q' → HasNames vars shapes g → (p : P) (p' : P') (h : Memory V S) → points.name p ≡ Some p' → Reached w q g p h → Reached w' q' (ren g) p' (ren h)
  reached_to q q' g i n p p' h j r =
      let x : ReachedThere q' g p h = reached_there q q' g i n p h r in
      subst (λ z. Reached w' q' (ren g) z (ren h)) (some_same (sym x.is ∙ j)) x.reached

  -- heavy
  record IsThere (x : P × Memory V S) (y : P' × Memory V' S') : Type 0 where
    point : points.name x.0 ≡ Some y.0
    named : HasNames vars shapes x.1
    memory : ren x.1 ≡ y.1

  record StatesThere (q' : P') (g : Memory V S) (xs : List (P × Memory V S)) : Type 0 where
    states : List (P' × Memory V' S')
    size : length states ≡ length xs
    reached : All (λ y. Reached w' q' (ren g) y.0 y.1) states
    each : (k : ℕ) (d : P × Memory V S) (c : P' × Memory V' S') → k < length xs → IsThere (get_or xs k d) (get_or states k c)

  states_there : (q : P) (q' : P') (g : Memory V S) → points.name q ≡ Some q' → HasNames vars shapes g → (xs : List (P × Memory V S)) → All (λ x. Reached w q g x.0 x.1) xs → StatesThere q' g xs
  states_there q q' g i n [] a = record { states = []; size = refl; reached = All-nil (λ y. Reached w' q' (ren g) y.0 y.1); each = λ k d c h. let z : ⊥ = omega arith in absurd z }
  states_there q q' g i n (x ∷ xs) a =
      let r : ReachedThere q' g x.0 x.1 = reached_there q q' g i n x.0 x.1 (All-head (λ x. Reached w q g x.0 x.1) x xs a) in
      let rest : StatesThere q' g xs = states_there q q' g i n xs (All-tail (λ x. Reached w q g x.0 x.1) x xs a) in
      record {
        states = (r.point, ren x.1) ∷ rest.states;
        size = ap suc rest.size;
        reached = All-cons (λ y. Reached w' q' (ren g) y.0 y.1) (r.point, ren x.1) rest.states r.reached rest.reached;
        each = each r rest;
      }
    where
      each : (r : ReachedThere q' g x.0 x.1) (rest : StatesThere q' g xs) (k : ℕ) (d : P × Memory V S) (c : P' × Memory V' S') → k < length (x ∷ xs) → IsThere (get_or (x ∷ xs) k d) (get_or ((r.point, ren x.1) ∷ rest.states) k c)
      each r rest zero d c h = record { point = r.is; named = r.named; memory = refl }
      each r rest (suc k) d c h = rest.each k d c (omega arith)

  same_states : (x y : P × Memory V S) (x' y' : P' × Memory V' S') → IsThere x x' → IsThere y y' → x' ≡ y' → x ≡ y
  same_states x y x' y' a b e =
      let sp : x.0 ≡ y.0 = some_same (sym (points.named _ _ a.point) ∙ ap (λ z. points.thing z.0) e ∙ points.named _ _ b.point) in
      let sm : x.1 ≡ y.1 = renamed_apart vars shapes _ _ a.named b.named (a.memory ∙ ap (λ z. z.1) e ∙ sym b.memory) in
      λ t. (sp t, sm t)

  pub heavy_to : (q : P) (q' : P') (g : Memory V S) (budget : ℕ) → points.name q ≡ Some q' → HasNames vars shapes g → Heavy w q g budget → Heavy w' q' (ren g) budget
  heavy_to q q' g budget i n h =
      let x : StatesThere q' g h.states = states_there q q' g i n h.states h.reached in
      record { states = x.states; many = x.size ∙ h.many; apart = apart x; reached = x.reached }
    where
      apart : (x : StatesThere q' g h.states) → AllPairs (λ a b. a ≢ b) x.states
      apart x j k c l m e =
          let d : P × Memory V S = (q, g) in
          h.apart j k d l (omega (arith, x.size)) (same_states _ _ _ _ (x.each j d c (omega (arith, x.size))) (x.each k d c (omega (arith, x.size))) e)

-- the other way, by the names read the other way
module _ {P V S P' V' S' : Type 0} (points : Names P P') (vars : Names V V') (shapes : Names S S') (w : World P V S) (w' : World P' V' S') (into : IsCarried points vars shapes w w') (from : IsCarried (swapped points) (swapped vars) (swapped shapes) w' w) where
  twice : {A B : Type 0} (n : Names A B) → swapped (swapped n) ≡ n
  unfolding swapped
  twice n = refl

  into_again : IsCarried (swapped (swapped points)) (swapped (swapped vars)) (swapped (swapped shapes)) w w'
  unfolding swapped
  into_again = into

  pub visible_same : (q : P) (q' : P') (g : Memory V S) → points.name q ≡ Some q' → HasNames vars shapes g → Visible w q g ↔ Visible w' q' (renamed vars shapes g)
  unfolding swapped
  visible_same q q' g i n = (
    visible_to points vars shapes w w' into from q q' g i,
    λ v. subst (λ m. Visible w q m) (renamed_back vars shapes g n) (visible_to (swapped points) (swapped vars) (swapped shapes) w' w from into_again q' q (renamed vars shapes g) (points.named q q' i) v),
  )

  pub reached_same : (q : P) (q' : P') (g : Memory V S) → points.name q ≡ Some q' → HasNames vars shapes g → (p : P) (p' : P') (h : Memory V S) → points.name p ≡ Some p' → HasNames vars shapes h → Reached w q g p h ↔ Reached w' q' (renamed vars shapes g) p' (renamed vars shapes h)
  unfolding swapped
  reached_same q q' g i n p p' h j k = (
    reached_to points vars shapes w w' into from q q' g i n p p' h j,
    λ r. subst (λ m. Reached w q m p h) (renamed_back vars shapes g n) (subst (λ m. Reached w q (renamed (swapped vars) (swapped shapes) (renamed vars shapes g)) p m) (renamed_back vars shapes h k)
        (reached_to (swapped points) (swapped vars) (swapped shapes) w' w from into_again q' q (renamed vars shapes g) (points.named q q' i) (named_back vars shapes g) p' p (renamed vars shapes h) (points.named p p' j) r)),
  )

  pub heavy_same : (q : P) (q' : P') (g : Memory V S) (budget : ℕ) → points.name q ≡ Some q' → HasNames vars shapes g → Heavy w q g budget ↔ Heavy w' q' (renamed vars shapes g) budget
  unfolding swapped
  heavy_same q q' g budget i n = (
    heavy_to points vars shapes w w' into from q q' g budget i n,
    λ h. subst (λ m. Heavy w q m budget) (renamed_back vars shapes g n) (heavy_to (swapped points) (swapped vars) (swapped shapes) w' w from into_again q' q (renamed vars shapes g) budget (points.named q q' i) (named_back vars shapes g) h),
  )

  given_same : (g : Memory V S) → HasNames vars shapes g → AllGiven w' (renamed vars shapes g) → AllGiven w g
  unfolding swapped
  given_same g n a = subst (λ m. AllGiven w m) (renamed_back vars shapes g n) (given_to (swapped points) (swapped vars) (swapped shapes) w' w from into_again (renamed vars shapes g) a)

  pub seen_same : (q : P) (q' : P') (g : Memory V S) (budget : ℕ) → points.name q ≡ Some q' → HasNames vars shapes g → Seen w q g budget ↔ Seen w' q' (renamed vars shapes g) budget
  seen_same q q' g budget i n = (to, back_again)
    where
      to : Seen w q g budget → Seen w' q' (renamed vars shapes g) budget
      to (inl v) = inl ((visible_same q q' g i n).0 v)
      to (inr h) = inr ((heavy_same q q' g budget i n).0 h.0, given_to points vars shapes w w' into from g h.1)

      back_again : Seen w' q' (renamed vars shapes g) budget → Seen w q g budget
      back_again (inl v) = inl ((visible_same q q' g i n).1 v)
      back_again (inr h) = inr ((heavy_same q q' g budget i n).1 h.0, given_same g n h.1)
