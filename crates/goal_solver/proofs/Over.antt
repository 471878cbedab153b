-- What is met over an edge are exactly the back states over it.
use Rattle.std.proofs.Common.{◌≡◌, ◌↔◌, ℕ, true, Option, Some, None, List, [], map, nat_eq, slice_get, refl, sym, ap, subst, ◌∙◌, arith}
use Rattle.std.specs.List.{Contains, filter}
use Rattle.graph_walks.specs.Worlds.{Memory, nothing, HasFact}
use Rattle.graph_walks.specs.Backs.{Wanted, Explains, unwanted, by_fact, BackState}
use Rattle.graph_walks.proofs.Lists.{empty, got, map_has, Origin, map_from, filter_keeps, filter_from}
use Rattle.flow_graph.specs.declared.edge.Edge.{Edge}
use Rattle.flow_graph.specs.Flows.{PointRow, into_of}
use Rattle.flow_graph.specs.Validity as flows
use Rattle.typegraph.specs.declared.fact.Fact.{Fact}
use Rattle.typegraph.specs.declared.goals.Binding.{Binding}
use Rattle.typegraph.specs.Maps.{look, IsOnce}
use Rattle.typegraph.specs.Graphs.{GraphTables, row_of}
use Rattle.typegraph.specs.Validity.{IsValid}
use Rattle.typegraph.proofs.Looks.{equal, equal_as, look_finds, look_some}
use Rattle.goal_solver.specs.declared.state.State.{State}
use Rattle.goal_solver.specs.declared.search.Search.{Search}
use Rattle.goal_solver.specs.Graphs.{edge_as, world_of}
use Rattle.goal_solver.specs.Backs.{pair_of, AreAsked, wanted_list, FromSome, BySource, ByFact, look_at, assigned_by, IsOverEdge, IsBackOf}
use Rattle.goal_solver.specs.Searches.{IsKnown, AreKnown, AreBacksKnown}
use Rattle.goal_solver.proofs.Tables.{FactHere, fact_here, fact_world, EdgeHere, edge_here}
use Rattle.goal_solver.proofs.Wanted.{TheWanted, wanted_from, wanted_to, joined_is, is_joined}

once_empty : IsOnce []
once_empty i j d l k = let z : ⊥ = omega (arith, k) in absurd z

-- the facts at places
module _ (facts : List Fact) (s : ℕ) (places : List ℕ) (same : map (slice_get facts) places ≡ map (λ f. Some f) (filter (λ f. nat_eq f.shape s) facts)) where
  placed_shape : (place : ℕ) (f : Fact) → Contains places place → slice_get facts place ≡ Some f → f.shape ≡ s
  placed_shape place f c e = go (map_from (λ f. Some f) (filter (λ f. nat_eq f.shape s) facts) (slice_get facts place) (subst (λ zs. Contains zs (slice_get facts place)) same (map_has (slice_get facts) places place c)))
    where
      go : Origin (λ f. Some f) (filter (λ f. nat_eq f.shape s) facts) (slice_get facts place) → f.shape ≡ s
      go o =
          let i : Some o.item ≡ Some f = o.same ∙ e in
          let j : o.item ≡ f = cc in
          let t : (nat_eq o.item.shape s ≡ true) × Contains facts o.item = filter_from (λ f. nat_eq f.shape s) facts o.item o.is in
          equal f.shape s (subst (λ z. nat_eq z.shape s ≡ true) j t.0)

  record Placed (f : Fact) : Type 0 where
    place : ℕ
    is : Contains places place
    at : slice_get facts place ≡ Some f

  placed : (f : Fact) → Contains facts f → f.shape ≡ s → Placed f
  placed f c e = go (map_from (slice_get facts) places (Some f) (subst (λ zs. Contains zs (Some f)) (sym same) (map_has (λ f. Some f) (filter (λ f. nat_eq f.shape s) facts) f (filter_keeps (λ f. nat_eq f.shape s) facts f (equal_as f.shape s e) c))))
    where
      go : Origin (slice_get facts) places (Some f) → Placed f
      go o = record { place = o.item; is = o.is; at = o.same }

module _ (g : GraphTables) (valid : IsValid g) (goals : List Binding) (e : Edge) where
  abbrev target : Option ℕ
  target = assigned_by g e

  unwanted_by : (d : Option ℕ) → target ≡ d → look_at goals d ≡ None → (v : ℕ) → target ≡ Some v → look goals v ≡ None
  unwanted_by None i h v k = let z : None ≡ Some v = sym i ∙ k in cc
  unwanted_by (Some u) i h v k = let z : Some u ≡ Some v = sym i ∙ k in let same : u ≡ v = cc in ap (look goals) (sym same) ∙ h

  source_none : look_at goals target ≡ None → (source : Memory ℕ ℕ) → Explains (world_of g) target e.from (look goals) source → nothing ≡ source
  source_none h source (unwanted n) = refl
  source_none h source (by_fact v s i j m k) = let z : None ≡ Some s = sym h ∙ ap (look_at goals) i ∙ j in cc

  source_fact : (s : ℕ) → look_at goals target ≡ Some s → (source : Memory ℕ ℕ) → Explains (world_of g) target e.from (look goals) source → FactHere g e.from s source
  source_fact s h source (unwanted n) = go target refl h
    where
      go : (d : Option ℕ) → target ≡ d → look_at goals d ≡ Some s → FactHere g e.from s nothing
      go None i k = cc
      go (Some v) i k = let z : None ≡ Some s = sym (n v i) ∙ k in cc
  source_fact s h source (by_fact v t i j m k) =
      let z : Some t ≡ Some s = sym j ∙ sym (ap (look_at goals) i) ∙ h in
      let same : t ≡ s = cc in
      fact_here g e.from s m (subst (λ n. HasFact (world_of g) e.from n m) same k)

  -- each back state over the edge is one of a list of bindings
  pub record IsMapped (h : Memory ℕ ℕ) : Type 0 where
    pub list : List Binding
    pub same : look list ≡ h

  record Item (source : Memory ℕ ℕ) : Type 0 where
    list : List Binding
    is_map : IsOnce list
    same : look list ≡ source

  item : (source : Memory ℕ ℕ) → Explains (world_of g) target e.from (look goals) source → Item source
  item source (unwanted n) = record { list = []; is_map = once_empty; same = refl }
  item source (by_fact v s i j m h) = go (fact_here g e.from s m h)
    where
      go : FactHere g e.from s m → Item m
      go f = record { list = f.fact.source; is_map = (valid.facts e.from f.fact f.is).once; same = f.source_is }

  record Pair (pair : Option (ℕ × ℕ)) : Type 0 where
    one : Option Binding
    same : pair_of one ≡ pair

  pair : (p : Option (ℕ × ℕ)) → Pair p
  pair None = record { one = None; same = refl }
  pair (Some p) = record { one = Some (record { var = p.0; shape = p.1 }); same = refl }

  mapped : (once : IsOnce goals) (h : Memory ℕ ℕ) (source : List Binding) (is_map : IsOnce source) (p : Option Binding) → ((v s : ℕ) → h v ≡ Some s ↔ TheWanted target goals source p once is_map v s) → IsMapped h
  mapped once h source is_map p wanted = record { list = all; same = λ i v. at v (h v) refl i }
    where
      all : List Binding
      all = wanted_list target goals source p

      from : (v s : ℕ) → look (wanted_list target goals source p) v ≡ Some s → h v ≡ Some s
      from v s k = (wanted v s).1 (wanted_from target goals source p once is_map v s (look_finds (wanted_list target goals source p) v s k))

      to : (v s : ℕ) → h v ≡ Some s → look (wanted_list target goals source p) v ≡ Some s
      to v s k = go (look (wanted_list target goals source p) v) refl
        where
          go : (o : Option ℕ) → look (wanted_list target goals source p) v ≡ o → look (wanted_list target goals source p) v ≡ Some s
          go None i = absurd (look_some (wanted_list target goals source p) (record { var = v; shape = s }) (wanted_to target goals source p once is_map v s ((wanted v s).0 k)) i)
          go (Some t) i = i ∙ sym (from v t i) ∙ k

      at : (v : ℕ) (o : Option ℕ) → h v ≡ o → look (wanted_list target goals source p) v ≡ h v
      at v (Some s) k = to v s k ∙ sym k
      at v None k = none (look (wanted_list target goals source p) v) refl
        where
          none : (o : Option ℕ) → look (wanted_list target goals source p) v ≡ o → look (wanted_list target goals source p) v ≡ h v
          none None i = i ∙ sym k
          none (Some t) i = let z : None ≡ Some t = sym k ∙ from v t i in cc

  pub back_mapped : IsOnce goals → (h : Memory ℕ ℕ) → BackState (world_of g) (edge_as e) (look goals) h → IsMapped h
  back_mapped once h b = go (item b.source b.explains) (pair b.pair)
    where
      go : Item b.source → Pair b.pair → IsMapped h
      go x p =
          mapped once h x.list x.is_map p.one
          (subst (λ r. (v s : ℕ) → h v ≡ Some s ↔ Wanted target (look goals) r (pair_of p.one) v s) (sym x.same)
          (subst (λ r. (v s : ℕ) → h v ≡ Some s ↔ Wanted target (look goals) b.source r v s) (sym p.same) b.wanted))

  -- the states over the edge
  module _ (once : IsOnce goals) (pairs : List (Option Binding)) (asks : AreAsked g e.asks pairs) (inside : Contains (world_of g).edges (edge_as e)) where
    back_in : (source : List Binding) → IsOnce source → Explains (world_of g) target e.from (look goals) (look source) → (y : State) → BySource e.from target goals pairs source y → IsOverEdge g goals e y
    back_in source is_map explains y f =
        record {
          point = f.at.point;
          is = record {
            edge = inside;
            source = look source;
            explains = explains;
            pair = pair_of f.item;
            asks = asks.sound f.item f.is;
            wanted = joined_is target goals source f.item once is_map y.goals f.at.joined;
          };
        }

    pub source_over : look_at goals target ≡ None → (y : State) → BySource e.from target goals pairs [] y → IsOverEdge g goals e y
    source_over h y f = back_in [] once_empty (unwanted (unwanted_by target refl h)) y f

    pub fact_over : (s : ℕ) → look_at goals target ≡ Some s → (places : List ℕ) → map (slice_get (row_of (slice_get g.facts e.from))) places ≡ map (λ f. Some f) (filter (λ f. nat_eq f.shape s) (row_of (slice_get g.facts e.from))) → (y : State) → ByFact e.from target goals pairs (row_of (slice_get g.facts e.from)) places y → IsOverEdge g goals e y
    fact_over s h places same y f = go target refl h
      where
        row : List Fact
        row = row_of (slice_get g.facts e.from)

        inside_row : Contains (row_of (slice_get g.facts e.from)) f.at.fact
        inside_row = got (row_of (slice_get g.facts e.from)) f.item f.at.fact f.at.at

        go : (d : Option ℕ) → target ≡ d → look_at goals d ≡ Some s → IsOverEdge g goals e y
        go None i k = cc
        go (Some v) i k =
            back_in f.at.fact.source (valid.facts e.from f.at.fact inside_row).once
            (by_fact v s i k (look f.at.fact.source) (subst (λ t. HasFact (world_of g) e.from t (look f.at.fact.source)) (placed_shape (row_of (slice_get g.facts e.from)) s places same f.item f.at.fact f.is f.at.at) (fact_world g e.from f.at.fact inside_row)))
            y f.at.by

    by_source : (source : List Binding) → IsOnce source → (y : State) → (o : IsOverEdge g goals e y) → look source ≡ o.is.source → BySource e.from target goals pairs source y
    by_source source is_map y o same =
        let p : (b : Option Binding) × Contains pairs b × (pair_of b ≡ o.is.pair) = asks.complete o.is.pair o.is.asks in
        record {
          item = p.0;
          is = p.1;
          at = record {
            point = o.point;
            joined = is_joined target goals source p.0 once is_map y.goals
                (subst (λ r. (v s : ℕ) → look y.goals v ≡ Some s ↔ Wanted target (look goals) r (pair_of p.0) v s) (sym same)
                (subst (λ r. (v s : ℕ) → look y.goals v ≡ Some s ↔ Wanted target (look goals) o.is.source r v s) (sym p.2) o.is.wanted));
          };
        }

    pub over_source : look_at goals target ≡ None → (y : State) → IsOverEdge g goals e y → BySource e.from target goals pairs [] y
    over_source h y o = by_source [] once_empty y o (source_none h o.is.source o.is.explains)

    pub over_fact : (s : ℕ) → look_at goals target ≡ Some s → (places : List ℕ) → map (slice_get (row_of (slice_get g.facts e.from))) places ≡ map (λ f. Some f) (filter (λ f. nat_eq f.shape s) (row_of (slice_get g.facts e.from))) → (y : State) → IsOverEdge g goals e y → ByFact e.from target goals pairs (row_of (slice_get g.facts e.from)) places y
    over_fact s h places same y o = go (source_fact s h o.is.source o.is.explains)
      where
        go : FactHere g e.from s o.is.source → ByFact e.from target goals pairs (row_of (slice_get g.facts e.from)) places y
        go f = at (placed (row_of (slice_get g.facts e.from)) s places same f.fact f.is f.shape)
          where
            at : Placed (row_of (slice_get g.facts e.from)) s places same f.fact → ByFact e.from target goals pairs (row_of (slice_get g.facts e.from)) places y
            at p = record { item = p.place; is = p.is; at = record { fact = f.fact; at = p.at; by = by_source f.fact.source (valid.facts e.from f.fact f.is).once y o f.source_is } }

-- the same, for values that are equal to these
module _ (g : GraphTables) (valid : IsValid g) (goals : List Binding) (e : Edge) (once : IsOnce goals) (pairs : List (Option Binding)) (asks : AreAsked g e.asks pairs) (inside : Contains (world_of g).edges (edge_as e)) (d : Option ℕ) (list : List Binding) (is_target : d ≡ assigned_by g e) (is_list : list ≡ goals) where
  pub by_no_fact : look_at goals d ≡ None → (y : State) → BySource e.from d list pairs [] y → IsOverEdge g goals e y
  by_no_fact h y f = source_over g valid goals e once pairs asks inside (subst (λ t. look_at goals t ≡ None) is_target h) y (subst (λ t. BySource e.from t goals pairs [] y) is_target (subst (λ l. BySource e.from d l pairs [] y) is_list f))

  pub no_fact_by : look_at goals d ≡ None → (y : State) → IsOverEdge g goals e y → BySource e.from d list pairs [] y
  no_fact_by h y o = subst (λ l. BySource e.from d l pairs [] y) (sym is_list) (subst (λ t. BySource e.from t goals pairs [] y) (sym is_target) (over_source g valid goals e once pairs asks inside (subst (λ t. look_at goals t ≡ None) is_target h) y o))

  module _ (s : ℕ) (facts : List Fact) (places : List ℕ) (is_row : facts ≡ row_of (slice_get g.facts e.from)) (same : map (slice_get (row_of (slice_get g.facts e.from))) places ≡ map (λ f. Some f) (filter (λ f. nat_eq f.shape s) (row_of (slice_get g.facts e.from)))) where
    pub by_some_fact : look_at goals d ≡ Some s → (y : State) → ByFact e.from d list pairs facts places y → IsOverEdge g goals e y
    by_some_fact h y f =
        fact_over g valid goals e once pairs asks inside s (subst (λ t. look_at goals t ≡ Some s) is_target h) places same y
        (subst (λ t. ByFact e.from t goals pairs (row_of (slice_get g.facts e.from)) places y) is_target
        (subst (λ l. ByFact e.from d l pairs (row_of (slice_get g.facts e.from)) places y) is_list
        (subst (λ r. ByFact e.from d list pairs r places y) is_row f)))

    pub some_fact_by : look_at goals d ≡ Some s → (y : State) → IsOverEdge g goals e y → ByFact e.from d list pairs facts places y
    some_fact_by h y o =
        subst (λ r. ByFact e.from d list pairs r places y) (sym is_row)
        (subst (λ l. ByFact e.from d l pairs (row_of (slice_get g.facts e.from)) places y) (sym is_list)
        (subst (λ t. ByFact e.from t goals pairs (row_of (slice_get g.facts e.from)) places y) (sym is_target)
        (over_fact g valid goals e once pairs asks inside s (subst (λ t. look_at goals t ≡ Some s) is_target h) places same y o)))

-- the states over all edges into a point
module _ (g : GraphTables) (valid : IsValid g) (flow : flows.IsValid g.flow) (x : State) where
  to_point : (e : Edge) → Contains (into_of (slice_get g.flow.points x.point)) e → e.to ≡ x.point
  to_point e c = go (slice_get g.flow.points x.point) refl c
    where
      go : (o : Option PointRow) → slice_get g.flow.points x.point ≡ o → Contains (into_of o) e → e.to ≡ x.point
      go None i c = empty e c
      go (Some row) i c = ((flow.points x.point row i).edges e c).to

  pub backs_sound : (y : State) → FromSome (into_of (slice_get g.flow.points x.point)) (IsOverEdge g x.goals) y → IsBackOf g x y
  backs_sound y f = record { edge = edge_as f.item; to = to_point f.item f.is; from = sym f.at.point; is = f.at.is }

  pub backs_known : IsOnce x.goals → (s : Search) → AreKnown (FromSome (into_of (slice_get g.flow.points x.point)) (IsOverEdge g x.goals)) s → AreBacksKnown g x s
  backs_known once s known e h to b = go (edge_here g flow e b.edge)
    where
      go : EdgeHere g e → IsKnown s (e.from, h)
      go k = by (back_mapped g valid x.goals k.edge once h (subst (λ z. BackState (world_of g) z (look x.goals) h) (sym k.same) b))
        where
          by : IsMapped g valid x.goals k.edge h → IsKnown s (e.from, h)
          by m =
              let y : State = record { point = e.from; goals = m.list } in
              subst (λ r. IsKnown s (e.from, r)) m.same
              (known y (record {
                item = k.edge;
                is = subst (λ p. Contains (into_of (slice_get g.flow.points p)) k.edge) to k.is;
                at = record {
                  point = ap (λ z. z.from) (sym k.same);
                  is = subst (λ r. BackState (world_of g) (edge_as k.edge) (look x.goals) r) (sym m.same) (subst (λ z. BackState (world_of g) z (look x.goals) h) (sym k.same) b);
                };
              }))
