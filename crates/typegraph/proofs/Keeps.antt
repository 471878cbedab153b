-- A graph that grows stays valid, and what is kept beside its tables stays right.
use Rattle.std.proofs.Common.{◌≡◌, ◌≢◌, ℕ, suc, zero, ◌+◌, ◌-◌, ◌^◌, ◌<◌, ◌≤◌, Bool, true, false, Option, Some, None, List, [], ◌∷◌, ◌++◌, length, slice_get, get_or, ◌⊎◌, inl, inr, refl, sym, ap, subst, ◌∙◌, arith, nat_eq, length-append, if◌then◌else◌, ◌||◌}
use Rattle.std.specs.List.{All, AllPairs, Contains, list_any}
use Rattle.std.proofs.lemmas.List.Quantifiers.{all_pairs_push}
use Rattle.std.proofs.lemmas.List.Elements.{All-contains, Contains-push, Contains-push_cases, Contains-append_left, Contains-get_or}
use Rattle.std.proofs.lemmas.Option.{slice_get_within}
use Rattle.graph_walks.proofs.Lists.{got}
use Rattle.flow_graph.specs.declared.edge.Truth.{Truth}
use Rattle.flow_graph.specs.declared.edge.Edge.{Edge}
use Rattle.flow_graph.specs.declared.edge.Ask.{Ask}
use Rattle.flow_graph.specs.declared.edge.Test.{Test}
use Rattle.flow_graph.specs.declared.edge.Test.TheVariants.{MayBeTrue, MayBeFalse, Is}
use Rattle.flow_graph.specs.declared.context.Context.{Context}
use Rattle.flow_graph.specs.Flows.{FlowTables, target_of, into_of, changed_at, with_var, with_point, with_context, with_edge}
use Rattle.flow_graph.proofs.Valid.{pushed, pushed_at, length-changed_at, fresh_row}
use Rattle.typegraph.specs.declared.fact.Fact.{Fact}
use Rattle.typegraph.specs.Maps.{IsRising}
use Rattle.typegraph.specs.Graphs.{GraphTables, row_of, push_fact, with_flow, with_row, with_shape, with_fact, HasFact, IsGiven, item_total}
use Rattle.typegraph.specs.Validity.{IsTestThere, IsShapeAskThere, IsBindingThere, IsFactAt, Differ}
use Rattle.typegraph.specs.Kept.{push_shape, CountPair, IsCapped, IsKept}
use Rattle.typegraph.proofs.Looks.{equal, equal_as}
use Rattle.typegraph.proofs.Agree.{rising_once}
use Rattle.typegraph.proofs.Contexts.{has_known}
use Rattle.typegraph.proofs.Totals.{total_push, total_changed, capped_none, capped_more}
use Rattle.typegraph.proofs.Tables.{row_push, changed_row, changed_here, row_within, target_within, target_push, target_push_back, into_push, target_changed, into_changed}

test_more : (test : Test) (few many : ℕ) → few ≤ many → IsTestThere test few → IsTestThere test many
test_more MayBeTrue few many le h = tt
test_more MayBeFalse few many le h = tt
test_more (Is s) few many le h = omega (arith, le, h)

ask_more : (ask : Option Ask) (few many : ℕ) → few ≤ many → IsShapeAskThere ask few → IsShapeAskThere ask many
ask_more None few many le h = tt
ask_more (Some a) few many le h = test_more a.test few many le h

-- a fact in a graph where its point has kept its target
fact_more : (g h : GraphTables) (point : ℕ) (fact : Fact) → ((v : ℕ) → target_of (slice_get g.flow.points point) ≡ Some v → target_of (slice_get h.flow.points point) ≡ Some v) → g.flow.vars ≤ h.flow.vars → length g.truths ≤ length h.truths → IsFactAt g point fact → IsFactAt h point fact
fact_more g h point fact same vars shapes f =
    record {
      var = f.var;
      target = same f.var f.target;
      shape = omega (arith, shapes, f.shape);
      source = λ b c. let t : IsBindingThere g.flow.vars (length g.truths) b = f.source b c in record { var = omega (arith, vars, t.var); shape = omega (arith, shapes, t.shape) };
      once = f.once;
      rising = f.rising;
    }

-- shapes are given as before, where rows and the targets at them are as before
given_as : (g h : GraphTables) → ((p v : ℕ) (f : Fact) → Contains (row_of (slice_get g.facts p)) f → target_of (slice_get g.flow.points p) ≡ Some v → (target_of (slice_get h.flow.points p) ≡ Some v) × Contains (row_of (slice_get h.facts p)) f) → (v s : ℕ) → IsGiven g v s → IsGiven h v s
given_as g h same v s i = let k : (target_of (slice_get h.flow.points i.point) ≡ Some v) × Contains (row_of (slice_get h.facts i.point)) i.fact = same i.point v i.fact i.is i.target in record { point = i.point; fact = i.fact; target = k.0; is = k.1; shape_is = i.shape_is }

pub kept_none : IsKept (record { flow = record { vars = 0; points = []; contexts = [] }; truths = []; facts = [] }) [] (record { contexts = 0; items = 0 })
kept_none =
    record {
      valid = record { rows = refl; facts = λ p f c. let z : ⊥ = omega (arith, c.1) in absurd z; once = λ p i j d l k. let z : ⊥ = omega (arith, k) in absurd z; asks = λ p e c. let z : ⊥ = omega (arith, c.1) in absurd z };
      given = record { size = refl; sound = λ v s c. let z : ⊥ = omega (arith, c.1) in absurd z; complete = λ v s i. let z : ⊥ = omega (arith, i.is.1) in absurd z; once = λ v i j d l k. let z : ⊥ = omega (arith, k) in absurd z };
      contexts = refl;
      items = capped_none;
    }

pub kept_var : (g : GraphTables) (given : List (List ℕ)) (counts : CountPair) → IsKept g given counts → IsKept (with_flow (with_var g.flow) g) (given ++ [] ∷ []) counts
kept_var g given counts k =
    record {
      valid = record {
        rows = k.valid.rows;
        facts = λ p f c. fact_more g (with_flow (with_var g.flow) g) p f (λ v e. e) (omega arith) (omega arith) (k.valid.facts p f c);
        once = k.valid.once;
        asks = k.valid.asks;
      };
      given = record {
        size = length-append given ([] ∷ []) ∙ omega (arith, k.given.size);
        sound = λ v s c. given_as g (with_flow (with_var g.flow) g) (λ p v f d e. (e, d)) v s (k.given.sound v s (subst (λ row. Contains row s) (row_push given v) c));
        complete = λ v s i. subst (λ row. Contains row s) (sym (row_push given v)) (k.given.complete v s (given_as (with_flow (with_var g.flow) g) g (λ p v f d e. (e, d)) v s i));
        once = λ v. subst (λ row. AllPairs (λ s t. s ≢ t) row) (sym (row_push given v)) (k.given.once v);
      };
      contexts = k.contexts;
      items = k.items;
    }

abbrev point_graph : GraphTables → Option ℕ → Bool → GraphTables
point_graph g target root = with_row (with_point target root g.flow) g

pub kept_point : (g : GraphTables) (given : List (List ℕ)) (counts : CountPair) (target : Option ℕ) (root : Bool) → IsKept g given counts → IsKept (point_graph g target root) given counts
kept_point g given counts target root k =
    record {
      valid = record {
        rows = length-append g.facts ([] ∷ []) ∙ omega (arith, k.valid.rows, length-append g.flow.points (fresh_row target root ∷ []));
        facts = λ p f c. fact_more g (point_graph g target root) p f (λ v e. target_push g.flow.points (fresh_row target root) p v e) (omega arith) (omega arith) (k.valid.facts p f (old p f c));
        once = λ p. subst (λ row. AllPairs Differ row) (sym (row_push g.facts p)) (k.valid.once p);
        asks = λ p e c. k.valid.asks p e (subst (λ es. Contains es e) (into_push g.flow.points (fresh_row target root) refl p) c);
      };
      given = record {
        size = k.given.size;
        sound = λ v s c. given_as g (point_graph g target root) (λ p v f d e. (target_push g.flow.points (fresh_row target root) p v e, subst (λ row. Contains row f) (sym (row_push g.facts p)) d)) v s (k.given.sound v s c);
        complete = λ v s i. k.given.complete v s (given_as (point_graph g target root) g (λ p v f d e. (back p f v (old p f d) e, old p f d)) v s i);
        once = k.given.once;
      };
      contexts = k.contexts;
      items = subst (IsCapped counts.items) size k.items;
    }
  where
    old : (p : ℕ) (f : Fact) → Contains (row_of (slice_get (g.facts ++ [] ∷ []) p)) f → Contains (row_of (slice_get g.facts p)) f
    old p f c = subst (λ row. Contains row f) (row_push g.facts p) c

    back : (p : ℕ) (f : Fact) (v : ℕ) → Contains (row_of (slice_get g.facts p)) f → target_of (slice_get (g.flow.points ++ fresh_row target root ∷ []) p) ≡ Some v → target_of (slice_get g.flow.points p) ≡ Some v
    back p f v c e = let l : p < length g.facts = row_within g.facts p f c in sym (target_push_back g.flow.points (fresh_row target root) p (omega (arith, l, k.valid.rows))) ∙ e

    size : item_total g ≡ item_total (point_graph g target root)
    size = omega (arith, total_push (λ p. length p.into) g.flow.points (fresh_row target root), total_push length g.facts [])

-- only the contexts change
abbrev context_graph : GraphTables → Context → GraphTables
context_graph g context = with_flow (with_context context g.flow) g

kept_new_context : (g : GraphTables) (given : List (List ℕ)) (counts next : CountPair) (context : Context) → IsKept g given counts → next.contexts ≡ counts.contexts + 1 → IsCapped next.items (item_total g + 1) → IsKept (context_graph g context) given next
kept_new_context g given counts next context k more items =
    record {
      valid = record { rows = k.valid.rows; facts = λ p f c. fact_more g (context_graph g context) p f (λ v e. e) (omega arith) (omega arith) (k.valid.facts p f c); once = k.valid.once; asks = k.valid.asks };
      given = record {
        size = k.given.size;
        sound = λ v s c. given_as g (context_graph g context) (λ p v f d e. (e, d)) v s (k.given.sound v s c);
        complete = λ v s i. k.given.complete v s (given_as (context_graph g context) g (λ p v f d e. (e, d)) v s i);
        once = k.given.once;
      };
      contexts = more ∙ omega (arith, k.contexts, length-append g.flow.contexts (context ∷ []));
      items = subst (IsCapped next.items) size items;
    }
  where
    size : item_total g + 1 ≡ item_total (context_graph g context)
    size = omega (arith, length-append g.flow.contexts (context ∷ []))

-- what a count of contexts does
pub record IsCounted (id : ℕ) (old new : CountPair) : Type 0 where
  pub known : id ≢ old.contexts → new ≡ old
  pub contexts : id ≡ old.contexts → id < 2 ^ 32 - 1 → new.contexts ≡ old.contexts + 1
  pub more : id ≡ old.contexts → old.items < 2 ^ 32 - 1 → new.items ≡ old.items + 1
  pub full : id ≡ old.contexts → old.items ≡ 2 ^ 32 - 1 → new.items ≡ 2 ^ 32 - 1

pub kept_context : (g : GraphTables) (given : List (List ℕ)) (counts next : CountPair) (context : Context) (new : FlowTables) (id : ℕ) → IsKept g given counts → slice_get new.contexts id ≡ Some context → (Contains g.flow.contexts context → new ≡ g.flow) → ((Contains g.flow.contexts context → ⊥) → (new ≡ with_context context g.flow) × (length g.flow.contexts < 2 ^ 32 - 1)) → IsCounted id counts next → IsKept (with_flow new g) given next
kept_context g given counts next context new id k at known fresh n = go (has_known g.flow.contexts context)
  where
    old : Contains g.flow.contexts context → IsKept (with_flow new g) given next
    old c =
        let e : new ≡ g.flow = known c in
        let l : id < length g.flow.contexts = slice_get_within g.flow.contexts id context (ap (λ f. slice_get f.contexts id) (sym e) ∙ at) in
        let m : next ≡ counts = n.known (λ i. let z : ⊥ = omega (arith, l, i, k.contexts) in z) in
        subst (λ m. IsKept (with_flow new g) given m) (sym m) (subst (λ f. IsKept (with_flow f g) given counts) (sym e) k)

    last : (Contains g.flow.contexts context → ⊥) → (slice_get g.flow.contexts id ≡ Some context) ⊎ ((id ≡ length g.flow.contexts) × (context ≡ context)) → id ≡ counts.contexts
    last absent (inl e) = absurd (absent (got g.flow.contexts id context e))
    last absent (inr p) = p.0 ∙ sym k.contexts

    go : Contains g.flow.contexts context ⊎ (Contains g.flow.contexts context → ⊥) → IsKept (with_flow new g) given next
    go (inl c) = old c
    go (inr absent) =
        let e : new ≡ with_context context g.flow = (fresh absent).0 in
        let i : id ≡ counts.contexts = last absent (pushed_at g.flow.contexts context context id (ap (λ f. slice_get f.contexts id) (sym e) ∙ at)) in
        subst (λ f. IsKept (with_flow f g) given next) (sym e)
        (kept_new_context g given counts next context k (n.contexts i (omega (arith, i, k.contexts, (fresh absent).1))) (capped_more counts.items next.items (item_total g) k.items (n.more i) (n.full i)))

abbrev edge_graph : GraphTables → Edge → GraphTables
edge_graph g edge = with_flow (with_edge edge g.flow) g

pub kept_edge : (g : GraphTables) (given : List (List ℕ)) (counts next : CountPair) (edge : Edge) → IsKept g given counts → edge.to < length g.flow.points → IsShapeAskThere edge.asks (length g.truths) → next.contexts ≡ counts.contexts → IsCapped next.items (item_total g + 1) → IsKept (edge_graph g edge) given next
kept_edge g given counts next edge k to shape same items =
    record {
      valid = record {
        rows = k.valid.rows ∙ sym (length-changed_at (pushed edge) g.flow.points edge.to);
        facts = λ p f c. fact_more g (edge_graph g edge) p f (λ v e. target_changed edge g.flow.points edge.to p ∙ e) (omega arith) (omega arith) (k.valid.facts p f c);
        once = k.valid.once;
        asks = λ p e c. asks p e (into_changed edge g.flow.points edge.to p) c;
      };
      given = record {
        size = k.given.size;
        sound = λ v s c. given_as g (edge_graph g edge) (λ p v f d e. (target_changed edge g.flow.points edge.to p ∙ e, d)) v s (k.given.sound v s c);
        complete = λ v s i. k.given.complete v s (given_as (edge_graph g edge) g (λ p v f d e. (sym (target_changed edge g.flow.points edge.to p) ∙ e, d)) v s i);
        once = k.given.once;
      };
      contexts = same ∙ k.contexts;
      items = subst (IsCapped next.items) size items;
    }
  where
    asks : (p : ℕ) (e : Edge) → (into_of (slice_get (changed_at (pushed edge) g.flow.points edge.to) p) ≡ into_of (slice_get g.flow.points p)) ⊎ (into_of (slice_get (changed_at (pushed edge) g.flow.points edge.to) p) ≡ into_of (slice_get g.flow.points p) ++ edge ∷ []) → Contains (into_of (slice_get (changed_at (pushed edge) g.flow.points edge.to) p)) e → IsShapeAskThere e.asks (length g.truths)
    asks p e (inl i) c = k.valid.asks p e (subst (λ es. Contains es e) i c)
    asks p e (inr i) c = at (Contains-push_cases (into_of (slice_get g.flow.points p)) edge e (subst (λ es. Contains es e) i c))
      where
        at : Contains (into_of (slice_get g.flow.points p)) e ⊎ (edge ≡ e) → IsShapeAskThere e.asks (length g.truths)
        at (inl d) = k.valid.asks p e d
        at (inr j) = subst (λ x. IsShapeAskThere x.asks (length g.truths)) j shape

    size : item_total g + 1 ≡ item_total (edge_graph g edge)
    size = omega (arith, total_changed (λ p. length p.into) (pushed edge) (λ p. length-append p.into (edge ∷ [])) g.flow.points edge.to to)

pub kept_shape : (g : GraphTables) (given : List (List ℕ)) (counts : CountPair) (truth : Truth) → IsKept g given counts → IsKept (with_shape truth g) given counts
kept_shape g given counts truth k =
    let more : length g.truths ≤ length (g.truths ++ truth ∷ []) = omega (arith, length-append g.truths (truth ∷ [])) in
    record {
      valid = record { rows = k.valid.rows; facts = λ p f c. fact_more g (with_shape truth g) p f (λ v e. e) (omega arith) more (k.valid.facts p f c); once = k.valid.once; asks = λ p e c. ask_more e.asks (length g.truths) (length (g.truths ++ truth ∷ [])) more (k.valid.asks p e c) };
      given = record {
        size = k.given.size;
        sound = λ v s c. given_as g (with_shape truth g) (λ p v f d e. (e, d)) v s (k.given.sound v s c);
        complete = λ v s i. k.given.complete v s (given_as (with_shape truth g) g (λ p v f d e. (e, d)) v s i);
        once = k.given.once;
      };
      contexts = k.contexts;
      items = k.items;
    }

-- a row of shapes with one more, which stands once
any_true : (s : ℕ) (row : List ℕ) → list_any (nat_eq s) row ≡ true → Contains row s
any_true s [] h = cc
any_true s (x ∷ row) h = go (nat_eq s x) refl h (any_true s row)
  where
    go : (t : Bool) → nat_eq s x ≡ t → (t || list_any (nat_eq s) row) ≡ true → (list_any (nat_eq s) row ≡ true → Contains row s) → Contains (x ∷ row) s
    go true e h more = (0, omega arith, sym (equal s x e))
    go false e h more = let c : Contains row s = more h in (suc c.0, omega (arith, c.1), c.2)

any_false : (s : ℕ) (row : List ℕ) → list_any (nat_eq s) row ≡ false → (x : ℕ) → Contains row x → x ≢ s
any_false s [] h x c e = omega (arith, c.1)
any_false s (y ∷ row) h x c e = go (nat_eq s y) refl h (any_false s row) c
  where
    go : (t : Bool) → nat_eq s y ≡ t → (t || list_any (nat_eq s) row) ≡ false → (list_any (nat_eq s) row ≡ false → (x : ℕ) → Contains row x → x ≢ s) → Contains (y ∷ row) x → ⊥
    go true i h more c = cc
    go false i h more (zero, l, d) = let k : nat_eq s y ≡ true = equal_as s y (sym (d ∙ e)) in cc
    go false i h more (suc n, l, d) = more h x (n, omega arith, d) e

push_keeps : (s : ℕ) (row : List ℕ) (x : ℕ) → Contains row x → Contains (push_shape s row) x
push_keeps s row x c = go (list_any (nat_eq s) row)
  where
    go : (t : Bool) → Contains (if t then row else row ++ s ∷ []) x
    go true = c
    go false = Contains-append_left row (s ∷ []) x c

push_has : (s : ℕ) (row : List ℕ) → Contains (push_shape s row) s
push_has s row = go (list_any (nat_eq s) row) refl
  where
    go : (t : Bool) → list_any (nat_eq s) row ≡ t → Contains (if t then row else row ++ s ∷ []) s
    go true e = any_true s row e
    go false e = Contains-push row s

push_from : (s : ℕ) (row : List ℕ) (x : ℕ) → Contains (push_shape s row) x → Contains row x ⊎ (s ≡ x)
push_from s row x c = go (list_any (nat_eq s) row) c
  where
    go : (t : Bool) → Contains (if t then row else row ++ s ∷ []) x → Contains row x ⊎ (s ≡ x)
    go true c = inl c
    go false c = Contains-push_cases row s x c

push_once : (s : ℕ) (row : List ℕ) → AllPairs (λ a b. a ≢ b) row → AllPairs (λ a b. a ≢ b) (push_shape s row)
push_once s row once = go (list_any (nat_eq s) row) refl
  where
    go : (t : Bool) → list_any (nat_eq s) row ≡ t → AllPairs (λ a b. a ≢ b) (if t then row else row ++ s ∷ [])
    go true e = once
    go false e = all_pairs_push (λ a b. a ≢ b) row s once (λ k d l. any_false s row e (get_or row k d) (Contains-get_or row k d l))

abbrev fact_graph : GraphTables → ℕ → Fact → GraphTables
fact_graph g point fact = with_fact point fact g

module _ (g : GraphTables) (given : List (List ℕ)) (counts next : CountPair) (point var : ℕ) (fact : Fact) (k : IsKept g given counts) (target : target_of (slice_get g.flow.points point) ≡ Some var) (within : var < length given) where
  row_cases : (p : ℕ) (f : Fact) → Contains (row_of (slice_get (changed_at (push_fact fact) g.facts point) p)) f → Contains (row_of (slice_get g.facts p)) f ⊎ ((p ≡ point) × (fact ≡ f))
  row_cases p f c = go (changed_row (push_fact fact) g.facts point p)
    where
      at : p ≡ point → Contains (row_of (slice_get g.facts p)) f ⊎ (fact ≡ f) → Contains (row_of (slice_get g.facts p)) f ⊎ ((p ≡ point) × (fact ≡ f))
      at e (inl d) = inl d
      at e (inr i) = inr (e, i)

      go : (row_of (slice_get (changed_at (push_fact fact) g.facts point) p) ≡ row_of (slice_get g.facts p)) ⊎ ((p ≡ point) × (row_of (slice_get (changed_at (push_fact fact) g.facts point) p) ≡ push_fact fact (row_of (slice_get g.facts p)))) → Contains (row_of (slice_get g.facts p)) f ⊎ ((p ≡ point) × (fact ≡ f))
      go (inl e) = inl (subst (λ row. Contains row f) e c)
      go (inr e) = at e.0 (Contains-push_cases (row_of (slice_get g.facts p)) fact f (subst (λ row. Contains row f) e.1 c))

  row_keeps : (p : ℕ) (f : Fact) → Contains (row_of (slice_get g.facts p)) f → Contains (row_of (slice_get (changed_at (push_fact fact) g.facts point) p)) f
  row_keeps p f c = go (changed_row (push_fact fact) g.facts point p)
    where
      go : (row_of (slice_get (changed_at (push_fact fact) g.facts point) p) ≡ row_of (slice_get g.facts p)) ⊎ ((p ≡ point) × (row_of (slice_get (changed_at (push_fact fact) g.facts point) p) ≡ push_fact fact (row_of (slice_get g.facts p)))) → Contains (row_of (slice_get (changed_at (push_fact fact) g.facts point) p)) f
      go (inl e) = subst (λ row. Contains row f) (sym e) c
      go (inr e) = subst (λ row. Contains row f) (sym e.1) (Contains-append_left (row_of (slice_get g.facts p)) (fact ∷ []) f c)

  point_within : point < length g.facts
  point_within = let l : point < length g.flow.points = target_within g.flow.points point var target in omega (arith, l, k.valid.rows)

  new_given : IsGiven (fact_graph g point fact) var fact.shape
  new_given =
      record {
        point = point;
        fact = fact;
        target = target;
        is = subst (λ row. Contains row fact) (sym (changed_here (push_fact fact) g.facts point point_within)) (Contains-push (row_of (slice_get g.facts point)) fact);
        shape_is = refl;
      }

  sound : (v s : ℕ) → Contains (row_of (slice_get (changed_at (push_shape fact.shape) given var) v)) s → IsGiven (fact_graph g point fact) v s
  sound v s c = go (changed_row (push_shape fact.shape) given var v)
    where
      old : Contains (row_of (slice_get given v)) s → IsGiven (fact_graph g point fact) v s
      old d = given_as g (fact_graph g point fact) (λ p v f d e. (e, row_keeps p f d)) v s (k.given.sound v s d)

      at : v ≡ var → Contains (row_of (slice_get given v)) s ⊎ (fact.shape ≡ s) → IsGiven (fact_graph g point fact) v s
      at e (inl d) = old d
      at e (inr i) = subst (λ u. IsGiven (fact_graph g point fact) u s) (sym e) (subst (λ u. IsGiven (fact_graph g point fact) var u) i new_given)

      go : (row_of (slice_get (changed_at (push_shape fact.shape) given var) v) ≡ row_of (slice_get given v)) ⊎ ((v ≡ var) × (row_of (slice_get (changed_at (push_shape fact.shape) given var) v) ≡ push_shape fact.shape (row_of (slice_get given v)))) → IsGiven (fact_graph g point fact) v s
      go (inl e) = old (subst (λ row. Contains row s) e c)
      go (inr e) = at e.0 (push_from fact.shape (row_of (slice_get given v)) s (subst (λ row. Contains row s) e.1 c))

  complete : (v s : ℕ) → IsGiven (fact_graph g point fact) v s → Contains (row_of (slice_get (changed_at (push_shape fact.shape) given var) v)) s
  complete v s i = go (row_cases i.point i.fact i.is)
    where
      old : Contains (row_of (slice_get given v)) s → (row_of (slice_get (changed_at (push_shape fact.shape) given var) v) ≡ row_of (slice_get given v)) ⊎ ((v ≡ var) × (row_of (slice_get (changed_at (push_shape fact.shape) given var) v) ≡ push_shape fact.shape (row_of (slice_get given v)))) → Contains (row_of (slice_get (changed_at (push_shape fact.shape) given var) v)) s
      old d (inl e) = subst (λ row. Contains row s) (sym e) d
      old d (inr e) = subst (λ row. Contains row s) (sym e.1) (push_keeps fact.shape (row_of (slice_get given v)) s d)

      go : Contains (row_of (slice_get g.facts i.point)) i.fact ⊎ ((i.point ≡ point) × (fact ≡ i.fact)) → Contains (row_of (slice_get (changed_at (push_shape fact.shape) given var) v)) s
      go (inl c) = old (k.given.complete v s (record { point = i.point; fact = i.fact; target = i.target; is = c; shape_is = i.shape_is })) (changed_row (push_shape fact.shape) given var v)
      go (inr e) =
          let same : var ≡ v = let z : Some var ≡ Some v = sym target ∙ ap (λ p. target_of (slice_get g.flow.points p)) (sym e.0) ∙ i.target in cc in
          let shape : fact.shape ≡ s = ap (λ f. f.shape) e.1 ∙ i.shape_is in
          subst (λ u. Contains (row_of (slice_get (changed_at (push_shape fact.shape) given var) u)) s) same
          (subst (λ u. Contains (row_of (slice_get (changed_at (push_shape fact.shape) given var) var)) u) shape
          (subst (λ row. Contains row fact.shape) (sym (changed_here (push_shape fact.shape) given var within)) (push_has fact.shape (row_of (slice_get given var)))))

  pub kept_fact : fact.shape < length g.truths → All (IsBindingThere g.flow.vars (length g.truths)) fact.source → IsRising fact.source → (HasFact g point fact.shape fact.source → ⊥) → next.contexts ≡ counts.contexts → IsCapped next.items (item_total g + 1) → IsKept (fact_graph g point fact) (changed_at (push_shape fact.shape) given var) next
  kept_fact shape source rising fresh same items =
      record {
        valid = record {
          rows = length-changed_at (push_fact fact) g.facts point ∙ k.valid.rows;
          facts = λ p f c. facts p f (row_cases p f c);
          once = λ p. once_at p (changed_row (push_fact fact) g.facts point p);
          asks = k.valid.asks;
        };
        given = record {
          size = length-changed_at (push_shape fact.shape) given var ∙ k.given.size;
          sound = sound;
          complete = complete;
          once = λ v. shapes_once v (changed_row (push_shape fact.shape) given var v);
        };
        contexts = same ∙ k.contexts;
        items = subst (IsCapped next.items) size items;
      }
    where
      facts : (p : ℕ) (f : Fact) → Contains (row_of (slice_get g.facts p)) f ⊎ ((p ≡ point) × (fact ≡ f)) → IsFactAt (fact_graph g point fact) p f
      facts p f (inl c) = fact_more g (fact_graph g point fact) p f (λ v e. e) (omega arith) (omega arith) (k.valid.facts p f c)
      facts p f (inr e) =
          subst (λ z. IsFactAt (fact_graph g point fact) p z) e.1
          (record { var = var; target = ap (λ z. target_of (slice_get g.flow.points z)) e.0 ∙ target; shape = shape; source = λ b c. All-contains (IsBindingThere g.flow.vars (length g.truths)) fact.source b source c; once = rising_once fact.source rising; rising = rising })

      once_at : (p : ℕ) → (row_of (slice_get (changed_at (push_fact fact) g.facts point) p) ≡ row_of (slice_get g.facts p)) ⊎ ((p ≡ point) × (row_of (slice_get (changed_at (push_fact fact) g.facts point) p) ≡ push_fact fact (row_of (slice_get g.facts p)))) → AllPairs Differ (row_of (slice_get (changed_at (push_fact fact) g.facts point) p))
      once_at p (inl e) = subst (λ row. AllPairs Differ row) (sym e) (k.valid.once p)
      once_at p (inr e) =
          subst (λ row. AllPairs Differ row) (sym e.1) (all_pairs_push Differ (row_of (slice_get g.facts p)) fact (k.valid.once p)
          (λ n d l i j. fresh (record { fact = get_or (row_of (slice_get g.facts p)) n d; is = subst (λ z. Contains (row_of (slice_get g.facts z)) (get_or (row_of (slice_get g.facts p)) n d)) e.0 (Contains-get_or (row_of (slice_get g.facts p)) n d l); shape_is = i; source_is = j })))

      shapes_once : (v : ℕ) → (row_of (slice_get (changed_at (push_shape fact.shape) given var) v) ≡ row_of (slice_get given v)) ⊎ ((v ≡ var) × (row_of (slice_get (changed_at (push_shape fact.shape) given var) v) ≡ push_shape fact.shape (row_of (slice_get given v)))) → AllPairs (λ a b. a ≢ b) (row_of (slice_get (changed_at (push_shape fact.shape) given var) v))
      shapes_once v (inl e) = subst (λ row. AllPairs (λ a b. a ≢ b) row) (sym e) (k.given.once v)
      shapes_once v (inr e) = subst (λ row. AllPairs (λ a b. a ≢ b) row) (sym e.1) (push_once fact.shape (row_of (slice_get given v)) (k.given.once v))

      size : item_total g + 1 ≡ item_total (fact_graph g point fact)
      size = omega (arith, total_changed length (push_fact fact) (λ row. length-append row (fact ∷ [])) g.facts point point_within)
