-- A valid flow stays valid as it grows.
use Rattle.std.proofs.Common.{◌≡◌, ◌≢◌, ℕ, suc, zero, ◌+◌, ◌<◌, ◌≤◌, ◌-◌, ◌^◌, Bool, true, false, Option, Some, None, Result, Ok, Err, List, [], ◌∷◌, ◌++◌, length, slice_get, slice_set, ◌⊎◌, inl, inr, refl, sym, ap, subst, ◌∙◌, arith, length-append}
use Rattle.std.specs.List.{Contains}
use Rattle.std.proofs.lemmas.List.Elements.{Contains-push_cases, Contains-get_or}
use Rattle.std.specs.Result.{OnErr}
use Rattle.std.proofs.lemmas.List.Quantifiers.{all_pairs_push}
use Rattle.flow_graph.specs.declared.edge.Edge.{Edge}
use Rattle.flow_graph.specs.declared.edge.Ask.{Ask}
use Rattle.flow_graph.specs.declared.context.Context.{Context}
use Rattle.flow_graph.specs.Flows.{PointRow, FlowTables, with_var, with_point, with_context, with_edge, changed_at, into_of, HasEdge}
use Rattle.flow_graph.specs.Validity.{IsThere, IsAskThere, IsEdgeAt, IsPoint, IsContext, IsValid}

there_more : (id : Option ℕ) (few many : ℕ) → few ≤ many → IsThere id few → IsThere id many
there_more None few many le h = tt
there_more (Some n) few many le h = omega (arith, le, h)

ask_more : (ask : Option Ask) (few many : ℕ) → few ≤ many → IsAskThere ask few → IsAskThere ask many
ask_more None few many le h = tt
ask_more (Some a) few many le h = omega (arith, le, h)

edge_more : (vars vars2 points points2 place : ℕ) (e : Edge) → vars ≤ vars2 → points ≤ points2 → IsEdgeAt vars points place e → IsEdgeAt vars2 points2 place e
edge_more vars vars2 points points2 place e le lp h = record { to = h.to; from = omega (arith, lp, h.from); asks = ask_more e.asks vars vars2 le h.asks }

point_more : (vars vars2 points points2 place : ℕ) (row : PointRow) → vars ≤ vars2 → points ≤ points2 → IsPoint vars points place row → IsPoint vars2 points2 place row
point_more vars vars2 points points2 place row le lp h =
    record { target = there_more row.target vars vars2 le h.target; edges = λ e c. edge_more vars vars2 points points2 place e le lp (h.edges e c); once = h.once }

context_more : (contexts contexts2 points points2 : ℕ) (c : Context) → contexts ≤ contexts2 → points ≤ points2 → IsContext contexts points c → IsContext contexts2 points2 c
context_more contexts contexts2 points points2 c le lp h = record { parent = there_more c.parent contexts contexts2 le h.parent; call = there_more c.call points points2 lp h.call }

pub valid_empty : IsValid (record { vars = 0; points = []; contexts = [] })
valid_empty =
    record {
      vars = omega arith;
      point_count = omega arith;
      context_count = omega arith;
      points = λ place row h. cc;
      contexts = λ c h. let z : ⊥ = omega (arith, h.1) in absurd z;
      once = λ i j d l k. let z : ⊥ = omega (arith, k) in absurd z;
    }

pub valid_var : (f : FlowTables) → IsValid f → f.vars < 2 ^ 32 - 1 → IsValid (with_var f)
valid_var f v l =
    record {
      vars = omega (arith, l);
      point_count = v.point_count;
      context_count = v.context_count;
      points = λ place row h. point_more f.vars (f.vars + 1) (length f.points) (length f.points) place row (omega arith) (omega arith) (v.points place row h);
      contexts = v.contexts;
      once = v.once;
    }

-- what stands at a place of a list with one more at its end
pub pushed_at : {X : Type 0} (xs : List X) (x y : X) (i : ℕ) → slice_get (xs ++ x ∷ []) i ≡ Some y → (slice_get xs i ≡ Some y) ⊎ ((i ≡ length xs) × (x ≡ y))
pushed_at [] x y zero h = inr (refl, cc)
pushed_at [] x y (suc i) h = cc
pushed_at (z ∷ xs) x y zero h = inl h
pushed_at {X} (z ∷ xs) x y (suc i) h = go (pushed_at xs x y i h)
  where
    go : (slice_get xs i ≡ Some y) ⊎ ((i ≡ length xs) × (x ≡ y)) → (slice_get xs i ≡ Some y) ⊎ ((suc i ≡ length (z ∷ xs)) × (x ≡ y))
    go (inl e) = inl e
    go (inr p) = inr (ap suc p.0, p.1)

abbrev pub fresh_row : Option ℕ → Bool → PointRow
fresh_row target root = record { target = target; root = root; into = [] }

pub valid_point : (f : FlowTables) (target : Option ℕ) (root : Bool) → IsValid f → IsThere target f.vars → length f.points < 2 ^ 32 - 1 → IsValid (with_point target root f)
valid_point f target root v t l =
    record {
      vars = v.vars;
      point_count = omega (arith, l, size);
      context_count = v.context_count;
      points = λ place row h. at place row (pushed_at f.points (fresh_row target root) row place h);
      contexts = λ c h. context_more (length f.contexts) (length f.contexts) (length f.points) (length (f.points ++ fresh_row target root ∷ [])) c (omega arith) (omega (arith, size)) (v.contexts c h);
      once = v.once;
    }
  where
    size : length (f.points ++ fresh_row target root ∷ []) ≡ length f.points + 1
    size = length-append f.points (fresh_row target root ∷ []) ∙ omega arith

    at : (place : ℕ) (row : PointRow) → (slice_get f.points place ≡ Some row) ⊎ ((place ≡ length f.points) × (fresh_row target root ≡ row)) → IsPoint f.vars (length (f.points ++ fresh_row target root ∷ [])) place row
    at place row (inl e) = point_more f.vars f.vars (length f.points) (length (f.points ++ fresh_row target root ∷ [])) place row (omega arith) (omega (arith, size)) (v.points place row e)
    at place row (inr p) = subst (λ r. IsPoint f.vars (length (f.points ++ fresh_row target root ∷ [])) place r) p.1 (record { target = t; edges = λ e c. let z : ⊥ = omega (arith, c.1) in absurd z; once = λ i j d a b. let z : ⊥ = omega (arith, b) in absurd z })

pub valid_context : (f : FlowTables) (context : Context) → IsValid f → IsThere context.parent (length f.contexts) → IsThere context.call (length f.points) → (Contains f.contexts context → ⊥) → length f.contexts < 2 ^ 32 - 1 → IsValid (with_context context f)
valid_context f context v parent call fresh l =
    record {
      vars = v.vars;
      point_count = v.point_count;
      context_count = omega (arith, l, size);
      points = v.points;
      contexts = λ c h. at c (Contains-push_cases f.contexts context c h);
      once = all_pairs_push (λ a b. a ≢ b) f.contexts context v.once (λ k d h e. fresh (subst (λ z. Contains f.contexts z) e (Contains-get_or f.contexts k d h)));
    }
  where
    size : length (f.contexts ++ context ∷ []) ≡ length f.contexts + 1
    size = length-append f.contexts (context ∷ []) ∙ omega arith

    more : (c : Context) → IsContext (length f.contexts) (length f.points) c → IsContext (length (f.contexts ++ context ∷ [])) (length f.points) c
    more c h = context_more (length f.contexts) (length (f.contexts ++ context ∷ [])) (length f.points) (length f.points) c (omega (arith, size)) (omega arith) h

    at : (c : Context) → Contains f.contexts c ⊎ (context ≡ c) → IsContext (length (f.contexts ++ context ∷ [])) (length f.points) c
    at c (inl h) = more c (v.contexts c h)
    at c (inr e) = subst (λ z. IsContext (length (f.contexts ++ context ∷ [])) (length f.points) z) e (more context (record { parent = parent; call = call }))

-- lists with one element changed
pub length-changed_at : {X : Type 0} (f : X → X) (xs : List X) (i : ℕ) → length (changed_at f xs i) ≡ length xs
length-changed_at f [] i = refl
length-changed_at f (x ∷ xs) zero = refl
length-changed_at f (x ∷ xs) (suc i) = ap suc (length-changed_at f xs i)

pub changed_by_set : {X : Type 0} (f : X → X) (xs : List X) (i : ℕ) (x y : X) → slice_get xs i ≡ Some x → y ≡ f x → slice_set xs i y ≡ changed_at f xs i
changed_by_set f [] i x y h e = refl
changed_by_set f (z ∷ xs) zero x y h e = let k : z ≡ x = cc in ap (λ a. a ∷ xs) (e ∙ ap f (sym k))
changed_by_set f (z ∷ xs) (suc i) x y h e = ap (λ a. z ∷ a) (changed_by_set f xs i x y h e)

pub set_same : {X : Type 0} (xs : List X) (i : ℕ) (x y : X) → slice_get xs i ≡ Some x → y ≡ x → slice_set xs i y ≡ xs
set_same [] i x y h e = refl
set_same (z ∷ xs) zero x y h e = let k : z ≡ x = cc in ap (λ a. a ∷ xs) (e ∙ sym k)
set_same (z ∷ xs) (suc i) x y h e = ap (λ a. z ∷ a) (set_same xs i x y h e)

-- what stands in it: at the place the changed element, and elsewhere what stood there
pub record Changed {X : Type 0} (f : X → X) (xs : List X) (i k : ℕ) (y : X) : Type 0 where
  pub old : X
  pub at : slice_get xs k ≡ Some old
  pub is : ((k ≡ i) × (y ≡ f old)) ⊎ (y ≡ old)

pub changed_get : {X : Type 0} (f : X → X) (xs : List X) (i k : ℕ) (y : X) → slice_get (changed_at f xs i) k ≡ Some y → Changed f xs i k y
changed_get f [] i k y h = cc
changed_get f (x ∷ xs) zero zero y h = record { old = x; at = refl; is = inl (refl, cc) }
changed_get f (x ∷ xs) zero (suc k) y h = record { old = y; at = h; is = inr refl }
changed_get f (x ∷ xs) (suc i) zero y h = record { old = x; at = refl; is = inr cc }
changed_get {X} f (x ∷ xs) (suc i) (suc k) y h = go (changed_get f xs i k y h)
  where
    go : Changed f xs i k y → Changed f (x ∷ xs) (suc i) (suc k) y
    go c = record { old = c.old; at = c.at; is = next c.is }
      where
        next : ((k ≡ i) × (y ≡ f c.old)) ⊎ (y ≡ c.old) → ((suc k ≡ suc i) × (y ≡ f c.old)) ⊎ (y ≡ c.old)
        next (inl p) = inl (ap suc p.0, p.1)
        next (inr e) = inr e

abbrev pub pushed : Edge → PointRow → PointRow
pushed edge row = record row { into = row.into ++ edge ∷ [] }

pub valid_edge : (f : FlowTables) (edge : Edge) → IsValid f → edge.from < length f.points → IsAskThere edge.asks f.vars → (row : PointRow) → slice_get f.points edge.to ≡ Some row → (Contains row.into edge → ⊥) → IsValid (with_edge edge f)
valid_edge f edge v from asks row at fresh =
    record {
      vars = v.vars;
      point_count = rw size v.point_count;
      context_count = v.context_count;
      points = λ place r h. rw size (point place r (changed_get (pushed edge) f.points edge.to place r h));
      contexts = rw size v.contexts;
      once = v.once;
    }
  where
    size : length (changed_at (pushed edge) f.points edge.to) ≡ length f.points
    size = length-changed_at (pushed edge) f.points edge.to

    with_one : (place : ℕ) (old : PointRow) → slice_get f.points place ≡ Some old → place ≡ edge.to → IsPoint f.vars (length f.points) place old → IsPoint f.vars (length f.points) place (pushed edge old)
    with_one place old a e p =
        record {
          target = p.target;
          edges = λ x c. into x (Contains-push_cases old.into edge x c);
          once = all_pairs_push (λ a b. a ≢ b) old.into edge p.once (λ k d h i. fresh (subst (λ z. Contains z edge) same (subst (λ z. Contains old.into z) i (Contains-get_or old.into k d h))));
        }
      where
        same_row : old ≡ row
        same_row = let k : Some old ≡ Some row = sym a ∙ ap (slice_get f.points) e ∙ at in cc

        same : old.into ≡ row.into
        same = ap (λ z. z.into) same_row

        into : (x : Edge) → Contains old.into x ⊎ (edge ≡ x) → IsEdgeAt f.vars (length f.points) place x
        into x (inl c) = p.edges x c
        into x (inr i) = subst (λ z. IsEdgeAt f.vars (length f.points) place z) i (record { to = sym e; from = from; asks = asks })

    point : (place : ℕ) (r : PointRow) → Changed (pushed edge) f.points edge.to place r → IsPoint f.vars (length f.points) place r
    point place r c = go c.is
      where
        go : ((place ≡ edge.to) × (r ≡ pushed edge c.old)) ⊎ (r ≡ c.old) → IsPoint f.vars (length f.points) place r
        go (inl p) = subst (λ z. IsPoint f.vars (length f.points) place z) (sym p.1) (with_one place c.old c.at p.0 (v.points place c.old c.at))
        go (inr e) = subst (λ z. IsPoint f.vars (length f.points) place z) (sym e) (v.points place c.old c.at)

-- the answer of a point that an edge was added to, and what the point then is
pub record IsAdded {E : Type 0} (r : Result Bool E) (edge : Edge) (old new : PointRow) : Type 0 where
  pub fresh : r ≡ Ok true → (Contains old.into edge → ⊥) × (new ≡ pushed edge old)
  pub known : r ≡ Ok false → Contains old.into edge × (new ≡ old)
  pub refused : OnErr r (new ≡ old)

pub valid_added : {E : Type 0} (r : Result Bool E) (f : FlowTables) (edge : Edge) (old new : PointRow) → IsValid f → edge.from < length f.points → IsAskThere edge.asks f.vars → slice_get f.points edge.to ≡ Some old → IsAdded r edge old new → IsValid (record f { points = slice_set f.points edge.to new })
valid_added (Ok true) f edge old new v from asks at a =
    subst (λ ps. IsValid (record f { points = ps })) (sym (changed_by_set (pushed edge) f.points edge.to old new at (a.fresh refl).1)) (valid_edge f edge v from asks old at (a.fresh refl).0)
valid_added (Ok false) f edge old new v from asks at a = subst (λ ps. IsValid (record f { points = ps })) (sym (set_same f.points edge.to old new at (a.known refl).1)) v
valid_added (Err e) f edge old new v from asks at a = subst (λ ps. IsValid (record f { points = ps })) (sym (set_same f.points edge.to old new at a.refused)) v

pub added_fresh : {E : Type 0} (r : Result Bool E) (f : FlowTables) (edge : Edge) (old new : PointRow) → slice_get f.points edge.to ≡ Some old → IsAdded r edge old new → r ≡ Ok true → (HasEdge f edge → ⊥) × (record f { points = slice_set f.points edge.to new } ≡ with_edge edge f)
added_fresh r f edge old new at a e = (
  λ c. (a.fresh e).0 (subst (λ o. Contains (into_of o) edge) at c),
  ap (λ ps. record f { points = ps }) (changed_by_set (pushed edge) f.points edge.to old new at (a.fresh e).1),
)

pub added_known : {E : Type 0} (r : Result Bool E) (f : FlowTables) (edge : Edge) (old new : PointRow) → slice_get f.points edge.to ≡ Some old → IsAdded r edge old new → r ≡ Ok false → HasEdge f edge × (record f { points = slice_set f.points edge.to new } ≡ f)
added_known r f edge old new at a e = (
  subst (λ o. Contains (into_of o) edge) (sym at) (a.known e).0,
  ap (λ ps. record f { points = ps }) (set_same f.points edge.to old new at (a.known e).1),
)
