-- An edge is added that the rules give.
use Rattle.std.proofs.Common.{◌≡◌, ℕ, suc, zero, List, [], ◌∷◌, ◌++◌, slice_get, option_map, ◌⊎◌, inl, inr, refl, sym, ap, subst, ◌∙◌}
use Rattle.std.specs.List.{Contains, flat_map}
use Rattle.std.proofs.lemmas.List.Elements.{Contains-append_cases, Contains-append_left, Contains-append_right}
use Rattle.graph_walks.specs.Worlds as worlds
use Rattle.graph_walks.proofs.Lists.{only, empty}
use Rattle.flow_graph.specs.declared.edge.Edge.{Edge}
use Rattle.flow_graph.specs.Flows as flows
use Rattle.flow_graph.specs.Flows.{PointRow, with_edge, changed_at}
use Rattle.flow_graph.specs.Validity as flow_validity
use Rattle.flow_graph.proofs.Valid.{pushed, length-changed_at}
use Rattle.typegraph.specs.Graphs.{with_flow}
use Rattle.typegraph.specs.Validity as graph_validity
use Rattle.typegraph.proofs.Tables.{target_changed}
use Rattle.abstract_shapes.specs.Shapes.{Shape}
use Rattle.world_rules.specs.Places.{Variable, Point}
use Rattle.world_rules.specs.Sources.{Source}
use Rattle.world_rules.specs.Items.{Item, an_edge}
use Rattle.world_rules.specs.Rules.{Gives, IsDerived, derived}
use Rattle.world_tables.specs.Tables.{Tables, the_variable, edge_at, items_of, IsNumbering, AreTables}
use Rattle.world_tables.proofs.Items.{In, in_contexts, in_edges, in_facts, in_entries, items_in, has_edge, has_fact, has_entry}
use Rattle.world_tables.proofs.Roots.{known_item, same_root}

into : PointRow → List Edge
into p = p.into

root_changed : (edge : Edge) (points : List PointRow) (i k : ℕ) → flows.root_of (slice_get (changed_at (pushed edge) points i) k) ≡ flows.root_of (slice_get points k)
root_changed edge [] i k = refl
root_changed edge (p ∷ points) zero zero = refl
root_changed edge (p ∷ points) zero (suc k) = refl
root_changed edge (p ∷ points) (suc i) zero = refl
root_changed edge (p ∷ points) (suc i) (suc k) = root_changed edge points i k

-- the edges of the changed rows are those of before and the new one
old_or_new : (edge : Edge) (points : List PointRow) (i : ℕ) (e : Edge) → Contains (flat_map (λ (p : PointRow). p.into) (changed_at (pushed edge) points i)) e → Contains (flat_map (λ (p : PointRow). p.into) points) e ⊎ (e ≡ edge)
old_or_new edge [] i e c = empty e c
old_or_new edge (p ∷ points) zero e c = go (Contains-append_cases (p.into ++ edge ∷ []) (flat_map (λ (q : PointRow). q.into) points) e c)
  where
    here : Contains p.into e ⊎ Contains (edge ∷ []) e → Contains (p.into ++ flat_map (λ (q : PointRow). q.into) points) e ⊎ (e ≡ edge)
    here (inl d) = inl (Contains-append_left p.into (flat_map (λ (q : PointRow). q.into) points) e d)
    here (inr d) = inr (only edge e d)

    go : Contains (p.into ++ edge ∷ []) e ⊎ Contains (flat_map (λ (q : PointRow). q.into) points) e → Contains (p.into ++ flat_map (λ (q : PointRow). q.into) points) e ⊎ (e ≡ edge)
    go (inl d) = here (Contains-append_cases p.into (edge ∷ []) e d)
    go (inr d) = inl (Contains-append_right p.into (flat_map (λ (q : PointRow). q.into) points) e d)
old_or_new edge (p ∷ points) (suc i) e c = go (Contains-append_cases p.into (flat_map (λ (q : PointRow). q.into) (changed_at (pushed edge) points i)) e c) (old_or_new edge points i e)
  where
    over : Contains (flat_map (λ (q : PointRow). q.into) points) e ⊎ (e ≡ edge) → Contains (p.into ++ flat_map (λ (q : PointRow). q.into) points) e ⊎ (e ≡ edge)
    over (inl d) = inl (Contains-append_right p.into (flat_map (λ (q : PointRow). q.into) points) e d)
    over (inr d) = inr d

    go : Contains p.into e ⊎ Contains (flat_map (λ (q : PointRow). q.into) (changed_at (pushed edge) points i)) e → (Contains (flat_map (λ (q : PointRow). q.into) (changed_at (pushed edge) points i)) e → Contains (flat_map (λ (q : PointRow). q.into) points) e ⊎ (e ≡ edge)) → Contains (p.into ++ flat_map (λ (q : PointRow). q.into) points) e ⊎ (e ≡ edge)
    go (inl d) more = inl (Contains-append_left p.into (flat_map (λ (q : PointRow). q.into) points) e d)
    go (inr d) more = over (more d)

still : (edge : Edge) (points : List PointRow) (i : ℕ) (e : Edge) → Contains (flat_map (λ (p : PointRow). p.into) points) e → Contains (flat_map (λ (p : PointRow). p.into) (changed_at (pushed edge) points i)) e
still edge [] i e c = empty e c
still edge (p ∷ points) zero e c = go (Contains-append_cases p.into (flat_map (λ (q : PointRow). q.into) points) e c)
  where
    go : Contains p.into e ⊎ Contains (flat_map (λ (q : PointRow). q.into) points) e → Contains ((p.into ++ edge ∷ []) ++ flat_map (λ (q : PointRow). q.into) points) e
    go (inl d) = Contains-append_left (p.into ++ edge ∷ []) (flat_map (λ (q : PointRow). q.into) points) e (Contains-append_left p.into (edge ∷ []) e d)
    go (inr d) = Contains-append_right (p.into ++ edge ∷ []) (flat_map (λ (q : PointRow). q.into) points) e d
still edge (p ∷ points) (suc i) e c = go (Contains-append_cases p.into (flat_map (λ (q : PointRow). q.into) points) e c) (still edge points i e)
  where
    go : Contains p.into e ⊎ Contains (flat_map (λ (q : PointRow). q.into) points) e → (Contains (flat_map (λ (q : PointRow). q.into) points) e → Contains (flat_map (λ (q : PointRow). q.into) (changed_at (pushed edge) points i)) e) → Contains (p.into ++ flat_map (λ (q : PointRow). q.into) (changed_at (pushed edge) points i)) e
    go (inl d) more = Contains-append_left p.into (flat_map (λ (q : PointRow). q.into) (changed_at (pushed edge) points i)) e d
    go (inr d) more = Contains-append_right p.into (flat_map (λ (q : PointRow). q.into) (changed_at (pushed edge) points i)) e (more d)

module _ (s : Source) (t : Tables) (a : AreTables s t) (e : Edge) (g : Gives s (items_of t) (an_edge (edge_at t e)))
    (flow_valid : flow_validity.IsValid (with_edge e t.graph.flow)) (valid : graph_validity.IsValid (with_flow (with_edge e t.graph.flow) t.graph)) where
  u : Tables
  u = record t { graph = with_flow (with_edge e t.graph.flow) t.graph }

  item_derived : (i : Item) → In u i → IsDerived s i
  unfolding u
  item_derived _ (in_contexts c l) = a.derived.each _ (known_item t c l)
  item_derived _ (in_edges d l) = go (old_or_new e t.graph.flow.points e.to d l)
    where
      go : Contains (flat_map (λ (p : PointRow). p.into) t.graph.flow.points) d ⊎ (d ≡ e) → IsDerived s (an_edge (edge_at t d))
      go (inl c) = a.derived.each _ (has_edge t d c)
      go (inr i) = subst (λ z. IsDerived s (an_edge (edge_at t z))) (sym i) (derived (items_of t) a.derived.each g)
  item_derived _ (in_facts q h l) = a.derived.each _ (has_fact t q h l)
  item_derived _ (in_entries d l) = a.derived.each _ (has_entry t d l)

  edge_stays : (d : worlds.Edge Point Variable Shape) → In t (an_edge d) → Contains (items_of u) (an_edge d)
  unfolding u
  edge_stays _ (in_edges d l) = has_edge u d (still e t.graph.flow.points e.to d l)

  kept_numbering : IsNumbering s u
  unfolding u
  kept_numbering =
      record {
        flow_valid = flow_valid;
        graph_valid = valid;
        context_count = a.numbering.context_count;
        point_count = a.numbering.point_count ∙ sym (length-changed_at (pushed e) t.graph.flow.points e.to);
        variable_count = a.numbering.variable_count;
        shape_count = a.numbering.shape_count;
        points_once = a.numbering.points_once;
        variables_once = a.numbering.variables_once;
        shapes_once = a.numbering.shapes_once;
        targets = λ id p h. ap (option_map (the_variable t)) (target_changed e t.graph.flow.points e.to id) ∙ a.numbering.targets id p h;
        roots = λ id q h. root_changed e t.graph.flow.points e.to id ∙ (a.numbering.roots id q h ∙ same_root s t u refl q);
        truths = a.numbering.truths;
        points_are = a.numbering.points_are;
        are_points = a.numbering.are_points;
        points_before = a.numbering.points_before;
        variables_are = a.numbering.variables_are;
        are_variables = a.numbering.are_variables;
      }

  pub edge_keeps : AreTables s (record t { graph = with_flow (with_edge e t.graph.flow) t.graph })
  unfolding u
  edge_keeps =
      record {
        numbering = kept_numbering;
        contexts_once = a.contexts_once;
        entries_once = a.entries_once;
        entries_there = a.entries_there;
        finished_there = a.finished_there;
        leads = λ c q d o f l st m to. edge_stays f (items_in t (an_edge f) (a.leads c q d o f l st m to));
        derived = record { each = λ i l. item_derived i (items_in u i l) };
      }
