-- A variable that has no number yet gets the next one.
use Rattle.std.proofs.Common.{◌≡◌, ℕ, [], ◌∷◌, ◌++◌, slice_get, Option, Some, None, option_map, ◌⊎◌, inl, inr, refl, sym, ap, subst, ◌∙◌}
use Rattle.std.specs.Option.{unwrap_or}
use Rattle.std.specs.List.{Contains}
use Rattle.flow_graph.specs.Flows as flows
use Rattle.flow_graph.specs.Flows.{PointRow, with_var}
use Rattle.flow_graph.specs.Validity as flow_validity
use Rattle.typegraph.specs.Graphs.{with_flow}
use Rattle.typegraph.specs.Validity as graph_validity
use Rattle.world_rules.specs.Places.{Variable, global}
use Rattle.world_rules.specs.Sources.{Source}
use Rattle.world_rules.specs.Items.{an_edge, is_root}
use Rattle.world_tables.specs.Tables.{Tables, the_variable, items_of, IsUsedIn, IsNumbering, AreTables}
use Rattle.world_tables.proofs.Lists.{get_old, once_more, one_longer, still_there, old_or_last}
use Rattle.world_tables.proofs.Stays.{Extends, SameGraph, items_stay}
use Rattle.world_tables.proofs.There.{count_vars}

module _ (s : Source) (t : Tables) (a : AreTables s t) (x : Variable) (new : (k : ℕ) → slice_get t.variables k ≡ Some x → ⊥) (used : IsUsedIn s t.contexts x)
    (flow_valid : flow_validity.IsValid (with_var t.graph.flow)) (valid : graph_validity.IsValid (with_flow (with_var t.graph.flow) t.graph)) where
  u : Tables
  u = record t { graph = with_flow (with_var t.graph.flow) t.graph; variables = t.variables ++ x ∷ [] }

  extends : Extends t u
  unfolding u
  extends = record { points = λ k h. refl; variables = λ k h. ap (λ o. unwrap_or o (global 0)) (get_old t.variables x k h); shapes = λ k h. refl }

  same_graph : SameGraph t u
  unfolding u
  same_graph = record { contexts = refl; entries = refl; edges = refl; facts = refl }

  pub same_items : items_of (record t { graph = with_flow (with_var t.graph.flow) t.graph; variables = t.variables ++ x ∷ [] }) ≡ items_of t
  unfolding u
  same_items = items_stay s t a u extends same_graph

  target_stays : (o : Option PointRow) (k : ℕ) → slice_get t.graph.flow.points k ≡ o → option_map (the_variable u) (flows.target_of o) ≡ option_map (the_variable t) (flows.target_of o)
  target_stays None k e = refl
  target_stays (Some row) k e = go row.target (a.numbering.flow_valid.points k row e).target
    where
      go : (v : Option ℕ) → flow_validity.IsThere v t.graph.flow.vars → option_map (the_variable u) v ≡ option_map (the_variable t) v
      go None h = refl
      go (Some v) h = ap Some (extends.variables v (count_vars s t a.numbering v h))

  used_in : (y : Variable) → Contains t.variables y ⊎ (y ≡ x) → IsUsedIn s t.contexts y
  used_in y (inl k) = a.numbering.are_variables y k
  used_in y (inr e) = subst (IsUsedIn s t.contexts) (sym e) used

  kept_numbering : IsNumbering s u
  unfolding u
  kept_numbering =
      record {
        flow_valid = flow_valid;
        graph_valid = valid;
        context_count = a.numbering.context_count;
        point_count = a.numbering.point_count;
        variable_count = one_longer t.variables x t.graph.flow.vars a.numbering.variable_count;
        shape_count = a.numbering.shape_count;
        points_once = a.numbering.points_once;
        variables_once = once_more t.variables x a.numbering.variables_once new;
        shapes_once = a.numbering.shapes_once;
        targets = λ id p h. target_stays (slice_get t.graph.flow.points id) id refl ∙ a.numbering.targets id p h;
        roots = λ id q h. a.numbering.roots id q h ∙ ap (λ is. is_root s.program is q) (sym same_items);
        truths = a.numbering.truths;
        points_are = a.numbering.points_are;
        are_points = a.numbering.are_points;
        points_before = a.numbering.points_before;
        variables_are = λ b y k h. still_there t.variables x y (a.numbering.variables_are b y k h);
        are_variables = λ y k. used_in y (old_or_last t.variables x y k);
      }

  pub variable_keeps : AreTables s (record t { graph = with_flow (with_var t.graph.flow) t.graph; variables = t.variables ++ x ∷ [] })
  unfolding u
  variable_keeps =
      record {
        numbering = kept_numbering;
        contexts_once = a.contexts_once;
        entries_once = a.entries_once;
        entries_there = a.entries_there;
        finished_there = a.finished_there;
        leads = λ c place depth o e k st l to. subst (λ is. Contains is (an_edge e)) (sym same_items) (a.leads c place depth o e k st l to);
        derived = record { each = λ i k. a.derived.each i (subst (λ is. Contains is i) same_items k) };
      }
