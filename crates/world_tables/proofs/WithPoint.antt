-- A place with a depth that has no number yet becomes a point.
use Rattle.std.proofs.Common.{◌≡◌, ℕ, suc, ◌<◌, Bool, List, [], ◌∷◌, ◌++◌, length, map, slice_get, Option, Some, option_map, ◌⊎◌, inl, inr, refl, sym, ap, subst, ◌∙◌, arith, length-append}
use Rattle.std.specs.Option.{unwrap_or}
use Rattle.std.specs.List.{Contains}
use Rattle.flow_graph.specs.Flows as flows
use Rattle.flow_graph.specs.Flows.{PointRow, with_point}
use Rattle.flow_graph.specs.Validity as flow_validity
use Rattle.typegraph.specs.declared.fact.Fact.{Fact}
use Rattle.typegraph.specs.Graphs.{with_row}
use Rattle.typegraph.specs.Validity as graph_validity
use Rattle.world_rules.specs.Places.{Context, main, Point, at, target_of}
use Rattle.world_rules.specs.Sources.{Source}
use Rattle.world_rules.specs.Items.{an_edge, is_root}
use Rattle.world_rules.specs.Rules.{IsPoint}
use Rattle.world_tables.specs.Tables.{Tables, the_variable, fact_at, facts_from, items_of, IsNewPoint, IsNumbering, AreTables}
use Rattle.world_tables.proofs.Lists.{get_old, get_cases, get_last, once_more, one_longer, still_there, old_or_last, flat_append}
use Rattle.world_tables.proofs.Stays.{Extends, SameGraph, items_stay}

no_more_facts : (t : Tables) (k : ℕ) (rows : List (List Fact)) → facts_from t k (rows ++ [] ∷ []) ≡ facts_from t k rows
no_more_facts t k [] = refl
no_more_facts t k (row ∷ rows) = ap (λ fs. map (fact_at t k) row ++ fs) (no_more_facts t (suc k) rows)

module _ (s : Source) (t : Tables) (a : AreTables s t) (c : Context) (place depth : ℕ) (target : Option ℕ) (root : Bool)
    (new : (k : ℕ) → slice_get t.points k ≡ Some (at c place depth) → ⊥) (known : Contains t.contexts c) (is : IsNewPoint s t c place depth target root)
    (flow_valid : flow_validity.IsValid (with_point target root t.graph.flow)) (valid : graph_validity.IsValid (with_row (with_point target root t.graph.flow) t.graph)) where
  row : PointRow
  row = record { target = target; root = root; into = [] }

  u : Tables
  u = record t { graph = with_row (with_point target root t.graph.flow) t.graph; points = t.points ++ at c place depth ∷ [] }

  extends : Extends t u
  unfolding u
  extends = record { points = λ k h. ap (λ o. unwrap_or o (at main 0 0)) (get_old t.points (at c place depth) k h); variables = λ k h. refl; shapes = λ k h. refl }

  same_graph : SameGraph t u
  unfolding u row
  same_graph = record { contexts = refl; entries = refl; edges = flat_append (λ p. p.into) t.graph.flow.points row refl; facts = no_more_facts u 0 t.graph.facts }

  pub same_items : items_of (record t { graph = with_row (with_point target root t.graph.flow) t.graph; points = t.points ++ at c place depth ∷ [] }) ≡ items_of t
  unfolding u
  same_items = items_stay s t a u extends same_graph

  row_old : (k : ℕ) → k < length t.points → slice_get (t.graph.flow.points ++ row ∷ []) k ≡ slice_get t.graph.flow.points k
  row_old k h = get_old t.graph.flow.points row k (subst (λ m. k < m) a.numbering.point_count h)

  row_new : (k : ℕ) → k ≡ length t.points → slice_get (t.graph.flow.points ++ row ∷ []) k ≡ Some row
  row_new k e = ap (slice_get (t.graph.flow.points ++ row ∷ [])) (e ∙ a.numbering.point_count) ∙ get_last t.graph.flow.points row

  target_at : (id : ℕ) (p : Point) → ((slice_get t.points id ≡ Some p) × (id < length t.points)) ⊎ ((id ≡ length t.points) × (p ≡ at c place depth)) → option_map (the_variable t) (flows.target_of (slice_get (t.graph.flow.points ++ row ∷ []) id)) ≡ target_of s.program p
  unfolding row
  target_at id p (inl h) = ap (λ o. option_map (the_variable t) (flows.target_of o)) (row_old id h.1) ∙ a.numbering.targets id p h.0
  target_at id p (inr h) = ap (λ o. option_map (the_variable t) (flows.target_of o)) (row_new id h.0) ∙ (is.target_is ∙ ap (target_of s.program) (sym h.1))

  root_at : (id : ℕ) (p : Point) → ((slice_get t.points id ≡ Some p) × (id < length t.points)) ⊎ ((id ≡ length t.points) × (p ≡ at c place depth)) → flows.root_of (slice_get (t.graph.flow.points ++ row ∷ []) id) ≡ is_root s.program (items_of t) p
  unfolding row
  root_at id p (inl h) = ap flows.root_of (row_old id h.1) ∙ a.numbering.roots id p h.0
  root_at id p (inr h) = ap flows.root_of (row_new id h.0) ∙ (is.root_is ∙ ap (is_root s.program (items_of t)) (sym h.1))

  is_of : (b : Context) (q d : ℕ) → Contains t.points (at b q d) ⊎ (at b q d ≡ at c place depth) → Contains t.contexts b × IsPoint s (at b q d)
  is_of b q d (inl k) = a.numbering.are_points b q d k
  is_of b q d (inr e) = let f : b ≡ c = cc in (subst (λ x. Contains t.contexts x) (sym f) known, subst (IsPoint s) (sym e) is.is_point)

  before_it : (b : Context) (q d : ℕ) → Contains t.points (at b q d) ⊎ (at b q d ≡ at c place depth) → (f e : ℕ) → f < q → IsPoint s (at b f e) → Contains t.points (at b f e)
  before_it b q d (inl k) f e l p = a.numbering.points_before b q d k f e l p
  before_it b q d (inr same) f e l p =
      let g : b ≡ c = cc in
      let h : q ≡ place = cc in
      subst (λ x. Contains t.points (at x f e)) (sym g) (is.before f e (omega (arith, l, h)) (subst (λ x. IsPoint s (at x f e)) g p))

  kept_numbering : IsNumbering s u
  unfolding u row
  kept_numbering =
      record {
        flow_valid = flow_valid;
        graph_valid = valid;
        context_count = a.numbering.context_count;
        point_count = one_longer t.points (at c place depth) (length t.graph.flow.points) a.numbering.point_count ∙ sym (length-append t.graph.flow.points (row ∷ []));
        variable_count = a.numbering.variable_count;
        shape_count = a.numbering.shape_count;
        points_once = once_more t.points (at c place depth) a.numbering.points_once new;
        variables_once = a.numbering.variables_once;
        shapes_once = a.numbering.shapes_once;
        targets = λ id p h. target_at id p (get_cases t.points (at c place depth) p id h);
        roots = λ id q h. root_at id q (get_cases t.points (at c place depth) q id h) ∙ ap (λ is. is_root s.program is q) (sym same_items);
        truths = a.numbering.truths;
        points_are = λ b q d k h. still_there t.points (at c place depth) (at b q d) (a.numbering.points_are b q d k h);
        are_points = λ b q d k. is_of b q d (old_or_last t.points (at c place depth) (at b q d) k);
        points_before = λ b q d k f e l p. still_there t.points (at c place depth) (at b f e) (before_it b q d (old_or_last t.points (at c place depth) (at b q d) k) f e l p);
        variables_are = a.numbering.variables_are;
        are_variables = a.numbering.are_variables;
      }

  pub point_keeps : AreTables s (record t { graph = with_row (with_point target root t.graph.flow) t.graph; points = t.points ++ at c place depth ∷ [] })
  unfolding u
  point_keeps =
      record {
        numbering = kept_numbering;
        contexts_once = a.contexts_once;
        entries_once = a.entries_once;
        entries_there = a.entries_there;
        finished_there = a.finished_there;
        leads = λ b q d o e k st l to. subst (λ is. Contains is (an_edge e)) (sym same_items) (a.leads b q d o e k st l to);
        derived = record { each = λ i k. a.derived.each i (subst (λ is. Contains is i) same_items k) };
      }
