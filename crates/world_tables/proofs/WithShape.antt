-- Shapes that have no number yet get the next ones.
use Rattle.std.proofs.Common.{◌≡◌, ℕ, suc, zero, ◌+◌, ◌<◌, List, [], ◌∷◌, ◌++◌, length, map, slice_get, Some, refl, sym, ap, subst, ◌∙◌, arith, length-append}
use Rattle.std.specs.Option.{unwrap_or}
use Rattle.std.specs.List.{Contains}
use Rattle.std.proofs.lemmas.List.{length-map}
use Rattle.flow_graph.specs.declared.edge.Truth.{Truth}
use Rattle.typegraph.specs.Validity as graph_validity
use Rattle.abstract_shapes.specs.Shapes.{Shape, any, truth_of}
use Rattle.world_rules.specs.Sources.{Source}
use Rattle.world_rules.specs.Items.{an_edge, is_root}
use Rattle.world_tables.specs.Tables.{Tables, items_of, HaveOneNumber, IsNumbering, AreTables}
use Rattle.world_tables.proofs.Stays.{Extends, SameGraph, items_stay}

-- the old ones stand where they stood
get_left : {X : Type 0} (xs ys : List X) (k : ℕ) → k < length xs → slice_get (xs ++ ys) k ≡ slice_get xs k
get_left [] ys k h = absurd (omega arith)
get_left (x ∷ xs) ys zero h = refl
get_left (x ∷ xs) ys (suc k) h = get_left xs ys k (omega arith)

truth_at : (xs : List Shape) (k : ℕ) (x : Shape) → slice_get xs k ≡ Some x → slice_get (map truth_of xs) k ≡ Some (truth_of x)
truth_at [] k x h = cc
truth_at (y ∷ xs) zero x h = let e : y ≡ x = cc in ap (λ z. Some (truth_of z)) e
truth_at (y ∷ xs) (suc k) x h = truth_at xs k x h

module _ (s : Source) (t : Tables) (a : AreTables s t) (more : List Shape) (once : HaveOneNumber (t.shapes ++ more)) (truths : List Truth) (are : truths ≡ map truth_of (t.shapes ++ more)) (valid : graph_validity.IsValid (record t.graph { truths = truths })) where
  abbrev u : Tables
  u = record t { graph = record t.graph { truths = truths }; shapes = t.shapes ++ more }

  extends : Extends t u
  extends = record { points = λ k h. refl; variables = λ k h. refl; shapes = λ k h. ap (λ o. unwrap_or o any) (get_left t.shapes more k h) }

  same_graph : SameGraph t u
  same_graph = record { contexts = refl; entries = refl; edges = refl; facts = refl }

  pub same_items : items_of (record t { graph = record t.graph { truths = truths }; shapes = t.shapes ++ more }) ≡ items_of t
  same_items = items_stay s t a u extends same_graph

  numbered : IsNumbering s u
  numbered =
      let n : IsNumbering s t = a.numbering in
      record {
        flow_valid = n.flow_valid;
        graph_valid = valid;
        context_count = n.context_count;
        point_count = n.point_count;
        variable_count = n.variable_count;
        shape_count = sym (ap length are ∙ length-map (t.shapes ++ more) truth_of);
        points_once = n.points_once;
        variables_once = n.variables_once;
        shapes_once = once;
        targets = n.targets;
        roots = λ id p h. n.roots id p h ∙ ap (λ is. is_root s.program is p) (sym same_items);
        truths = λ id y h. ap (λ ts. slice_get ts id) are ∙ truth_at (t.shapes ++ more) id y h;
        points_are = n.points_are;
        are_points = n.are_points;
        points_before = n.points_before;
        variables_are = n.variables_are;
        are_variables = n.are_variables;
      }

  pub shape_keeps : AreTables s (record t { graph = record t.graph { truths = truths }; shapes = t.shapes ++ more })
  shape_keeps =
      record {
        numbering = numbered;
        contexts_once = a.contexts_once;
        entries_once = a.entries_once;
        entries_there = λ e c. let l : e.1 < length t.shapes = a.entries_there e c in let m : length (t.shapes ++ more) ≡ length t.shapes + length more = length-append t.shapes more in omega (arith, l, m);
        finished_there = a.finished_there;
        leads = λ c place depth o e k st l to. subst (λ is. Contains is (an_edge e)) (sym same_items) (a.leads c place depth o e k st l to);
        derived = record { each = λ i k. a.derived.each i (subst (λ is. Contains is i) same_items k) };
      }
