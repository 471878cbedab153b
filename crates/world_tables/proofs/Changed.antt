-- Tables whose facts and entries change, and nothing else, stay a world's where what they have now is derived.
use Rattle.std.proofs.Common.{◌≢◌, ℕ, ◌<◌, List, length, refl, ◌∙◌}
use Rattle.std.specs.List.{AllPairs, Contains}
use Rattle.graph_walks.specs.Worlds.{Edge as EdgeBetween}
use Rattle.typegraph.specs.declared.fact.Fact.{Fact}
use Rattle.typegraph.specs.Validity as graph_validity
use Rattle.abstract_shapes.specs.declared.place.Place.{Place}
use Rattle.abstract_shapes.specs.Shapes.{Shape}
use Rattle.world_rules.specs.Places.{Variable, Point}
use Rattle.world_rules.specs.Sources.{Source}
use Rattle.world_rules.specs.Items.{Item, an_edge}
use Rattle.world_rules.specs.Rules.{IsDerived}
use Rattle.world_tables.specs.Tables.{Tables, items_of, IsNumbering, AreTables}
use Rattle.world_tables.proofs.Items.{In, in_edges, items_in, has_edge, each_item}
use Rattle.world_tables.proofs.Roots.{same_root}

module _ (s : Source) (t : Tables) (a : AreTables s t) (facts : List (List Fact)) (entries : List (Place × ℕ)) (valid : graph_validity.IsValid (record t.graph { facts = facts })) where
  abbrev u : Tables
  u = record t { graph = record t.graph { facts = facts }; entries = entries }

  numbered : IsNumbering s u
  numbered =
      let n : IsNumbering s t = a.numbering in
      record {
        flow_valid = n.flow_valid;
        graph_valid = valid;
        context_count = n.context_count;
        point_count = n.point_count;
        variable_count = n.variable_count;
        shape_count = n.shape_count;
        points_once = n.points_once;
        variables_once = n.variables_once;
        shapes_once = n.shapes_once;
        targets = n.targets;
        roots = λ id p h. n.roots id p h ∙ same_root s t u refl p;
        truths = n.truths;
        points_are = n.points_are;
        are_points = n.are_points;
        points_before = n.points_before;
        variables_are = n.variables_are;
        are_variables = n.are_variables;
      }

  edge_stays : (e : EdgeBetween Point Variable Shape) → In t (an_edge e) → Contains (items_of u) (an_edge e)
  edge_stays _ (in_edges e k) = has_edge u e k

  pub changed : AllPairs (λ e f. e ≢ f) entries → ((e : Place × ℕ) → Contains entries e → e.1 < length t.shapes) → ((i : Item) → In (record t { graph = record t.graph { facts = facts }; entries = entries }) i → IsDerived s i) →
      AreTables s (record t { graph = record t.graph { facts = facts }; entries = entries })
  changed once there derived =
      record {
        numbering = numbered;
        contexts_once = a.contexts_once;
        entries_once = once;
        entries_there = there;
        finished_there = a.finished_there;
        leads = λ c place depth o e k st l to. edge_stays e (items_in t (an_edge e) (a.leads c place depth o e k st l to));
        derived = record { each = each_item u (IsDerived s) derived };
      }
