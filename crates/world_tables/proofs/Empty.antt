-- Tables with nothing in them.
use Rattle.std.proofs.Common.{refl, arith}
use Rattle.graph_walks.proofs.Lists.{empty}
use Rattle.flow_graph.specs.Validity as flow_validity
use Rattle.typegraph.specs.Validity as graph_validity
use Rattle.world_rules.specs.Sources.{Source}
use Rattle.world_tables.specs.Tables.{no_tables, IsNumbering, AreTables}

flow_valid : flow_validity.IsValid no_tables.graph.flow
flow_valid = record { vars = omega arith; point_count = omega arith; context_count = omega arith; points = λ place row h. cc; contexts = λ c h. empty c h; once = λ i j d l k. absurd (omega (arith, k)) }

graph_valid : graph_validity.IsValid no_tables.graph
graph_valid = record { rows = refl; facts = λ p f h. empty f h; once = λ p i j d l k. absurd (omega (arith, k)); asks = λ p e h. empty e h }

numbering : (s : Source) → IsNumbering s no_tables
numbering s =
    record {
      flow_valid = flow_valid;
      graph_valid = graph_valid;
      context_count = refl;
      point_count = refl;
      variable_count = refl;
      shape_count = refl;
      points_once = λ i j x h k. cc;
      variables_once = λ i j x h k. cc;
      shapes_once = λ i j x h k. cc;
      targets = λ id p h. cc;
      roots = λ id p h. cc;
      truths = λ id x h. cc;
      points_are = λ c place depth k p. empty c k;
      are_points = λ c place depth k. empty _ k;
      points_before = λ c place depth k earlier d l p. empty _ k;
      variables_are = λ c x k h. empty c k;
      are_variables = λ x k. empty x k;
    }

pub empty_are : (s : Source) → AreTables s no_tables
empty_are s =
    record {
      numbering = numbering s;
      contexts_once = λ i j d l k. absurd (omega (arith, k));
      entries_once = λ i j d l k. absurd (omega (arith, k));
      entries_there = λ e k. empty e k;
      finished_there = omega arith;
      leads = λ c place depth o e k st l to. empty c k;
      derived = record { each = λ i k. empty i k };
    }
