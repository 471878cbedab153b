-- The world that a graph's tables hold, with numbers for points, variables and shapes.
use Rattle.std.specs.Prelude.{ℕ, suc, Option, Some, None, List, [], ◌∷◌, ◌++◌, map, slice_get}
use Rattle.std.specs.List.{flat_map}
use Rattle.graph_walks.specs.Worlds as worlds
use Rattle.graph_walks.specs.Worlds.{World}
use Rattle.flow_graph.specs.declared.edge.Truth.{Truth}
use Rattle.flow_graph.specs.declared.edge.Truth.TheVariants.{Yes, No, Both}
use Rattle.flow_graph.specs.declared.edge.Test.{Test}
use Rattle.flow_graph.specs.declared.edge.Test.TheVariants.{MayBeTrue, MayBeFalse, Is}
use Rattle.flow_graph.specs.declared.edge.Ask.{Ask}
use Rattle.flow_graph.specs.declared.edge.Edge.{Edge}
use Rattle.flow_graph.specs.Flows.{target_of, root_of}
use Rattle.typegraph.specs.declared.fact.Fact.{Fact}
use Rattle.typegraph.specs.Maps.{look}
use Rattle.typegraph.specs.Graphs.{GraphTables}

abbrev pub truth_as : Option Truth → Option worlds.Truth
truth_as None = None
truth_as (Some Yes) = Some worlds.Yes
truth_as (Some No) = Some worlds.No
truth_as (Some Both) = Some worlds.Both

abbrev pub test_as : Test → worlds.Test ℕ
test_as MayBeTrue = worlds.MayBeTrue
test_as MayBeFalse = worlds.MayBeFalse
test_as (Is s) = worlds.Is s

abbrev pub ask_as : Option Ask → Option (worlds.Ask ℕ ℕ)
ask_as None = None
ask_as (Some a) = Some (record { var = a.var; test = test_as a.test })

abbrev pub edge_as : Edge → worlds.Edge ℕ ℕ ℕ
edge_as e = record { from = e.from; to = e.to; assigns = e.assigns; asks = ask_as e.asks }

abbrev pub fact_as : ℕ → Fact → worlds.Fact ℕ ℕ ℕ
fact_as point f = record { point = point; shape = f.shape; source = look f.source }

-- the facts of rows, where the first row is this point's
abbrev pub facts_from : ℕ → List (List Fact) → List (worlds.Fact ℕ ℕ ℕ)
facts_from point [] = []
facts_from point (row ∷ rows) = map (fact_as point) row ++ facts_from (suc point) rows

abbrev pub world_of : GraphTables → World ℕ ℕ ℕ
world_of g =
    record {
      edges = map edge_as (flat_map (λ p. p.into) g.flow.points);
      facts = facts_from 0 g.facts;
      target = λ p. target_of (slice_get g.flow.points p);
      root = λ p. root_of (slice_get g.flow.points p);
      truth = λ s. truth_as (slice_get g.truths s);
    }
