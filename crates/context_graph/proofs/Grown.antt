-- What is left as it was where rows get a variable, a point or an edge.
use Rattle.std.proofs.Common.{◌≡◌, ℕ, Bool, [], Option, refl, sym, subst, ◌∙◌}
use Rattle.flow_graph.specs.declared.edge.Edge.{Edge}
use Rattle.flow_graph.specs.Flows.{with_edge}
use Rattle.flow_graph.specs.Validity as flow_validity
use Rattle.typegraph.specs.Graphs.{with_flow}
use Rattle.world_tables.specs.declared.spot.PointSpot.{PointSpot}
use Rattle.world_tables.specs.declared.spot.VariableSpot.{VariableSpot}
use Rattle.world_tables.specs.Rows.{WorldRows, with_graph, with_new_point, with_new_variable, IsKept}
use Rattle.world_tables.proofs.Kept.{spot_more}
use Rattle.context_graph.specs.Growth.{IsGrown, IsStep}
use Rattle.context_graph.proofs.Lists.{still_at, row_still}

pub grown_same : (rows : WorldRows) → IsGrown rows rows
grown_same rows = record { rows = refl; contexts = refl; truths = refl; shapes = refl; joined = refl; facts = λ p. refl; points = λ id spot e. e; variables = λ id spot e. e }

pub grown_on : (a b c : WorldRows) → IsGrown a b → IsGrown b c → IsGrown a c
grown_on a b c g h =
    record {
      rows = h.rows ∙ g.rows;
      contexts = h.contexts ∙ g.contexts;
      truths = h.truths ∙ g.truths;
      shapes = h.shapes ∙ g.shapes;
      joined = h.joined ∙ g.joined;
      facts = λ p. h.facts p ∙ g.facts p;
      points = λ id spot e. h.points id spot (g.points id spot e);
      variables = λ id spot e. h.variables id spot (g.variables id spot e);
    }

pub step_same : (rows : WorldRows) → IsStep rows rows
step_same rows = record { grown = grown_same rows; finished = refl }

pub step_on : (a b c : WorldRows) → IsStep a b → IsStep b c → IsStep a c
step_on a b c g h = record { grown = grown_on a b c g.grown h.grown; finished = h.finished ∙ g.finished }

-- rows that are the same
pub step_equal : (old new : WorldRows) → new ≡ old → IsStep old new
step_equal old new e = subst (IsStep old) (sym e) (step_same old)

pub step_variable : (rows : WorldRows) (spot : VariableSpot) → IsStep rows (with_new_variable spot rows)
step_variable rows spot =
    record {
      grown = record { rows = refl; contexts = refl; truths = refl; shapes = refl; joined = refl; facts = λ p. refl; points = λ id other e. e; variables = λ id other e. still_at rows.variables spot other id e };
      finished = refl;
    }

pub step_point : (rows : WorldRows) → IsKept rows → flow_validity.IsValid rows.graph.flow → (spot : PointSpot) (target : Option ℕ) (root : Bool) → IsStep rows (with_new_point spot target root rows)
step_point rows kept valid spot target root =
    record {
      grown = record {
        rows = refl;
        contexts = spot_more [] rows.points spot rows.graph.flow.contexts (λ row c. subst (flow_validity.IsThere row.call) (sym kept.point_count) (valid.contexts row c).call);
        truths = refl;
        shapes = refl;
        joined = refl;
        facts = λ p. row_still rows.graph.facts p;
        points = λ id other e. still_at rows.points spot other id e;
        variables = λ id other e. e;
      };
      finished = refl;
    }

pub step_edge : (rows : WorldRows) (edge : Edge) → IsStep rows (with_graph (with_flow (with_edge edge rows.graph.flow) rows.graph) rows)
step_edge rows edge =
    record {
      grown = record { rows = refl; contexts = refl; truths = refl; shapes = refl; joined = refl; facts = λ p. refl; points = λ id other e. e; variables = λ id other e. e };
      finished = refl;
    }
