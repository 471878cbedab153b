-- How many variables, points and shapes a graph has after an edge or a fact was added, or was refused.
use Rattle.std.proofs.Common.{◌≡◌, ℕ, Bool, true, false, Result, Ok, Err, List, length, refl, sym, subst, ◌∙◌}
use Rattle.std.specs.Result.{OnErr}
use Rattle.flow_graph.specs.declared.edge.Edge.{Edge}
use Rattle.flow_graph.specs.Flows.{with_edge}
use Rattle.flow_graph.proofs.Valid.{pushed, length-changed_at}
use Rattle.typegraph.specs.declared.goals.Binding.{Binding}
use Rattle.typegraph.specs.Graphs.{GraphTables, with_flow, IsWithFact}

pub record IsSize (vars points shapes : ℕ) (g : GraphTables) : Type 0 where
  pub vars_kept : g.flow.vars ≡ vars
  pub points_kept : length g.flow.points ≡ points
  pub shapes_kept : length g.truths ≡ shapes

pub by_answer : {E : Type 0} (fresh added known same P : Type 0) (r : Result Bool E) → (r ≡ Ok true → fresh × added) → (r ≡ Ok false → known × same) → OnErr r same → (added → P) → (same → P) → P
by_answer fresh added known same P (Ok true) f k e a s = a (f refl).1
by_answer fresh added known same P (Ok false) f k e a s = s (k refl).1
by_answer fresh added known same P (Err x) f k e a s = s e

module _ (vars points shapes : ℕ) where
  pub size_same : (old new : GraphTables) → IsSize vars points shapes old → new ≡ old → IsSize vars points shapes new
  size_same old new h e = subst (λ g. IsSize vars points shapes g) (sym e) h

  pub size_edge : (old new : GraphTables) (edge : Edge) → IsSize vars points shapes old → new ≡ with_flow (with_edge edge old.flow) old → IsSize vars points shapes new
  size_edge old new edge h e =
      subst (λ g. IsSize vars points shapes g) (sym e)
      (record {
        vars_kept = h.vars_kept;
        points_kept = length-changed_at (pushed edge) old.flow.points edge.to ∙ h.points_kept;
        shapes_kept = h.shapes_kept;
      })

  pub size_fact : (old new : GraphTables) (point shape : ℕ) (source : List Binding) → IsSize vars points shapes old → IsWithFact old point shape source new → IsSize vars points shapes new
  size_fact old new point shape source h w =
      subst (λ g. IsSize vars points shapes g) (sym w.is)
      (record { vars_kept = h.vars_kept; points_kept = h.points_kept; shapes_kept = h.shapes_kept })
