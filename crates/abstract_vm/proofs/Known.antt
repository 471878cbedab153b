-- What facts give has numbers, and is given still.
use Rattle.std.proofs.Common.{◌≡◌, ℕ, ◌<◌, Option, Some, None, List, [], ◌∷◌, length, slice_get, refl, ap, subst, ◌∙◌}
use Rattle.std.specs.List.{All, Contains}
use Rattle.std.proofs.lemmas.List.Elements.{All-nil, All-cons}
use Rattle.flow_graph.specs.Flows.{PointRow, target_of}
use Rattle.flow_graph.specs.Validity as flow_validity
use Rattle.typegraph.specs.declared.goals.Binding.{Binding}
use Rattle.typegraph.specs.Graphs.{GraphTables, IsGiven}
use Rattle.typegraph.specs.Maps.{IsJoined, IsRising}
use Rattle.typegraph.specs.Validity.{IsBindingThere, IsValid}
use Rattle.typegraph.proofs.Clashing.{joined_there}
use Rattle.graph_queries.specs.Choices.{AreGiven, bindings}
use Rattle.abstract_vm.specs.Worlds.{WorldState}
use Rattle.abstract_vm.specs.Steps.{NumbersStay}

module _ (g : GraphTables) (flow_valid : flow_validity.IsValid g.flow) (valid : IsValid g) where
  target_there : (p v : ℕ) (o : Option PointRow) → slice_get g.flow.points p ≡ o → target_of o ≡ Some v → v < g.flow.vars
  target_there p v None k e = cc
  target_there p v (Some row) k e = subst (λ t. flow_validity.IsThere t g.flow.vars) e (flow_valid.points p row k).target

  shape_there : (v x : ℕ) → IsGiven g v x → x < length g.truths
  shape_there v x h = subst (λ n. n < length g.truths) h.shape_is (valid.facts h.point h.fact h.is).shape

  binding_there : (v x : ℕ) → IsGiven g v x → IsBindingThere g.flow.vars (length g.truths) (record { var = v; shape = x })
  binding_there v x h = record { var = target_there h.point v (slice_get g.flow.points h.point) refl h.target; shape = shape_there v x h }

  pub given_there : (vars ids : List ℕ) → AreGiven g vars ids → All (λ id. id < length g.truths) ids
  given_there [] [] h = All-nil (λ id. id < length g.truths)
  given_there [] (x ∷ xs) h = absurd h
  given_there (v ∷ vs) [] h = absurd h
  given_there (v ∷ vs) (x ∷ xs) h = All-cons (λ id. id < length g.truths) x xs (shape_there v x h.0) (given_there vs xs h.1)

  pairs_there : (vars ids : List ℕ) → AreGiven g vars ids → All (IsBindingThere g.flow.vars (length g.truths)) (bindings vars ids)
  pairs_there [] [] h = All-nil (IsBindingThere g.flow.vars (length g.truths))
  pairs_there [] (x ∷ xs) h = absurd h
  pairs_there (v ∷ vs) [] h = absurd h
  pairs_there (v ∷ vs) (x ∷ xs) h = All-cons (IsBindingThere g.flow.vars (length g.truths)) (record { var = v; shape = x }) (bindings vs xs) (binding_there v x h.0) (pairs_there vs xs h.1)

  pub goals_known : (vars ids : List ℕ) (goals : List Binding) → AreGiven g vars ids → IsRising goals → IsJoined [] (bindings vars ids) (Some goals) → All (IsBindingThere g.flow.vars (length g.truths)) goals
  goals_known vars ids goals h rising joined = joined_there (IsBindingThere g.flow.vars (length g.truths)) (bindings vars ids) goals rising joined (pairs_there vars ids h)

-- ---- later

module _ (u v : WorldState) (n : NumbersStay u v) where
  one_given : (a b : ℕ) → IsGiven u.rows.graph a b → IsGiven v.rows.graph a b
  one_given a b h =
      record {
        point = h.point;
        fact = h.fact;
        target = ap (λ f. target_of (slice_get f.points h.point)) n.flow ∙ h.target;
        is = n.facts h.point h.fact h.is;
        shape_is = h.shape_is;
      }

  pub given_on : (vars ids : List ℕ) → AreGiven u.rows.graph vars ids → AreGiven v.rows.graph vars ids
  given_on [] [] h = h
  given_on [] (x ∷ xs) h = absurd h
  given_on (a ∷ vs) [] h = absurd h
  given_on (a ∷ vs) (x ∷ xs) h = (one_given a x h.0, given_on vs xs h.1)
