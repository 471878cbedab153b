-- The map of a choice has only what facts give.
use Rattle.std.proofs.Common.{◌≡◌, ℕ, Option, Some, None, List, [], ◌∷◌, ◌⊎◌, inl, inr, IfSome, subst, sym}
use Rattle.std.specs.List.{Contains}
use Rattle.graph_walks.specs.Worlds.{AllGiven}
use Rattle.graph_walks.proofs.Lists.{empty, first_or_later}
use Rattle.typegraph.specs.declared.goals.Binding.{Binding}
use Rattle.typegraph.specs.Graphs.{GraphTables, IsGiven}
use Rattle.typegraph.specs.Maps.{look, IsJoined, joined}
use Rattle.typegraph.proofs.Joins.{only_list}
use Rattle.goal_solver.specs.Graphs.{world_of}
use Rattle.goal_solver.proofs.Tables.{gives_by_given}
use Rattle.graph_queries.specs.Choices.{AreGiven, bindings}

each_given : (g : GraphTables) (vars shapes : List ℕ) → AreGiven g vars shapes → (b : Binding) → Contains (bindings vars shapes) b → IsGiven g b.var b.shape
each_given g [] [] h b c = empty b c
each_given g [] (s ∷ ss) h b c = absurd h
each_given g (v ∷ vs) [] h b c = absurd h
each_given g (v ∷ vs) (s ∷ ss) h b c = go (first_or_later (record { var = v; shape = s }) b (bindings vs ss) c) (each_given g vs ss h.1 b)
  where
    go : (b ≡ record { var = v; shape = s }) ⊎ Contains (bindings vs ss) b → (Contains (bindings vs ss) b → IsGiven g b.var b.shape) → IsGiven g b.var b.shape
    go (inl e) more = subst (λ x. IsGiven g x.var x.shape) (sym e) h.0
    go (inr d) more = more d

pub all_given : (g : GraphTables) (vars shapes : List ℕ) → AreGiven g vars shapes → (o : Option (List Binding)) → IsJoined [] (bindings vars shapes) o → IfSome o (λ goals. AllGiven (world_of g) (look goals))
all_given g vars shapes h (Some goals) (joined is) =
    record { at = λ v s e. gives_by_given g v s (each_given g vars shapes h (record { var = v; shape = s }) (only_list (bindings vars shapes) v s ((is v s).0 e))) }
all_given g vars shapes h None j = _
