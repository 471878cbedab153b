-- A fact whose source set is a map of the bindings that were handed in is the one that the rules give.
use Rattle.std.proofs.Common.{◌≡◌, ℕ, List, length, sym, subst}
use Rattle.std.specs.List.{All}
use Rattle.std.proofs.lemmas.List.Elements.{All-contains}
use Rattle.typegraph.specs.declared.fact.Fact.{Fact}
use Rattle.typegraph.specs.declared.goals.Binding.{Binding}
use Rattle.typegraph.specs.Graphs.{IsWithFact}
use Rattle.typegraph.specs.Validity as graph_validity
use Rattle.typegraph.proofs.Clashing.{joined_look, joined_there}
use Rattle.world_rules.specs.Sources.{Source}
use Rattle.world_rules.specs.Items.{a_fact}
use Rattle.world_rules.specs.Rules.{GivesAt}
use Rattle.world_tables.specs.Tables.{Tables, the_point, the_shape, memory_at, fact_at, items_of, AreBindings, AreTables}
use Rattle.world_tables.proofs.Memories.{same_memory}
use Rattle.world_tables.proofs.There.{count_vars, count_shapes}
use Rattle.world_tables.proofs.WithFact.{fact_keeps}

module _ (s : Source) (t : Tables) (a : AreTables s t) (source : List Binding) (there : All (graph_validity.IsBindingThere t.graph.flow.vars (length t.graph.truths)) source) where
  bindings : (bs : List Binding) → All (graph_validity.IsBindingThere t.graph.flow.vars (length t.graph.truths)) bs → AreBindings t bs
  bindings bs h b c =
      let x : graph_validity.IsBindingThere t.graph.flow.vars (length t.graph.truths) b = All-contains (graph_validity.IsBindingThere t.graph.flow.vars (length t.graph.truths)) bs b h c in
      record { var = count_vars s t a.numbering b.var x.var; shape = count_shapes s t a.numbering b.shape x.shape }

  pub keeps_with : (new : _) (point shape : ℕ) (w : IsWithFact t.graph point shape source new) → graph_validity.IsValid new →
      GivesAt s (items_of t) (the_point t point) (a_fact (record { point = the_point t point; shape = the_shape t shape; source = memory_at t source })) →
      AreTables s (record t { graph = new })
  keeps_with new point shape w valid g =
      let fact : Fact = record { shape = shape; source = w.map } in
      let all : All (graph_validity.IsBindingThere t.graph.flow.vars (length t.graph.truths)) w.map = joined_there (graph_validity.IsBindingThere t.graph.flow.vars (length t.graph.truths)) source w.map w.rising w.joined there in
      let m : memory_at t w.map ≡ memory_at t source =
      same_memory t a.numbering.variables_once w.map source (bindings w.map all) (bindings source there) (joined_look source w.map w.joined) in
      let f : record { point = the_point t point; shape = the_shape t shape; source = memory_at t source } ≡ fact_at t point fact = λ i. record { point = the_point t point; shape = the_shape t shape; source = sym m i } in
      subst (λ n. AreTables s (record t { graph = n })) (sym w.is) (fact_keeps s t a point fact (subst graph_validity.IsValid w.is valid) (subst (λ y. GivesAt s (items_of t) (the_point t point) (a_fact y)) f g))
