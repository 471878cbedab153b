use Rattle.std.proofs.Common.{◌≡◌, ◌∙◌, ◌++◌, ◌∷◌, [], if◌then◌else◌, nat_eq, ap, sym, subst, length}
use Rattle.std.specs.List.{Contains}
use Rattle.indexmap.specs.IndexSet.{insert_key}
use Rattle.flow_graph.proofs.Same.{inserted}
use Rattle.typegraph.specs.contracts.fact.FactPartialEq.TheImpl.{eq-value}
use Rattle.typegraph.specs.Graphs.{ArePlacesOf, push_fact}
use Rattle.typegraph.specs.Kept.{places_in}
use Rattle.typegraph.proofs.Exact.{fact_exact}
use Rattle.typegraph.proofs.Placing.{places_more}
use Rattle.typegraph.proofs.Results.{ok_then}
use Rattle.typegraph.proofs.row.FactRow.push.Goals as goal

keys : (c : goal.Joined-insert) → c.insert.new.self.keys ≡ c.self.inside.facts.keys ++ c.args.fact ∷ []
keys c =
    ok_then (c.insert.new.self.keys ≡ insert_key eq-value.it c.reserve.new.self.keys c.args.fact) c.insert.result (c.insert.ensures.succeeds c.in_ok-reserve.ensures.ok) c.insert.ensures.keys
    ∙ ap (λ ks. insert_key eq-value.it ks c.args.fact) c.in_ok-reserve.ensures.keys
    ∙ inserted eq-value.it fact_exact c.self.inside.facts.keys c.args.fact (subst (λ fs. Contains fs c.args.fact → ⊥) (sym c.self.view_is) c.requires)

pub invariant_of-self-2 : goal.invariant_of-self-2
invariant_of-self-2 c = λ s.
    subst (λ ks. ArePlacesOf ks s (places_in c.push.new.self s)) (sym (keys c))
    (places_more c.self.inside.facts.keys c.args.fact (places_in c.self.inside.places s) (places_in c.push.new.self s) s (c.self.invariant s)
    (c.in_ok-push.ensures.pushed s ∙ ap (λ n. if nat_eq s c.args.fact.shape then places_in c.self.inside.places s ++ n ∷ [] else places_in c.self.inside.places s) (c.len-place.ensures.len ∙ ap length c.in_ok-reserve.ensures.keys)))

pub returns-clause-pushed : goal.returns-clause-pushed
returns-clause-pushed c = keys c ∙ ap (push_fact c.args.fact) c.self.view_is
