use Rattle.std.proofs.Common.{◌<◌, ◌∙◌, length, slice_get, sym, subst}
use Rattle.typegraph.specs.Graphs.{row_of, facts_of}
use Rattle.typegraph.proofs.Placing.{place_within}
use Rattle.goal_solver.specs.Backs.{AreAsked}
use Rattle.goal_solver.proofs.Sets.{if_ok_map}
use Rattle.goal_solver.proofs.Over.{by_no_fact, no_fact_by, by_some_fact, some_fact_by}
use Rattle.goal_solver.proofs.Meetings.{extended_as}
use Rattle.goal_solver.proofs.back.meet_over_edge.Goals as goal

pub returns-in-None-clause-extended : goal.returns-in-None-clause-extended
returns-in-None-clause-extended c =
    if_ok_map c.meet_with_source.result _ _ (λ r e. extended_as _ _ _ _ _
    (by_no_fact c.args.graph.now c.requires.valid c.args.goals.now c.args.edge.now c.items-list.ensures.once c.as_slice-pairs.result.now (subst (λ ps. AreAsked c.args.graph.now c.args.edge.now.asks ps) (sym c.as_slice-pairs.ensures) c.in_ok-asked.ensures) c.requires.edge c.assigned-target.result c.items-list.result.now c.assigned-target.ensures c.items-list.ensures.items (sym c.goal_of.ensures ∙ c.in-None.is)) e) c.meet_with_source.ensures.extended

pub returns-in-None-clause-met : goal.returns-in-None-clause-met
returns-in-None-clause-met c = λ r y o.
    c.meet_with_source.ensures.met r y (no_fact_by c.args.graph.now c.requires.valid c.args.goals.now c.args.edge.now c.items-list.ensures.once c.as_slice-pairs.result.now (subst (λ ps. AreAsked c.args.graph.now c.args.edge.now.asks ps) (sym c.as_slice-pairs.ensures) c.in_ok-asked.ensures) c.requires.edge c.assigned-target.result c.items-list.result.now c.assigned-target.ensures c.items-list.ensures.items (sym c.goal_of.ensures ∙ c.in-None.is) y o)

pub meet_with_facts-requires-clause-places : goal.meet_with_facts-requires-clause-places
meet_with_facts-requires-clause-places c = λ k i.
    subst (λ fs. k < length fs) (sym c.facts_at-facts.ensures.facts)
    (place_within (row_of (slice_get c.args.graph.now.facts c.args.edge.now.from)) (facts_of c.in-Some.shape (row_of (slice_get c.args.graph.now.facts c.args.edge.now.from))) c.places_of-places.result.now c.places_of-places.ensures k i)

pub returns-clause-extended : goal.returns-clause-extended
returns-clause-extended c =
    if_ok_map c.meet_with_facts.result _ _ (λ r e. extended_as _ _ _ _ _
    (by_some_fact c.args.graph.now c.requires.valid c.args.goals.now c.args.edge.now c.items-list.ensures.once c.as_slice-pairs.result.now (subst (λ ps. AreAsked c.args.graph.now c.args.edge.now.asks ps) (sym c.as_slice-pairs.ensures) c.in_ok-asked.ensures) c.requires.edge c.assigned-target.result c.items-list.result.now c.assigned-target.ensures c.items-list.ensures.items c.in-Some.shape c.facts_at-facts.result.now c.places_of-places.result.now c.facts_at-facts.ensures.facts c.places_of-places.ensures (sym c.goal_of.ensures ∙ c.in-Some.is)) e) c.meet_with_facts.ensures.extended

pub returns-clause-met : goal.returns-clause-met
returns-clause-met c = λ r y o.
    c.meet_with_facts.ensures.met r y (some_fact_by c.args.graph.now c.requires.valid c.args.goals.now c.args.edge.now c.items-list.ensures.once c.as_slice-pairs.result.now (subst (λ ps. AreAsked c.args.graph.now c.args.edge.now.asks ps) (sym c.as_slice-pairs.ensures) c.in_ok-asked.ensures) c.requires.edge c.assigned-target.result c.items-list.result.now c.assigned-target.ensures c.items-list.ensures.items c.in-Some.shape c.facts_at-facts.result.now c.places_of-places.result.now c.facts_at-facts.ensures.facts c.places_of-places.ensures (sym c.goal_of.ensures ∙ c.in-Some.is) y o)
