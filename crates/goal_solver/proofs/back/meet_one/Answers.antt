use Rattle.std.proofs.Common.{◌∙◌, subst}
use Rattle.goal_solver.specs.Searches.{IsKnown}
use Rattle.goal_solver.proofs.Sets.{if_ok_map, if_ok_at}
use Rattle.goal_solver.proofs.Wanted.{none_before, is_before, same_before}
use Rattle.goal_solver.proofs.Meetings.{extended_same, extended_as}
use Rattle.goal_solver.proofs.back.meet_one.Goals as goal

pub returns-in-None-clause-extended : goal.returns-in-None-clause-extended
returns-in-None-clause-extended c = extended_same _ _ _

pub returns-in-None-clause-met : goal.returns-in-None-clause-met
returns-in-None-clause-met c = λ r x b. absurd (none_before c.args.from c.args.target.now c.args.goals.now c.args.source.now c.args.pair c.as_slice.result.now (c.as_slice.ensures ∙ c.in_ok-list.ensures) c.in_ok-from_bindings.field-0 c.in_ok-from_bindings.ensures.joined c.in-None.is x b)

pub returns-clause-extended : goal.returns-clause-extended
returns-clause-extended c =
    if_ok_map c.meet.result _ _ (λ r e. extended_as _ _ _ _ _
    (λ x s. is_before c.args.from c.args.target.now c.args.goals.now c.args.source.now c.args.pair c.as_slice.result.now (c.as_slice.ensures ∙ c.in_ok-list.ensures) c.in_ok-from_bindings.field-0 c.in_ok-from_bindings.ensures.joined c.in-Some.goals c.in-Some.is x s) e) c.meet.ensures.extended

pub returns-clause-met : goal.returns-clause-met
returns-clause-met c = λ r x b.
    subst (λ z. IsKnown c.meet.new.self z) (same_before c.args.from c.args.target.now c.args.goals.now c.args.source.now c.args.pair c.as_slice.result.now (c.as_slice.ensures ∙ c.in_ok-list.ensures) c.in_ok-from_bindings.field-0 c.in_ok-from_bindings.ensures.joined c.in-Some.goals c.in-Some.is x b)
    (if_ok_at c.meet.result _ _ r c.meet.ensures.met)
