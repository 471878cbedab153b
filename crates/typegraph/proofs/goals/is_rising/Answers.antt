use Rattle.std.proofs.Common.{rules, nat_lt}
use Rattle.std.proofs.lemmas.List.Sorted.{answers_always}
use Rattle.typegraph.proofs.Joins.{rising_answer}
use Rattle.typegraph.proofs.goals.is_rising.Goals as goal

pub returns : goal.returns
returns c = rising_answer c.args.list.now c.is_sorted_by.result (c.is_sorted_by.ensures.cases (λ a b. nat_lt a.var b.var) (answers_always _ _ _ (λ f a r g called. search rules)))
