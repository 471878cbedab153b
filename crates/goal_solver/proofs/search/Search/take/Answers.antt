use Rattle.std.proofs.Common.{inr, refl}
use Rattle.goal_solver.proofs.Meetings.{added_met, noted_by}
use Rattle.goal_solver.proofs.search.Search.take.Goals as goal

pub returns-then-is_listed-clause-extended : goal.returns-then-is_listed-clause-extended
returns-then-is_listed-clause-extended c = noted_by _ _ _ _ _ refl refl refl c.in_ok-add.ensures (c.if-is_listed.ensures refl) refl refl refl

pub returns-then-is_listed-clause-met : goal.returns-then-is_listed-clause-met
returns-then-is_listed-clause-met c = inr (added_met _ _ _ _ c.in_ok-add.ensures)
