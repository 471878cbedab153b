use Rattle.goal_solver.proofs.Searching.{root_right}
use Rattle.goal_solver.proofs.seek.is_root.Goals as goal

pub returns-then-root : goal.returns-then-root
returns-then-root c = root_right _ (cc) c.args.state.now.goals _ (rw (← c.items.ensures.items) c.is_empty.ensures)
