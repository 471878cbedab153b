use Rattle.goal_solver.proofs.Drafts.{sound_after}
use Rattle.goal_solver.proofs.tests.draft.Draft.ask_around_by.Goals as goal

pub ask-requires-2 : goal.ask-requires-2
ask-requires-2 g c = sound_after _ _ _ _ c.grown.ensures c.add_fact.ensures c.ask.ensures.sound
