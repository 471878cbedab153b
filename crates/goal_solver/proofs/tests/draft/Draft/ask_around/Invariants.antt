use Rattle.goal_solver.proofs.tests.draft.Draft.ask_around.Given as goal

abbrev pub ghosts-ask_around_by : goal.ghosts-ask_around_by
ghosts-ask_around_by g a = record { name = a.blank.name; parts = a.blank.parts }
