use Rattle.table_cases.proofs.tests.queries.is_seen_last.Given as goal

abbrev pub ghosts-seen_by : goal.ghosts-seen_by
ghosts-seen_by g a = record { name = a.blank.name; parts = a.blank.parts }
