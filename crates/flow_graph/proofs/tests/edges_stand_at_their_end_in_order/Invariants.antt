use Rattle.flow_graph.proofs.tests.edges_stand_at_their_end_in_order.Given as goal

abbrev pub ghosts-edges_into : goal.ghosts-edges_into
ghosts-edges_into g a = record { name = a.blank.name; parts = a.blank.parts }
