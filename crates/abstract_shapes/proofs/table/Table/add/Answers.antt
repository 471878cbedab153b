use Rattle.abstract_shapes.proofs.table.Table.add.Goals as goal
use Rattle.abstract_shapes.proofs.table.Table.add.Goals.{in-Ok, in-Err}

pub returns-clause-fresh : goal.returns-clause-fresh
returns-clause-fresh c =
    elim c.match-insert.branch [
      | in-Ok w ↦ rw (w.result-is, ← c.self.view_is) w.in-Ok.ensures.added
      | in-Err w ↦ rw w.result-is tt
    ]
