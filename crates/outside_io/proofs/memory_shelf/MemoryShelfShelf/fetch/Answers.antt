-- The number is listed, or the map finds no text under the name.
use Rattle.std.proofs.Common.{inl, inr, rules}
use Rattle.outside_io.proofs.memory_shelf.MemoryShelfShelf.fetch.Goals as goal
use Rattle.outside_io.proofs.memory_shelf.MemoryShelfShelf.fetch.Goals.{then-not-is_listed+in_default-text_under, else-not-is_listed}

pub returns-clause-fails : goal.returns-clause-fails
returns-clause-fails c = λ _.
    rw (← c.self.view_is)
    (elim c.if-not-is_listed.branch [
      | then-not-is_listed+in_default-text_under w ↦ inr (search rules)
      | else-not-is_listed w ↦ inl (search rules)
    ])
