-- What the map's insert says of its keys, said of the shown texts.
use Rattle.outside_io.proofs.ShelfTexts.{text_of-added, text_of-others}
use Rattle.outside_io.proofs.memory_shelf.MemoryShelf.add.Goals as goal

pub returns-clause-added : goal.returns-clause-added
returns-clause-added c =
    rw (← c.in_ok-name.ensures.ok, ← c.in_ok-text.ensures.items)
    (text_of-added _ c.self.inside.files c.insert.new.self c.in_ok-text.text c.in_ok-insert.ensures.updates)

pub returns-clause-others : goal.returns-clause-others
returns-clause-others c = λ other apart.
    rw (← c.self.view_is)
    (text_of-others _ c.self.inside.files c.insert.new.self c.in_ok-text.text c.in_ok-insert.ensures.updates other (rw c.in_ok-name.ensures.ok apart))
