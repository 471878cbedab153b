-- What the map finds under the name, said of the shown texts.
use Rattle.outside_io.proofs.ShelfTexts.{text_of-found}
use Rattle.outside_io.proofs.memory_shelf.text_under.Goals as goal

pub returns : goal.returns
returns c = text_of-found c.get.result c.args.files.now c.args.name.now c.get.ensures.value
