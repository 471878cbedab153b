use Rattle.pyi_write.proofs.Sorting.{names_are_sorted, texts_are_sorted}
use Rattle.pyi_write.proofs.laws.lists_are_sorted.Goals as goal

pub returns : goal.returns
returns c = record { names = names_are_sorted; texts = texts_are_sorted }
