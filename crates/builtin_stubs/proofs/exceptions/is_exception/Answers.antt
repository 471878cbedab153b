use Rattle.std.proofs.Common.{◌∙◌, ap}
use Rattle.std.specs.List.{list_any}
use Rattle.std.specs.Str.{bytes_eq}
use Rattle.builtin_stubs.proofs.ClassLemmas.{classes_are}
use Rattle.builtin_stubs.proofs.exceptions.is_exception.Goals as goal

pub returns : goal.returns
returns c = c.is_class_among.ensures ∙ ap (list_any (bytes_eq c.args.name.now)) (classes_are c.exception_chains.result.now c.exception_chains.ensures)
