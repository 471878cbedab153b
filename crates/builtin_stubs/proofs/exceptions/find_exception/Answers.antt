use Rattle.std.proofs.Common.{◌∙◌, ap}
use Rattle.builtin_stubs.specs.Natives.{number_in}
use Rattle.builtin_stubs.proofs.ClassLemmas.{natives_are}
use Rattle.builtin_stubs.proofs.exceptions.find_exception.Goals as goal

pub returns : goal.returns
returns c = c.find_class.ensures ∙ ap (λ rows. number_in c.args.before rows c.args.name.now) (natives_are c.exception_chains.result.now c.exception_chains.ensures)
