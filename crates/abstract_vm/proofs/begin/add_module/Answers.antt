-- The module's context is in every world.
use Rattle.abstract_vm.proofs.Beginnings.{module_keeps}
use Rattle.abstract_vm.proofs.begin.add_module.Goals as goal

pub returns-in-Ok-clause-tables : goal.returns-in-Ok-clause-tables
returns-in-Ok-clause-tables c = λ s. module_keeps c.args.tables.now c.add_context.new.self c.requires.nothing s (c.requires.tables s) c.in-Ok.ensures.keeps
