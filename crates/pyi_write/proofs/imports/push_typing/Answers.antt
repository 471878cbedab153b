use Rattle.std.proofs.Common.{arith}
use Rattle.pyi_write.proofs.Joined.{some_names}
use Rattle.pyi_write.proofs.imports.push_typing.Goals as goal

pub returns-in_default : goal.returns-in_default
returns-in_default c = rw (← some_names c.args.names.now (omega arith)) c.push_typing_line.ensures
