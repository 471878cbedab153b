use Rattle.block_compile.proofs.Finishing.{last_line_is}
use Rattle.block_compile.proofs.functions.last_line.Goals as goal

pub returns-in-Some : goal.returns-in-Some
returns-in-Some c = last_line_is 1 c.args.body.now c.in-Some.stmt.now c.in-Some.ensures.value
