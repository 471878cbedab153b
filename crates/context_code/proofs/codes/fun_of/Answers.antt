use Rattle.std.proofs.Common.{sym, ap}
use Rattle.world_rules.specs.Places.{fun_of}
use Rattle.context_code.proofs.Contexts.{fun_of_row, no_row}
use Rattle.context_code.proofs.codes.fun_of.Goals as goal

pub returns-in-Some : goal.returns-in-Some
returns-in-Some c = sym (fun_of_row c.args.tables.now c.in-Some.ensures.kept c.args.context c.in-Some.row (sym c.in-Some.ensures.row))

pub returns-in-None : goal.returns-in-None
returns-in-None c = sym (ap fun_of (no_row c.args.tables.now c.in-None.ensures.kept c.args.context (sym c.in-None.ensures.row)))
