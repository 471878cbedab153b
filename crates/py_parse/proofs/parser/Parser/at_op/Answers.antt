use Rattle.std.proofs.Common.{sym, ◌∙◌}
use Rattle.py_parse.proofs.Tokens.{at_op_is, at_no_op, same_op}
use Rattle.py_parse.proofs.parser.Parser.at_op.Goals as goal

pub returns-in-Some : goal.returns-in-Some
returns-in-Some c = c.eq.ensures ∙ same_op c.in-Some.found c.args.op ∙ sym (at_op_is c.args.op c.in-Some.found c.args.self.now c.in-Some.ensures)

pub returns-in-None : goal.returns-in-None
returns-in-None c = sym (at_no_op c.args.op c.args.self.now c.in-None.ensures)
