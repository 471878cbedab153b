use Rattle.py_parse.proofs.Rounds.{lone_name}
use Rattle.py_parse.proofs.parser.Parser.variable.Goals as goal

pub returns-clause-gives : goal.returns-clause-gives
returns-clause-gives c = rw (lone_name c.args.line c.in_ok-name.name c.args.self.now c.name.new.self c.in_ok-name.ensures.gives c.if-is_super.ensures) c.name_expr.ensures.gives
