use Rattle.py_parse.proofs.Tokens.{at_within}
use Rattle.py_parse.proofs.parser.Parser.eat_indent.Goals as goal

pub advance_if-requires : goal.advance_if-requires
advance_if-requires c = at_within c.at_indent-found.result _ c.args.self.now c.at_indent-found.ensures
