use Rattle.py_parse.proofs.Tokens.{said_within}
use Rattle.py_parse.proofs.parser.Parser.eat_augment.Goals as goal

pub advance_if-requires : goal.advance_if-requires
advance_if-requires c = said_within c.is_some.result c.augment_here-found.result _ c.args.self.now c.is_some.ensures c.augment_here-found.ensures
