use Rattle.std.proofs.Common.{true, sym, ap}
use Rattle.std.specs.Option.{is_some}
use Rattle.py_parse.proofs.Tokens.{said_within}
use Rattle.py_parse.proofs.parser.Parser.name.Goals as goal

pub advance_if-requires : goal.advance_if-requires
advance_if-requires c = said_within true c.word.result _ c.args.self.now (sym (ap is_some c.in-Some.is)) c.word.ensures
