use Rattle.std.proofs.Common.{ap, arith}
use Rattle.py_grammar.specs.Cursor.{Cursor}
use Rattle.py_parse.proofs.Tokens.{place_fits}
use Rattle.py_parse.proofs.parser.Parser.advance_if.Goals as goal

pub overflow_add-self : goal.overflow_add-self
overflow_add-self c = omega (arith, place_fits c.self.inside.tokens.now.tokens c.self.inside.limit c.self.inside.place c.args.self.now (ap (λ (z : Cursor). z.tokens) c.self.view_is) (ap (λ (z : Cursor). z.place) c.self.view_is) (c.requires c.if-found.true) c.self.invariant)
