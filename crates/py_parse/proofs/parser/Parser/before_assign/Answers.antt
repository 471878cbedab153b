use Rattle.std.proofs.Common.{ap, ◌∙◌}
use Rattle.std.proofs.Common.{Option}
use Rattle.py_tokens.specs.declared.token.TokenKind.{TokenKind}
use Rattle.py_tokens.specs.declared.token.Op.TheVariants as op
use Rattle.py_grammar.specs.Cursor.{Cursor}
use Rattle.py_descent.specs.Codes.{symbol, is_in}
use Rattle.py_parse.proofs.Tokens.{at_behind}
use Rattle.py_parse.proofs.parser.Parser.before_assign.Goals as goal

pub returns : goal.returns
returns c =
    c.is_assign.ensures ∙ ap (λ (k : Option TokenKind). is_in (symbol op.Assign) k) c.kind_at.ensures
    ∙ at_behind (symbol op.Assign) c.args.self.now c.self.inside.tokens.now.tokens c.self.inside.limit c.self.inside.place c.saturating_add.result (ap (λ (z : Cursor). z.tokens) c.self.view_is) (ap (λ (z : Cursor). z.place) c.self.view_is) c.self.invariant c.saturating_add.ensures
