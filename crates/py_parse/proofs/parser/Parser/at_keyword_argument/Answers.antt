use Rattle.std.proofs.Common.{Bool, ◌&&◌, sym, ap, ◌∙◌}
use Rattle.py_tokens.specs.declared.token.Op.TheVariants as op
use Rattle.py_grammar.specs.Cursor.{past}
use Rattle.py_descent.specs.Codes.{symbol, at}
use Rattle.py_parse.proofs.Tokens.{at_named_is}
use Rattle.py_parse.proofs.parser.Parser.at_keyword_argument.Goals as goal

pub returns-then-at_word : goal.returns-then-at_word
returns-then-at_word c = c.before_assign.ensures ∙ sym (at_named_is c.args.self.now ∙ ap (λ (z : Bool). z && at (symbol op.Assign) (past c.args.self.now)) (sym c.at_word.ensures ∙ c.if-at_word.true))

pub returns-else-at_word : goal.returns-else-at_word
returns-else-at_word c = c.if-at_word.false ∙ sym (at_named_is c.args.self.now ∙ ap (λ (z : Bool). z && at (symbol op.Assign) (past c.args.self.now)) (sym c.at_word.ensures ∙ c.if-at_word.false))
