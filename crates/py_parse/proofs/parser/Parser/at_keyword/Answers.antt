use Rattle.std.proofs.Common.{sym, ◌∙◌}
use Rattle.py_parse.proofs.Tokens.{at_word_is, at_no_word, same_word}
use Rattle.py_parse.proofs.parser.Parser.at_keyword.Goals as goal

pub returns-in-Some : goal.returns-in-Some
returns-in-Some c = c.eq.ensures ∙ same_word c.in-Some.found c.args.keyword ∙ sym (at_word_is c.args.keyword c.in-Some.found c.args.self.now c.in-Some.ensures)

pub returns-in-None : goal.returns-in-None
returns-in-None c = sym (at_no_word c.args.keyword c.args.self.now c.in-None.ensures)
