-- A word and a numeral have some bytes, and end between characters.
use Rattle.std.proofs.Common.{sym, subst, ◌<◌, ◌∙◌}
use Rattle.py_tokens.specs.Fronts.{Fits}
use Rattle.py_tokens.proofs.Cuts.{numeral_fits}
use Rattle.py_tokens.proofs.FrontLemmas.{word_some}
use Rattle.py_tokens.proofs.front.token.Goals as goal

pub word-requires-clause-some : goal.word-requires-clause-some
word-requires-clause-some c = subst (λ n. 0 < n) (sym c.word_len.ensures.exact) (word_some c.args.text.now (sym c.begins_word.ensures ∙ c.if-begins_word.true))

pub returns-then-starts_numeral-clause-fits : goal.returns-then-starts_numeral-clause-fits
returns-then-starts_numeral-clause-fits c =
    subst (Fits c.args.text.now) (sym c.numeral.ensures)
    (numeral_fits c.args.text.now c.first_numeral.result.numeral c.first_numeral.result.len c.utf8.text c.first_numeral.ensures.within.0 c.first_numeral.ensures.within.1 c.first_numeral.ensures.ascii)
