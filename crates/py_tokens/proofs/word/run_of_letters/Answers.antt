use Rattle.std.proofs.Common.{◌∙◌, rules}
use Rattle.std.proofs.lemmas.Fn.{always_returns_same}
use Rattle.py_tokens.proofs.WordLemmas.{word_found}
use Rattle.py_tokens.proofs.word.run_of_letters.Goals as goal

pub returns-clause-exact : goal.returns-clause-exact
returns-clause-exact c =
    c.unwrap_or.ensures ∙ word_found _ c.args.text.now c.find.result (always_returns_same _ _ _ (λ a r q k. search rules)) c.utf8.text c.find.ensures.cases
