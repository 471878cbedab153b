use Rattle.std.proofs.Common.{rules}
use Rattle.std.proofs.lemmas.Fn.{always_returns_same}
use Rattle.py_tokens.specs.Words.{may_begin_word}
use Rattle.py_tokens.proofs.WordLemmas.{first_found}
use Rattle.py_tokens.proofs.word.begins_word.Goals as goal

pub returns : goal.returns
returns c =
    first_found _ may_begin_word c.args.text.now c.starts_with.result (always_returns_same _ _ _ (λ a r q k. search rules)) c.utf8.text c.starts_with.ensures.cases
