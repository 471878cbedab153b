-- A literal ends after a quote, and a character that it can't hold begins with a first byte.
use Rattle.py_tokens.proofs.Cuts.{bad_at, closed_at}
use Rattle.py_tokens.proofs.front.literal.Goals as goal

pub range_from-requires : goal.range_from-requires
range_from-requires c = λ some. bad_at c.as_bytes.result.now c.args.text.now c.args.len c.in-Bad.at c.as_bytes.ensures.value c.utf8.text c.requires.cut c.in-Bad.ensures.within

pub returns-in-Closed-clause-fits : goal.returns-in-Closed-clause-fits
returns-in-Closed-clause-fits c =
    closed_at c.as_bytes.result.now c.args.text.now c.args.len c.in-Closed.more c.in-Closed.empty c.as_bytes.ensures.value c.utf8.text c.requires.cut c.requires.quoted c.in-Closed.ensures.within

pub returns-in-Closed-2-clause-fits : goal.returns-in-Closed-2-clause-fits
returns-in-Closed-2-clause-fits c =
    closed_at c.as_bytes.result.now c.args.text.now c.args.len c.in-Closed.more c.in-Closed.empty c.as_bytes.ensures.value c.utf8.text c.requires.cut c.requires.quoted c.in-Closed.ensures.within
