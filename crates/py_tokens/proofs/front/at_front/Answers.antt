-- A line end is ASCII.
use Rattle.py_tokens.proofs.Cuts.{line_end_fits}
use Rattle.py_tokens.proofs.front.at_front.Goals as goal

pub returns-then-line_end-gt0-clause-fits : goal.returns-then-line_end-gt0-clause-fits
returns-then-line_end-gt0-clause-fits c =
    line_end_fits c.as_bytes.result.now c.args.text.now c.line_end_len-line_end.result c.as_bytes.ensures.value c.utf8.text c.line_end_len-line_end.ensures.exact c.if-line_end-gt0.true
