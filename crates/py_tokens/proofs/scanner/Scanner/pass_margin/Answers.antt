-- Leading space is ASCII.
use Rattle.std.proofs.Common.{subst}
use Rattle.std.specs.Str.{IsUtf8}
use Rattle.py_tokens.proofs.Cuts.{margin_cut}
use Rattle.py_tokens.proofs.scanner.Scanner.pass_margin.Goals as goal

pub skip-requires : goal.skip-requires
skip-requires c =
    margin_cut c.as_bytes-bytes.result.now c.args.self.now.rest.now c.skipped_len-from.result c.run_of_space-len.result c.as_bytes-bytes.ensures.value (subst IsUtf8 c.as_bytes-bytes.ensures.value c.as_bytes-bytes.ensures.utf8)
    c.skipped_len-from.ensures.exact c.run_of_space-len.ensures.exact
