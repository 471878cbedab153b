-- So many DEDENTs were given.
use Rattle.std.proofs.Common.{◌≡◌, ◌++◌, replicate}
use Rattle.py_tokens.specs.declared.token.TokenKind.TheVariants as kind
use Rattle.py_tokens.specs.Scanners.{scan_of}
use Rattle.py_tokens.proofs.scanner.Scanner.end_blocks.Given as goal

abbrev pub invariant-loop : goal.invariant-loop
invariant-loop l = (scan_of l.self ≡ scan_of l.initial.self) × (l.self.tokens ≡ l.initial.self.tokens ++ replicate l.counter (record { kind = kind.Dedent; span = l.span })) × (l.span ≡ l.initial.span)
