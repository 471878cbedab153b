-- The tokens so far, and those of the rest, make the whole.
use Rattle.py_tokens.specs.Scanners.{scan_of}
use Rattle.py_tokens.proofs.Scans.{Continues}
use Rattle.py_tokens.proofs.Turns.{left}
use Rattle.py_tokens.proofs.scan.tokens.Given as goal

abbrev pub invariant-loop-scanner : goal.invariant-loop-scanner
invariant-loop-scanner l = Continues l.text (scan_of l.scanner) l.scanner.rest.now l.scanner.tokens

abbrev pub decreases-loop-scanner : goal.decreases-loop-scanner
decreases-loop-scanner l = left (scan_of l.scanner) l.scanner.rest.now
