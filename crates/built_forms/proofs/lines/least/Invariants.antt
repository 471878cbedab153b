-- The least so far, and the lines that are left.
use Rattle.std.proofs.Common.{◌≡◌, drop}
use Rattle.built_forms.specs.Least.{least, least_from}
use Rattle.built_forms.proofs.lines.least.Given as goal

abbrev pub invariant-loop-line : goal.invariant-loop-line
invariant-loop-line l = least_from l.least (drop l.line-index l.lines) ≡ least l.lines
