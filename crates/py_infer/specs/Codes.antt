-- The exit status of each ending.
use Rattle.std.specs.Prelude.{ℕ}
use Rattle.py_infer.specs.declared.status.Status.{Status as Ending}
use Rattle.py_infer.specs.declared.status.Status.TheVariants.{Clean, Findings, Usage, Refused, ReadFault, WriteFault, TooLarge, Memory}

abbrev pub code_of : Ending → ℕ
code_of Clean = 0
code_of Findings = 1
code_of Usage = 2
code_of Refused = 3
code_of ReadFault = 4
code_of WriteFault = 5
code_of TooLarge = 6
code_of Memory = 7
