use Rattle.abstract_vm.proofs.OutputVars.{AreGlobalsBelow}
use Rattle.abstract_vm.proofs.output.globals.Given as goal

abbrev pub invariant-loop-number : goal.invariant-loop-number
invariant-loop-number l = AreGlobalsBelow l.tables.variables l.number l.found
