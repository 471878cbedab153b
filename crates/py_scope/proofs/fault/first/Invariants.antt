use Rattle.std.proofs.Common.{◌≡◌, drop}
use Rattle.scope_rules.specs.Faults.{first, first_from}
use Rattle.py_scope.proofs.fault.first.Given as goal

abbrev pub invariant-loop-fault : goal.invariant-loop-fault
invariant-loop-fault l = first_from l.best (drop l.fault-index l.faults) ≡ first l.faults
