-- The faults that are left are to be added.
use Rattle.std.proofs.Common.{length}
use Rattle.infer_driver.proofs.Adding.{IsAdding}
use Rattle.infer_driver.proofs.tell.add_faults.Given as goal

abbrev pub invariant-loop-fault : goal.invariant-loop-fault
invariant-loop-fault l = IsAdding l.line l.initial.left l.initial.findings.items l.findings.items l.left

abbrev pub decreases-loop-fault : goal.decreases-loop-fault
decreases-loop-fault l = length l.left
