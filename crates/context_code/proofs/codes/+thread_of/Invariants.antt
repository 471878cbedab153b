-- A parent's number is below its child's.
use Rattle.context_code.proofs.codes.+thread_of.Given as goal

abbrev pub decreases-thread_of : goal.decreases-thread_of
decreases-thread_of l = l.context
