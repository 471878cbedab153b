-- The source set is within the walk's own memory.
use Rattle.world_rules.proofs.Extending.{assigns_on, passes_on, jumps_on, told}
use Rattle.world_rules.proofs.laws.an_instruction_extends_a_walk.Goals as goal

pub returns-clause-assigns : goal.returns-clause-assigns
returns-clause-assigns c = λ s items closed. assigns_on s items closed

pub returns-clause-passes : goal.returns-clause-passes
returns-clause-passes c = λ s items closed. passes_on s items closed

pub returns-clause-jumps : goal.returns-clause-jumps
returns-clause-jumps c = λ s items closed. jumps_on s items closed

pub returns-clause-finds : goal.returns-clause-finds
returns-clause-finds c = λ s items. told s items
