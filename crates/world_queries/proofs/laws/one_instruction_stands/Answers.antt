-- A context has one code.
use Rattle.world_queries.proofs.Firing.{one_instruction}
use Rattle.world_queries.proofs.laws.one_instruction_stands.Goals as goal

pub returns : goal.returns
returns c = λ s b place depth other o p h k. one_instruction s b place depth other o p h k
