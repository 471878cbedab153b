-- By the rules of depths.
use Rattle.world_rules.proofs.Counted.{fall_place, jump_place}
use Rattle.world_rules.proofs.laws.places_behind_have_depths.Goals as goal

pub returns-clause-fall : goal.returns-clause-fall
returns-clause-fall c = λ s b place depth o h needs f lt. fall_place s b place depth o h needs f lt

pub returns-clause-jump : goal.returns-clause-jump
returns-clause-jump c = λ s b place depth o x h needs e lt. jump_place s b place depth o x h needs e lt
