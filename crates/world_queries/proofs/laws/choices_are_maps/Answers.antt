-- The map in order of bindings that give no variable two shapes.
use Rattle.graph_queries.specs.Choices.{bindings}
use Rattle.world_queries.proofs.Joining.{joined_look, not_both, one_map}
use Rattle.world_queries.proofs.Choosing.{choice_map, map_choice, no_map}
use Rattle.std.proofs.Common.{sym, ◌∙◌}
use Rattle.world_queries.proofs.laws.choices_are_maps.Goals as goal

pub returns-clause-maps : goal.returns-clause-maps
returns-clause-maps c = λ s t n vars xs h ids goals k. choice_map s t n vars ids xs h goals k

pub returns-clause-chosen : goal.returns-clause-chosen
returns-clause-chosen c = λ s t n vars xs h shapes a g. map_choice s t n vars xs h shapes a g

pub returns-clause-same : goal.returns-clause-same
returns-clause-same c = λ vars ids one other j k. joined_look (bindings vars ids) one j ∙ sym (joined_look (bindings vars ids) other k)

pub returns-clause-one : goal.returns-clause-one
returns-clause-one c = λ g vars ids goals others j k. one_map (bindings vars ids) goals others j.rising k.rising j.joined k.joined

pub returns-clause-answer : goal.returns-clause-answer
returns-clause-answer c = λ vars ids goals j k. not_both (bindings vars ids) goals j k

pub returns-clause-clash : goal.returns-clause-clash
returns-clause-clash c = λ s t n vars xs h ids g j a. no_map s t n vars xs h ids g j a
