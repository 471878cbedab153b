use Rattle.std.proofs.Common.{ap, ◌∙◌}
use Rattle.world_rules.specs.Texts.{fault_text}
use Rattle.goal_solver.proofs.Sets.{if_ok_map}
use Rattle.abstract_vm.proofs.ShapesRead.{shapes_read}
use Rattle.abstract_vm.proofs.read.fault_read.Goals as goal

pub returns : goal.returns
returns c =
    if_ok_map c.fault_text.result _ _
    (λ told e. e ∙ ap (fault_text c.args.program.now.program c.args.fault) (shapes_read c.args.tables.now c.graph-graph.ensures.kept c.shapes.result.now c.shapes.ensures c.args.read.now c.requires.there)) c.fault_text.ensures
