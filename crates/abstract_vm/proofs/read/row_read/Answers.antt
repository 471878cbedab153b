use Rattle.std.proofs.Common.{ap, ◌∙◌}
use Rattle.world_rules.specs.Rows.{row_of}
use Rattle.goal_solver.proofs.Sets.{if_ok_map}
use Rattle.abstract_vm.proofs.ShapesRead.{shapes_read}
use Rattle.abstract_vm.proofs.read.row_read.Goals as goal

pub returns : goal.returns
returns c =
    if_ok_map c.row_of.result _ _ (λ row e. e ∙ ap (row_of c.args.transfer) (shapes_read c.args.tables.now c.graph-graph.ensures.kept c.shapes.result.now c.shapes.ensures c.args.read.now c.requires.there)) c.row_of.ensures
