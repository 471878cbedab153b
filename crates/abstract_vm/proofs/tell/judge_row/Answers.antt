use Rattle.std.proofs.Common.{Some, ap, ◌∙◌}
use Rattle.world_tables.specs.Rows.{tables_of}
use Rattle.world_queries.specs.Choices.{shapes_by}
use Rattle.abstract_vm.proofs.Saying.{on_ok}
use Rattle.abstract_vm.proofs.Rowing.{row_more}
use Rattle.abstract_vm.proofs.tell.judge_row.Goals as goal

pub returns-in-Some : goal.returns-in-Some
returns-in-Some c =
    on_ok c.tell_fault.result _ _
    (row_more c.args.judging.now.program.now.program c.args.row.now (shapes_by (tables_of c.args.judging.now.tables.now) c.args.read.now) c.args.verdict.now c.mark.new.verdict c.tell_fault.new.verdict c.mark.ensures)
    (c.tell_fault.ensures c.args.row.now (c.in-Some.is ∙ ap Some c.in-Some.fault-is))
