use Rattle.std.proofs.Common.{ap}
use Rattle.world_tables.specs.Rows.{tables_of}
use Rattle.world_queries.specs.Choices.{shapes_by}
use Rattle.abstract_vm.proofs.Saying.{on_ok}
use Rattle.abstract_vm.proofs.Rowing.{fault_more}
use Rattle.abstract_vm.proofs.tell.tell_fault.Goals as goal

pub returns : goal.returns
returns c = λ row has.
    on_ok c.push.result _ _
    (λ e. fault_more c.args.judging.now.program.now.program row (shapes_by (tables_of c.args.judging.now.tables.now) c.args.read.now) c.args.fault c.in_ok-told.told has c.in_ok-told.ensures c.args.verdict.now
    (record { faults = c.push.new.self; unchecked = c.args.verdict.now.unchecked; heavy = c.args.verdict.now.heavy }) (ap (λ fs. record c.args.verdict.now { faults = fs }) e)) c.push.ensures.ok
