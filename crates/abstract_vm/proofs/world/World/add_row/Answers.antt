-- First the results, then the entries.
use Rattle.std.proofs.Common.{Ok, Err}
use Rattle.abstract_vm.proofs.Loops.{row_step}
use Rattle.abstract_vm.proofs.Steps.{step_error}
use Rattle.abstract_vm.proofs.world.World.add_row.Goals as goal

pub returns-in_err-entries : goal.returns-in_err-entries
returns-in_err-entries c =
    step_error c.from_residual-in_err-entries.result c.from_residual-in_err-entries.ensures.0
    (row_step c.args.self.now c.add_results.new.self c.enter_row.new.self c.args.choice.now c.requires.choice c.args.row.now c.in_ok-results.results (Err c.in_err-entries.field-0.0) c.args.point c.args.goals.now c.requires.goals
    c.in_ok-results.ensures c.in_err-entries.ensures)

pub returns : goal.returns
returns c =
    row_step c.args.self.now c.add_results.new.self c.enter_row.new.self c.args.choice.now c.requires.choice c.args.row.now c.in_ok-results.results (Ok c.in_ok-entries.entries) c.args.point c.args.goals.now c.requires.goals
    c.in_ok-results.ensures c.in_ok-entries.ensures
