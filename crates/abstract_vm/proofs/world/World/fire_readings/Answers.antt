-- Each reading adds what it gives.
use Rattle.std.proofs.Common.{◌≡◌, Ok, Err}
use Rattle.abstract_vm.specs.Worlds.{items_in, point_in}
use Rattle.abstract_vm.specs.Steps.{GivesBy}
use Rattle.abstract_vm.proofs.AtPoint.{readings_more}
use Rattle.abstract_vm.proofs.Steps.{step_error, step_whole}
use Rattle.abstract_vm.proofs.world.World.fire_readings.Goals as goal

pub returns-in_err-more : goal.returns-in_err-more
returns-in_err-more g c =
    step_error c.from_residual.result c.from_residual.ensures.0
    (readings_more c.args.self.now c.loop-reading.self c.fire_reading.new.self c.args.point c.args.at.now c.args.readings.now c.loop-reading.reading-index c.reading-item.result c.loop-reading-test.true c.reading-item.is
    c.loop-reading.grown (Err c.in_err-more.field-0.0) c.loop-reading.invariant c.in_err-more.ensures)

pub loop-reading-preserved : goal.loop-reading-preserved
loop-reading-preserved g c =
    readings_more c.args.self.now c.loop-reading.self c.fire_reading.new.self c.args.point c.args.at.now c.args.readings.now c.loop-reading.reading-index c.reading-item.result c.loop-reading-test.true c.reading-item.is
    c.loop-reading.grown (Ok c.in_ok-more.more) c.loop-reading.invariant c.in_ok-more.ensures

pub returns : goal.returns
returns g c =
    step_whole (λ s r. GivesBy s (items_in c.args.self.now) r (point_in c.args.self.now c.args.point)) c.args.readings.now c.loop-reading.reading-index c.loop-reading.auto.reading-index-end c.loop-reading-test.false c.loop-reading.invariant
