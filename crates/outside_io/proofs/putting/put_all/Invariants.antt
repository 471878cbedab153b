-- So far the first bytes of the text were taken, and no put failed.
use Rattle.std.proofs.Common.{length, ◌-◌, ◌≡◌, ◌≤◌, take}
use Rattle.outside_io.specs.Outside.{Takes}
use Rattle.outside_io.proofs.putting.put_all.Given as goal

abbrev pub invariant-loop-done : goal.invariant-loop-done
invariant-loop-done g l = record {
  within : l.done ≤ length l.text;
  front : Takes (g.S.Sink.taken l.initial.sink) (g.S.Sink.taken l.sink) (take l.done l.text);
  quiet : g.S.Sink.faults l.sink ≡ g.S.Sink.faults l.initial.sink;
}

abbrev pub decreases-loop-done : goal.decreases-loop-done
decreases-loop-done g l = length l.text - l.done
