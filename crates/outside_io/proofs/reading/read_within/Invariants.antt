-- What was read so far stands in the bytes, and is within the limit.
use Rattle.std.proofs.Common.{◌≡◌, ◌-◌, ◌≤◌, length, vec_len}
use Rattle.std.specs.Io.KnownBytes.{Consumes}
use Rattle.outside_io.proofs.reading.read_within.Given as goal

abbrev pub invariant-loop-count : goal.invariant-loop-count
invariant-loop-count g l = record {
  within : vec_len l.bytes ≤ l.limit;
  room : length l.buffer ≡ 4096;
  read : Consumes (g.F.Read.remaining l.initial.file) (g.F.Read.remaining l.file) l.bytes.items;
}

abbrev pub decreases-loop-count : goal.decreases-loop-count
decreases-loop-count g l = l.limit - vec_len l.bytes
