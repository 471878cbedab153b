use Rattle.std.proofs.Common.{◌≡◌, ◌+◌, ◌<◌, length}
use Rattle.stack_code.specs.Blocks.{blocks_of}
use Rattle.stack_code.proofs.Cuts.{Cut}
use Rattle.stack_code.proofs.cutting.cut.Given as goal

abbrev pub invariant-loop-place : goal.invariant-loop-place
invariant-loop-place l =
    record {
      going : l.place < length l.code.ops → Cut l.code (l.place + 1) l.runs l.first;
      done : l.place ≡ length l.code.ops → l.runs ≡ blocks_of l.code;
    }
