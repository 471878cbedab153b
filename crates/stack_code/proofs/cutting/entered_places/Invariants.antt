use Rattle.std.proofs.Common.{◌≡◌, ℕ, ◌<◌, ◌||◌, false, drop, length, get_or}
use Rattle.stack_code.specs.Blocks.{entries, has_place}
use Rattle.stack_code.proofs.cutting.entered_places.Given as goal

abbrev pub invariant-loop-place : goal.invariant-loop-place
invariant-loop-place l =
    record {
      all : length l.entered.items ≡ length l.code.ops;
      told : (p : ℕ) → p < length l.code.ops → (get_or l.entered.items p false || has_place (entries l.code.ranges l.place (drop l.place l.code.ops)) p) ≡ has_place (entries l.code.ranges 0 l.code.ops) p;
    }
