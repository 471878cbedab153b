use Rattle.std.proofs.Common.{◌≡◌, ℕ, ◌<◌, None, drop, length, get_or}
use Rattle.stack_code.specs.Painting.{SkipsPainted}
use Rattle.stack_code.proofs.Painting.{either, first_over}
use Rattle.stack_code.proofs.handlers.handlers_of.Given as goal

abbrev pub invariant-loop-range : goal.invariant-loop-range
invariant-loop-range l =
    record {
      size : length l.handlers.items ≡ length l.code.ops;
      sizes : length l.next.items ≡ length l.code.ops;
      skips : SkipsPainted l.handlers.items l.next.items;
      told : (p : ℕ) → p < length l.code.ops → either (get_or l.handlers.items p None) (first_over (drop l.range-index l.range-items) p) ≡ first_over l.range-items p;
    }
