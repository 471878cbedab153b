use Rattle.std.proofs.Common.{◌≡◌, ℕ, ◌+◌, ◌<◌, length, get_or}
use Rattle.stack_code.proofs.handlers.places_behind.Given as goal

abbrev pub invariant-loop-place : goal.invariant-loop-place
invariant-loop-place l =
    record {
      size : length l.next.items ≡ l.place;
      behind : (p : ℕ) → p < l.place → get_or l.next.items p 0 ≡ p + 1;
    }
