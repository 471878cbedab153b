use Rattle.std.proofs.Common.{◌≡◌, ℕ, ◌-◌, ◌<◌, ◌≤◌, None, length, get_or}
use Rattle.stack_code.proofs.Painting.{filled, IsReaching}
use Rattle.stack_code.proofs.handlers.paint.Given as goal

abbrev pub invariant-loop-place : goal.invariant-loop-place
invariant-loop-place l =
    record {
      from : l.range.first ≤ l.place;
      reach : IsReaching l.handlers l.next l.place l.range.past;
      told : (p : ℕ) → p < length l.handlers → get_or l.handlers p None ≡ filled l.range l.place p (get_or l.initial.handlers p None);
    }

abbrev pub decreases-loop-place : goal.decreases-loop-place
decreases-loop-place l = l.range.past - l.place
