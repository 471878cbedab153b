use Rattle.std.proofs.Common.{◌≡◌, ℕ, ◌<◌, ◌≤◌, ◌||◌, length}
use Rattle.shape_sets.specs.Planes.{holds}
use Rattle.shape_sets.proofs.planes.add_all.Given as goal

abbrev pub invariant-loop-place : goal.invariant-loop-place
invariant-loop-place l = record {
  long : length l.held ≡ length l.initial.held;
  done : (k : ℕ) → k < l.place → holds l.held k ≡ (holds l.initial.held k || holds l.more k);
  others : (k : ℕ) → l.place ≤ k → holds l.held k ≡ holds l.initial.held k;
}
