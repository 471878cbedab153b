use Rattle.std.proofs.Common.{◌≡◌, ℕ, ◌<◌, true}
use Rattle.shape_sets.specs.Planes.{holds}
use Rattle.shape_sets.proofs.planes.has_more.Given as goal

abbrev pub invariant-loop-place : goal.invariant-loop-place
invariant-loop-place l = (k : ℕ) → k < l.place → holds l.held k ≡ true → holds l.others k ≡ true
