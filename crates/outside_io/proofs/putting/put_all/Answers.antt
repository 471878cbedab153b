-- A put that takes a front of the rest leaves a longer front taken.
use Rattle.std.proofs.Common.{arith, ◌∙◌}
use Rattle.std.proofs.lemmas.List.{take_rest}
use Rattle.outside_io.proofs.TakesLemmas.{Takes-more}
use Rattle.outside_io.proofs.putting.put_all.Goals as goal

pub loop-done-preserved : goal.loop-done-preserved
loop-done-preserved g c = record {
  within = omega (arith, c.in-Ok.ensures.within);
  front = Takes-more _ _ _ _ _ _ c.loop-done.invariant.front (rw take_rest at c.in-Ok.ensures.took);
  quiet = c.in-Ok.ensures.quiet ∙ c.loop-done.invariant.quiet;
}
