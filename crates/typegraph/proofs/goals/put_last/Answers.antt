use Rattle.std.proofs.Common.{◌<◌, subst}
use Rattle.std.specs.List.{All, Contains}
use Rattle.typegraph.specs.Maps.{last}
use Rattle.typegraph.proofs.Joins.{put_stands}
use Rattle.typegraph.proofs.goals.put_last.Goals as goal

pub returns-in-Some : goal.returns-in-Some
returns-in-Some c = put_stands c.args.bindings.now.items c.args.binding c.in-Some.shape _ (subst (λ xs. Contains xs (record { var = c.args.binding.var; shape = c.in-Some.shape })) c.as_slice.ensures c.in-Some.ensures.found) c.eq.ensures

pub returns-in_ok-push-in-None : goal.returns-in_ok-push-in-None
returns-in_ok-push-in-None c = rw c.in_ok-push-in-None.ensures.ok (last (subst (λ xs. All (λ b. b.var < c.args.binding.var) xs) c.as_slice.ensures (c.last_shape.ensures.none c.in-None.is)))
