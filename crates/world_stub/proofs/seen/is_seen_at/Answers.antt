-- The goals are one that a fact gives.
use Rattle.std.proofs.Common.{List, [], ◌∷◌}
use Rattle.graph_queries.proofs.Given.{all_given}
use Rattle.world_stub.proofs.seen.is_seen_at.Goals as goal

pub is_seen_at_one-requires : goal.is_seen_at_one-requires
is_seen_at_one-requires g c = rw c.in-Some.is at (all_given c.args.world.now.rows.graph (c.args.var ∷ []) (c.args.shape ∷ []) (c.requires, tt) c.in_ok-goals.field-0 c.in_ok-goals.ensures.joined)
