use Rattle.std.proofs.Common.{slice_get}
use Rattle.typegraph.specs.Graphs.{row_of}
use Rattle.typegraph.proofs.Exact.{among_itself, itself_among}
use Rattle.typegraph.proofs.graph.Graph.has_fact.Goals as goal

pub returns : goal.returns
returns c = rw (← c.self.view_is) (
  λ t. itself_among (row_of (slice_get c.self.inside.facts.rows c.args.point)) c.args.fact.now (c.has.ensures.0 t),
  λ h. c.has.ensures.1 (among_itself (row_of (slice_get c.self.inside.facts.rows c.args.point)) c.args.fact.now c.items.ensures.rising (λ f d. (c.self.invariant.valid.facts c.args.point f d).rising) h),
)
