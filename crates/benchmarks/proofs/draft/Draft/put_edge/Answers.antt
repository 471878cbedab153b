use Rattle.benchmarks.proofs.Sizes.{IsSize, by_answer, size_edge, size_same}
use Rattle.benchmarks.proofs.draft.Draft.put_edge.Goals as goal

pub invariant_of-self : goal.invariant_of-self
invariant_of-self c = record { vars_kept = kept.vars_kept; points_kept = kept.points_kept; shapes_kept = kept.shapes_kept }
  where
    was : IsSize c.args.self.now.vars c.args.self.now.points c.args.self.now.shapes c.args.self.now.graph
    was = record { vars_kept = c.args.self.now.vars_kept; points_kept = c.args.self.now.points_kept; shapes_kept = c.args.self.now.shapes_kept }

    kept : IsSize c.args.self.now.vars c.args.self.now.points c.args.self.now.shapes c.add_edge.new.self
    kept =
        by_answer _ _ _ _ _ c.add_edge.result c.add_edge.ensures.fresh c.add_edge.ensures.known c.add_edge.ensures.refused
        (size_edge _ _ _ c.args.self.now.graph c.add_edge.new.self c.args.edge was)
        (size_same _ _ _ c.args.self.now.graph c.add_edge.new.self was)
