use Rattle.benchmarks.proofs.Sizes.{IsSize, by_answer, size_fact, size_same}
use Rattle.benchmarks.proofs.draft.Draft.put_fact.Goals as goal

pub invariant_of-self : goal.invariant_of-self
invariant_of-self c = record { vars_kept = kept.vars_kept; points_kept = kept.points_kept; shapes_kept = kept.shapes_kept }
  where
    was : IsSize c.args.self.now.vars c.args.self.now.points c.args.self.now.shapes c.args.self.now.graph
    was = record { vars_kept = c.args.self.now.vars_kept; points_kept = c.args.self.now.points_kept; shapes_kept = c.args.self.now.shapes_kept }

    kept : IsSize c.args.self.now.vars c.args.self.now.points c.args.self.now.shapes c.add_fact.new.self
    kept =
        by_answer _ _ _ _ _ c.add_fact.result c.add_fact.ensures.fresh c.add_fact.ensures.known c.add_fact.ensures.refused
        (λ w. size_fact _ _ _ c.args.self.now.graph c.add_fact.new.self _ _ _ was w)
        (size_same _ _ _ c.args.self.now.graph c.add_fact.new.self was)
