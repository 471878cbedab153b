use Rattle.goal_solver.proofs.Drafts.{IsSize, by_answer, size_fact, size_same, grows_fact, grows_same}
use Rattle.goal_solver.proofs.tests.draft.Draft.add_fact.Goals as goal

pub invariant_of-self : goal.invariant_of-self
invariant_of-self g c = record { vars_kept = kept.vars_kept; points_kept = kept.points_kept; shapes_kept = kept.shapes_kept }
  where
    was : IsSize c.args.self.now.vars c.args.self.now.points c.args.self.now.shapes c.args.self.now.graph
    was = record { vars_kept = c.args.self.now.vars_kept; points_kept = c.args.self.now.points_kept; shapes_kept = c.args.self.now.shapes_kept }

    kept : IsSize c.args.self.now.vars c.args.self.now.points c.args.self.now.shapes c.add_fact.new.self
    kept =
        by_answer _ _ _ _ _ c.add_fact.result c.add_fact.ensures.fresh c.add_fact.ensures.known c.add_fact.ensures.refused
        (size_fact _ _ _ c.args.self.now.graph c.add_fact.new.self _ _ _ was)
        (size_same _ _ _ c.args.self.now.graph c.add_fact.new.self was)

pub returns : goal.returns
returns g c =
    by_answer _ _ _ _ _ c.add_fact.result c.add_fact.ensures.fresh c.add_fact.ensures.known c.add_fact.ensures.refused
    (grows_fact c.args.self.now.graph c.add_fact.new.self _ _ _)
    (grows_same c.args.self.now.graph c.add_fact.new.self)
