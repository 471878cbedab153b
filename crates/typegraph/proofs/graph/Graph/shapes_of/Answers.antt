use Rattle.std.proofs.Common.{sym, subst}
use Rattle.std.specs.List.{Contains}
use Rattle.typegraph.specs.Graphs.{IsGiven}
use Rattle.typegraph.proofs.graph.Graph.shapes_of.Goals as goal

pub returns-clause-given : goal.returns-clause-given
returns-clause-given c = λ s. (
  λ h. subst (λ t. IsGiven t c.args.var s) c.self.view_is (c.self.invariant.given.sound c.args.var s (subst (λ row. Contains row s) c.shapes_of.ensures h)),
  λ i. subst (λ row. Contains row s) (sym c.shapes_of.ensures) (c.self.invariant.given.complete c.args.var s (subst (λ t. IsGiven t c.args.var s) (sym c.self.view_is) i)),
)
