use Rattle.std.proofs.Common.{◌≡◌, ◌∙◌, false, ap, subst}
use Rattle.std.specs.List.{Contains}
use Rattle.flow_graph.proofs.Same.{edge_exact, was_there}
use Rattle.flow_graph.proofs.point.Point.add.Goals as goal
use Rattle.flow_graph.proofs.point.Point.add.Goals.{in-Ok, in-Err}

pub returns-clause-known : goal.returns-clause-known
returns-clause-known c =
    elim c.match-insert.branch [
      | in-Ok w ↦ λ h.
          let e : w.in-Ok.fresh ≡ false = cc in
          let p = was_there _ edge_exact c.self.inside.into.keys _ c.args.edge _ w.in-Ok.ensures.added w.in-Ok.ensures.keys e in
          (subst (λ t. Contains t.into c.args.edge) c.self.view_is p.0, ap (λ ks. record { target = c.self.inside.target; root = c.self.inside.root; into = ks }) p.1 ∙ c.self.view_is)
      | in-Err w ↦ λ h. cc
    ]
