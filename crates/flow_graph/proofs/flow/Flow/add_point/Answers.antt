use Rattle.std.proofs.Common.{arith, sym, subst}
use Rattle.flow_graph.specs.Validity.{IsThere}
use Rattle.flow_graph.proofs.Valid.{valid_point}
use Rattle.flow_graph.proofs.flow.Flow.add_point.Goals as goal
use Rattle.flow_graph.proofs.flow.Flow.add_point.Goals.{in-Ok, in-Err}

pub invariant_of-self : goal.invariant_of-self
invariant_of-self c =
    elim c.match-push.branch [
      | in-Ok w ↦ rw (w.in-Ok.ensures.items, c.new-point.ensures) (valid_point _ c.args.target c.args.root c.self.invariant
          (subst (λ t. IsThere c.args.target t.vars) (sym c.self.view_is) c.requires)
          (omega (arith, c.self.invariant.point_count, c.if-number.false, c.len-number.ensures)))
      | in-Err w ↦ rw w.in-Err.ensures.items c.self.invariant
    ]
