use Rattle.std.proofs.Common.{arith}
use Rattle.flow_graph.proofs.Valid.{valid_var}
use Rattle.flow_graph.proofs.flow.Flow.add_var.Goals as goal

pub invariant_of-self : goal.invariant_of-self
invariant_of-self c = valid_var _ c.self.invariant (omega (arith, c.self.invariant.vars, c.if-number.false))
