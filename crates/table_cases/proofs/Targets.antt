-- A point's target is a variable of the flow.
use Rattle.std.proofs.Common.{◌≡◌, ℕ, ◌<◌, Option, Some, None, slice_get, refl, subst}
use Rattle.std.specs.Option.{IfSome}
use Rattle.flow_graph.specs.Flows.{PointRow, FlowTables, target_of}
use Rattle.flow_graph.specs.Validity.{IsThere, IsValid}

there : (target : Option ℕ) (vars : ℕ) → IsThere target vars → IfSome target (λ var. var < vars)
there None vars h = tt
there (Some var) vars h = h

pub target_there : (flow : FlowTables) → IsValid flow → (point : ℕ) → IfSome (target_of (slice_get flow.points point)) (λ var. var < flow.vars)
target_there flow valid point = go (slice_get flow.points point) refl
  where
    go : (o : Option PointRow) → slice_get flow.points point ≡ o → IfSome (target_of o) (λ var. var < flow.vars)
    go None e = tt
    go (Some row) e = there row.target flow.vars (valid.points point row e).target
