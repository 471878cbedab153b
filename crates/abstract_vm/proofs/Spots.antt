-- The context of a point that is there is there.
use Rattle.std.proofs.Common.{◌≡◌, ℕ, zero, suc, ◌<◌, Some, None, List, [], ◌∷◌, length, slice_get, sym, subst, arith}
use Rattle.graph_walks.proofs.Lists.{got}
use Rattle.flow_graph.specs.declared.context.Context.{Context as ContextRow}
use Rattle.world_tables.specs.declared.spot.PointSpot.{PointSpot}
use Rattle.world_tables.specs.Rows.{WorldRows, IsKept}

not_none : {X : Type 0} (xs : List X) (k : ℕ) → k < length xs → slice_get xs k ≡ None → ⊥
not_none [] k l e = omega (arith, l)
not_none (x ∷ xs) zero l e = cc
not_none (x ∷ xs) (suc k) l e = not_none xs k (omega (arith, l)) e

pub context_there : (rows : WorldRows) → IsKept rows → (point : ℕ) (at : PointSpot) → slice_get rows.points point ≡ Some at → (contexts : List ContextRow) → contexts ≡ rows.graph.flow.contexts → slice_get contexts at.context ≡ None → ⊥
context_there rows kept point at h contexts same =
    not_none contexts at.context (subst (λ cs. at.context < length cs) (sym same) (kept.points_there at (got rows.points point at h)))
