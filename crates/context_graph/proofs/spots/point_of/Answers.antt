use Rattle.std.proofs.Common.{◌≡◌, Some, None, Option, refl, slice_get}
use Rattle.std.specs.Option.{IfSome}
use Rattle.context_graph.specs.Places.{IsPointAt}
use Rattle.context_graph.proofs.spots.point_of.Goals as goal

if_some : {X : Type 0} {P Q : X → Type 0} (o : Option X) → ((x : X) → P x → Q x) → IfSome o P → IfSome o Q
if_some None f h = tt
if_some (Some x) f h = f x h

pub returns-in-Some-clause-found : goal.returns-in-Some-clause-found
returns-in-Some-clause-found c =
    if_some {P = λ id. slice_get c.args.tables.now.points id ≡ Some c.in-Some.spot} {Q = λ id. IsPointAt c.args.code.now c.args.tables.now c.args.context c.args.place id} c.point_at.result
    (λ id e. record { spot = c.in-Some.spot; is_spot = (c.in-Some.ensures c.in-Some.spot).0 refl; number = e }) c.point_at.ensures.found
