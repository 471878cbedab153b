use Rattle.std.proofs.Common.{◌∙◌, sym, ap, slice_get}
use Rattle.flow_graph.proofs.Same.{found_at}
use Rattle.world_tables.proofs.Exact.{point_exact}
use Rattle.world_tables.proofs.points.Points.find.Goals as goal

pub returns-in-Some-clause-found : goal.returns-in-Some-clause-found
returns-in-Some-clause-found c =
    ap (λ t. slice_get t c.new.result) (sym c.self.view_is) ∙ found_at _ point_exact c.self.inside.spots.keys c.args.spot.now _ _ c.new.ensures (sym c.get_index_of.ensures.index ∙ c.in-Some.is)
