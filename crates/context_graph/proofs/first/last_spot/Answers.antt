use Rattle.context_graph.proofs.Firsts.{last_if}
use Rattle.context_graph.proofs.first.last_spot.Goals as goal

pub returns-else-count-eq0-clause-last : goal.returns-else-count-eq0-clause-last
returns-else-count-eq0-clause-last c =
    last_if c.args.tables.now.points c.point_count-count.result c.new.result c.point_spot.result c.kept.ensures.kept.points_in_order c.point_count-count.ensures c.if-count-eq0.false c.new.ensures c.point_spot.ensures
