use Rattle.typegraph.proofs.Exact.{contains_fact}
use Rattle.typegraph.proofs.row.FactRow.has.Goals as goal

pub returns : goal.returns
returns c = rw (← c.self.view_is) (contains_fact c.self.inside.facts.keys c.args.fact.now c.contains.result c.contains.ensures)
