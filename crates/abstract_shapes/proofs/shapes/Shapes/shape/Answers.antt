use Rattle.abstract_shapes.proofs.NumberLemmas.{shape_lent, receiver_lent, given_lent}
use Rattle.abstract_shapes.proofs.shapes.Shapes.shape.Goals as goal

pub returns-clause-shape : goal.returns-clause-shape
returns-clause-shape c =
    let told = rw c.number.ensures at c.get_index.ensures.key in
    rw (← c.self.view_is) (shape_lent c.self.inside.rows.keys c.self.invariant c.args.id c.get_index.result told)

pub returns-clause-receiver : goal.returns-clause-receiver
returns-clause-receiver c =
    let told = rw c.number.ensures at c.get_index.ensures.key in
    receiver_lent c.self.inside.rows.keys c.self.invariant c.args.id c.get_index.result told

pub returns-clause-given : goal.returns-clause-given
returns-clause-given c =
    let told = rw c.number.ensures at c.get_index.ensures.key in
    given_lent c.self.inside.rows.keys c.self.invariant c.args.id c.get_index.result told
