use Rattle.py_meaning.proofs.RowKinds
use Rattle.py_meaning.proofs.laws.operators_keep_their_rows.Goals as goal

pub returns : goal.returns
returns c = record { binary = RowKinds.operators_keep_their_rows; unary = RowKinds.signs_keep_their_rows; order = RowKinds.orders_keep_their_rows }
