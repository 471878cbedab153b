use Rattle.std.proofs.Common.{nat_eq}
use Rattle.indexmap.specs.IndexMap.{get}
use Rattle.py_scope.proofs.KeptLemmas.{first_more}
use Rattle.py_scope.proofs.methods.first_by_name.Goals as goal

pub loop-row-preserved : goal.loop-row-preserved
loop-row-preserved c =
    first_more (get nat_eq c.loop-row.first) (get nat_eq c.put_first.new.values) c.args.rows.now c.loop-row.row-index c.row-item.result c.loop-row-test.true c.row-item.is c.loop-row.invariant c.in_ok-put_first.ensures
