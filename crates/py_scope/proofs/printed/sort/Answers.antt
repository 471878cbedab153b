use Rattle.std.proofs.Common.{rules}
use Rattle.py_scope.proofs.Sorting.{in_order_from_sort_by}
use Rattle.py_scope.proofs.printed.sort.Goals as goal

pub returns : goal.returns
returns c = in_order_from_sort_by c.args.names.now _ _ c.in_ok-sort_by.ensures.sorted c.in_ok-sort_by.ensures.stable (λ a r q k. search rules)
