use Rattle.std.proofs.Common.{rules}
use Rattle.pyi_write.proofs.ShownNames.{shown_from_sort_by}
use Rattle.pyi_write.proofs.orders.sort.Goals as goal

pub returns : goal.returns
returns c = shown_from_sort_by _ _ c.in_ok-sort_by.ensures.sorted c.in_ok-sort_by.ensures.stable (λ a r q k. search rules)
