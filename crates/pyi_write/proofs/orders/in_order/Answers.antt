use Rattle.std.proofs.Common.{List, ℕ, Bor, ap, ◌∙◌}
use Rattle.std.proofs.lemmas.List.Filters.{dedup_is}
use Rattle.pyi_write.specs.Orders.{in_order}
use Rattle.pyi_write.proofs.RisingTexts.{texts_of, sorted_texts}
use Rattle.pyi_write.proofs.orders.in_order.Goals as goal

pub returns : goal.returns
returns c =
    sorted_texts _ _ _ c.sort_unstable.ensures.permutation c.sort_unstable.ensures.sorted (dedup_is _ _ _ c.dedup.ensures.filtered)
    ∙ ap (λ (texts : List (Bor (List ℕ))). in_order (texts_of texts)) c.in_ok-ordered.ensures.items
