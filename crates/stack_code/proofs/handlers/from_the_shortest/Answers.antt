use Rattle.std.proofs.Common.{rules, subst}
use Rattle.std.specs.List.Sorted.{IsStableByKey}
use Rattle.std.specs.Ordering.{nat_cmp}
use Rattle.std.proofs.lemmas.Fn.{always_returns_same}
use Rattle.std.proofs.lemmas.List.Sorted.{IsNonDecreasingBy-from_sort_by_key}
use Rattle.stack_code.specs.Painting.{length_of}
use Rattle.stack_code.proofs.handlers.from_the_shortest.Goals as goal

pub returns-clause-rising : goal.returns-clause-rising
returns-clause-rising c = IsNonDecreasingBy-from_sort_by_key length_of c.sort_by_key.new.self.items c.in_ok-sort_by_key.ensures.sorted (λ a r f k. search rules)

pub returns-clause-stable : goal.returns-clause-stable
returns-clause-stable c =
    subst (λ xs. IsStableByKey length_of nat_cmp xs c.sort_by_key.new.self.items) c.in_ok-sorted.ensures.items
    (c.in_ok-sort_by_key.ensures.stable length_of (always_returns_same _ _ _ (λ a r f k. search rules)))
