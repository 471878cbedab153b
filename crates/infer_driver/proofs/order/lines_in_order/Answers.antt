use Rattle.std.proofs.Common.{ℕ, ◌∙◌, rules, subst, sym}
use Rattle.std.specs.Ordering.{is_lt, eq_by_cmp}
use Rattle.std.proofs.lemmas.Fn.{always_returns_same, dedup_same}
use Rattle.std.proofs.lemmas.List.MinMax.{ranks_by}
use Rattle.std.specs.Ordering.{nat_cmp}
use Rattle.std.proofs.lemmas.Cmp.{nat_cmp_total}
use Rattle.world_stub.proofs.Numbers.{same_line}
use Rattle.infer_driver.proofs.InOrder.{same_members, strictly}
use Rattle.infer_driver.proofs.order.lines_in_order.Goals as goal

pub returns-clause-members : goal.returns-clause-members
returns-clause-members c =
    λ x. same_members nat_cmp_total same_line _ _ _ c.sort_unstable_by.ensures.permutation
    (c.from_vec.ensures ∙ dedup_same _ (eq_by_cmp nat_cmp) _ (λ x y b f' x' y' k. search rules) _ _ c.dedup_by.ensures.filtered) x

pub returns-clause-rise : goal.returns-clause-rise
returns-clause-rise c =
    strictly nat_cmp_total same_line _ _
    (c.sort_unstable_by.ensures.sorted (λ x y. is_lt (nat_cmp x y)) (ranks_by nat_cmp_total (λ (line : ℕ). line)) (always_returns_same _ _ _ (λ a r f' q. search rules)))
    (c.from_vec.ensures ∙ dedup_same _ (eq_by_cmp nat_cmp) _ (λ x y b f' x' y' k. search rules) _ _ c.dedup_by.ensures.filtered)
