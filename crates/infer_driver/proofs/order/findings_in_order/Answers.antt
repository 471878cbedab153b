use Rattle.std.proofs.Common.{ℕ, ◌∙◌, rules, subst, sym}
use Rattle.std.specs.Ordering.{is_lt, eq_by_cmp}
use Rattle.std.proofs.lemmas.Fn.{always_returns_same, dedup_same}
use Rattle.std.proofs.lemmas.List.MinMax.{ranks_by}
use Rattle.world_rules.specs.declared.finding.Finding.{Finding}
use Rattle.world_rules.specs.Findings.{finding_order}
use Rattle.infer_driver.proofs.FindingOrder.{finding_total, same_finding}
use Rattle.infer_driver.proofs.InOrder.{same_members, strictly}
use Rattle.infer_driver.proofs.order.findings_in_order.Goals as goal

pub returns-clause-members : goal.returns-clause-members
returns-clause-members c =
    λ x. same_members finding_total same_finding _ _ _ c.sort_unstable_by.ensures.permutation
    (c.from_vec.ensures ∙ dedup_same _ (eq_by_cmp finding_order) _ (λ x y b f' x' y' k. search rules) _ _ c.dedup_by.ensures.filtered) x

pub returns-clause-rise : goal.returns-clause-rise
returns-clause-rise c =
    strictly finding_total same_finding _ _
    (c.sort_unstable_by.ensures.sorted (λ x y. is_lt (finding_order x y)) (ranks_by finding_total (λ (f : Finding). f)) (always_returns_same _ _ _ (λ a r f' q. search rules)))
    (c.from_vec.ensures ∙ dedup_same _ (eq_by_cmp finding_order) _ (λ x y b f' x' y' k. search rules) _ _ c.dedup_by.ensures.filtered)
