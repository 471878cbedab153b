use Rattle.std.proofs.Common.{rules}
use Rattle.std.specs.Ordering.{is_lt}
use Rattle.std.proofs.lemmas.Fn.{always_returns_same, dedup_same}
use Rattle.std.proofs.lemmas.List.MinMax.{ranks_by}
use Rattle.type_terms.specs.declared.member.Member.{Member}
use Rattle.type_terms.proofs.SortLemmas.{member_cmp, member_total, same_key, in_order}
use Rattle.type_terms.proofs.ordered.put_in_order.Goals as goal

pub returns : goal.returns
returns c =
    in_order c.args.members.now.items c.sort_by.new.self.items c.dedup_by.new.self.items c.in_ok-sort_by.ensures.permutation
    (c.in_ok-sort_by.ensures.sorted (λ m n. is_lt (member_cmp m n)) (ranks_by member_total (λ (m : Member). m)) (always_returns_same _ _ _ (λ a r f' q. search rules)))
    (dedup_same _ same_key _ (λ x y b f' x' y' k. search rules) _ _ c.dedup_by.ensures.filtered)
