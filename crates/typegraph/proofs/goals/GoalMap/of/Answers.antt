use Rattle.std.proofs.Common.{◌≡◌, ◌∙◌, rules, ap, refl, subst, sym, [], length}
use Rattle.std.specs.List.Sorted.{IsPermutation, IsNonDecreasingBy}
use Rattle.std.proofs.lemmas.List.Sorted.{IsNonDecreasingBy-from_sort_by_key}
use Rattle.typegraph.specs.Maps.{IsJoined}
use Rattle.typegraph.proofs.Joins.{joined_sorted, refill_whole}
use Rattle.typegraph.proofs.Results.{mapped}
use Rattle.typegraph.proofs.goals.GoalMap.of.Goals as goal

pub thinned-requires : goal.thinned-requires
thinned-requires c =
    let whole : c.as_slice.result.now ≡ c.sort_by_key.new.self = c.as_slice.ensures ∙ refill_whole (length c.args.all.items) c.args.all.items c.sort_by_key.new.self refl (c.sort_by_key.ensures.len ∙ ap length c.as_mut_slice-sorted.ensures.value) in
    subst (λ xs. IsNonDecreasingBy (λ b. b.var) xs) (sym whole) (IsNonDecreasingBy-from_sort_by_key (λ b. b.var) c.sort_by_key.new.self c.in_ok-sort_by_key.ensures.sorted (λ a r q k. search rules))

pub returns-clause-joined : goal.returns-clause-joined
returns-clause-joined c =
    let whole : c.as_slice.result.now ≡ c.sort_by_key.new.self = c.as_slice.ensures ∙ refill_whole (length c.args.all.items) c.args.all.items c.sort_by_key.new.self refl (c.sort_by_key.ensures.len ∙ ap length c.as_mut_slice-sorted.ensures.value) in
    let p : IsPermutation c.args.all.items c.as_slice.result.now = subst (λ xs. IsPermutation xs c.as_slice.result.now) c.as_mut_slice-sorted.ensures.value (subst (λ xs. IsPermutation c.as_mut_slice-sorted.result.now xs) (sym whole) c.sort_by_key.ensures.permutation) in
    mapped (IsJoined [] c.as_slice.result.now) (IsJoined [] c.args.all.items) (joined_sorted c.args.all.items c.as_slice.result.now p) c.thinned.result c.thinned.ensures.joined
