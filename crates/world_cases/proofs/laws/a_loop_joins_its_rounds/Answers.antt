-- By the computed world.
use Rattle.std.proofs.Common.{◌≡◌, refl, subst, sym, ◌⊎◌, inl, inr, [], ◌∷◌}
use Rattle.std.specs.List.{Contains}
use Rattle.std.specs.Ordering.{nat_cmp}
use Rattle.graph_walks.proofs.Lists.{only, first_or_later}
use Rattle.abstract_shapes.specs.Shapes.{int, str}
use Rattle.world_rules.specs.Stubs.{EndsWith}
use Rattle.world_rules.proofs.Modules.{x_ends_with_int, x_ends_with_str, y_ends_with_int, y_ends_with_str, z_ends_with_int}
use Rattle.world_rules.specs.Rules.{IsLeast}
use Rattle.world_rules.specs.Findings.{finding_order}
use Rattle.world_rules.specs.Samples.{loop_module}
use Rattle.world_cases.specs.Worlds.{loop_world}
use Rattle.world_cases.proofs.Telling.{least, are_findings, are_unchecked, one_rises, none_rise, none_heavy, ends_with}
use Rattle.world_cases.proofs.Samples.{loop_table, loop_sampled, loop_is}
use Rattle.world_cases.proofs.laws.a_loop_joins_its_rounds.Goals as goal

its_least : IsLeast loop_module loop_world
its_least = subst (λ z. IsLeast loop_module z) loop_is (least loop_module loop_table loop_sampled)

pub returns-clause-least : goal.returns-clause-least
returns-clause-least c = its_least

pub returns-clause-findings : goal.returns-clause-findings
returns-clause-findings c = are_findings loop_module loop_table loop_sampled _ refl (one_rises finding_order _) loop_world its_least

pub returns-clause-unchecked : goal.returns-clause-unchecked
returns-clause-unchecked c = are_unchecked loop_module loop_table loop_sampled _ refl (none_rise nat_cmp) loop_world its_least

pub returns-clause-heavy : goal.returns-clause-heavy
returns-clause-heavy c = none_heavy loop_module loop_table loop_sampled loop_world its_least

pub returns-clause-x : goal.returns-clause-x
returns-clause-x c t = (ends_with loop_module loop_table loop_sampled 0 _ refl loop_world its_least t, λ k. either (first_or_later int t (str ∷ []) k))
  where
    either : (t ≡ int) ⊎ Contains (str ∷ []) t → EndsWith loop_module loop_world 0 t
    either (inl e) = subst (λ z. EndsWith loop_module loop_world 0 z) (sym e) (x_ends_with_int loop_world its_least.closed)
    either (inr k) = subst (λ z. EndsWith loop_module loop_world 0 z) (sym (only str t k)) (x_ends_with_str loop_world its_least.closed)

pub returns-clause-y : goal.returns-clause-y
returns-clause-y c t = (ends_with loop_module loop_table loop_sampled 1 _ refl loop_world its_least t, λ k. either (first_or_later int t (str ∷ []) k))
  where
    either : (t ≡ int) ⊎ Contains (str ∷ []) t → EndsWith loop_module loop_world 1 t
    either (inl e) = subst (λ z. EndsWith loop_module loop_world 1 z) (sym e) (y_ends_with_int loop_world its_least.closed)
    either (inr k) = subst (λ z. EndsWith loop_module loop_world 1 z) (sym (only str t k)) (y_ends_with_str loop_world its_least.closed)

pub returns-clause-z : goal.returns-clause-z
returns-clause-z c t = (ends_with loop_module loop_table loop_sampled 2 _ refl loop_world its_least t, λ k. subst (λ z. EndsWith loop_module loop_world 2 z) (sym (only int t k)) (z_ends_with_int loop_world its_least.closed))
