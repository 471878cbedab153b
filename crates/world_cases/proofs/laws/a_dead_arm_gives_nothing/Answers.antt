-- By the computed world.
use Rattle.std.proofs.Common.{refl, subst, sym}
use Rattle.std.specs.Ordering.{nat_cmp}
use Rattle.graph_walks.proofs.Lists.{only}
use Rattle.abstract_shapes.specs.Shapes.{int, none}
use Rattle.world_rules.specs.Stubs.{EndsWith}
use Rattle.world_rules.proofs.Modules.{x_ends_with_none, y_of_branch_ends_with_int}
use Rattle.world_rules.specs.Rules.{IsLeast}
use Rattle.world_rules.specs.Findings.{finding_order}
use Rattle.world_rules.specs.Samples.{branch_module}
use Rattle.world_cases.specs.Worlds.{branch_world}
use Rattle.world_cases.proofs.Telling.{least, are_findings, are_unchecked, none_rise, none_heavy, ends_with}
use Rattle.world_cases.proofs.Samples.{branch_table, branch_sampled, branch_is}
use Rattle.world_cases.proofs.laws.a_dead_arm_gives_nothing.Goals as goal

its_least : IsLeast branch_module branch_world
its_least = subst (λ z. IsLeast branch_module z) branch_is (least branch_module branch_table branch_sampled)

pub returns-clause-least : goal.returns-clause-least
returns-clause-least c = its_least

pub returns-clause-findings : goal.returns-clause-findings
returns-clause-findings c = are_findings branch_module branch_table branch_sampled _ refl (none_rise finding_order) branch_world its_least

pub returns-clause-unchecked : goal.returns-clause-unchecked
returns-clause-unchecked c = are_unchecked branch_module branch_table branch_sampled _ refl (none_rise nat_cmp) branch_world its_least

pub returns-clause-heavy : goal.returns-clause-heavy
returns-clause-heavy c = none_heavy branch_module branch_table branch_sampled branch_world its_least

pub returns-clause-x : goal.returns-clause-x
returns-clause-x c t = (ends_with branch_module branch_table branch_sampled 0 _ refl branch_world its_least t, λ k. subst (λ z. EndsWith branch_module branch_world 0 z) (sym (only none t k)) (x_ends_with_none branch_world its_least.closed))

pub returns-clause-y : goal.returns-clause-y
returns-clause-y c t = (ends_with branch_module branch_table branch_sampled 1 _ refl branch_world its_least t, λ k. subst (λ z. EndsWith branch_module branch_world 1 z) (sym (only int t k)) (y_of_branch_ends_with_int branch_world its_least.closed))
