-- By walks through their code.
use Rattle.world_rules.proofs.Modules.{unknown_is_found, sum_is_found, negation_is_unchecked, sum_is_unchecked, changed_is_unchecked, order_is_unchecked, within_is_unchecked, negation_is_found, x_ends_with_int, x_ends_with_str, y_ends_with_int, y_ends_with_str, z_ends_with_int, x_ends_with_none, y_of_branch_ends_with_int}
use Rattle.world_rules.proofs.laws.worlds_tell_of_modules.Goals as goal

pub returns-clause-unknown : goal.returns-clause-unknown
returns-clause-unknown c = λ items closed. unknown_is_found items closed

pub returns-clause-sum : goal.returns-clause-sum
returns-clause-sum c = λ items closed. sum_is_found items closed

pub returns-clause-negation : goal.returns-clause-negation
returns-clause-negation c = λ items closed. negation_is_unchecked items closed

pub returns-clause-outside_sum : goal.returns-clause-outside_sum
returns-clause-outside_sum c = λ items closed. sum_is_unchecked items closed

pub returns-clause-outside_change : goal.returns-clause-outside_change
returns-clause-outside_change c = λ items closed. changed_is_unchecked items closed

pub returns-clause-outside_order : goal.returns-clause-outside_order
returns-clause-outside_order c = λ items closed. order_is_unchecked items closed

pub returns-clause-outside_within : goal.returns-clause-outside_within
returns-clause-outside_within c = λ items closed. within_is_unchecked items closed

pub returns-clause-loop_finding : goal.returns-clause-loop_finding
returns-clause-loop_finding c = λ items closed. negation_is_found items closed

pub returns-clause-loop_ends : goal.returns-clause-loop_ends
returns-clause-loop_ends c = λ items closed. (x_ends_with_int items closed, x_ends_with_str items closed, y_ends_with_int items closed, y_ends_with_str items closed, z_ends_with_int items closed)

pub returns-clause-branch_ends : goal.returns-clause-branch_ends
returns-clause-branch_ends c = λ items closed. (x_ends_with_none items closed, y_of_branch_ends_with_int items closed)
