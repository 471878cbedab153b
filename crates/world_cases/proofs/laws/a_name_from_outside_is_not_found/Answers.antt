-- By the computed world.
use Rattle.std.proofs.Common.{refl}
use Rattle.std.specs.Ordering.{nat_cmp}
use Rattle.world_rules.specs.Findings.{finding_order}
use Rattle.world_rules.specs.Samples.{outside_negated}
use Rattle.world_cases.proofs.Telling.{least, are_findings, are_unchecked, one_rises, none_rise}
use Rattle.world_cases.proofs.Tables as tables
use Rattle.world_cases.proofs.Samples.{outside_table, outside_sampled}
use Rattle.world_cases.proofs.laws.a_name_from_outside_is_not_found.Goals as goal

pub returns-clause-least : goal.returns-clause-least
returns-clause-least c = (tables.world outside_negated outside_table, least outside_negated outside_table outside_sampled)

pub returns-clause-findings : goal.returns-clause-findings
returns-clause-findings c = are_findings outside_negated outside_table outside_sampled _ refl (none_rise finding_order)

pub returns-clause-unchecked : goal.returns-clause-unchecked
returns-clause-unchecked c = are_unchecked outside_negated outside_table outside_sampled _ refl (one_rises nat_cmp _)
