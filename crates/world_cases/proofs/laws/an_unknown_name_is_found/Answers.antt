-- By the computed world.
use Rattle.std.proofs.Common.{refl}
use Rattle.std.specs.Ordering.{nat_cmp}
use Rattle.world_rules.specs.Findings.{finding_order}
use Rattle.world_rules.specs.Samples.{unknown_name}
use Rattle.world_cases.proofs.Telling.{least, are_findings, are_unchecked, one_rises, none_rise}
use Rattle.world_cases.proofs.Tables as tables
use Rattle.world_cases.proofs.Samples.{unknown_table, unknown_sampled}
use Rattle.world_cases.proofs.laws.an_unknown_name_is_found.Goals as goal

pub returns-clause-least : goal.returns-clause-least
returns-clause-least c = (tables.world unknown_name unknown_table, least unknown_name unknown_table unknown_sampled)

pub returns-clause-findings : goal.returns-clause-findings
returns-clause-findings c = are_findings unknown_name unknown_table unknown_sampled _ refl (one_rises finding_order _)

pub returns-clause-unchecked : goal.returns-clause-unchecked
returns-clause-unchecked c = are_unchecked unknown_name unknown_table unknown_sampled _ refl (none_rise nat_cmp)
