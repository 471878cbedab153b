-- Each is contained in the other.
use Rattle.world_rules.proofs.Told.{same_items, same_reported}
use Rattle.world_rules.proofs.OneReport.{one_findings, one_unchecked, one_heavy}
use Rattle.world_rules.proofs.laws.least_worlds_tell_the_same.Goals as goal

pub returns-clause-items : goal.returns-clause-items
returns-clause-items c = λ s items more l m. same_items s items more l m

pub returns-clause-findings : goal.returns-clause-findings
returns-clause-findings c = λ s items more l m one other. one_findings s items more l m one other

pub returns-clause-unchecked : goal.returns-clause-unchecked
returns-clause-unchecked c = λ s items more l m one other. one_unchecked s items more l m one other

pub returns-clause-heavy : goal.returns-clause-heavy
returns-clause-heavy c = λ s items more l m one other. one_heavy s items more l m one other

pub returns-clause-reported : goal.returns-clause-reported
returns-clause-reported c = λ s items more l m. same_reported s items more l m
