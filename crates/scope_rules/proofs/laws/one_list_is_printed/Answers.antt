use Rattle.scope_rules.proofs.OnePrinted.{printed_has, printed_are, printed_is}
use Rattle.scope_rules.proofs.laws.one_list_is_printed.Goals as goal

pub returns : goal.returns
returns c = record { members = printed_has; printed = printed_are; alone = printed_is }
