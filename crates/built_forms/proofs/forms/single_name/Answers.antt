-- Two targets and more are no single one.
use Rattle.std.proofs.Common.{sym}
use Rattle.built_forms.proofs.Singles.{none_of_many}
use Rattle.built_forms.proofs.forms.single_name.Goals as goal

pub returns-in-len2-up : goal.returns-in-len2-up
returns-in-len2-up c = sym (none_of_many c.args.targets.now c.in-len2-up.len_at_least)
