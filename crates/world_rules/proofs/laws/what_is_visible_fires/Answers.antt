-- A walk shows what its own memory has.
use Rattle.world_rules.proofs.Extending.{visible_fires, walk_fires}
use Rattle.world_rules.proofs.laws.what_is_visible_fires.Goals as goal

pub returns-clause-visible : goal.returns-clause-visible
returns-clause-visible c = λ s items b place depth o r shapes k st is q a v. visible_fires s items b place depth o r shapes k st is q a v

pub returns-clause-walk : goal.returns-clause-walk
returns-clause-walk c = λ s items b place depth o r shapes m k st is q a w. walk_fires s items b place depth o r shapes m k st is q a w
