use Rattle.std.proofs.Common.{◌∙◌}
use Rattle.scope_rules.specs.Scoped.{binds_in}
use Rattle.py_scope.proofs.KeptLemmas.{told_some, told_nothing}
use Rattle.py_scope.proofs.classes.Classes.binds.Goals as goal

pub returns-in-Some : goal.returns-in-Some
returns-in-Some c = c.contains.ensures ∙ told_some (λ o. binds_in o c.args.name) c.self.inside.rows.items _ c.args.self.now _ c.args.class c.in-Some.row.now c.self.view_is c.as_slice.ensures.value c.place_of.ensures c.in-Some.ensures

pub returns-in-None : goal.returns-in-None
returns-in-None c = told_nothing (λ o. binds_in o c.args.name) c.self.inside.rows.items _ c.args.self.now _ c.args.class c.self.view_is c.as_slice.ensures.value c.place_of.ensures c.in-None.ensures
