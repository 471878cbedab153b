use Rattle.std.proofs.Common.{◌∙◌}
use Rattle.std.specs.Option.{option_and_then}
use Rattle.scope_rules.specs.Tables.{method_named}
use Rattle.py_scope.proofs.KeptLemmas.{told_some, told_nothing}
use Rattle.py_scope.proofs.classes.Classes.method.Goals as goal

pub returns-in-Some : goal.returns-in-Some
returns-in-Some c = c.named.ensures ∙ told_some (λ o. option_and_then (λ row. method_named row.methods c.args.name) o) c.self.inside.rows.items _ c.args.self.now _ c.args.class c.in-Some.row.now c.self.view_is c.as_slice.ensures.value c.place_of.ensures c.in-Some.ensures

pub returns-in-None : goal.returns-in-None
returns-in-None c = told_nothing (λ o. option_and_then (λ row. method_named row.methods c.args.name) o) c.self.inside.rows.items _ c.args.self.now _ c.args.class c.self.view_is c.as_slice.ensures.value c.place_of.ensures c.in-None.ensures
