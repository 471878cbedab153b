-- A look-up in the map is one in the rows.
use Rattle.std.proofs.Common.{sym, ap, ◌∙◌}
use Rattle.py_infer.specs.Stubs.{type_in}
use Rattle.py_infer.proofs.Rows.{type_in-rows_of}
use Rattle.py_infer.proofs.types.Types.get.Goals as goal

pub returns : goal.returns
returns c = c.copied.ensures ∙ c.get.ensures.value ∙ sym (type_in-rows_of c.self.inside.types c.args.name.now) ∙ ap (λ rows. type_in rows c.args.name.now) c.self.view_is
