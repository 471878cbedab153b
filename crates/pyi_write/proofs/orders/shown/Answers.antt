use Rattle.std.proofs.Common.{[], map, ap, ◌∙◌}
use Rattle.type_terms.specs.Stubs.{name_view, fun_view}
use Rattle.pyi_write.specs.Orders.{shown}
use Rattle.pyi_write.proofs.ShownNames.{shown_kept}
use Rattle.pyi_write.proofs.orders.shown.Goals as goal

pub returns : goal.returns
returns c = c.in_ok-sort.ensures ∙ ap (shown []) c.in_ok-ordered.ensures ∙ shown_kept (map fun_view c.args.funs.now) (map name_view c.args.names.now)
