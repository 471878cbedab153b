use Rattle.std.proofs.Common.{◌≡◌, ◌++◌, not, drop, map, filter}
use Rattle.type_terms.specs.Stubs.{Name, name_view, fun_view}
use Rattle.pyi_write.specs.Orders.{is_fun}
use Rattle.pyi_write.proofs.orders.without_funs.Given as goal

abbrev pub invariant-loop-name : goal.invariant-loop-name
invariant-loop-name l =
    map (λ name. name_view name.now) l.kept.items ++ filter (λ (name : Name). not (is_fun (map fun_view l.funs) name.name)) (map name_view (drop l.name-index l.names)) ≡ filter (λ (name : Name). not (is_fun (map fun_view l.funs) name.name)) (map name_view l.names)
