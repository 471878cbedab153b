use Rattle.std.proofs.Common.{◌≡◌, ◌++◌, drop, map}
use Rattle.std.specs.List.{flat_map}
use Rattle.type_terms.specs.Stubs.{name_view}
use Rattle.pyi_write.specs.Layout.{name_line}
use Rattle.pyi_write.proofs.bodies.push_names.Given as goal

abbrev pub invariant-loop-name : goal.invariant-loop-name
invariant-loop-name l =
    l.out ++ flat_map (name_line l.margin) (map (λ name. name_view name.now) (drop l.name-index l.names)) ≡ l.initial.out ++ flat_map (name_line l.margin) (map (λ name. name_view name.now) l.names)
