use Rattle.std.proofs.Common.{◌≡◌, ◌++◌, drop, map}
use Rattle.std.specs.List.{flat_map}
use Rattle.type_terms.specs.Stubs.{fun_view}
use Rattle.pyi_write.specs.Layout.{fun_line}
use Rattle.pyi_write.proofs.bodies.push_funs.Given as goal

abbrev pub invariant-loop-fun : goal.invariant-loop-fun
invariant-loop-fun l =
    l.out ++ flat_map (fun_line l.margin) (map fun_view (drop l.fun-index l.funs)) ≡ l.initial.out ++ flat_map (fun_line l.margin) (map fun_view l.funs)
