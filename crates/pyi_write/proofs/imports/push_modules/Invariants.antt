use Rattle.std.proofs.Common.{◌≡◌, ◌++◌, drop, map}
use Rattle.std.specs.List.{flat_map}
use Rattle.pyi_write.specs.Layout.{import_line}
use Rattle.pyi_write.proofs.imports.push_modules.Given as goal

abbrev pub invariant-loop-name : goal.invariant-loop-name
invariant-loop-name l = l.out ++ flat_map import_line (map (λ name. name.now) (drop l.name-index l.modules)) ≡ l.initial.out ++ flat_map import_line (map (λ name. name.now) l.modules)
