use Rattle.std.proofs.Common.{◌≡◌, ◌++◌, drop, map}
use Rattle.std.specs.List.{flat_map}
use Rattle.type_terms.specs.View.{term_view}
use Rattle.type_terms.specs.Stubs.{name_view}
use Rattle.pyi_write.specs.Imports.{within}
use Rattle.pyi_write.proofs.written.add_names.Given as goal

abbrev pub invariant-loop-name : goal.invariant-loop-name
invariant-loop-name l =
    map (λ term. term_view term.now) l.all.items ++ flat_map within (map (λ name. name.term) (map (λ name. name_view name.now) (drop l.name-index l.names)))
    ≡ map (λ term. term_view term.now) l.initial.all.items ++ flat_map within (map (λ name. name.term) (map (λ name. name_view name.now) l.names))
