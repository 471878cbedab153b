use Rattle.std.proofs.Common.{◌≡◌, ◌++◌, drop, map}
use Rattle.std.specs.List.{filter_map}
use Rattle.type_terms.specs.View.{term_view}
use Rattle.pyi_write.specs.Imports.{module_named}
use Rattle.pyi_write.proofs.imports.modules.Given as goal

abbrev pub invariant-loop-term : goal.invariant-loop-term
invariant-loop-term l =
    map (λ name. name.now) l.names.items ++ filter_map module_named (map (λ term. term_view term.now) (drop l.term-index l.terms)) ≡ filter_map module_named (map (λ term. term_view term.now) l.terms)
