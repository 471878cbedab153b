use Rattle.std.proofs.Common.{◌≡◌, ◌++◌, drop, map}
use Rattle.std.specs.List.{flat_map}
use Rattle.type_terms.specs.View.{term_view}
use Rattle.type_terms.specs.Stubs.{class_view, stub_view}
use Rattle.pyi_write.specs.Imports.{within, class_terms, all_terms}
use Rattle.pyi_write.proofs.written.all_terms.Given as goal

abbrev pub invariant-loop-class : goal.invariant-loop-class
invariant-loop-class l =
    map (λ term. term_view term.now) l.all.items ++ flat_map within (flat_map class_terms (map class_view (drop l.class-index l.classes))) ≡ all_terms (stub_view l.stub)
