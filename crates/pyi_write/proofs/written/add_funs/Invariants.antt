use Rattle.std.proofs.Common.{◌≡◌, ◌++◌, drop, map}
use Rattle.std.specs.List.{flat_map}
use Rattle.type_terms.specs.View.{term_view}
use Rattle.type_terms.specs.Stubs.{fun_view}
use Rattle.pyi_write.specs.Imports.{within}
use Rattle.pyi_write.proofs.written.add_funs.Given as goal

abbrev pub invariant-loop-fun : goal.invariant-loop-fun
invariant-loop-fun l =
    map (λ term. term_view term.now) l.all.items ++ flat_map within (map (λ fun. fun.answer) (map fun_view (drop l.fun-index l.funs)))
    ≡ map (λ term. term_view term.now) l.initial.all.items ++ flat_map within (map (λ fun. fun.answer) (map fun_view l.funs))
