use Rattle.std.proofs.Common.{◌≡◌, ◌++◌, drop, map}
use Rattle.type_terms.specs.Texts.{joined}
use Rattle.pyi_write.proofs.Joined.{rest_of}
use Rattle.pyi_write.proofs.imports.push_joined.Given as goal

abbrev pub invariant-loop-name : goal.invariant-loop-name
invariant-loop-name l = l.out ++ rest_of l.before (map (λ name. name.now) (drop l.name-index l.names)) ≡ l.initial.out ++ joined (map (λ name. name.now) l.names)
