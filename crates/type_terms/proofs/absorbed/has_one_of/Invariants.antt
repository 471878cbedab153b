use Rattle.std.proofs.Common.{◌≡◌, drop, map}
use Rattle.std.specs.List.{list_any}
use Rattle.std.specs.Str.{bytes_eq}
use Rattle.type_terms.proofs.absorbed.has_one_of.Given as goal

abbrev pub invariant-loop-class : goal.invariant-loop-class
invariant-loop-class l =
    list_any (λ up. list_any (bytes_eq up) (map (λ known. known.now) l.names)) (map (λ class. class.now) (drop l.class-index l.classes))
    ≡ list_any (λ up. list_any (bytes_eq up) (map (λ known. known.now) l.names)) (map (λ class. class.now) l.classes)
