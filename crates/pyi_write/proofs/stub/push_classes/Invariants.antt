use Rattle.std.proofs.Common.{◌≡◌, drop, map}
use Rattle.type_terms.specs.Stubs.{class_view}
use Rattle.pyi_write.specs.Behind.{with_parts}
use Rattle.pyi_write.specs.Layout.{class_text}
use Rattle.pyi_write.proofs.stub.push_classes.Given as goal

abbrev pub invariant-loop-class : goal.invariant-loop-class
invariant-loop-class l =
    with_parts l.out (map class_text (map class_view (drop l.class-index l.classes))) ≡ with_parts l.initial.out (map class_text (map class_view l.classes))
