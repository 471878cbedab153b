use Rattle.std.proofs.Common.{◌≡◌}
use Rattle.abstract_shapes.specs.Scenes.{ids_below}
use Rattle.abstract_shapes.proofs.printed.ids_below.Given as goal

abbrev pub invariant-loop-number : goal.invariant-loop-number
invariant-loop-number l = l.ids.items ≡ ids_below l.set.members l.number
