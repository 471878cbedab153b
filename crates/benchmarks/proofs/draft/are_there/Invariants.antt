use Rattle.std.proofs.Common.{take}
use Rattle.std.specs.List.{All}
use Rattle.typegraph.specs.Validity.{IsBindingThere}
use Rattle.benchmarks.proofs.draft.are_there.Given as goal

abbrev pub invariant-loop-binding : goal.invariant-loop-binding
invariant-loop-binding l = All (IsBindingThere l.vars l.shapes) (take l.binding-index l.list)
