use Rattle.std.proofs.Common.{◌↔◌, ℕ, List, take}
use Rattle.std.specs.List.{Contains}
use Rattle.graph_queries.specs.Choices.{AreGiven}
use Rattle.graph_queries.proofs.choose.choices.Given as goal

abbrev pub invariant-loop-var : goal.invariant-loop-var
invariant-loop-var l = (shapes : List ℕ) → Contains l.chosen shapes ↔ AreGiven l.graph (take l.var-index l.vars) shapes
