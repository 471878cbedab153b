use Rattle.std.proofs.Common.{◌≡◌, ◌++◌, drop}
use Rattle.graph_queries.specs.Choices.{bindings}
use Rattle.graph_queries.proofs.goals.bindings_of.Given as goal

abbrev pub invariant-loop-place : goal.invariant-loop-place
invariant-loop-place l = bindings l.vars l.shapes ≡ l.pairs ++ bindings (drop l.place l.vars) (drop l.place l.shapes)
