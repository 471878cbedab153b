-- Tests that name no shape.
use Rattle.std.specs.Prelude.{Option, Some}
use Rattle.flow_graph.specs.declared.edge.Test.{Test}
use Rattle.flow_graph.specs.declared.edge.Test.TheVariants.{Is}

-- no shape is asked for
abbrev pub IsPlain : Option Test → Type 0
IsPlain (Some (Is shape)) = ⊥
IsPlain _ = Unit {0}
