-- The names so far, and those of the rest, are those of the rows.
use Rattle.std.proofs.Common.{◌≡◌, ◌++◌, map}
use Rattle.type_terms.specs.Stubs.{name_view}
use Rattle.py_infer.specs.Stubs.{rows_of, name_of}
use Rattle.py_infer.proofs.types.Types.names.Given as goal

abbrev pub invariant-loop-name : goal.invariant-loop-name
invariant-loop-name l = map name_view l.names ++ map name_of (rows_of l.name-iterator) ≡ map name_of l.self
