-- A row for each name so far.
use Rattle.std.proofs.Common.{map, take}
use Rattle.type_terms.specs.Stubs.{name_view}
use Rattle.world_stub.specs.Solved.{OnlySolved}
use Rattle.world_stub.specs.Results.{AreRowsOf}
use Rattle.world_stub.proofs.stub.rows_of.Given as goal

abbrev pub invariant-loop-name : goal.invariant-loop-name
invariant-loop-name g l = AreRowsOf l.program l.initial.world l.ends (take l.name-index l.name-items) (map name_view l.rows) × OnlySolved l.initial.world l.world
