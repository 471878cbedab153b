-- Which sources a compiled program is of.
use Rattle.std.specs.Prelude.{◌≡◌}
use Rattle.program_tables.specs.Programs.{Compiled}
use Rattle.world_rules.specs.Sources.{Source}

-- the source's program, and what its names stand for, are the compiled one's
pub record IsSourceOf (s : Source) (compiled : Compiled) : Type 0 where
  pub program : s.program ≡ compiled.program
  pub scopes : s.scopes ≡ compiled.scopes
