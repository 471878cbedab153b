-- What is known of a world, and of the variables that are used in it.
use Rattle.std.specs.Prelude.{List}
use Rattle.std.specs.List.{Contains}
use Rattle.program_tables.specs.Programs.{Compiled}
use Rattle.world_rules.specs.Sources.{Source}
use Rattle.world_tables.specs.declared.spot.VariableSpot.{VariableSpot}
use Rattle.world_tables.specs.Tables.{IsUsedIn, AreTables}
use Rattle.world_tables.specs.Rows.{WorldRows, contexts_of, variable_of, tables_of}
use Rattle.context_code.specs.Sources.{IsSourceOf}

-- the tables are those of a world of a source of the program
pub record IsWorld (s : Source) (compiled : Compiled) (rows : WorldRows) : Type 0 where
  pub source : IsSourceOf s compiled
  pub tables : AreTables s (tables_of rows)

-- each of these is used in a context of the tables
pub record AreUsed (s : Source) (rows : WorldRows) (spots : List VariableSpot) : Type 0 where
  pub each : (spot : VariableSpot) → Contains spots spot → IsUsedIn s (contexts_of rows) (variable_of (contexts_of rows) spot)

-- each of these is a variable
pub record AreKnown (rows : WorldRows) (spots : List VariableSpot) : Type 0 where
  pub each : (spot : VariableSpot) → Contains spots spot → Contains rows.variables spot
