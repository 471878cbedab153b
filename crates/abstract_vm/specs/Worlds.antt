-- A world as contracts see it.
use Rattle.std.specs.Prelude.{ℕ, ◌<◌, Bool, List, length}
use Rattle.std.specs.List.{Contains}
use Rattle.type_terms.specs.Stubs.{Stub}
use Rattle.program_tables.specs.Programs.{Compiled}
use Rattle.abstract_shapes.specs.declared.place.Place.{Place}
use Rattle.abstract_shapes.specs.Tables.{entries}
use Rattle.goal_solver.specs.Memos.{SolverState}
use Rattle.world_rules.specs.Places.{Point}
use Rattle.world_rules.specs.Sources.{Source}
use Rattle.world_rules.specs.Items.{Item}
use Rattle.world_tables.specs.Tables.{items_of, the_point, AreTables, AreFinished}
use Rattle.world_tables.specs.Rows.{WorldRows, tables_of}

-- the entries' shapes are there
pub record AreEntriesThere (rows : WorldRows) : Type 0 where
  pub at : (e : Place × ℕ) → Contains (entries rows.joined) e → e.1 < length rows.graph.truths

-- what the tables hold, what the solver remembers, and whether every function is entered from outside
pub record WorldState : Type 0 where
  pub rows : WorldRows
  pub solver : SolverState
  pub library : Bool

-- all that the world has
abbrev pub items_in : WorldState → List Item
items_in w = items_of (tables_of w.rows)

-- the point of that number
abbrev pub point_in : WorldState → ℕ → Point
point_in w id = the_point (tables_of w.rows) id

-- what the world is made of; its own budget counts
abbrev pub source : Compiled → List (List ℕ × Stub) → (depth : ℕ) → WorldState → Source
source compiled stubs depth w =
    record {
      program = compiled.program;
      scopes = compiled.scopes;
      stubs = stubs;
      depth = depth;
      budget = w.solver.budget;
      library = w.library;
    }

-- the tables are those of a world of the source, and each context has all its points and edges
pub record IsWorldOf (s : Source) (w : WorldState) : Type 0 where
  pub tables : AreTables s (tables_of w.rows)
  pub finished : AreFinished (tables_of w.rows)

-- how many items a world may have
abbrev pub most_items : ℕ
most_items = 400000
