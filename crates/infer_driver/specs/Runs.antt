-- What a stub and a report tell of the runs of a module.
use Rattle.std.specs.Prelude.{◌≡◌, ◌⊎◌, ℕ, List, [], map, Option, Some, slice_get}
use Rattle.std.specs.List.{Contains}
use Rattle.py_tree.specs.Tree.{Module}
use Rattle.type_terms.specs.Stubs.{Name, Stub}
use Rattle.scope_rules.specs.Scoped.{scoped}
use Rattle.tree_code.specs.Programs.{program_of}
use Rattle.program_tables.specs.Programs.{Compiled}
use Rattle.world_rules.specs.declared.finding.Finding.{Finding}
use Rattle.py_meaning.specs.Belongs.{Belongs}
use Rattle.py_meaning.specs.Events.{FaultKind, Holder, held, fault}
use Rattle.py_meaning.specs.Programs.{program}
use Rattle.py_meaning.specs.Runs.{run}
use Rattle.py_meaning.specs.Values.{Value}

-- the compiled program is the module's
pub record IsProgramOf (m : Module) (compiled : Compiled) : Type 0 where
  pub program_is : compiled.program ≡ program_of m
  pub scopes_are : compiled.scopes ≡ scoped m

-- In every run of the module with the given stubs, of any number of turns and with any choices, the value that a name holds at the end belongs to the type that the stub prints for the name,
-- and each fault stands on the line of a finding or on a line that isn't checked.
pub record TellsRuns (m : Module) (given : List (List ℕ × Stub)) (stub : Stub) (findings : List Finding) (unchecked : List ℕ) : Type 0 where
  pub values : (turns : ℕ) (choices : List ℕ) (place name : ℕ) (v : Value) (row : Name) → slice_get (scoped m).printed place ≡ Some name → slice_get stub.names place ≡ Some row →
      Contains (run m given turns choices []).events (held name v) → Belongs (program m given) (run m given turns choices []).heap row.term v
  pub faults : (turns : ℕ) (choices : List ℕ) (line : ℕ) (kind : FaultKind) (holder : Holder) (attribute : Option ℕ) →
      Contains (run m given turns choices []).events (fault line kind holder attribute) → Contains (map (λ f. f.line) findings) line ⊎ Contains unchecked line
