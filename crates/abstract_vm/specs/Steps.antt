-- Firing in steps: what each adds to a world.
use Rattle.std.specs.Prelude.{◌≡◌, ℕ, ◌≤◌, Bool, true, false, Result, IfOk, OnOk, Some, List, [], ◌∷◌, ◌⊎◌, length, map, slice_get}
use Rattle.std.specs.List.{Contains}
use Rattle.typegraph.specs.declared.fact.Fact.{Fact}
use Rattle.typegraph.specs.declared.goals.Binding.{Binding}
use Rattle.typegraph.specs.Graphs.{row_of as facts_at}
use Rattle.abstract_shapes.specs.declared.place.Place.{Place}
use Rattle.abstract_shapes.specs.Numbering.{structures}
use Rattle.abstract_shapes.specs.Shapes.{Shape}
use Rattle.world_rules.specs.declared.row.TableEntry.{TableEntry}
use Rattle.world_rules.specs.declared.row.TransferRow.{TransferRow}
use Rattle.world_rules.specs.declared.row.Yield.{Yield}
use Rattle.world_rules.specs.declared.transfer.SeatReading.{SeatReading}
use Rattle.world_rules.specs.Places.{Context, Point, at}
use Rattle.world_rules.specs.Sources.{Source}
use Rattle.world_rules.specs.Items.{Item, a_fact, an_entry, map_of, variables}
use Rattle.world_rules.specs.Rows.{row_of}
use Rattle.world_rules.specs.Rules.{Yields, Fires}
use Rattle.world_tables.specs.Tables.{the_shape, memory_at}
use Rattle.world_tables.specs.Rows.{tables_of}
use Rattle.abstract_vm.specs.Worlds.{WorldState, items_in, point_in, IsWorldOf}
use Rattle.abstract_vm.specs.Firing.{HasNewItem, IsFired}

-- ---- by numbers

-- the shapes under these numbers
abbrev pub shapes_in : WorldState → List ℕ → List Shape
shapes_in w ids = map (the_shape (tables_of w.rows)) ids

-- the fact that a point gives its target the shape where the goals hold
abbrev pub fact_in : WorldState → (point shape : ℕ) → List Binding → Item
fact_in w point shape goals = a_fact (record { point = point_in w point; shape = the_shape (tables_of w.rows) shape; source = memory_at (tables_of w.rows) goals })

abbrev pub entry_in : WorldState → Place → (shape : ℕ) → Item
entry_in w place shape = an_entry place (the_shape (tables_of w.rows) shape)

-- numbers stand for what they stood for, no fact is lost, and points, variables, edges, contexts and settings are those that there were
pub record NumbersStay (old new : WorldState) : Type 0 where
  pub flow : new.rows.graph.flow ≡ old.rows.graph.flow
  pub finished : new.rows.finished ≡ old.rows.finished
  pub points : new.rows.points ≡ old.rows.points
  pub variables : new.rows.variables ≡ old.rows.variables
  pub shapes : (id : ℕ) (x : Shape) → slice_get (structures old.rows.shapes) id ≡ Some x → slice_get (structures new.rows.shapes) id ≡ Some x
  pub facts : (point : ℕ) (fact : Fact) → Contains (facts_at (slice_get old.rows.graph.facts point)) fact → Contains (facts_at (slice_get new.rows.graph.facts point)) fact
  pub truths : length old.rows.graph.truths ≤ length new.rows.graph.truths
  pub budget : new.solver.budget ≡ old.solver.budget
  pub library : new.library ≡ old.library

-- ---- one step

-- the flag tells whether there is an item more
pub record IsFlag (grown : Bool) (old new : WorldState) : Type 0 where
  pub yes : grown ≡ true → HasNewItem old new
  pub no : grown ≡ false → HasNewItem old new → ⊥

-- A step of firing a point. Where what it has to add is given, the world is one still, it tells whether it grew, and what was wanted is there
pub record IsStep {E : Type 0} (Given : Source → Type 0) (p : Point) (Wanted : Source → Item → Type 0) (result : Result Bool E) (old new : WorldState) : Type 0 where
  pub stay : NumbersStay old new
  pub fired : (s : Source) → IsWorldOf s old → Given s → IsFired s p old new
  pub told : (s : Source) → IsWorldOf s old → Given s → IfOk result (λ grown. IsFlag grown old new)
  pub has : (s : Source) → IsWorldOf s old → Given s → OnOk result ((i : Item) → Wanted s i → Contains (items_in new) i)

-- wanted for one of these
pub record IsOneOf {X : Type 0} (Wanted : X → Item → Type 0) (xs : List X) (i : Item) : Type 0 where
  pub one : X
  pub among : Contains xs one
  pub is : Wanted one i

-- ---- shapes that a rule gives

-- one of these numbers is the shape's
pub record HasNumber (w : WorldState) (ids : List ℕ) (x : Shape) : Type 0 where
  pub id : ℕ
  pub among : Contains ids id
  pub is : the_shape (tables_of w.rows) id ≡ x

-- there is one number, the shape's
pub record IsOnlyNumber (w : WorldState) (ids : List ℕ) (x : Shape) : Type 0 where
  pub id : ℕ
  pub only : ids ≡ id ∷ []
  pub is : the_shape (tables_of w.rows) id ≡ x

-- these numbers are those of what a rule gives, of the shapes that are read, by the items
pub record AreYielded (s : Source) (items : List Item) (shapes : List Shape) (y : Yield) (w : WorldState) (ids : List ℕ) : Type 0 where
  pub each : (id : ℕ) → Contains ids id → Yields s items shapes y (the_shape (tables_of w.rows) id)
  pub all : (x : Shape) → Yields s items shapes y x → HasNumber w ids x

-- ---- what a row gives

-- a reading of the point fires for the shapes under these numbers, and this is its row
pub record IsFiring (s : Source) (w : WorldState) (p : Point) (choice : List ℕ) (row : TransferRow) : Type 0 where
  pub context : Context
  pub place : ℕ
  pub depth : ℕ
  pub reading : SeatReading
  pub is_point : p ≡ at context place depth
  pub fires : Fires s (items_in w) context place depth reading (shapes_in w choice)
  pub row_is : row ≡ row_of reading.transfer (shapes_in w choice)

-- and these are the goals, by numbers
pub record IsFiringUnder (s : Source) (w : WorldState) (p : Point) (choice : List ℕ) (goals : List Binding) (row : TransferRow) : Type 0 where
  pub firing : IsFiring s w p choice row
  pub goals_are : memory_at (tables_of w.rows) goals ≡ map_of (variables firing.context firing.reading.seats) (shapes_in w choice)

-- a result of such a row
pub record MayResult (s : Source) (w : WorldState) (p : Point) (choice : List ℕ) (goals : List Binding) (y : Yield) : Type 0 where
  pub row : TransferRow
  pub under : IsFiringUnder s w p choice goals row
  pub among : Contains row.results y

-- an entry of such a row
pub record MayEnter (s : Source) (w : WorldState) (p : Point) (choice : List ℕ) (e : TableEntry) : Type 0 where
  pub row : TransferRow
  pub firing : IsFiring s w p choice row
  pub among : Contains row.entries e

-- the fact of a shape that a result gives
pub record IsGivenFact (s : Source) (w : WorldState) (point : ℕ) (choice : List ℕ) (goals : List Binding) (y : Yield) (i : Item) : Type 0 where
  pub shape : Shape
  pub given : Yields s (items_in w) (shapes_in w choice) y shape
  pub is : i ≡ a_fact (record { point = point_in w point; shape = shape; source = memory_at (tables_of w.rows) goals })

-- the entry of a shape that is given
pub record IsGivenEntry (s : Source) (w : WorldState) (choice : List ℕ) (e : TableEntry) (i : Item) : Type 0 where
  pub shape : Shape
  pub given : Yields s (items_in w) (shapes_in w choice) e.given shape
  pub is : i ≡ an_entry e.place shape

-- ---- what a reading gives

-- what the row of a reading gives for these shapes at the point
pub record IsResult (s : Source) (items : List Item) (r : SeatReading) (shapes : List Shape) (p : Point) (i : Item) : Type 0 where
  pub context : Context
  pub place : ℕ
  pub depth : ℕ
  pub is_point : p ≡ at context place depth
  pub fires : Fires s items context place depth r shapes
  pub y : Yield
  pub is_result : Contains (row_of r.transfer shapes).results y
  pub shape : Shape
  pub given : Yields s items shapes y shape
  pub is : i ≡ a_fact (record { point = at context place depth; shape = shape; source = map_of (variables context r.seats) shapes })

pub record IsEntry (s : Source) (items : List Item) (r : SeatReading) (shapes : List Shape) (p : Point) (i : Item) : Type 0 where
  pub context : Context
  pub place : ℕ
  pub depth : ℕ
  pub is_point : p ≡ at context place depth
  pub fires : Fires s items context place depth r shapes
  pub e : TableEntry
  pub is_entry : Contains (row_of r.transfer shapes).entries e
  pub shape : Shape
  pub given : Yields s items shapes e.given shape
  pub is : i ≡ an_entry e.place shape

abbrev pub GivesFor : Source → List Item → SeatReading → List Shape → Point → Item → Type 0
GivesFor s items r shapes p i = IsResult s items r shapes p i ⊎ IsEntry s items r shapes p i

-- for some shapes
pub record GivesBy (s : Source) (items : List Item) (r : SeatReading) (p : Point) (i : Item) : Type 0 where
  pub shapes : List Shape
  pub gives : GivesFor s items r shapes p i
