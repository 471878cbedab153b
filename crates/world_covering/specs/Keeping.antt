-- What is kept of a run by walks through a world.
use Rattle.std.specs.Prelude.{◌≡◌, ◌≢◌, ℕ, true, Option, Some, None, List, [], ◌∷◌, ◌++◌, length, slice_get, unwrap_or}
use Rattle.std.specs.List.{Contains}
use Rattle.graph_walks.specs.Worlds as worlds
use Rattle.graph_walks.specs.Walks.{Walk}
use Rattle.stack_code.specs.declared.code.Code.{Code}
use Rattle.stack_code.specs.declared.code.Range.{Range}
use Rattle.stack_code.specs.declared.op.Op.{Op}
use Rattle.stack_code.specs.Effects.{may_raise}
use Rattle.stack_code.specs.Handlers.{handler_at}
use Rattle.abstract_shapes.specs.Shapes.{Shape}
use Rattle.world_rules.specs.Places.{Context, main, called, Variable, local, slot, global, at, code_of}
use Rattle.world_rules.specs.Sources.{Source}
use Rattle.world_rules.specs.Items.{Item, a_context, world_of}
use Rattle.world_rules.specs.Rules.{HasPlace}
use Rattle.py_meaning.specs.Values.{Value, Entries, entry}
use Rattle.py_meaning.specs.Objects.{Object}
use Rattle.py_meaning.specs.Actions.{Memory}
use Rattle.world_covering.specs.Standing.{Stands, Grows}

abbrev pub Shapes : Type 0
Shapes = worlds.Memory Variable Shape

-- the code that a context runs
abbrev pub code_in : Source → Context → Code
code_in s c = unwrap_or (code_of s.program c) s.program.body

-- a variable has a shape for which its value stands
pub record IsSeated (shapes : Shapes) (heap : List Object) (x : Variable) (v : Value) : Type 0 where
  pub shape : Shape
  pub has : shapes x ≡ Some shape
  pub stands : Stands heap v shape

-- each value of a stack, whose top comes first, has its slot
abbrev pub AreSeated : Context → Shapes → List Object → List Value → Type 0
AreSeated c shapes heap [] = Unit {0}
AreSeated c shapes heap (v ∷ stack) = IsSeated shapes heap (slot c (length stack)) v × AreSeated c shapes heap stack

-- ---- contexts within one another

-- a context is the other, or is called within it
pub data IsWithin (c : Context) : Context → Type 0 where
  itself : IsWithin c c
  called_in : {d : Context} {place depth fun : ℕ} → IsWithin c d → IsWithin c (called d place depth fun)

-- globals are the module's
abbrev pub owner_of : Variable → Context
owner_of (local c i) = c
owner_of (slot c i) = c
owner_of (global n) = main

-- what was so where a context was entered
pub record Entry : Type 0 where
  pub heap : List Object
  pub globals : Entries
  pub shapes : Shapes

-- What a context leaves as it was when it was entered: the shapes of variables that aren't its own, and the globals' values, but for the module's; the heap has grown
pub record Leaves (c : Context) (before : Entry) (shapes : Shapes) (m : Memory) : Type 0 where
  pub others : (x : Variable) → (IsWithin c (owner_of x) → ⊥) → shapes x ≡ before.shapes x
  pub globals : c ≢ main → m.scope.globals ≡ before.globals
  pub heap : Grows before.heap m.heap

module _ (s : Source) (items : List Item) where
  -- The run stands at a place over a stack: some walk leads there, whose memory has for each variable in use a shape for which its value stands.
  -- One memory has them all. Only the module's own body runs so far
  pub record Kept (c : Context) (before : Entry) (place : ℕ) (stack : List Value) (m : Memory) : Type 0 where
    pub here : c ≡ main
    pub context : Contains items (a_context c)
    pub shapes : Shapes
    pub walk : Walk (world_of s items) (at c place (length stack)) shapes
    pub point : HasPlace s c place (length stack)
    pub slots : AreSeated c shapes m.heap stack
    pub globals : (n : ℕ) (v : Value) → entry m.scope.globals n ≡ Some v → IsSeated shapes m.heap (global n) v
    pub leaves : Leaves c before shapes m
    pub frame : m.scope.frame ≡ None

  -- An exception is on its way to a handler, or out of the context: the walk stands where it was raised, over whatever else is on the stack
  pub record Pending (c : Context) (before : Entry) (outer : Option Range) (stack : List Value) (m : Memory) : Type 0 where
    pub place : ℕ
    pub above : List Value
    pub op : Op
    pub kept : Kept c before place (above ++ stack) m
    pub stands : slice_get (code_in s c).ops place ≡ Some op
    pub may : may_raise op ≡ true
    pub goes_to : handler_at (code_in s c).ranges place ≡ outer
