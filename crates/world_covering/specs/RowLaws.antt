-- What a row of the rules says of an operation: each result stands for a shape that the row gives, and each fault is the row's.
use Rattle.std.specs.Prelude.{◌≡◌, ℕ, Bool, true, false, Some, None, List, [], ◌∷◌, not}
use Rattle.std.specs.List.{Contains}
use Rattle.place_ids.specs.declared.operators.BinOp.{BinOp}
use Rattle.place_ids.specs.declared.operators.CompareOp.{CompareOp}
use Rattle.place_ids.specs.declared.operators.UnaryOp.{UnaryOp}
use Rattle.graph_walks.specs.Worlds.{MayBeTrue, MayBeFalse, PassesBy}
use Rattle.abstract_shapes.specs.Shapes.{Shape, truth_of}
use Rattle.world_rules.specs.declared.finding.Fault.{Fault}
use Rattle.world_rules.specs.declared.row.TransferRow.{TransferRow}
use Rattle.world_rules.specs.declared.row.Yield.{Yield}
use Rattle.world_rules.specs.declared.transfer.Transfer.{Transfer}
use Rattle.world_rules.specs.declared.transfer.Transfer.TheVariants as transfer
use Rattle.world_rules.specs.Items.{truth_as}
use Rattle.world_rules.specs.Readings.{builtin}
use Rattle.world_rules.specs.Rows.{row_of, made}
use Rattle.py_meaning.specs.Values.{Value, truth}
use Rattle.py_meaning.specs.Events.{Event, fault, unsupported_operands, on_another}
use Rattle.py_meaning.specs.Programs.{Program}
use Rattle.py_meaning.specs.Truth as truths
use Rattle.py_meaning.specs.Operators as operators
use Rattle.py_meaning.specs.Targets as targets
use Rattle.py_meaning.specs.Names.{builtin_value}
use Rattle.py_meaning.specs.Actions.{Memory, Action, bind, gives}
use Rattle.py_meaning.specs.Holds.{Account, Holds}
use Rattle.world_covering.specs.Standing.{Stands, Grows}

-- an account of what takes no turn, where this is said of what it tells
abbrev pub turnless : (Event → Type 0) → Account
turnless Told =
    record {
      Kept = Unit {0};
      Always = λ g m. Unit {0};
      Way = λ q. ⊥;
      Asked = λ q way g m. Unit {0};
      Answered = λ q way g m o later m'. Unit {0};
      Made = λ g m o later. Unit {0};
      Told = λ g m e. Told e;
    }

-- no name is bound, and the heap has more
pub record Stays (m later : Memory) : Type 0 where
  pub scope : later.scope ≡ m.scope
  pub heap : Grows m.heap later.heap

-- a value of a shape that the row gives, where these shapes are read
pub record Gave (row : TransferRow) (shapes : List Shape) (m later : Memory) (v : Value) : Type 0 where
  pub stays : Stays m later
  pub yield : Yield
  pub among : Contains row.results yield
  pub shape : Shape
  pub is : made shapes yield ≡ Some shape
  pub stands : Stands later.heap v shape

-- an operand fault at the line, which the row has
pub record IsFaultOf (row : TransferRow) (line : ℕ) (e : Event) : Type 0 where
  pub told : e ≡ fault line unsupported_operands on_another None
  pub found : Fault
  pub has : row.fault ≡ Some found

-- an operation keeps to the row of a rule, where these shapes are read
abbrev pub Keeps : Transfer → List Shape → ℕ → Memory → Action Value → Type 0
Keeps rule shapes line m action =
    Holds (turnless (IsFaultOf (row_of rule shapes) line)) (λ g later v. Gave (row_of rule shapes) shapes m later v) (λ g later v. Stays m later) tt m action

-- a shape passes the test for a truth value
abbrev pub Passes : Shape → Bool → Type 0
Passes t true = PassesBy (λ u. Some (truth_as (truth_of u))) MayBeTrue t
Passes t false = PassesBy (λ u. Some (truth_as (truth_of u))) MayBeFalse t

-- the truth of a value is one for which its shape passes; to look at it changes nothing, raises nothing and tells nothing
abbrev pub IsTested : Shape → Memory → Value → Type 0
IsTested t m v = Holds (turnless (λ e. ⊥)) (λ g later b. (later ≡ m) × Passes t b) (λ g later raised. ⊥) tt m (truths.truth_of v)

-- so does `not`, which gives a shape of its row
abbrev pub IsInverted : Shape → Memory → Value → Type 0
IsInverted t m v =
    Holds (turnless (λ e. ⊥)) (λ g later w. Gave (row_of transfer.Negates (t ∷ [])) (t ∷ []) m later w) (λ g later raised. ⊥) tt m (bind (truths.truth_of v) (λ b. gives (truth (not b))))

-- where nothing is read, and nothing told
abbrev pub IsRead : Transfer → Memory → Action Value → Type 0
IsRead rule m action = Holds (turnless (λ e. ⊥)) (λ g later v. Gave (row_of rule []) [] m later v) (λ g later v. Stays m later) tt m action

-- ---- the laws, for values that stand for the shapes that are read

pub record RowsHold : Type 0 where
  pub binary : (p : Program) (o : BinOp) (site line : ℕ) (v w : Value) (t u : Shape) (m : Memory) → Stands m.heap v t → Stands m.heap w u →
      Keeps (transfer.Combines o site) (t ∷ u ∷ []) line m (operators.binary p o site line v w)
  pub in_place : (p : Program) (o : BinOp) (site line : ℕ) (v w : Value) (t u : Shape) (m : Memory) → Stands m.heap v t → Stands m.heap w u →
      Keeps (transfer.Changes o site) (t ∷ u ∷ []) line m (targets.in_place p o site line v w)
  pub compare : (o : CompareOp) (line : ℕ) (v w : Value) (t u : Shape) (m : Memory) → Stands m.heap v t → Stands m.heap w u →
      Keeps (transfer.Compares o) (t ∷ u ∷ []) line m (operators.compare o line v w)
  pub unary : (o : UnaryOp) (line : ℕ) (v : Value) (t : Shape) (m : Memory) → Stands m.heap v t →
      Keeps (transfer.Applies o) (t ∷ []) line m (operators.unary o line v)
  pub inverts : (v : Value) (t : Shape) (m : Memory) → Stands m.heap v t → IsInverted t m v
  pub tests : (v : Value) (t : Shape) (m : Memory) → Stands m.heap v t → IsTested t m v
  -- a name that the module doesn't bind
  pub unbound : (name : ℕ) (text : List ℕ) (m : Memory) → IsRead (builtin name text) m (builtin_value text)
