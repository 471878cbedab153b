-- What an instruction reads. A query of a point is a choice of shapes for the seats of one of its readings.
use Rattle.std.specs.Prelude.{ℕ, Option, Some, None, List, [], ◌∷◌, slice_get, codes, if◌then◌else◌}
use Rattle.std.specs.List.{list_any}
use Rattle.std.specs.Str.{bytes_eq}
use Rattle.builtin_stubs.specs.declared.native.NativeSort.TheVariants as sort
use Rattle.builtin_stubs.specs.Meanings.{Native}
use Rattle.builtin_stubs.specs.Natives.{natives, function_number}
use Rattle.builtin_stubs.specs.Outside.{outside_names}
use Rattle.scope_rules.specs.NameLists.{has_name, text_of}
use Rattle.scope_rules.specs.Scoped.{Scoped}
use Rattle.stack_code.specs.declared.op.Op.{Op}
use Rattle.stack_code.specs.declared.op.Op.TheVariants as op
use Rattle.stack_code.specs.declared.op.ConstKind.{ConstKind}
use Rattle.stack_code.specs.declared.op.ConstKind.TheVariants as const
use Rattle.abstract_shapes.specs.declared.place.Place.TheVariants as place
use Rattle.tree_code.specs.Programs.{Program}
use Rattle.world_rules.specs.declared.row.Yield.{Yield}
use Rattle.world_rules.specs.declared.row.Yield.TheVariants as yields
use Rattle.world_rules.specs.declared.seat.OwnedSeat.{OwnedSeat}
use Rattle.world_rules.specs.declared.seat.Seat.{Seat}
use Rattle.world_rules.specs.declared.seat.Seat.TheVariants as seat
use Rattle.world_rules.specs.declared.seat.SeatOwner.TheVariants.{Own}
use Rattle.world_rules.specs.declared.seat.Thread.{Thread}
use Rattle.world_rules.specs.declared.seat.Thread.TheVariants.{OfModule, OfFunction}
use Rattle.world_rules.specs.declared.transfer.SeatReading.{SeatReading}
use Rattle.world_rules.specs.declared.transfer.Transfer.{Transfer}
use Rattle.world_rules.specs.declared.transfer.Transfer.TheVariants as transfer
use Rattle.world_rules.specs.Places.{below_top}

abbrev pub own : Seat → OwnedSeat
own s = record { owner = Own; seat = s }

abbrev pub one_reading : List OwnedSeat → Transfer → List SeatReading
one_reading seats rule = record { seats = seats; transfer = rule } ∷ []

-- no seat is read, so that the empty query stands for the reading
abbrev pub nothing_read : Transfer → List SeatReading
nothing_read rule = one_reading [] rule

-- the slot so many below the top
abbrev pub slot_below : (depth below : ℕ) → OwnedSeat
slot_below depth n = own (seat.Slot (below_top depth n))

abbrev pub top_read : (depth : ℕ) → Transfer → List SeatReading
top_read depth rule = one_reading (slot_below depth 0 ∷ []) rule

abbrev pub two_read : (depth : ℕ) → Transfer → List SeatReading
two_read depth rule = one_reading (slot_below depth 1 ∷ slot_below depth 0 ∷ []) rule

-- ---- literals

abbrev pub constant : ConstKind → Yield
constant const.NoneValue = yields.NoneValue
constant const.TrueValue = yields.TrueValue
constant const.FalseValue = yields.FalseValue
constant const.Int = yields.Int
constant const.Float = yields.Float
constant const.Str = yields.Str
constant const.Bytes = yields.Bytes

-- ---- names (language reference, "Resolution of names")

-- `__name__` and `__file__` are texts
abbrev pub native_yield : (number : ℕ) → Option Native → Yield
native_yield number None = yields.Ext
native_yield number (Some n) = elim n.sort [ sort.Value ↦ yields.Str | _ ↦ yields.Native number ]

-- of a name from outside nothing is known, but that it is there
abbrev pub unknown : (name : ℕ) → (text : List ℕ) → Transfer
unknown n text = if list_any (bytes_eq text) outside_names then transfer.Makes yields.Ext else transfer.Misses n

-- a name that the module doesn't bind stands for a builtin; `base_init` is no name of Python's
abbrev pub builtin : (name : ℕ) → (text : List ℕ) → Transfer
builtin n text =
    elim (function_number text) [
      | None ↦ unknown n text
      | Some number ↦ if bytes_eq text (codes "base_init") then unknown n text else transfer.Makes (native_yield number (slice_get natives number))
    ]

-- a global is a variable in the module's thread; in any other its joined table is read, and no variable
abbrev pub global_read : Thread → (name : ℕ) → List SeatReading
global_read OfModule n = one_reading (own (seat.Global n) ∷ []) transfer.Copies
global_read OfFunction n = nothing_read (transfer.Makes (yields.Each (place.Global n)))

abbrev pub name_read : Program → Scoped → Thread → (name : ℕ) → List SeatReading
name_read program scopes thread n =
    if has_name scopes.bound n then global_read thread n else nothing_read (builtin n (text_of program.names n))

-- ---- instructions. One that forgets has the empty query; Pop, jumps and End have no rule, and no query by one

abbrev pub readings : Program → Scoped → Thread → (depth : ℕ) → Op → List SeatReading
readings program scopes thread depth (op.Const k) = nothing_read (transfer.Makes (constant k))
readings program scopes thread depth (op.LoadLocal i) = one_reading (own (seat.Local i) ∷ []) transfer.Copies
readings program scopes thread depth (op.StoreLocal i) = top_read depth transfer.Copies
readings program scopes thread depth (op.ForgetLocal i) = nothing_read transfer.Forgets
readings program scopes thread depth (op.LoadName n) = name_read program scopes thread n
readings program scopes thread depth (op.StoreName n) = top_read depth (transfer.Stores n)
readings program scopes thread depth (op.ForgetName n) = nothing_read transfer.Forgets
readings program scopes thread depth (op.Pick n) = one_reading (slot_below depth n ∷ []) transfer.Copies
readings program scopes thread depth (op.Unary o) = top_read depth (transfer.Applies o)
readings program scopes thread depth op.Not = top_read depth transfer.Negates
readings program scopes thread depth (op.Binary o site) = two_read depth (transfer.Combines o site)
readings program scopes thread depth (op.InPlace o site) = two_read depth (transfer.Changes o site)
readings program scopes thread depth (op.Compare o) = two_read depth (transfer.Compares o)
readings program scopes thread depth _ = []
