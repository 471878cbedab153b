-- The least worlds of three modules, item by item in the order of their places.
use Rattle.std.specs.Prelude.{ℕ, true, false, Some, None, List, [], ◌∷◌}
use Rattle.graph_walks.specs.Worlds.{Test, MayBeTrue, MayBeFalse}
use Rattle.abstract_shapes.specs.declared.place.Place.TheVariants.{Global}
use Rattle.abstract_shapes.specs.Shapes.{Shape, none, true_value, false_value, int, str}
use Rattle.world_rules.specs.Places.{main, Variable, slot, global, Point, at}
use Rattle.world_rules.specs.Items.{Item, a_context, an_edge, a_fact, an_entry, map_of}

-- an edge that assigns
abbrev pub on : Point → Point → Item
on from to = an_edge (record { from = from; to = to; assigns = true; asks = None })

-- one that assigns, and one that does not, and what they ask of the lowest slot
abbrev pub on_if : Test Shape → Point → Point → Item
on_if test from to = an_edge (record { from = from; to = to; assigns = true; asks = Some (record { var = slot main 0; test = test }) })

abbrev pub off_if : Test Shape → Point → Point → Item
off_if test from to = an_edge (record { from = from; to = to; assigns = false; asks = Some (record { var = slot main 0; test = test }) })

abbrev pub off : Point → Point → Item
off from to = an_edge (record { from = from; to = to; assigns = false; asks = None })

-- a fact whose source set gives these variables these shapes
abbrev pub fact : Point → Shape → List Variable → List Shape → Item
fact point shape vars shapes = a_fact (record { point = point; shape = shape; source = map_of vars shapes })

-- facts of which nothing, the lowest slot, or the two lowest slots are the source
abbrev pub made : Point → Shape → Item
made point shape = fact point shape [] []

abbrev pub from_slot : Point → Shape → Shape → Item
from_slot point shape read = fact point shape (slot main 0 ∷ []) (read ∷ [])

abbrev pub from_slots : Point → Shape → Shape → Shape → Item
from_slots point shape left right = fact point shape (slot main 0 ∷ slot main 1 ∷ []) (left ∷ right ∷ [])

abbrev pub from_global : ℕ → Point → Shape → Item
from_global n point shape = fact point shape (global n ∷ []) (shape ∷ [])

-- `x = 1`
abbrev pub line_world : List Item
line_world =
    a_context main
    ∷ on (at main 0 0) (at main 1 1) ∷ made (at main 0 0) int
    ∷ on (at main 1 1) (at main 2 0) ∷ from_slot (at main 1 1) int int ∷ an_entry (Global 0) int
    ∷ []

-- `x = 1`, `while x == 1:` with `x = "a"`, `y = x`, `z = -x`
abbrev pub loop_world : List Item
loop_world =
    a_context main
    -- `x = 1`
    ∷ on (at main 0 0) (at main 1 1) ∷ made (at main 0 0) int
    ∷ on (at main 1 1) (at main 2 0) ∷ from_slot (at main 1 1) int int ∷ an_entry (Global 0) int
    -- `while x == 1:`
    ∷ on (at main 2 0) (at main 3 1) ∷ from_global 0 (at main 2 0) int ∷ from_global 0 (at main 2 0) str
    ∷ on (at main 3 1) (at main 4 2) ∷ made (at main 3 1) int
    ∷ on (at main 4 2) (at main 5 1)
    ∷ from_slots (at main 4 2) true_value int int ∷ from_slots (at main 4 2) false_value int int
    ∷ from_slots (at main 4 2) true_value str int ∷ from_slots (at main 4 2) false_value str int
    ∷ on_if MayBeTrue (at main 5 1) (at main 6 0) ∷ off_if MayBeFalse (at main 5 1) (at main 9 0)
    -- `x = "a"`
    ∷ on (at main 6 0) (at main 7 1) ∷ made (at main 6 0) str
    ∷ on (at main 7 1) (at main 8 0) ∷ from_slot (at main 7 1) str str ∷ an_entry (Global 0) str
    ∷ off (at main 8 0) (at main 2 0)
    -- `y = x`
    ∷ on (at main 9 0) (at main 10 1) ∷ from_global 0 (at main 9 0) int ∷ from_global 0 (at main 9 0) str
    ∷ on (at main 10 1) (at main 11 0)
    ∷ from_slot (at main 10 1) int int ∷ an_entry (Global 1) int ∷ from_slot (at main 10 1) str str ∷ an_entry (Global 1) str
    -- `z = -x`
    ∷ on (at main 11 0) (at main 12 1) ∷ from_global 0 (at main 11 0) int ∷ from_global 0 (at main 11 0) str
    ∷ on (at main 12 1) (at main 13 1) ∷ from_slot (at main 12 1) int int
    ∷ on (at main 13 1) (at main 14 0) ∷ from_slot (at main 13 1) int int ∷ an_entry (Global 2) int
    ∷ []

-- `x = None`, `if x is None:` with `y = 1`, `else:` with `y = "t"`: the branch that is left out has its edges, and no fact
abbrev pub branch_world : List Item
branch_world =
    a_context main
    -- `x = None`
    ∷ on (at main 0 0) (at main 1 1) ∷ made (at main 0 0) none
    ∷ on (at main 1 1) (at main 2 0) ∷ from_slot (at main 1 1) none none ∷ an_entry (Global 0) none
    -- `if x is None:`
    ∷ on (at main 2 0) (at main 3 1) ∷ from_global 0 (at main 2 0) none
    ∷ on (at main 3 1) (at main 4 2) ∷ made (at main 3 1) none
    ∷ on (at main 4 2) (at main 5 1) ∷ from_slots (at main 4 2) true_value none none
    ∷ on_if MayBeTrue (at main 5 1) (at main 6 0) ∷ off_if MayBeFalse (at main 5 1) (at main 9 0)
    -- `y = 1`
    ∷ on (at main 6 0) (at main 7 1) ∷ made (at main 6 0) int
    ∷ on (at main 7 1) (at main 8 0) ∷ from_slot (at main 7 1) int int ∷ an_entry (Global 1) int
    ∷ off (at main 8 0) (at main 11 0)
    -- `y = "t"`
    ∷ on (at main 9 0) (at main 10 1)
    ∷ on (at main 10 1) (at main 11 0)
    ∷ []
