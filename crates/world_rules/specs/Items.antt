-- The items of a world, and the world that a list of them is.
use Rattle.std.specs.Prelude.{◌≡◌, ℕ, Bool, true, false, ◌&&◌, ◌||◌, ◌==◌, is_some, Option, Some, None, List, [], ◌∷◌, map, if◌then◌else◌}
use Rattle.graph_walks.specs.Worlds as worlds
use Rattle.graph_walks.specs.Worlds.{Memory, nothing, Edge, Fact, World}
use Rattle.flow_graph.specs.declared.edge.Truth.{Truth}
use Rattle.flow_graph.specs.declared.edge.Truth.TheVariants.{Yes, No, Both}
use Rattle.abstract_shapes.specs.declared.place.Place.{Place}
use Rattle.abstract_shapes.specs.Shapes.{Shape, truth_of}
use Rattle.tree_code.specs.Programs.{Program}
use Rattle.world_rules.specs.declared.seat.OwnedSeat.{OwnedSeat}
use Rattle.world_rules.specs.Places.{Context, main, entry, called, same_context, Variable, same_variable, Point, at, op_at, target_of, variable_of}
use Rattle.world_rules.specs.Sources.{Source}

-- A context, an edge, a fact with its source set, and an entry of a joined table; each counts once
pub data Item : Type 0 where
  a_context : Context → Item
  an_edge : Edge Point Variable Shape → Item
  a_fact : Fact Point Variable Shape → Item
  an_entry : Place → Shape → Item

-- ---- maps from variables to shapes

-- the map that gives variables these shapes
abbrev pub map_of : List Variable → List Shape → Memory Variable Shape
map_of (x ∷ xs) (t ∷ ts) y = if same_variable x y then Some t else map_of xs ts y
map_of _ _ y = None

-- a variable for each shape, which it has in the map; so a variable that stands twice has one shape
abbrev pub Agree : List Variable → List Shape → Memory Variable Shape → Type 0
Agree [] [] m = Unit {0}
Agree (x ∷ xs) (t ∷ ts) m = (m x ≡ Some t) × Agree xs ts m
Agree _ _ m = ⊥

abbrev pub variables : Context → List OwnedSeat → List Variable
variables c seats = map (variable_of c) seats

-- ---- items as a world

abbrev pub edges_of : List Item → List (Edge Point Variable Shape)
edges_of [] = []
edges_of (an_edge e ∷ items) = e ∷ edges_of items
edges_of (_ ∷ items) = edges_of items

abbrev pub facts_of : List Item → List (Fact Point Variable Shape)
facts_of [] = []
facts_of (a_fact f ∷ items) = f ∷ facts_of items
facts_of (_ ∷ items) = facts_of items

abbrev pub has_context : List Item → Context → Bool
has_context [] c = false
has_context (a_context b ∷ items) c = same_context b c || has_context items c
has_context (_ ∷ items) c = has_context items c

-- walks start at the first point, with depth 0, of a context without parent
abbrev pub is_root : Program → List Item → Point → Bool
is_root program items (at (called c call_place call_depth f) place depth) = false
is_root program items (at c place depth) = (place == 0) && ((depth == 0) && (is_some (op_at program c 0) && has_context items c))

abbrev pub truth_as : Truth → worlds.Truth
truth_as Yes = worlds.Yes
truth_as No = worlds.No
truth_as Both = worlds.Both

abbrev pub world_of : Source → List Item → World Point Variable Shape
world_of s items =
    record {
      edges = edges_of items;
      facts = facts_of items;
      target = target_of s.program;
      root = is_root s.program items;
      truth = λ t. Some (truth_as (truth_of t));
    }
