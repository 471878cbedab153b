-- A world of a module's body, computed from what walks may have at each of its places, and the tests by which it is closed.
use Rattle.std.proofs.Common.{ℕ, suc, zero, Bool, true, false, not, ◌&&◌, ◌||◌, ◌==◌, cond, Option, Some, None, List, [], ◌∷◌, ◌++◌, map, length, slice_get}
use Rattle.std.specs.Prelude.{unwrap_or}
use Rattle.std.specs.List.{flat_map, list_any}
use Rattle.graph_walks.specs.Worlds.{Edge, Test, MayBeTrue, MayBeFalse, Is}
use Rattle.flow_graph.specs.declared.edge.Truth.TheVariants.{Yes, No}
use Rattle.stack_code.specs.declared.op.Op.{Op}
use Rattle.stack_code.specs.Effects.{falls, goal_of, depth_after, depth_at_goal}
use Rattle.abstract_shapes.specs.Shapes.{Shape, truth_of}
use Rattle.world_rules.specs.declared.row.TableEntry.{TableEntry}
use Rattle.world_rules.specs.declared.row.TransferRow.{TransferRow}
use Rattle.world_rules.specs.declared.row.Yield.{Yield}
use Rattle.world_rules.specs.declared.row.Yield.TheVariants as yields
use Rattle.world_rules.specs.declared.transfer.SeatReading.{SeatReading}
use Rattle.world_rules.specs.Places.{main, Variable, slot, Point, at, same_variable, below_top, target_of}
use Rattle.world_rules.specs.Sources.{Source}
use Rattle.world_rules.specs.Branches.{Branch, branch, fall_test, is_call}
use Rattle.world_rules.specs.Items.{Item, a_context, an_edge, a_fact, an_entry, map_of, variables}
use Rattle.world_rules.specs.Rows.{row_of, made}
use Rattle.world_rules.specs.Rules.{readings_at, fall_edge, jump_edge}
use Rattle.world_cases.proofs.Pairs.{Pair, all, has_pair, shapes_of, choices, same_shape}

-- what walks may have at a place
pub record Spot : Type 0 where
  pub depth : ℕ
  pub reached : Bool
  pub may : List Pair

abbrev pub nowhere : Spot
nowhere = record { depth = 0; reached = false; may = [] }

-- so many numbers from one on
abbrev pub numbers : ℕ → ℕ → List ℕ
numbers k zero = []
numbers k (suc n) = k ∷ numbers (suc k) n

-- ---- what a reading gives

abbrev pub add_made : Option Shape → List Shape → List Shape
add_made None ts = ts
add_made (Some t) ts = t ∷ ts

abbrev pub shapes_given : List Shape → List Yield → List Shape
shapes_given shapes [] = []
shapes_given shapes (y ∷ ys) = add_made (made shapes y) (shapes_given shapes ys)

abbrev pub add_entry : TableEntry → Option Shape → List Item → List Item
add_entry e None items = items
add_entry e (Some t) items = an_entry e.place t ∷ items

abbrev pub entries_given : List Shape → List TableEntry → List Item
entries_given shapes [] = []
entries_given shapes (e ∷ es) = add_entry e (made shapes e.given) (entries_given shapes es)

abbrev pub is_plain : Yield → Bool
is_plain (yields.Each place) = false
is_plain _ = true

abbrev pub is_plain_row : TransferRow → Bool
is_plain_row row = all is_plain row.results && all (λ e. is_plain e.given) row.entries

-- ---- tests of an edge

abbrev pub lets_through : Test Shape → Shape → Bool
lets_through MayBeTrue t = elim (truth_of t) [ No ↦ false | _ ↦ true ]
lets_through MayBeFalse t = elim (truth_of t) [ Yes ↦ false | _ ↦ true ]
lets_through (Is u) t = true

abbrev pub is_target : Option Variable → Variable → Bool
is_target None v = false
is_target (Some x) v = same_variable x v

module _ (s : Source) (table : List Spot) where
  abbrev pub spot : ℕ → Spot
  spot p = unwrap_or (slice_get table p) nowhere

  abbrev pub here : ℕ → Point
  here p = at main p (spot p).depth

  -- ---- items

  abbrev pub falls_on : Op → Bool
  falls_on o = falls o && not (is_call o)

  abbrev pub jumps_by : ℕ → Op → Option Branch → List (Edge Point Variable Shape)
  jumps_by p o None = []
  jumps_by p o (Some b) = jump_edge main p (spot p).depth o b ∷ []

  abbrev pub edges_at : ℕ → Op → List (Edge Point Variable Shape)
  edges_at p o = cond (falls_on o) (fall_edge main p (spot p).depth o ∷ []) [] ++ jumps_by p o (branch o)

  abbrev pub fact_at : ℕ → SeatReading → List Shape → Shape → Item
  fact_at p r shapes t = a_fact (record { point = here p; shape = t; source = map_of (variables main r.seats) shapes })

  abbrev pub items_of : ℕ → SeatReading → List Shape → List Item
  items_of p r shapes = map (fact_at p r shapes) (shapes_given shapes (row_of r.transfer shapes).results) ++ entries_given shapes (row_of r.transfer shapes).entries

  abbrev pub chosen_at : ℕ → SeatReading → List (List Shape)
  chosen_at p r = choices (spot p).may (variables main r.seats)

  abbrev pub items_read : ℕ → SeatReading → List Item
  items_read p r = flat_map (items_of p r) (chosen_at p r)

  abbrev pub reads_at : ℕ → Op → List SeatReading
  reads_at p o = readings_at s main (spot p).depth o

  abbrev pub items_at : ℕ → Op → List Item
  items_at p o = map an_edge (edges_at p o) ++ cond (spot p).reached (flat_map (items_read p) (reads_at p o)) []

  abbrev pub items_by : ℕ → Option Op → List Item
  items_by p None = []
  items_by p (Some o) = items_at p o

  abbrev pub items_on : ℕ → List Item
  items_on p = items_by p (slice_get s.program.body.ops p)

  abbrev pub places : List ℕ
  places = numbers 0 (length s.program.body.ops)

  abbrev pub world : List Item
  world = a_context main ∷ flat_map items_on places

  -- ---- tests

  abbrev pub goal_deep : ℕ → Op → Option ℕ → Bool
  goal_deep p o None = true
  goal_deep p o (Some g) = (spot g).depth == depth_at_goal o (spot p).depth

  abbrev pub deep : ℕ → Op → Bool
  deep p o = (not (falls o) || ((spot (suc p)).depth == depth_after o (spot p).depth)) && goal_deep p o (goal_of o)

  abbrev pub open_by : ℕ → Option (Test Shape) → Bool
  open_by p None = true
  open_by p (Some t) = list_any (lets_through t) (shapes_of (spot p).may (slot main (below_top (spot p).depth 0)))

  abbrev pub kept_in : Option Variable → List Pair → List Pair → Bool
  kept_in target pairs next = all (λ x. is_target target x.0 || has_pair next x.0 x.1) pairs

  abbrev pub results : ℕ → Op → List Shape
  results p o = flat_map (λ r. flat_map (λ shapes. shapes_given shapes (row_of r.transfer shapes).results) (chosen_at p r)) (reads_at p o)

  abbrev pub given_in : Option Variable → List Shape → List Pair → Bool
  given_in None ts next = true
  given_in (Some x) ts next = all (λ t. has_pair next x t) ts

  abbrev pub goes_on : ℕ → Op → Bool
  goes_on p o =
      not (falls_on o) || (not (open_by p (fall_test o)) ||
      ((spot (suc p)).reached && (kept_in (target_of s.program (here p)) (spot p).may (spot (suc p)).may && given_in (target_of s.program (here p)) (results p o) (spot (suc p)).may)))

  abbrev pub goes_off : ℕ → Option Branch → Bool
  goes_off p None = true
  goes_off p (Some b) = not (open_by p b.on_jump) || ((spot b.goal).reached && kept_in None (spot p).may (spot b.goal).may)

  abbrev pub plain : ℕ → Op → Bool
  plain p o = all (λ r. all (λ shapes. is_plain_row (row_of r.transfer shapes)) (chosen_at p r)) (reads_at p o)

  abbrev pub good : ℕ → Op → Bool
  good p o = deep p o && (not (spot p).reached || (goes_on p o && (goes_off p (branch o) && plain p o)))

  abbrev pub good_by : ℕ → Option Op → Bool
  good_by p None = false
  good_by p (Some o) = good p o

  abbrev pub good_on : ℕ → Bool
  good_on p = good_by p (slice_get s.program.body.ops p)

  abbrev pub begins_well : Bool
  begins_well = ((spot 0).depth == 0) && (spot 0).reached

  abbrev pub checked : Bool
  checked = begins_well && all good_on places

  -- ---- whether these are all its variables and shapes

  module _ (vars : List Variable) (shapes : List Shape) where
    abbrev pub of_these : Variable → Shape → Bool
    of_these x t = list_any (λ v. same_variable v x) vars && list_any (λ u. same_shape u t) shapes

    abbrev pub given_of : Option Variable → List Shape → Bool
    given_of None ts = true
    given_of (Some x) ts = all (of_these x) ts

    abbrev pub small_by : ℕ → Option Op → Bool
    small_by p None = true
    small_by p (Some o) = given_of (target_of s.program (here p)) (results p o)

    abbrev pub small_on : ℕ → Bool
    small_on p = all (λ x. of_these x.0 x.1) (spot p).may && (not (spot p).reached || small_by p (slice_get s.program.body.ops p))

    abbrev pub small : Bool
    small = all small_on places
