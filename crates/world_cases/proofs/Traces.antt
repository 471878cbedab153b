-- Traces of walks, turn by turn, and the tests by which a computed world stands in each closed world.
use Rattle.std.proofs.Common.{ℕ, suc, zero, Bool, true, false, not, ◌&&◌, ◌||◌, ◌==◌, Option, Some, None, option_map, option_and_then, List, [], ◌∷◌, length, slice_get, nat_lt}
use Rattle.std.specs.List.{list_any}
use Rattle.graph_walks.specs.Worlds.{Memory, Test, Is}
use Rattle.stack_code.specs.declared.op.Op.{Op}
use Rattle.stack_code.specs.Effects.{effect_of, falls, goal_of, depth_after, depth_at_goal}
use Rattle.abstract_shapes.specs.Shapes.{Shape}
use Rattle.world_rules.specs.declared.transfer.SeatReading.{SeatReading}
use Rattle.world_rules.specs.Places.{main, Variable, slot, at, below_top, target_of}
use Rattle.world_rules.specs.Sources.{Source}
use Rattle.world_rules.specs.Branches.{Branch, branch, fall_test, is_call}
use Rattle.world_rules.specs.Items.{map_of, variables}
use Rattle.world_rules.specs.Rows.{row_of, made}
use Rattle.world_rules.specs.Rules.{readings_at}
use Rattle.world_cases.proofs.Pairs.{all, same_shape}
use Rattle.world_cases.proofs.Tables.{Spot, numbers, lets_through}
use Rattle.world_cases.proofs.Tables as tables

-- on to the next place, with the result of a number where something is written; or a jump
pub data Turn : Type 0 where
  goes : ℕ → Turn
  jumps : Turn

-- where a walk is, and what it has
pub record State : Type 0 where
  pub place : ℕ
  pub depth : ℕ
  pub vars : List Variable
  pub shapes : List Shape

abbrev pub has : State → Memory Variable Shape
has st = map_of st.vars st.shapes

abbrev pub begin : State
begin = record { place = 0; depth = 0; vars = []; shapes = [] }

abbrev pub when : {A : Type 0} → Bool → Option A → Option A
when true x = x
when false x = None

abbrev pub look : Memory Variable Shape → List Variable → Option (List Shape)
look m [] = Some []
look m (x ∷ xs) = option_and_then (λ t. option_map (λ ts. t ∷ ts) (look m xs)) (m x)

abbrev pub surely : Test Shape → Shape → Bool
surely (Is u) t = false
surely test t = lets_through test t

abbrev pub tested : Memory Variable Shape → ℕ → Option (Test Shape) → Bool
tested m depth None = true
tested m depth (Some test) = elim (m (slot main (below_top depth 0))) [ None ↦ false | Some t ↦ surely test t ]

module _ (s : Source) where
  abbrev pub is_place : ℕ → Bool
  is_place p = nat_lt p (length s.program.body.ops)

  abbrev pub is_deep : Op → ℕ → Bool
  is_deep o depth = nat_lt (effect_of o).needs (suc depth)

  abbrev pub with_result : State → Op → Variable → SeatReading → ℕ → List Shape → Option State
  with_result st o x r k read =
      option_and_then (λ y. option_map (λ t. record { place = suc st.place; depth = depth_after o st.depth; vars = x ∷ st.vars; shapes = t ∷ st.shapes }) (made read y)) (slice_get (row_of r.transfer read).results k)

  abbrev pub written : State → Op → ℕ → Option Variable → Option State
  written st o k None = Some (record { place = suc st.place; depth = depth_after o st.depth; vars = st.vars; shapes = st.shapes })
  written st o k (Some x) = option_and_then (λ r. option_and_then (with_result st o x r k) (look (has st) (variables main r.seats))) (slice_get (readings_at s main st.depth o) 0)

  abbrev pub on : State → ℕ → Op → Option State
  on st k o =
      when (falls o) (when (not (is_call o)) (when (is_deep o st.depth) (when (is_place (suc st.place)) (when (tested (has st) st.depth (fall_test o))
      (written st o k (target_of s.program (at main st.place st.depth)))))))

  abbrev pub off_by : State → Op → Branch → Option State
  off_by st o b =
      when (is_deep o st.depth) (when (is_place b.goal) (when (tested (has st) st.depth b.on_jump)
      (Some (record { place = b.goal; depth = depth_at_goal o st.depth; vars = st.vars; shapes = st.shapes }))))

  abbrev pub turn : State → Turn → Option State
  turn st (goes k) = option_and_then (on st k) (slice_get s.program.body.ops st.place)
  turn st jumps = option_and_then (λ o. option_and_then (off_by st o) (branch o)) (slice_get s.program.body.ops st.place)

  -- all states of a trace
  abbrev pub follow : List Turn → State → List State
  follow [] st = st ∷ []
  follow (t ∷ turns) st = st ∷ elim (turn st t) [ None ↦ [] | Some next ↦ follow turns next ]

  -- ---- tests

  abbrev pub same_shapes : List Shape → List Shape → Bool
  same_shapes [] [] = true
  same_shapes (t ∷ ts) (u ∷ us) = same_shape t u && same_shapes ts us
  same_shapes _ _ = false

  abbrev pub same_looked : Option (List Shape) → List Shape → Bool
  same_looked None read = false
  same_looked (Some ts) read = same_shapes ts read

  module _ (table : List Spot) (visits : List State) where
    abbrev pub is_visit : ℕ → SeatReading → List Shape → State → Bool
    is_visit p r read st = (st.place == p) && ((st.depth == (tables.spot s table p).depth) && same_looked (look (has st) (variables main r.seats)) read)

    abbrev pub is_visited : ℕ → SeatReading → List Shape → Bool
    is_visited p r read = list_any (is_visit p r read) visits

    abbrev pub goal_comes : ℕ → Op → Option ℕ → ℕ → Bool
    goal_comes q o None p = false
    goal_comes q o (Some goal) p = (goal == p) && (depth_at_goal o (tables.spot s table q).depth == (tables.spot s table p).depth)

    abbrev pub comes : ℕ → ℕ → Op → Bool
    comes p q o =
        is_deep o (tables.spot s table q).depth
        && ((falls o && ((suc q == p) && (depth_after o (tables.spot s table q).depth == (tables.spot s table p).depth))) || goal_comes q o (goal_of o) p)

    abbrev pub comes_by : ℕ → ℕ → Option Op → Bool
    comes_by p q None = false
    comes_by p q (Some o) = comes p q o

    abbrev pub comes_from : ℕ → ℕ → Bool
    comes_from p q = comes_by p q (slice_get s.program.body.ops q)

    -- its depth is that behind an earlier place
    abbrev pub is_behind : ℕ → Bool
    is_behind zero = (tables.spot s table 0).depth == 0
    is_behind (suc p) = list_any (comes_from (suc p)) (numbers 0 (suc p))

    abbrev pub goes_to : ℕ → Option Branch → Op → Bool
    goes_to p None o = true
    goes_to p (Some b) o = is_deep o (tables.spot s table p).depth && is_place b.goal

    abbrev pub stands : ℕ → Op → Bool
    stands p o =
        (not (falls o) || (is_deep o (tables.spot s table p).depth && is_place (suc p)))
        && (goes_to p (branch o) o
        && (not (tables.spot s table p).reached || all (λ r. all (is_visited p r) (tables.chosen_at s table p r)) (tables.reads_at s table p o)))

    abbrev pub stands_by : ℕ → Option Op → Bool
    stands_by p None = false
    stands_by p (Some o) = stands p o

    abbrev pub stands_on : ℕ → Bool
    stands_on p = is_behind p && stands_by p (slice_get s.program.body.ops p)

    abbrev pub traced : Bool
    traced = all stands_on (tables.places s table)
