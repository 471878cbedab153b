-- A query by structure is one by numbers: over the roots that have numbers, under their names, and then over all roots.
use Rattle.std.proofs.Common.{◌≡◌, ◌↔◌, ℕ, Some, IsTrue, List, slice_get, refl, subst}
use Rattle.std.specs.List.{Contains}
use Rattle.graph_walks.specs.Worlds.{Edge as EdgeBetween}
use Rattle.graph_walks.specs.Walks.{Visible}
use Rattle.graph_walks.specs.Backs.{Heavy, Seen}
use Rattle.graph_walks.specs.Renamings.{IsRenamed}
use Rattle.graph_walks.proofs.Alike.{alike_renamed}
use Rattle.graph_walks.proofs.Renaming.{visible_same, heavy_same, seen_same}
use Rattle.typegraph.specs.declared.goals.Binding.{Binding}
use Rattle.typegraph.specs.Maps.{look}
use Rattle.goal_solver.specs.Graphs as numbers
use Rattle.abstract_shapes.specs.Shapes.{Shape}
use Rattle.world_rules.specs.Places.{Variable, Point}
use Rattle.world_rules.specs.Sources.{Source}
use Rattle.world_rules.specs.Items.{edges_of, is_root, world_of}
use Rattle.world_tables.specs.Tables.{Tables, items_of, memory_at, AreBindings, IsNumbering}
use Rattle.world_tables.proofs.Numbers.{points, variables, shapes, point_name}
use Rattle.world_tables.proofs.Renamed.{map_named, map_renamed, has_root, root_in, root_out, numbered_world, alike, edge_starts}
use Rattle.world_tables.proofs.SameRoots as same

module _ (s : Source) (t : Tables) (n : IsNumbering s t) where
  HasNumber : Point → Type 0
  HasNumber p = (k : ℕ) × ((points s t n).name p ≡ Some k)

  starts : (e : EdgeBetween Point Variable Shape) → Contains (edges_of (items_of t)) e → HasNumber e.from
  unfolding HasNumber
  starts e c = edge_starts s t n e c

  into : (p : Point) → HasNumber p → IsTrue (is_root s.program (items_of t) p) → IsTrue (has_root s t n p)
  unfolding HasNumber
  into p h r = root_in s t n p h.0 h.1 r

  out : (p : Point) → HasNumber p → IsTrue (has_root s t n p) → IsTrue (is_root s.program (items_of t) p)
  out p h r = root_out s t n p ((points s t n).name p) refl r

  numbers_alike : IsRenamed (points s t n) (variables s t n) (shapes s t n) (numbered_world s t n) (numbers.world_of t.graph)
  numbers_alike = alike_renamed (points s t n) (variables s t n) (shapes s t n) (numbered_world s t n) (numbers.world_of t.graph) (alike s t n)

  numbered_query : (id : ℕ) (p : Point) → slice_get t.points id ≡ Some p → HasNumber p
  unfolding HasNumber
  numbered_query id p stands = (id, point_name s t n id p stands)

  pub visible_by_numbers : (id : ℕ) (p : Point) → slice_get t.points id ≡ Some p → (goals : List Binding) → AreBindings t goals →
      Visible (world_of s (items_of t)) p (memory_at t goals) ↔ Visible (numbers.world_of t.graph) id (look goals)
  visible_by_numbers id p stands goals h =
      let across : Visible (numbered_world s t n) p (memory_at t goals) ↔ Visible (numbers.world_of t.graph) id (look goals) =
      subst (λ m. Visible (numbered_world s t n) p (memory_at t goals) ↔ Visible (numbers.world_of t.graph) id m) (map_renamed s t n goals h)
      (visible_same (points s t n) (variables s t n) (shapes s t n) (numbered_world s t n) (numbers.world_of t.graph) numbers_alike.0 numbers_alike.1 p id (memory_at t goals) (point_name s t n id p stands) (map_named s t n goals h)) in (
        λ v. across.0 (same.visible _ _ _ _ (is_root s.program (items_of t)) (has_root s t n) HasNumber starts into p (memory_at t goals) (numbered_query id p stands) v),
        λ v. same.visible _ _ _ _ (has_root s t n) (is_root s.program (items_of t)) HasNumber starts out p (memory_at t goals) (numbered_query id p stands) (across.1 v),
      )

  pub heavy_by_numbers : (id : ℕ) (p : Point) → slice_get t.points id ≡ Some p → (goals : List Binding) → AreBindings t goals → (budget : ℕ) →
      Heavy (world_of s (items_of t)) p (memory_at t goals) budget ↔ Heavy (numbers.world_of t.graph) id (look goals) budget
  heavy_by_numbers id p stands goals h budget =
      let across : Heavy (numbered_world s t n) p (memory_at t goals) budget ↔ Heavy (numbers.world_of t.graph) id (look goals) budget =
      subst (λ m. Heavy (numbered_world s t n) p (memory_at t goals) budget ↔ Heavy (numbers.world_of t.graph) id m budget) (map_renamed s t n goals h)
      (heavy_same (points s t n) (variables s t n) (shapes s t n) (numbered_world s t n) (numbers.world_of t.graph) numbers_alike.0 numbers_alike.1 p id (memory_at t goals) budget (point_name s t n id p stands) (map_named s t n goals h)) in (
        λ v. across.0 (same.heavy _ _ _ _ (is_root s.program (items_of t)) (has_root s t n) p (memory_at t goals) budget v),
        λ v. same.heavy _ _ _ _ (has_root s t n) (is_root s.program (items_of t)) p (memory_at t goals) budget (across.1 v),
      )

  pub seen_by_numbers : (id : ℕ) (p : Point) → slice_get t.points id ≡ Some p → (goals : List Binding) → AreBindings t goals → (budget : ℕ) →
      Seen (world_of s (items_of t)) p (memory_at t goals) budget ↔ Seen (numbers.world_of t.graph) id (look goals) budget
  seen_by_numbers id p stands goals h budget =
      let across : Seen (numbered_world s t n) p (memory_at t goals) budget ↔ Seen (numbers.world_of t.graph) id (look goals) budget =
      subst (λ m. Seen (numbered_world s t n) p (memory_at t goals) budget ↔ Seen (numbers.world_of t.graph) id m budget) (map_renamed s t n goals h)
      (seen_same (points s t n) (variables s t n) (shapes s t n) (numbered_world s t n) (numbers.world_of t.graph) numbers_alike.0 numbers_alike.1 p id (memory_at t goals) budget (point_name s t n id p stands) (map_named s t n goals h)) in (
        λ v. across.0 (same.seen _ _ _ _ (is_root s.program (items_of t)) (has_root s t n) HasNumber starts into p (memory_at t goals) budget (numbered_query id p stands) v),
        λ v. same.seen _ _ _ _ (has_root s t n) (is_root s.program (items_of t)) HasNumber starts out p (memory_at t goals) budget (numbered_query id p stands) (across.1 v),
      )
