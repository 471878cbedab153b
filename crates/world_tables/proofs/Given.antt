-- What facts give by structure is what the graph's facts give by numbers.
use Rattle.std.proofs.Common.{◌≡◌, ◌↔◌, ℕ, Some, slice_get, ap, subst, ◌∙◌}
use Rattle.std.specs.Option.{unwrap_or}
use Rattle.std.specs.List.{Contains}
use Rattle.graph_walks.specs.Worlds.{Fact as FactBetween, FactGives}
use Rattle.graph_walks.specs.Renamings.{SameFact}
use Rattle.graph_walks.proofs.Lists.{got}
use Rattle.flow_graph.specs.Flows as flows
use Rattle.typegraph.specs.Graphs.{IsGiven}
use Rattle.goal_solver.specs.Graphs as numbers
use Rattle.goal_solver.proofs.Tables.{FactHere, fact_here}
use Rattle.abstract_shapes.specs.Shapes.{Shape, any}
use Rattle.world_rules.specs.Places.{main, Variable, global, Point, at}
use Rattle.world_rules.specs.Sources.{Source}
use Rattle.world_rules.specs.Items.{a_fact, facts_of, world_of}
use Rattle.world_rules.proofs.Members.{fact_item, item_fact}
use Rattle.world_tables.specs.Tables.{Tables, the_point, the_variable, the_shape, memory_at, fact_at, items_of, IsNumbering}
use Rattle.world_tables.proofs.Items.{there, items_in, has_fact}
use Rattle.world_tables.proofs.There.{row_point}
use Rattle.world_tables.proofs.Numbers.{points, variables, shapes, point_of_name, variable_of_name, shape_of_name}
use Rattle.world_tables.proofs.Renamed.{fact_to, target_to, target_is}

module _ (s : Source) (t : Tables) (n : IsNumbering s t) where
  -- the numbers of what a fact gives
  record GivenUnder (x : Variable) (y : Shape) : Type 0 where
    variable : ℕ
    shape : ℕ
    variable_is : slice_get t.variables variable ≡ Some x
    shape_is : slice_get t.shapes shape ≡ Some y
    given : IsGiven t.graph variable shape

  abbrev fact_of : (x : Variable) (y : Shape) → FactGives (world_of s (items_of t)) x y → FactBetween Point Variable Shape
  fact_of x y g = record { point = g.point; shape = y; source = g.source }

  under : (x : Variable) (y : Shape) → FactGives (world_of s (items_of t)) x y → GivenUnder x y
  under x y g = by (fact_to s t n (fact_of x y g) (items_in t (a_fact (fact_of x y g)) (fact_item (items_of t) (fact_of x y g) g.fact)))
    where
      by : (f : FactBetween ℕ ℕ ℕ) × SameFact (points s t n) (variables s t n) (shapes s t n) (fact_of x y g) f × Contains (numbers.world_of t.graph).facts f → GivenUnder x y
      by f =
          let target : (v : ℕ) × ((variables s t n).name x ≡ Some v) × (flows.target_of (slice_get t.graph.flow.points f.0.point) ≡ Some v) =
          target_to s t n g.point f.0.point x (point_of_name s t n f.0.point g.point f.1.point) g.target in
          let here : FactHere t.graph f.0.point f.0.shape f.0.source = fact_here t.graph f.0.point f.0.shape f.0.source f.2 in
          record {
            variable = target.0;
            shape = f.0.shape;
            variable_is = variable_of_name s t n target.0 x target.1;
            shape_is = shape_of_name s t n f.0.shape y f.1.shape;
            given = record { point = f.0.point; fact = here.fact; target = target.2; is = here.is; shape_is = here.shape };
          }

  pub has_numbers : (x : Variable) (y : Shape) → FactGives (world_of s (items_of t)) x y → Contains t.variables x × Contains t.shapes y
  has_numbers x y g = let u : GivenUnder x y = under x y g in (got t.variables u.variable x u.variable_is, got t.shapes u.shape y u.shape_is)

  module _ (v k : ℕ) (x : Variable) (y : Shape) (h : slice_get t.variables v ≡ Some x) (i : slice_get t.shapes k ≡ Some y) where
    to_graph : FactGives (world_of s (items_of t)) x y → IsGiven t.graph v k
    to_graph g =
        let u : GivenUnder x y = under x y g in
        let same_variable : u.variable ≡ v = n.variables_once u.variable v x u.variable_is h in
        let same_shape : u.shape ≡ k = n.shapes_once u.shape k y u.shape_is i in
        subst (λ m. IsGiven t.graph m k) same_variable (subst (IsGiven t.graph u.variable) same_shape u.given)

    from_graph : IsGiven t.graph v k → FactGives (world_of s (items_of t)) x y
    from_graph g =
        let stands : slice_get t.points g.point ≡ Some (the_point t g.point) = there t.points g.point (at main 0 0) (row_point s t n g.point g.fact g.is) in
        let variable : the_variable t v ≡ x = ap (λ o. unwrap_or o (global 0)) h in
        let shape : the_shape t g.fact.shape ≡ y = ap (the_shape t) g.shape_is ∙ ap (λ o. unwrap_or o any) i in
        record {
          point = the_point t g.point;
          source = memory_at t g.fact.source;
          target = target_is s t n (the_point t g.point) g.point v stands g.target ∙ ap Some variable;
          fact = subst (λ z. Contains (facts_of (items_of t)) (record { point = the_point t g.point; shape = z; source = memory_at t g.fact.source })) shape
              (item_fact (items_of t) (fact_at t g.point g.fact) (has_fact t g.point g.fact g.is));
        }

    pub given_same : FactGives (world_of s (items_of t)) x y ↔ IsGiven t.graph v k
    given_same = (to_graph, from_graph)
