-- What a graph speaks of has numbers that are there.
use Rattle.std.proofs.Common.{◌≡◌, ℕ, ◌<◌, Option, Some, None, List, length, slice_get, refl, sym, subst}
use Rattle.std.specs.List.{Contains, flat_map}
use Rattle.graph_walks.proofs.Lists as lists
use Rattle.graph_walks.proofs.Lists.{empty, stands, Part, flat_map_from}
use Rattle.flow_graph.specs.declared.edge.Edge.{Edge}
use Rattle.flow_graph.specs.Flows as flows
use Rattle.flow_graph.specs.Flows.{PointRow}
use Rattle.flow_graph.specs.Validity as flow_validity
use Rattle.typegraph.specs.declared.fact.Fact.{Fact}
use Rattle.typegraph.specs.Graphs.{row_of}
use Rattle.typegraph.specs.Validity as graph_validity
use Rattle.world_rules.specs.Sources.{Source}
use Rattle.world_tables.specs.Tables.{Tables, AreBindings, IsNumbering}
use Rattle.world_tables.proofs.Items.{below}

pub record Right (t : Tables) (e : Edge) : Type 0 where
  pub from : e.from < length t.points
  pub to : e.to < length t.points
  pub var : flow_validity.IsAskThere e.asks t.graph.flow.vars
  pub shape : graph_validity.IsShapeAskThere e.asks (length t.graph.truths)

module _ (s : Source) (t : Tables) (n : IsNumbering s t) where
  pub count_points : (k : ℕ) → k < length t.graph.flow.points → k < length t.points
  count_points k h = subst (λ m. k < m) (sym n.point_count) h

  pub count_vars : (k : ℕ) → k < t.graph.flow.vars → k < length t.variables
  count_vars k h = subst (λ m. k < m) (sym n.variable_count) h

  pub count_shapes : (k : ℕ) → k < length t.graph.truths → k < length t.shapes
  count_shapes k h = subst (λ m. k < m) (sym n.shape_count) h

  pub edge_right : (e : Edge) → Contains (flat_map (λ (p : PointRow). p.into) t.graph.flow.points) e → Right t e
  edge_right e c =
      let q : Part (λ (p : PointRow). p.into) t.graph.flow.points e = flat_map_from (λ (p : PointRow). p.into) t.graph.flow.points e c in
      let k : lists.Stands t.graph.flow.points q.item = stands t.graph.flow.points q.item q.is in
      let v : flow_validity.IsEdgeAt t.graph.flow.vars (length t.graph.flow.points) k.place e = (n.flow_valid.points k.place q.item k.at).edges e q.part in
      record {
        from = count_points e.from v.from;
        to = count_points e.to (subst (λ m. m < length t.graph.flow.points) (sym v.to) (below t.graph.flow.points k.place q.item k.at));
        var = v.asks;
        shape = n.graph_valid.asks k.place e (subst (λ o. Contains (flows.into_of o) e) (sym k.at) q.part);
      }

  pub row_point : (p : ℕ) (f : Fact) → Contains (row_of (slice_get t.graph.facts p)) f → p < length t.points
  row_point p f c = go (slice_get t.graph.facts p) refl c
    where
      go : (o : Option (List Fact)) → slice_get t.graph.facts p ≡ o → Contains (row_of o) f → p < length t.points
      go None e c = empty f c
      go (Some row) e c = count_points p (subst (λ m. p < m) n.graph_valid.rows (below t.graph.facts p row e))

  pub fact_bindings : (p : ℕ) (f : Fact) → Contains (row_of (slice_get t.graph.facts p)) f → AreBindings t f.source
  fact_bindings p f c =
      let v : graph_validity.IsFactAt t.graph p f = n.graph_valid.facts p f c in
      λ b k. record { var = count_vars b.var (v.source b k).var; shape = count_shapes b.shape (v.source b k).shape }
