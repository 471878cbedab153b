-- Parts of the work on a context, one after the other.
use Rattle.std.proofs.Common.{◌≡◌, ◌⊎◌, inl, inr, ℕ, refl, sym, ap, subst, ◌∙◌, List, length, ◌<◌}
use Rattle.std.specs.List.{Contains}
use Rattle.graph_walks.proofs.Lists as lists
use Rattle.graph_walks.proofs.Lists.{got, stands, map_has, map_from, Origin}
use Rattle.world_rules.specs.Places.{Context, Point}
use Rattle.world_rules.specs.Sources.{Source}
use Rattle.world_rules.specs.Items.{Item}
use Rattle.world_tables.specs.declared.spot.PointSpot.{PointSpot}
use Rattle.world_tables.specs.declared.spot.VariableSpot.{VariableSpot}
use Rattle.world_tables.specs.Tables.{items_of, AreTables}
use Rattle.world_tables.specs.Rows.{WorldRows, contexts_of, the_context, point_of, tables_of}
use Rattle.context_graph.specs.Growth.{IsGrown, IsEdgeOf, IsWithEdges, IsPart}

pub edges_same : (s : Source) (c : Context) (items : List Item) → IsWithEdges s c items items
edges_same s c items = record { contained = record { at = λ i k. k }; more = λ i k. inl k }

pub edges_on : (s : Source) (c : Context) (one two three : List Item) → IsWithEdges s c one two → IsWithEdges s c two three → IsWithEdges s c one three
edges_on s c one two three g h =
    record {
      contained = record { at = λ i k. h.contained.at i (g.contained.at i k) };
      more = λ i k. go i (h.more i k);
    }
  where
    go : (i : Item) → Contains two i ⊎ IsEdgeOf s c i → Contains one i ⊎ IsEdgeOf s c i
    go i (inl k) = g.more i k
    go i (inr e) = inr e

-- tables with the same items
pub part_items : (s : Source) (context : ℕ) (old new : WorldRows) → AreTables s (tables_of new) → items_of (tables_of new) ≡ items_of (tables_of old) → IsPart s context old new
part_items s context old new a e =
    record {
      tables = a;
      items = subst (λ is. IsWithEdges s (the_context (contexts_of old) context) (items_of (tables_of old)) is) (sym e) (edges_same s (the_context (contexts_of old) context) (items_of (tables_of old)));
    }

pub part_same : (s : Source) (context : ℕ) (rows : WorldRows) → AreTables s (tables_of rows) → IsPart s context rows rows
part_same s context rows a = part_items s context rows rows a refl

pub part_equal : (s : Source) (context : ℕ) (old new : WorldRows) → AreTables s (tables_of old) → new ≡ old → IsPart s context old new
part_equal s context old new a e = subst (IsPart s context old) (sym e) (part_same s context old a)

pub part_on : (s : Source) (context : ℕ) (a b c : WorldRows) → IsGrown a b → IsPart s context a b → IsPart s context b c → IsPart s context a c
part_on s context a b c grown g h =
    record {
      tables = h.tables;
      items = edges_on s (the_context (contexts_of a) context) (items_of (tables_of a)) (items_of (tables_of b)) (items_of (tables_of c)) g.items
          (subst (λ cs. IsWithEdges s (the_context cs context) (items_of (tables_of b)) (items_of (tables_of c))) grown.contexts h.items);
    }

-- ---- what is there stays there

module _ (old new : WorldRows) (grown : IsGrown old new) where
  pub spot_stays : (spot : PointSpot) → Contains old.points spot → Contains new.points spot
  spot_stays spot c = let k : lists.Stands old.points spot = stands old.points spot c in got new.points k.place spot (grown.points k.place spot k.at)

  pub variable_stays : (spot : VariableSpot) → Contains old.variables spot → Contains new.variables spot
  variable_stays spot c = let k : lists.Stands old.variables spot = stands old.variables spot c in got new.variables k.place spot (grown.variables k.place spot k.at)

  pub point_stays : (p : Point) → Contains (tables_of old).points p → Contains (tables_of new).points p
  point_stays p c =
      let o : Origin (point_of (contexts_of old)) old.points p = lists.map_from (point_of (contexts_of old)) old.points p c in
      subst (λ q. Contains (tables_of new).points q) (ap (λ cs. point_of cs o.item) grown.contexts ∙ o.same)
      (map_has (point_of (contexts_of new)) new.points o.item (spot_stays o.item o.is))

  pub there_stays : (context : ℕ) → context < length old.graph.flow.contexts → context < length new.graph.flow.contexts
  there_stays context h = subst (λ rows. context < length rows) (sym grown.rows) h
