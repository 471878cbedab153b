-- Rows that grow by a point or a variable stand for tables of the same world.
use Rattle.std.proofs.Common.{◌≡◌, ℕ, ◌+◌, ◌<◌, Bool, Option, Some, [], ◌∷◌, ◌++◌, length, map, slice_get, sym, ap, subst, ◌∙◌, arith}
use Rattle.std.specs.List.{Contains}
use Rattle.std.proofs.lemmas.List.{map-append}
use Rattle.graph_walks.proofs.Lists.{got}
use Rattle.flow_graph.specs.declared.context.Context.{Context as ContextRow}
use Rattle.flow_graph.specs.Flows.{with_var, with_point}
use Rattle.flow_graph.specs.Validity as flow_validity
use Rattle.typegraph.specs.Graphs.{with_flow, with_row}
use Rattle.typegraph.specs.Validity as graph_validity
use Rattle.world_rules.specs.Places.{main}
use Rattle.world_rules.specs.Sources.{Source}
use Rattle.world_tables.specs.declared.spot.PointSpot.{PointSpot}
use Rattle.world_tables.specs.declared.spot.VariableSpot.{VariableSpot}
use Rattle.world_tables.specs.Tables.{items_of, IsUsedIn, IsNewPoint, AreTables}
use Rattle.world_tables.specs.Rows.{WorldRows, contexts_of, the_context, point_of, variable_of, tables_of, with_new_point, with_new_variable, IsSpotThere, IsKept}
use Rattle.world_tables.proofs.Items.{there}
use Rattle.world_tables.proofs.Kept.{contexts_counted, spot_more, new_point, new_variable}
use Rattle.world_tables.proofs.WithPoint as points
use Rattle.world_tables.proofs.WithVariable as variables

module _ (rows : WorldRows) (kept : IsKept rows) where
  pub as_many : length (contexts_of rows) ≡ length rows.graph.flow.contexts
  as_many = let e : length (contexts_of rows) ≡ 0 + length rows.graph.flow.contexts = contexts_counted [] rows.points rows.graph.flow.contexts in omega (arith, e)

  pub context_there : (k : ℕ) → k < length rows.graph.flow.contexts → k < length (contexts_of rows)
  context_there k h = subst (λ n. k < n) (sym as_many) h

  spot_there : (spot : VariableSpot) → IsSpotThere spot (length rows.graph.flow.contexts) → IsSpotThere spot (length (contexts_of rows))
  spot_there spot h = subst (IsSpotThere spot) (sym as_many) h

  pub known_context : (k : ℕ) → k < length rows.graph.flow.contexts → Contains (contexts_of rows) (the_context (contexts_of rows) k)
  known_context k h = got (contexts_of rows) k _ (there (contexts_of rows) k main (context_there k h))

  calls_there : flow_validity.IsValid rows.graph.flow → (row : ContextRow) → Contains rows.graph.flow.contexts row → flow_validity.IsThere row.call (length rows.points)
  calls_there v row c = subst (flow_validity.IsThere row.call) (sym kept.point_count) (v.contexts row c).call

  module _ (spot : PointSpot) (target : Option ℕ) (root : Bool) where
    point_tables : flow_validity.IsValid rows.graph.flow → tables_of (with_new_point spot target root rows) ≡ record (tables_of rows) { graph = with_row (with_point target root rows.graph.flow) rows.graph; points = map (point_of (contexts_of rows)) rows.points ++ point_of (contexts_of rows) spot ∷ [] }
    point_tables v =
        let e : contexts_of (with_new_point spot target root rows) ≡ contexts_of rows = spot_more [] rows.points spot rows.graph.flow.contexts (calls_there v) in
        let p : map (point_of (contexts_of (with_new_point spot target root rows))) (rows.points ++ spot ∷ []) ≡ map (point_of (contexts_of rows)) rows.points ++ point_of (contexts_of rows) spot ∷ [] =
        ap (λ cs. map (point_of cs) (rows.points ++ spot ∷ [])) e ∙ map-append (point_of (contexts_of rows)) rows.points (spot ∷ []) in
        λ i. record (tables_of rows) { graph = with_row (with_point target root rows.graph.flow) rows.graph; contexts = e i; points = p i; variables = map (variable_of (e i)) rows.variables }

    module _ (s : Source) (a : AreTables s (tables_of rows)) (new : Contains rows.points spot → ⊥) (known : spot.context < length rows.graph.flow.contexts)
        (is : IsNewPoint s (tables_of rows) (the_context (contexts_of rows) spot.context) spot.place spot.depth target root)
        (flow_valid : flow_validity.IsValid (with_point target root rows.graph.flow)) (valid : graph_validity.IsValid (with_row (with_point target root rows.graph.flow) rows.graph)) where
      no_number : (k : ℕ) → slice_get (map (point_of (contexts_of rows)) rows.points) k ≡ Some (point_of (contexts_of rows) spot) → ⊥
      no_number = new_point (contexts_of rows) a.contexts_once rows.points spot (λ other c. context_there other.context (kept.points_there other c)) (context_there spot.context known) new

      pub point_keeps : AreTables s (tables_of (with_new_point spot target root rows))
      point_keeps =
          subst (AreTables s) (sym (point_tables a.numbering.flow_valid))
          (points.point_keeps s (tables_of rows) a (the_context (contexts_of rows) spot.context) spot.place spot.depth target root no_number (known_context spot.context known) is flow_valid valid)

      pub point_items : items_of (tables_of (with_new_point spot target root rows)) ≡ items_of (tables_of rows)
      point_items =
          ap items_of (point_tables a.numbering.flow_valid)
          ∙ points.same_items s (tables_of rows) a (the_context (contexts_of rows) spot.context) spot.place spot.depth target root no_number (known_context spot.context known) is flow_valid valid

  module _ (spot : VariableSpot) where
    variable_tables : tables_of (with_new_variable spot rows) ≡ record (tables_of rows) { graph = with_flow (with_var rows.graph.flow) rows.graph; variables = map (variable_of (contexts_of rows)) rows.variables ++ variable_of (contexts_of rows) spot ∷ [] }
    variable_tables =
        let p : map (variable_of (contexts_of rows)) (rows.variables ++ spot ∷ []) ≡ map (variable_of (contexts_of rows)) rows.variables ++ variable_of (contexts_of rows) spot ∷ [] = map-append (variable_of (contexts_of rows)) rows.variables (spot ∷ []) in
        λ i. record (tables_of rows) { graph = with_flow (with_var rows.graph.flow) rows.graph; variables = p i }

    module _ (s : Source) (a : AreTables s (tables_of rows)) (new : Contains rows.variables spot → ⊥) (known : IsSpotThere spot (length rows.graph.flow.contexts)) (used : IsUsedIn s (contexts_of rows) (variable_of (contexts_of rows) spot))
        (flow_valid : flow_validity.IsValid (with_var rows.graph.flow)) (valid : graph_validity.IsValid (with_flow (with_var rows.graph.flow) rows.graph)) where
      no_number_yet : (k : ℕ) → slice_get (map (variable_of (contexts_of rows)) rows.variables) k ≡ Some (variable_of (contexts_of rows) spot) → ⊥
      no_number_yet = new_variable (contexts_of rows) a.contexts_once rows.variables spot (λ other c. spot_there other (kept.variables_there other c)) (spot_there spot known) new

      pub variable_keeps : AreTables s (tables_of (with_new_variable spot rows))
      variable_keeps = subst (AreTables s) (sym variable_tables) (variables.variable_keeps s (tables_of rows) a (variable_of (contexts_of rows) spot) no_number_yet used flow_valid valid)

      pub variable_items : items_of (tables_of (with_new_variable spot rows)) ≡ items_of (tables_of rows)
      variable_items = ap items_of variable_tables ∙ variables.same_items s (tables_of rows) a (variable_of (contexts_of rows) spot) no_number_yet used flow_valid valid
