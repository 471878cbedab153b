-- Rows that are kept well stay so where they grow, and what is said of both answers of a call.
use Rattle.std.proofs.Common.{◌≡◌, ℕ, ◌+◌, ◌<◌, ◌≤◌, Bool, Result, Ok, Err, Option, Some, None, option_map, List, [], ◌∷◌, ◌++◌, length, map, get_or, slice_get, ◌⊎◌, inl, inr, refl, sym, ap, subst, ◌∙◌, arith, length-append, add-one}
use Rattle.std.specs.List.{Contains}
use Rattle.std.specs.Result.{OnOk, OnErr}
use Rattle.std.proofs.Math.Decide.{ℕ_discrete}
use Rattle.std.proofs.lemmas.List.Elements.{Contains-get_or}
use Rattle.std.proofs.lemmas.List.Quantifiers.{all_pairs_push}
use Rattle.flow_graph.specs.declared.edge.Truth.{Truth}
use Rattle.flow_graph.specs.declared.context.Context.{Context as ContextRow}
use Rattle.flow_graph.specs.declared.edge.Edge.{Edge}
use Rattle.flow_graph.specs.Flows.{with_var, with_point, with_context, with_edge}
use Rattle.flow_graph.specs.Validity as flow_validity
use Rattle.flow_graph.proofs.Valid.{pushed, length-changed_at}
use Rattle.typegraph.specs.declared.fact.Fact.{Fact}
use Rattle.typegraph.specs.Graphs.{GraphTables, with_flow, with_row, with_fact}
use Rattle.typegraph.specs.Validity as graph_validity
use Rattle.abstract_shapes.specs.declared.shape.Shape.{Shape as ShapeRow}
use Rattle.abstract_shapes.specs.declared.table.TableRow.{TableRow}
use Rattle.abstract_shapes.specs.Numbering.{structures}
use Rattle.abstract_shapes.specs.Shapes.{truth_of}
use Rattle.world_rules.specs.Places.{Context, main}
use Rattle.world_rules.specs.Sources.{Source}
use Rattle.world_rules.specs.Items.{a_context, an_edge}
use Rattle.world_rules.specs.Rules.{Gives}
use Rattle.world_tables.specs.declared.spot.PointSpot.{PointSpot}
use Rattle.world_tables.specs.declared.spot.VariableSpot.{VariableSpot}
use Rattle.world_tables.specs.declared.spot.VariableSpot.TheVariants.{Local, Slot, Global}
use Rattle.world_tables.specs.Tables.{edge_at, items_of, HasAll, IsUsedIn, IsNewPoint, AreTables}
use Rattle.world_tables.specs.Rows.{WorldRows, contexts_of, context_of, the_context, point_of, variable_of, tables_of, with_graph, with_new_point, with_new_variable, IsSpotThere, IsBefore, IsCall, IsKept}
use Rattle.world_tables.proofs.Items.{there, below}
use Rattle.world_tables.proofs.Lists.{get_old, get_cases, one_longer, old_or_last}
use Rattle.world_tables.proofs.Keeping.{point_keeps, point_items, variable_keeps, variable_items, context_there, as_many}
use Rattle.world_tables.proofs.Kept.{one_context_more, points_stay, variables_stay}
use Rattle.world_tables.proofs.WithEdge as edges
use Rattle.world_tables.proofs.WithContext as contexts

-- ---- kept well

spot_later : (spot : VariableSpot) (n m : ℕ) → n ≤ m → IsSpotThere spot n → IsSpotThere spot m
spot_later (Local c i) n m l h = omega (arith, l, h)
spot_later (Slot c i) n m l h = omega (arith, l, h)
spot_later (Global x) n m l h = tt

-- a call's point is called there still where there is a point more
call_later : (spots : List PointSpot) (spot : PointSpot) (n : ℕ) (parent call fun : Option ℕ) → IsCall spots n parent call fun → IsCall (spots ++ spot ∷ []) n parent call fun
call_later spots spot n None None fun h = tt
call_later spots spot n None (Some k) fun h = absurd h
call_later spots spot n (Some p) None fun h = absurd h
call_later spots spot n (Some p) (Some k) None h = absurd h
call_later spots spot n (Some p) (Some k) (Some f) h = (h.0, ap (option_map (λ x. x.context)) (get_old spots spot k (within (slice_get spots k) refl h.1)) ∙ h.1)
  where
    within : (o : Option PointSpot) → slice_get spots k ≡ o → option_map (λ x. x.context) o ≡ Some p → k < length spots
    within None e i = cc
    within (Some x) e i = below spots k x e

module _ (rows : WorldRows) (kept : IsKept rows) where
  pub kept_variable : (spot : VariableSpot) → IsSpotThere spot (length rows.graph.flow.contexts) → IsKept (with_new_variable spot rows)
  kept_variable spot h =
      record {
        point_count = kept.point_count;
        variable_count = one_longer rows.variables spot rows.graph.flow.vars kept.variable_count;
        truths_are = kept.truths_are;
        points_there = kept.points_there;
        points_begun = kept.points_begun;
        points_in_order = kept.points_in_order;
        variables_there = λ other c. go other (old_or_last rows.variables spot other c);
        calls = kept.calls;
      }
    where
      go : (other : VariableSpot) → Contains rows.variables other ⊎ (other ≡ spot) → IsSpotThere other (length rows.graph.flow.contexts)
      go other (inl c) = kept.variables_there other c
      go other (inr e) = subst (λ x. IsSpotThere x (length rows.graph.flow.contexts)) (sym e) h

  pub kept_point : (spot : PointSpot) (target : Option ℕ) (root : Bool) → spot.context < length rows.graph.flow.contexts → spot.context ≡ rows.finished → ((other : PointSpot) → Contains rows.points other → other.context ≡ spot.context → other.place < spot.place) →
      IsKept (with_new_point spot target root rows)
  kept_point spot target root h next order =
      record {
        point_count = one_longer rows.points spot (length rows.graph.flow.points) kept.point_count ∙ sym (length-append rows.graph.flow.points (record { target = target; root = root; into = [] } ∷ []));
        variable_count = kept.variable_count;
        truths_are = kept.truths_are;
        points_there = λ other c. there_now other (old_or_last rows.points spot other c);
        points_begun = λ other c. begun other (old_or_last rows.points spot other c);
        points_in_order = all_pairs_push IsBefore rows.points spot kept.points_in_order (λ k d l. before (get_or rows.points k d) (Contains-get_or rows.points k d l));
        variables_there = kept.variables_there;
        calls = λ id row g. call_later rows.points spot id row.parent row.call row.fun (kept.calls id row g);
      }
    where
      there_now : (other : PointSpot) → Contains rows.points other ⊎ (other ≡ spot) → other.context < length rows.graph.flow.contexts
      there_now other (inl c) = kept.points_there other c
      there_now other (inr e) = subst (λ x. x.context < length rows.graph.flow.contexts) (sym e) h

      begun : (other : PointSpot) → Contains rows.points other ⊎ (other ≡ spot) → other.context ≤ rows.finished
      begun other (inl c) = kept.points_begun other c
      begun other (inr e) = subst (λ x. x.context ≤ rows.finished) (sym e) (omega (arith, next))

      before : (other : PointSpot) → Contains rows.points other → IsBefore other spot
      before other c = go (ℕ_discrete other.context spot.context)
        where
          go : Dec (other.context ≡ spot.context) → IsBefore other spot
          go (yes e) = inr (e, order other c e)
          go (no n) = let l : other.context ≤ rows.finished = kept.points_begun other c in inl (omega (arith, l, n, next))

  pub kept_edge : (e : Edge) → IsKept (with_graph (with_flow (with_edge e rows.graph.flow) rows.graph) rows)
  kept_edge e =
      record {
        point_count = kept.point_count ∙ sym (length-changed_at (pushed e) rows.graph.flow.points e.to);
        variable_count = kept.variable_count;
        truths_are = kept.truths_are;
        points_there = kept.points_there;
        points_begun = kept.points_begun;
        points_in_order = kept.points_in_order;
        variables_there = kept.variables_there;
        calls = kept.calls;
      }

  pub kept_fact : (p : ℕ) (f : Fact) → IsKept (with_graph (with_fact p f rows.graph) rows)
  kept_fact p f =
      record {
        point_count = kept.point_count;
        variable_count = kept.variable_count;
        truths_are = kept.truths_are;
        points_there = kept.points_there;
        points_begun = kept.points_begun;
        points_in_order = kept.points_in_order;
        variables_there = kept.variables_there;
        calls = kept.calls;
      }

  pub kept_finished : IsKept (record rows { finished = rows.finished + 1 })
  kept_finished =
      record {
        point_count = kept.point_count;
        variable_count = kept.variable_count;
        truths_are = kept.truths_are;
        points_there = kept.points_there;
        points_begun = λ other c. let l : other.context ≤ rows.finished = kept.points_begun other c in omega (arith, l);
        points_in_order = kept.points_in_order;
        variables_there = kept.variables_there;
        calls = kept.calls;
      }

  pub kept_entries : (joined : List TableRow) → IsKept (record rows { joined = joined })
  kept_entries joined =
      record {
        point_count = kept.point_count;
        variable_count = kept.variable_count;
        truths_are = kept.truths_are;
        points_there = kept.points_there;
        points_begun = kept.points_begun;
        points_in_order = kept.points_in_order;
        variables_there = kept.variables_there;
        calls = kept.calls;
      }

  pub kept_shapes : (truths : List Truth) (shapes : List ShapeRow) → truths ≡ map truth_of (structures shapes) → IsKept (record rows { graph = record rows.graph { truths = truths }; shapes = shapes })
  kept_shapes truths shapes are =
      record {
        point_count = kept.point_count;
        variable_count = kept.variable_count;
        truths_are = are;
        points_there = kept.points_there;
        points_begun = kept.points_begun;
        points_in_order = kept.points_in_order;
        variables_there = kept.variables_there;
        calls = kept.calls;
      }

  pub kept_context : (row : ContextRow) → IsCall rows.points (length rows.graph.flow.contexts) row.parent row.call row.fun → IsKept (with_graph (with_flow (with_context row rows.graph.flow) rows.graph) rows)
  kept_context row call =
      let n : length (rows.graph.flow.contexts ++ row ∷ []) ≡ length rows.graph.flow.contexts + 1 = length-append rows.graph.flow.contexts (row ∷ []) in
      record {
        point_count = kept.point_count;
        variable_count = kept.variable_count;
        truths_are = kept.truths_are;
        points_there = λ spot c. let l : spot.context < length rows.graph.flow.contexts = kept.points_there spot c in omega (arith, l, n);
        points_begun = kept.points_begun;
        points_in_order = kept.points_in_order;
        variables_there = λ spot c. spot_later spot (length rows.graph.flow.contexts) (length (rows.graph.flow.contexts ++ row ∷ [])) (omega (arith, n)) (kept.variables_there spot c);
        calls = λ id r g. called id r (get_cases rows.graph.flow.contexts row r id g);
      }
    where
      called : (id : ℕ) (r : ContextRow) → ((slice_get rows.graph.flow.contexts id ≡ Some r) × (id < length rows.graph.flow.contexts)) ⊎ ((id ≡ length rows.graph.flow.contexts) × (r ≡ row)) → IsCall rows.points id r.parent r.call r.fun
      called id r (inl g) = kept.calls id r g.0
      called id r (inr e) = subst (λ i. IsCall rows.points i r.parent r.call r.fun) (sym e.0) (subst (λ x. IsCall rows.points (length rows.graph.flow.contexts) x.parent x.call x.fun) (sym e.1) call)

  -- ---- a context more

  pub context_tables : (row : ContextRow) → tables_of (with_graph (with_flow (with_context row rows.graph.flow) rows.graph) rows) ≡ record (tables_of rows) { graph = with_flow (with_context row rows.graph.flow) rows.graph; contexts = contexts_of rows ++ context_of (contexts_of rows) rows.points row ∷ [] }
  context_tables row =
      let c : Context = context_of (contexts_of rows) rows.points row in
      let e : contexts_of (with_graph (with_flow (with_context row rows.graph.flow) rows.graph) rows) ≡ contexts_of rows ++ c ∷ [] = one_context_more [] rows.points rows.graph.flow.contexts row in
      let p : map (point_of (contexts_of (with_graph (with_flow (with_context row rows.graph.flow) rows.graph) rows))) rows.points ≡ map (point_of (contexts_of rows)) rows.points =
      ap (λ cs. map (point_of cs) rows.points) e ∙ points_stay (contexts_of rows) c rows.points (λ spot k. context_there rows kept spot.context (kept.points_there spot k)) in
      let v : map (variable_of (contexts_of (with_graph (with_flow (with_context row rows.graph.flow) rows.graph) rows))) rows.variables ≡ map (variable_of (contexts_of rows)) rows.variables =
      ap (λ cs. map (variable_of cs) rows.variables) e ∙ variables_stay (contexts_of rows) c rows.variables (λ spot k. subst (IsSpotThere spot) (sym (as_many rows kept)) (kept.variables_there spot k)) in
      λ i. record (tables_of rows) { graph = with_flow (with_context row rows.graph.flow) rows.graph; contexts = e i; points = p i; variables = v i }

-- ---- whatever a call answers

AreValid : GraphTables → Type 0
AreValid g = flow_validity.IsValid g.flow × graph_validity.IsValid g

module _ {T E : Type 0} (rows new : WorldRows) (kept : IsKept rows) (r : Result T E) (same : OnErr r (new ≡ rows)) (s : Source) (a : AreTables s (tables_of rows)) where
  pub variable_answers : (spot : VariableSpot) → (Contains rows.variables spot → ⊥) → IsSpotThere spot (length rows.graph.flow.contexts) → IsUsedIn s (contexts_of rows) (variable_of (contexts_of rows) spot) → OnOk r (new ≡ with_new_variable spot rows) → OnOk r (flow_validity.IsValid new.graph.flow × graph_validity.IsValid new.graph) →
      AreTables s (tables_of new) × (items_of (tables_of new) ≡ items_of (tables_of rows))
  variable_answers spot fresh known used added valid = go r same added valid
    where
      go : (r : Result T E) → OnErr r (new ≡ rows) → OnOk r (new ≡ with_new_variable spot rows) → OnOk r (flow_validity.IsValid new.graph.flow × graph_validity.IsValid new.graph) → AreTables s (tables_of new) × (items_of (tables_of new) ≡ items_of (tables_of rows))
      go (Ok x) h e v =
          let f : flow_validity.IsValid (with_var rows.graph.flow) = subst (λ w. flow_validity.IsValid w.graph.flow) e v.0 in
          let g : graph_validity.IsValid (with_flow (with_var rows.graph.flow) rows.graph) = subst (λ w. graph_validity.IsValid w.graph) e v.1 in
          (subst (λ w. AreTables s (tables_of w)) (sym e) (variable_keeps rows kept spot s a fresh known used f g), ap (λ w. items_of (tables_of w)) e ∙ variable_items rows kept spot s a fresh known used f g)
      go (Err x) h e v = (subst (λ w. AreTables s (tables_of w)) (sym h) a, ap (λ w. items_of (tables_of w)) h)

  pub point_answers : (spot : PointSpot) (target : Option ℕ) (root : Bool) → (Contains rows.points spot → ⊥) → spot.context < length rows.graph.flow.contexts → IsNewPoint s (tables_of rows) (the_context (contexts_of rows) spot.context) spot.place spot.depth target root →
      OnOk r (new ≡ with_new_point spot target root rows) → OnOk r (flow_validity.IsValid new.graph.flow × graph_validity.IsValid new.graph) →
      AreTables s (tables_of new) × (items_of (tables_of new) ≡ items_of (tables_of rows))
  point_answers spot target root fresh known is added valid = go r same added valid
    where
      go : (r : Result T E) → OnErr r (new ≡ rows) → OnOk r (new ≡ with_new_point spot target root rows) → OnOk r (flow_validity.IsValid new.graph.flow × graph_validity.IsValid new.graph) → AreTables s (tables_of new) × (items_of (tables_of new) ≡ items_of (tables_of rows))
      go (Ok x) h e v =
          let f : flow_validity.IsValid (with_point target root rows.graph.flow) = subst (λ w. flow_validity.IsValid w.graph.flow) e v.0 in
          let g : graph_validity.IsValid (with_row (with_point target root rows.graph.flow) rows.graph) = subst (λ w. graph_validity.IsValid w.graph) e v.1 in
          (subst (λ w. AreTables s (tables_of w)) (sym e) (point_keeps rows kept spot target root s a fresh known is f g), ap (λ w. items_of (tables_of w)) e ∙ point_items rows kept spot target root s a fresh known is f g)
      go (Err x) h e v = (subst (λ w. AreTables s (tables_of w)) (sym h) a, ap (λ w. items_of (tables_of w)) h)

-- an edge that is new
pub edge_keeps : (rows : WorldRows) (s : Source) (e : Edge) → AreTables s (tables_of rows) → Gives s (items_of (tables_of rows)) (an_edge (edge_at (tables_of rows) e)) →
    (g : GraphTables) → g ≡ with_flow (with_edge e rows.graph.flow) rows.graph → flow_validity.IsValid g.flow → graph_validity.IsValid g → AreTables s (tables_of (with_graph (with_flow (with_edge e rows.graph.flow) rows.graph) rows))
edge_keeps rows s e a gives g i f v = edges.edge_keeps s (tables_of rows) a e gives (subst (λ h. flow_validity.IsValid h.flow) i f) (subst graph_validity.IsValid i v)

-- a context that is new
pub context_keeps : (rows : WorldRows) (kept : IsKept rows) (s : Source) (row : ContextRow) → AreTables s (tables_of rows) → (Contains (contexts_of rows) (context_of (contexts_of rows) rows.points row) → ⊥) →
    Gives s (items_of (tables_of rows)) (a_context (context_of (contexts_of rows) rows.points row)) →
    (g : GraphTables) → g ≡ with_flow (with_context row rows.graph.flow) rows.graph → flow_validity.IsValid g.flow → graph_validity.IsValid g → AreTables s (tables_of (with_graph (with_flow (with_context row rows.graph.flow) rows.graph) rows))
context_keeps rows kept s row a fresh gives g i f v =
    subst (AreTables s) (sym (context_tables rows kept row))
    (contexts.context_keeps s (tables_of rows) a (context_of (contexts_of rows) rows.points row) row fresh gives (subst (λ h. flow_validity.IsValid h.flow) i f) (subst graph_validity.IsValid i v))

-- the next context is finished
pub finishing_keeps : (rows : WorldRows) → IsKept rows → (s : Source) → AreTables s (tables_of rows) → rows.finished < length rows.graph.flow.contexts → HasAll s (tables_of rows) (the_context (contexts_of rows) rows.finished) →
    AreTables s (tables_of (record rows { finished = rows.finished + 1 }))
finishing_keeps rows kept s a next all =
    subst (λ n. AreTables s (record (tables_of rows) { finished = n })) (sym (add-one rows.finished))
    (contexts.finishing_keeps s (tables_of rows) a (the_context (contexts_of rows) rows.finished) (there (contexts_of rows) rows.finished main (context_there rows kept rows.finished next)) all.points all.variables all.edges)
