-- What shapes more leave of a world.
use Rattle.std.proofs.Common.{◌≡◌, ℕ, suc, zero, ◌+◌, ◌<◌, ◌≤◌, Option, Some, None, List, [], ◌∷◌, ◌++◌, length, map, slice_get, refl, sym, ap, subst, ◌∙◌, arith, append_assoc, append-nil, length-append}
use Rattle.std.specs.List.{Contains}
use Rattle.std.proofs.lemmas.List.{length-map, map-append}
use Rattle.flow_graph.specs.declared.edge.Ask.{Ask}
use Rattle.flow_graph.specs.declared.edge.Test.{Test}
use Rattle.flow_graph.specs.declared.edge.Test.TheVariants.{MayBeTrue, MayBeFalse, Is}
use Rattle.flow_graph.specs.declared.edge.Truth.{Truth}
use Rattle.typegraph.specs.Graphs.{GraphTables, row_of as facts_at, with_shape}
use Rattle.typegraph.specs.Validity.{IsTestThere, IsShapeAskThere, IsFactAt, IsValid}
use Rattle.goal_solver.specs.Memos.{SolverState, IsSound}
use Rattle.goal_solver.proofs.MoreShapes.{sound_with_shape}
use Rattle.abstract_shapes.specs.Numbering.{structures}
use Rattle.abstract_shapes.specs.Shapes.{Shape, truth_of}
use Rattle.abstract_shapes.specs.Tables.{entries}
use Rattle.world_rules.specs.Sources.{Source}
use Rattle.world_tables.specs.Tables.{items_of, AreTables}
use Rattle.world_tables.specs.Rows.{WorldRows, contexts_from, contexts_of, tables_of, IsWithShapes, IsKept}
use Rattle.world_tables.proofs.Items.{below}
use Rattle.abstract_vm.specs.Worlds.{WorldState, items_in, AreEntriesThere, IsWorldOf}
use Rattle.abstract_vm.specs.Steps.{NumbersStay}

-- ---- what is remembered

test_later : (t : Test) (m n : ℕ) → m ≤ n → IsTestThere t m → IsTestThere t n
test_later MayBeTrue m n l h = tt
test_later MayBeFalse m n l h = tt
test_later (Is shape) m n l h = omega (arith, l, h)

ask_later : (a : Option Ask) (m n : ℕ) → m ≤ n → IsShapeAskThere a m → IsShapeAskThere a n
ask_later None m n l h = tt
ask_later (Some a) m n l h = test_later a.test m n l h

valid_shape : (g : GraphTables) (truth : Truth) → IsValid g → IsValid (with_shape truth g)
valid_shape g truth v =
    let more : length g.truths ≤ length (g.truths ++ truth ∷ []) = omega (arith, length-append g.truths (truth ∷ [])) in
    record {
      rows = v.rows;
      facts = λ p f c.
          let h : IsFactAt g p f = v.facts p f c in
          record {
            var = h.var;
            target = h.target;
            shape = omega (arith, h.shape, more);
            source = λ b k. record { var = (h.source b k).var; shape = omega (arith, (h.source b k).shape, more) };
            once = h.once;
            rising = h.rising;
          };
      once = v.once;
      asks = λ p e c. ask_later e.asks (length g.truths) (length (g.truths ++ truth ∷ [])) more (v.asks p e c);
    }

pub sound_shapes : (more : List Truth) (g : GraphTables) → IsValid g → (s : SolverState) → IsSound s g → IsSound s (record g { truths = g.truths ++ more })
sound_shapes [] g v s h = subst (λ ts. IsSound s (record g { truths = ts })) (sym (append-nil g.truths)) h
sound_shapes (t ∷ more) g v s h =
    subst (λ ts. IsSound s (record g { truths = ts })) (append_assoc g.truths (t ∷ []) more)
    (sound_shapes more (with_shape t g) (valid_shape g t v) s (sound_with_shape g t v s h))

-- ---- what has a number

get_left : {X : Type 0} (xs ys : List X) (k : ℕ) → k < length xs → slice_get (xs ++ ys) k ≡ slice_get xs k
get_left [] ys k h = absurd (omega (arith, h))
get_left (x ∷ xs) ys zero h = refl
get_left (x ∷ xs) ys (suc k) h = get_left xs ys k (omega (arith, h))

module _ (old : WorldState) (rows : WorldRows) (kept : IsKept old.rows) (w : IsWithShapes old.rows rows) where
  abbrev new : WorldState
  new = record old { rows = rows }

  same_flow : rows.graph.flow ≡ old.rows.graph.flow
  same_flow = ap (λ r. r.graph.flow) w.rest

  same_points : rows.points ≡ old.rows.points
  same_points = ap (λ r. r.points) w.rest

  same_contexts : contexts_of rows ≡ contexts_of old.rows
  same_contexts = λ i. contexts_from [] (same_points i) ((same_flow i).contexts)

  truths_are : rows.graph.truths ≡ map truth_of (structures rows.shapes)
  truths_are = ap (λ r. r.graph.truths) w.rest

  truths_grow : rows.graph.truths ≡ old.rows.graph.truths ++ map truth_of w.more
  truths_grow = truths_are ∙ (ap (map truth_of) w.shapes ∙ (map-append truth_of (structures old.rows.shapes) w.more ∙ ap (λ ts. ts ++ map truth_of w.more) (sym kept.truths_are)))

  no_fewer : length old.rows.graph.truths ≤ length rows.graph.truths
  no_fewer = omega (arith, ap length truths_grow, length-append old.rows.graph.truths (map truth_of w.more))

  stands_still : (id : ℕ) (x : Shape) → slice_get (structures old.rows.shapes) id ≡ Some x → slice_get (structures rows.shapes) id ≡ Some x
  stands_still id x h = ap (λ xs. slice_get xs id) w.shapes ∙ (get_left (structures old.rows.shapes) w.more id (below (structures old.rows.shapes) id x h) ∙ h)

  pub shapes_stay : NumbersStay old (record old { rows = rows })
  shapes_stay =
      record {
        flow = same_flow;
        finished = ap (λ r. r.finished) w.rest;
        points = same_points;
        variables = ap (λ r. r.variables) w.rest;
        shapes = stands_still;
        facts = λ q f c. subst (λ fs. Contains (facts_at (slice_get fs q)) f) (sym (ap (λ r. r.graph.facts) w.rest)) c;
        truths = no_fewer;
        budget = refl;
        library = refl;
      }

  pub shapes_sound : IsValid old.rows.graph → IsSound old.solver old.rows.graph → IsSound old.solver rows.graph
  shapes_sound valid sound =
      let same : rows.graph ≡ record old.rows.graph { truths = rows.graph.truths } = ap (λ r. r.graph) w.rest ∙ ap (λ ts. record old.rows.graph { truths = ts }) (sym truths_are) in
      subst (IsSound old.solver) (sym (same ∙ ap (λ ts. record old.rows.graph { truths = ts }) truths_grow)) (sound_shapes (map truth_of w.more) old.rows.graph valid old.solver sound)

  pub shapes_entries : AreEntriesThere old.rows → AreEntriesThere rows
  shapes_entries h =
      record { at = λ e c. let l : e.1 < length old.rows.graph.truths = h.at e (subst (λ j. Contains (entries j) e) (ap (λ r. r.joined) w.rest) c) in let m : length old.rows.graph.truths ≤ length rows.graph.truths = no_fewer in omega (arith, l, m) }

  pub shapes_world : ((s : Source) → AreTables s (tables_of old.rows) → AreTables s (tables_of rows) × (items_of (tables_of rows) ≡ items_of (tables_of old.rows))) →
      (s : Source) → IsWorldOf s old → IsWorldOf s (record old { rows = rows }) × (items_in (record old { rows = rows }) ≡ items_in old)
  shapes_world keeps s h = (
    record { tables = (keeps s h.tables).0; finished = ap (λ r. r.finished) w.rest ∙ (h.finished ∙ sym (ap length same_contexts)) },
    (keeps s h.tables).1,
  )

  -- a shape's number is below the count
  pub number_there : (id : ℕ) (x : Shape) → slice_get (structures rows.shapes) id ≡ Some x → id < length rows.graph.truths
  number_there id x h =
      let l : id < length (structures rows.shapes) = below (structures rows.shapes) id x h in
      let m : length rows.graph.truths ≡ length (structures rows.shapes) = ap length truths_are ∙ length-map (structures rows.shapes) truth_of in
      omega (arith, l, m)
