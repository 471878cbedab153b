-- What a context needs, when all its places are done.
use Rattle.std.proofs.Common.{◌≡◌, ℕ, ◌<◌, Option, Some, None, option_map, length, slice_get, refl, sym, ap, subst, ◌∙◌}
use Rattle.std.specs.Option.{option_and_then}
use Rattle.std.specs.List.{Contains}
use Rattle.graph_walks.specs.Worlds as worlds
use Rattle.graph_walks.proofs.Lists as lists
use Rattle.graph_walks.proofs.Lists.{got, stands, map_has, map_from, Origin}
use Rattle.flow_graph.specs.declared.edge.Ask.{Ask}
use Rattle.flow_graph.specs.Flows as flows
use Rattle.flow_graph.specs.Flows.{PointRow}
use Rattle.flow_graph.specs.Validity as flow_validity
use Rattle.stack_code.specs.declared.code.Code.{Code}
use Rattle.stack_code.specs.declared.op.Op.{Op}
use Rattle.stack_code.specs.Depths.{HasDepth}
use Rattle.program_tables.specs.Programs.{Compiled}
use Rattle.abstract_shapes.specs.Shapes.{Shape}
use Rattle.world_rules.specs.declared.transfer.SeatReading.{SeatReading}
use Rattle.world_rules.specs.Places as places
use Rattle.world_rules.specs.Places.{Context, Variable, global, Point, at, code_of, op_at, written, target_of}
use Rattle.world_rules.specs.Sources.{Source}
use Rattle.world_rules.specs.Items.{an_edge, variables}
use Rattle.world_rules.specs.Rules.{IsPoint, Stands, Leads, readings_at}
use Rattle.world_rules.proofs.Extending.{some_same}
use Rattle.world_tables.specs.declared.spot.PointSpot.{PointSpot}
use Rattle.world_tables.specs.Tables.{Tables, the_variable, ask_at, items_of, IsUsed, used_written, used_read, used_asked, IsNumbering, AreTables, HasAll}
use Rattle.world_tables.specs.Rows.{WorldRows, contexts_of, the_context, variable_of, tables_of}
use Rattle.world_tables.proofs.Items.{In, in_edges, items_in, there}
use Rattle.world_tables.proofs.There.{edge_right, count_vars}
use Rattle.context_code.proofs.SourceReadings.{readings_are}
use Rattle.context_code.proofs.SeatVariables.{owned_stands}
use Rattle.context_code.specs.Readings.{readings_of}
use Rattle.context_code.specs.Seats.{owned_spot}
use Rattle.context_code.specs.Sources.{IsSourceOf}
use Rattle.context_graph.specs.Growth.{IsGrown, IsStep, IsPart}
use Rattle.context_graph.specs.Places.{IsCodeOf, IsSpotAt, HavePoints, HasReads, HaveReads, HaveEdges}
use Rattle.context_graph.proofs.EdgeSteps.{depth_within}
use Rattle.context_graph.proofs.EdgeMore.{points_on}
use Rattle.context_graph.proofs.Grown.{grown_on}
use Rattle.context_graph.proofs.Parts.{part_on}
use Rattle.context_graph.proofs.ReadSteps.{reads_on}
use Rattle.context_graph.specs.Worlds.{IsWorld}
use Rattle.context_graph.proofs.PointSteps.{place_of, target_is}

-- ---- variables with a number

variable_there : (t : Tables) (k : ℕ) → k < length t.variables → Contains t.variables (the_variable t k)
variable_there t k l = got t.variables k (the_variable t k) (there t.variables k (global 0) l)

-- the target of a point is a variable
target_there : (s : Source) (t : Tables) → IsNumbering s t → (p : Point) (x : Variable) → Contains t.points p → target_of s.program p ≡ Some x → Contains t.variables x
target_there s t n p x c e = let k : lists.Stands t.points p = stands t.points p c in by_row k.place (slice_get t.graph.flow.points k.place) refl (n.targets k.place p k.at ∙ e)
  where
    by_number : (v : Option ℕ) → flow_validity.IsThere v t.graph.flow.vars → option_map (the_variable t) v ≡ Some x → Contains t.variables x
    by_number None h i = cc
    by_number (Some v) h i = let same : the_variable t v ≡ x = cc in subst (λ y. Contains t.variables y) same (variable_there t v (count_vars s t n v h))

    by_row : (k : ℕ) (o : Option PointRow) → slice_get t.graph.flow.points k ≡ o → option_map (the_variable t) (flows.target_of (slice_get t.graph.flow.points k)) ≡ Some x → Contains t.variables x
    by_row k None i f = let g : option_map (the_variable t) (flows.target_of (slice_get t.graph.flow.points k)) ≡ None = ap (λ o. option_map (the_variable t) (flows.target_of o)) i in cc
    by_row k (Some row) i f = by_number row.target (n.flow_valid.points k row i).target (sym (ap (λ o. option_map (the_variable t) (flows.target_of o)) i) ∙ f)

-- what an edge asks is a variable
asked_there : (s : Source) (t : Tables) → IsNumbering s t → (e : worlds.Edge Point Variable Shape) (a : worlds.Ask Variable Shape) → In t (an_edge e) → e.asks ≡ Some a → Contains t.variables a.var
asked_there s t n _ a (in_edges d l) h = go d.asks (edge_right s t n d l).var h
  where
    go : (b : Option Ask) → flow_validity.IsAskThere b t.graph.flow.vars → ask_at t b ≡ Some a → Contains t.variables a.var
    go None k i = cc
    go (Some b) k i = let same : the_variable t b.var ≡ a.var = ap (λ (o : Option (worlds.Ask Variable Shape)). var_of o) i in subst (λ y. Contains t.variables y) same (variable_there t b.var (count_vars s t n b.var k))
      where
        var_of : Option (worlds.Ask Variable Shape) → Variable
        var_of None = global 0
        var_of (Some x) = x.var

-- ---- all that the context needs

module _ (s : Source) (compiled : Compiled) (rows : WorldRows) (code : Code) (context : ℕ) (a : AreTables s (tables_of rows)) (source : IsSourceOf s compiled)
    (of : code_of s.program (the_context (contexts_of rows) context) ≡ Some code)
    (points : HavePoints s (tables_of rows) (the_context (contexts_of rows) context) (length code.ops))
    (reads : HaveReads compiled rows code context (length code.ops))
    (edges : HaveEdges s (tables_of rows) (the_context (contexts_of rows) context) (length code.ops)) where
  known_code : (k : Code) → code_of s.program (the_context (contexts_of rows) context) ≡ Some k → k ≡ code
  known_code k e = some_same (sym e ∙ of)

  within : (place depth : ℕ) → IsPoint s (at (the_context (contexts_of rows) context) place depth) → place < length code.ops
  within place depth p = subst (λ k. place < length k.ops) (known_code p.code p.of) (depth_within p.code place depth p.has_depth)

  has_point : (place depth : ℕ) → IsPoint s (at (the_context (contexts_of rows) context) place depth) → Contains (tables_of rows).points (at (the_context (contexts_of rows) context) place depth)
  has_point place depth p = points.each place depth (within place depth p) p

  has_edge : (place depth : ℕ) (o : Op) (e : worlds.Edge Point Variable Shape) → Stands s (the_context (contexts_of rows) context) place depth o → Leads (the_context (contexts_of rows) context) place depth o e → IsPoint s e.to →
      Contains (items_of (tables_of rows)) (an_edge e)
  has_edge place depth o e st leads to = (edges.each place (within place depth (place_of s (the_context (contexts_of rows) context) place depth o st))).each depth o e st leads to

  has_read : (place depth : ℕ) (o : Op) (r : SeatReading) (x : Variable) → Stands s (the_context (contexts_of rows) context) place depth o →
      Contains (readings_at s (the_context (contexts_of rows) context) depth o) r → Contains (variables (the_context (contexts_of rows) context) r.seats) x → Contains (tables_of rows).variables x
  has_read place depth o r x st k l =
      let spot : PointSpot = record { context = context; place = place; depth = depth } in
      let is : IsSpotAt code context place spot = record { context_is = refl; place_is = refl; has_depth = subst (λ z. HasDepth z place depth) (known_code st.code st.of) st.has_depth } in
      let read : HasReads compiled rows spot = reads.each spot is (within place depth (place_of s (the_context (contexts_of rows) context) place depth o st)) in
      let op : op_at compiled.program (the_context (contexts_of rows) context) place ≡ Some o =
      ap (λ p. op_at p (the_context (contexts_of rows) context) place) (sym source.program) ∙ (ap (option_and_then (λ (z : Code). slice_get z.ops place)) st.of ∙ st.op) in
      let m : Contains (readings_of compiled (contexts_of rows) spot) r = subst (λ rs. Contains rs r) (sym (readings_are s compiled source (contexts_of rows) spot o op)) k in
      let q : Origin (places.variable_of (the_context (contexts_of rows) context)) r.seats x = map_from (places.variable_of (the_context (contexts_of rows) context)) r.seats x l in
      let v : Contains rows.variables (owned_spot context q.item) = read.each r (owned_spot context q.item) m (map_has (owned_spot context) r.seats q.item q.is) in
      subst (λ y. Contains (tables_of rows).variables y) (owned_stands (contexts_of rows) context q.item ∙ q.same) (map_has (variable_of (contexts_of rows)) rows.variables (owned_spot context q.item) v)

  has_used : (x : Variable) → IsUsed s (the_context (contexts_of rows) context) x → Contains (tables_of rows).variables x
  has_used x (used_written {place} {depth} {o} st w) =
      target_there s (tables_of rows) a.numbering (at (the_context (contexts_of rows) context) place depth) x (has_point place depth (place_of s (the_context (contexts_of rows) context) place depth o st))
      (target_is s (the_context (contexts_of rows) context) place depth o st ∙ w)
  has_used x (used_read {place} {depth} {o} {r} st k l) = has_read place depth o r x st k l
  has_used _ (used_asked {place} {depth} {o} {e} {a = b} st leads to asks) =
      asked_there s (tables_of rows) a.numbering e b (items_in (tables_of rows) (an_edge e) (has_edge place depth o e st leads to)) asks

  pub has_all : HasAll s (tables_of rows) (the_context (contexts_of rows) context)
  has_all = record { points = has_point; variables = has_used; edges = has_edge }

-- a context without code needs nothing
module _ (s : Source) (t : Tables) (c : Context) (none : code_of s.program c ≡ None) where
  no_code : {A : Type 0} (code : Code) → code_of s.program c ≡ Some code → A
  no_code code e = let f : None ≡ Some code = sym none ∙ e in cc

  unused : (x : Variable) → IsUsed s c x → Contains t.variables x
  unused x (used_written st w) = no_code st.code st.of
  unused x (used_read st k l) = no_code st.code st.of
  unused _ (used_asked st leads to asks) = no_code st.code st.of

  pub needs_nothing : HasAll s t c
  needs_nothing = record { points = λ place depth p. no_code p.code p.of; variables = unused; edges = λ place depth o e st leads to. no_code st.code st.of }

-- ---- the parts of the work, one after the other

module _ (s : Source) (compiled : Compiled) (one two three four : WorldRows) (code : Code) (context : ℕ) (w : IsWorld s compiled one) (is : IsCodeOf compiled one context code)
    (first : IsStep one two) (second : IsStep two three) where
  code_here : code_of s.program (the_context (contexts_of one) context) ≡ Some code
  code_here = ap (λ p. code_of p (the_context (contexts_of one) context)) w.source.program ∙ is.of

  pub code_later : code_of s.program (the_context (contexts_of three) context) ≡ Some code
  code_later = ap (λ cs. code_of s.program (the_context cs context)) (second.grown.contexts ∙ first.grown.contexts) ∙ code_here

  pub parts_keep : IsPart s context one two → (IsWorld s compiled two → IsPart s context two three) → (AreTables s (tables_of three) → code_of s.program (the_context (contexts_of three) context) ≡ Some code → IsPart s context three four) →
      IsPart s context one four
  parts_keep p reads edges =
      let q : IsPart s context two three = reads (record { source = w.source; tables = p.tables }) in
      part_on s context one three four (grown_on one two three first.grown second.grown) (part_on s context one two three first.grown p q) (edges q.tables code_later)

  pub points_later : HavePoints s (tables_of two) (the_context (contexts_of one) context) (length code.ops) → HavePoints s (tables_of three) (the_context (contexts_of three) context) (length code.ops)
  points_later have =
      subst (λ cs. HavePoints s (tables_of three) (the_context cs context) (length code.ops)) (sym (second.grown.contexts ∙ first.grown.contexts))
      (points_on s two three (the_context (contexts_of one) context) (length code.ops) second.grown have)

  pub parts_all : IsStep three four → AreTables s (tables_of four) → HavePoints s (tables_of two) (the_context (contexts_of one) context) (length code.ops) → HaveReads compiled three code context (length code.ops) →
      HaveEdges s (tables_of four) (the_context (contexts_of three) context) (length code.ops) → HasAll s (tables_of four) (the_context (contexts_of one) context)
  parts_all third a points reads edges =
      let same : contexts_of four ≡ contexts_of one = third.grown.contexts ∙ (second.grown.contexts ∙ first.grown.contexts) in
      subst (λ cs. HasAll s (tables_of four) (the_context cs context)) same
      (has_all s compiled four code context a w.source
      (ap (λ cs. code_of s.program (the_context cs context)) same ∙ code_here)
      (subst (λ cs. HavePoints s (tables_of four) (the_context cs context) (length code.ops)) (sym third.grown.contexts) (points_on s three four (the_context (contexts_of three) context) (length code.ops) third.grown (points_later points)))
      (record { each = λ spot at l. reads_on compiled three four spot third.grown (reads.each spot at l) })
      (subst (λ cs. HaveEdges s (tables_of four) (the_context cs context) (length code.ops)) (sym third.grown.contexts) edges))

-- ---- the context counts as finished

pub grown_finished : (old new : WorldRows) (n : ℕ) → IsGrown old new → IsGrown old (record new { finished = n })
grown_finished old new n g = record { rows = g.rows; contexts = g.contexts; truths = g.truths; shapes = g.shapes; joined = g.joined; facts = g.facts; points = g.points; variables = g.variables }

pub all_of_next : (s : Source) (old new : WorldRows) (context : ℕ) → IsStep old new → context ≡ old.finished → HasAll s (tables_of new) (the_context (contexts_of old) context) → HasAll s (tables_of new) (the_context (contexts_of new) new.finished)
all_of_next s old new context step next all =
    subst (λ k. HasAll s (tables_of new) (the_context (contexts_of new) k)) (next ∙ sym step.finished) (subst (λ cs. HasAll s (tables_of new) (the_context cs context)) (sym step.grown.contexts) all)
