-- A context is added that the rules give, before its points; and it is finished when it has them, and their edges.
use Rattle.std.proofs.Common.{◌≡◌, ℕ, suc, ◌+◌, ◌<◌, ◌≤◌, Some, [], ◌∷◌, ◌++◌, length, take, slice_get, ◌⊎◌, inl, inr, sym, subst, ◌∙◌, arith, length-append}
use Rattle.std.specs.List.{Contains}
use Rattle.graph_walks.specs.Worlds as worlds
use Rattle.graph_walks.proofs.Lists.{got}
use Rattle.flow_graph.specs.declared.context.Context as rows
use Rattle.flow_graph.specs.Flows.{with_context}
use Rattle.flow_graph.specs.Validity as flow_validity
use Rattle.typegraph.specs.Graphs.{with_flow}
use Rattle.typegraph.specs.Validity as graph_validity
use Rattle.stack_code.specs.declared.op.Op.{Op}
use Rattle.abstract_shapes.specs.Shapes.{Shape}
use Rattle.world_rules.specs.Places.{Context, Variable, Point, at}
use Rattle.world_rules.specs.Sources.{Source}
use Rattle.world_rules.specs.Items.{Item, a_context, an_edge, is_root}
use Rattle.world_rules.specs.Rules.{IsPoint, Stands, Leads, Gives, IsDerived, derived}
use Rattle.world_tables.specs.Tables.{Tables, finished_contexts, items_of, IsUsed, IsUsedIn, IsNumbering, AreTables}
use Rattle.world_tables.proofs.Apart.{apart_more}
use Rattle.world_tables.proofs.Items.{In, in_contexts, in_edges, in_facts, in_entries, items_in, below, has_edge, has_fact, has_entry}
use Rattle.world_tables.proofs.Lists.{one_longer, still_there, old_or_last, take_same, take_next}
use Rattle.world_tables.proofs.Roots.{known_item, root_of_known}

module _ (s : Source) (t : Tables) (a : AreTables s t) (c : Context) (row : rows.Context) (new : Contains t.contexts c → ⊥) (g : Gives s (items_of t) (a_context c))
    (flow_valid : flow_validity.IsValid (with_context row t.graph.flow)) (valid : graph_validity.IsValid (with_flow (with_context row t.graph.flow) t.graph)) where
  u : Tables
  u = record t { graph = with_flow (with_context row t.graph.flow) t.graph; contexts = t.contexts ++ c ∷ [] }

  item_derived : (i : Item) → In u i → IsDerived s i
  unfolding u
  item_derived _ (in_contexts b l) = go (old_or_last t.contexts c b l)
    where
      go : Contains t.contexts b ⊎ (b ≡ c) → IsDerived s (a_context b)
      go (inl k) = a.derived.each _ (known_item t b k)
      go (inr e) = subst (λ z. IsDerived s (a_context z)) (sym e) (derived (items_of t) a.derived.each g)
  item_derived _ (in_edges d l) = a.derived.each _ (has_edge t d l)
  item_derived _ (in_facts q h l) = a.derived.each _ (has_fact t q h l)
  item_derived _ (in_entries d l) = a.derived.each _ (has_entry t d l)

  edge_stays : (d : worlds.Edge Point Variable Shape) → In t (an_edge d) → Contains (items_of u) (an_edge d)
  unfolding u
  edge_stays _ (in_edges d l) = has_edge u d l

  root_stays : (id : ℕ) (p : Point) → slice_get t.points id ≡ Some p → is_root s.program (items_of t) p ≡ is_root s.program (items_of u) p
  unfolding u
  root_stays id (at b place depth) h =
      let k : Contains t.contexts b = (a.numbering.are_points b place depth (got t.points id (at b place depth) h)).0 in
      root_of_known s t u b place depth k (still_there t.contexts c b k)

  same_finished : finished_contexts u ≡ finished_contexts t
  unfolding u
  same_finished = take_same t.finished t.contexts c a.finished_there

  finished_before : (b : Context) → Contains (finished_contexts u) b → Contains (finished_contexts t) b
  finished_before b k = subst (λ cs. Contains cs b) same_finished k

  kept_numbering : IsNumbering s u
  unfolding u
  kept_numbering =
      record {
        flow_valid = flow_valid;
        graph_valid = valid;
        context_count = one_longer t.contexts c (length t.graph.flow.contexts) a.numbering.context_count ∙ sym (length-append t.graph.flow.contexts (row ∷ []));
        point_count = a.numbering.point_count;
        variable_count = a.numbering.variable_count;
        shape_count = a.numbering.shape_count;
        points_once = a.numbering.points_once;
        variables_once = a.numbering.variables_once;
        shapes_once = a.numbering.shapes_once;
        targets = a.numbering.targets;
        roots = λ id q h. a.numbering.roots id q h ∙ root_stays id q h;
        truths = a.numbering.truths;
        points_are = λ b q d k p. a.numbering.points_are b q d (finished_before b k) p;
        are_points = λ b q d k. let p : Contains t.contexts b × IsPoint s (at b q d) = a.numbering.are_points b q d k in (still_there t.contexts c b p.0, p.1);
        points_before = a.numbering.points_before;
        variables_are = λ b x k h. a.numbering.variables_are b x (finished_before b k) h;
        are_variables = λ x k. let w : IsUsedIn s t.contexts x = a.numbering.are_variables x k in record { context = w.context; known = still_there t.contexts c w.context w.known; used = w.used };
      }

  pub context_keeps : AreTables s (record t { graph = with_flow (with_context row t.graph.flow) t.graph; contexts = t.contexts ++ c ∷ [] })
  unfolding u
  context_keeps =
      record {
        numbering = kept_numbering;
        contexts_once = apart_more t.contexts c a.contexts_once new;
        entries_once = a.entries_once;
        entries_there = a.entries_there;
        finished_there = let l : t.finished ≤ length t.contexts = a.finished_there in let m : length (t.contexts ++ c ∷ []) ≡ length t.contexts + 1 = length-append t.contexts (c ∷ []) in omega (arith, l, m);
        leads = λ b q d o f l st m to. edge_stays f (items_in t (an_edge f) (a.leads b q d o f (finished_before b l) st m to));
        derived = record { each = λ i l. item_derived i (items_in u i l) };
      }

module _ (s : Source) (t : Tables) (a : AreTables s t) (c : Context) (next : slice_get t.contexts t.finished ≡ Some c)
    (points : (place depth : ℕ) → IsPoint s (at c place depth) → Contains t.points (at c place depth))
    (variables : (x : Variable) → IsUsed s c x → Contains t.variables x)
    (edges : (place depth : ℕ) (o : Op) (e : worlds.Edge Point Variable Shape) → Stands s c place depth o → Leads c place depth o e → IsPoint s e.to → Contains (items_of t) (an_edge e)) where
  v : Tables
  v = record t { finished = suc t.finished }

  finished_or_this : (b : Context) → Contains (take (suc t.finished) t.contexts) b → Contains (finished_contexts t) b ⊎ (b ≡ c)
  finished_or_this b k = go (take_next t.finished t.contexts b k)
    where
      go : Contains (take t.finished t.contexts) b ⊎ (slice_get t.contexts t.finished ≡ Some b) → Contains (finished_contexts t) b ⊎ (b ≡ c)
      go (inl d) = inl d
      go (inr e) = let f : Some b ≡ Some c = sym e ∙ next in inr cc

  point_there : (b : Context) (place depth : ℕ) → Contains (finished_contexts t) b ⊎ (b ≡ c) → IsPoint s (at b place depth) → Contains t.points (at b place depth)
  point_there b place depth (inl k) p = a.numbering.points_are b place depth k p
  point_there b place depth (inr e) p = subst (λ x. Contains t.points (at x place depth)) (sym e) (points place depth (subst (λ x. IsPoint s (at x place depth)) e p))

  variable_there : (b : Context) (x : Variable) → Contains (finished_contexts t) b ⊎ (b ≡ c) → IsUsed s b x → Contains t.variables x
  variable_there b x (inl k) h = a.numbering.variables_are b x k h
  variable_there b x (inr e) h = variables x (subst (λ z. IsUsed s z x) e h)

  edge_there : (b : Context) (place depth : ℕ) (o : Op) (f : worlds.Edge Point Variable Shape) → Contains (finished_contexts t) b ⊎ (b ≡ c) → Stands s b place depth o → Leads b place depth o f → IsPoint s f.to → Contains (items_of t) (an_edge f)
  edge_there b place depth o f (inl k) st l to = a.leads b place depth o f k st l to
  edge_there b place depth o f (inr e) st l to = edges place depth o f (subst (λ x. Stands s x place depth o) e st) (subst (λ x. Leads x place depth o f) e l) to

  kept_finished : IsNumbering s v
  unfolding v
  kept_finished =
      record {
        flow_valid = a.numbering.flow_valid;
        graph_valid = a.numbering.graph_valid;
        context_count = a.numbering.context_count;
        point_count = a.numbering.point_count;
        variable_count = a.numbering.variable_count;
        shape_count = a.numbering.shape_count;
        points_once = a.numbering.points_once;
        variables_once = a.numbering.variables_once;
        shapes_once = a.numbering.shapes_once;
        targets = a.numbering.targets;
        roots = a.numbering.roots;
        truths = a.numbering.truths;
        points_are = λ b q d k p. point_there b q d (finished_or_this b k) p;
        are_points = a.numbering.are_points;
        points_before = a.numbering.points_before;
        variables_are = λ b x k h. variable_there b x (finished_or_this b k) h;
        are_variables = a.numbering.are_variables;
      }

  pub finishing_keeps : AreTables s (record t { finished = suc t.finished })
  unfolding v
  finishing_keeps =
      record {
        numbering = kept_finished;
        contexts_once = a.contexts_once;
        entries_once = a.entries_once;
        entries_there = a.entries_there;
        finished_there = let l : t.finished < length t.contexts = below t.contexts t.finished c next in omega (arith, l);
        leads = λ b q d o f k st l to. edge_there b q d o f (finished_or_this b k) st l to;
        derived = a.derived;
      }
