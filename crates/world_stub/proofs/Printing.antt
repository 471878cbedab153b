-- The type that is printed for a global is that of the shapes that it is seen to have where the module ends.
use Rattle.std.proofs.Common.{◌≡◌, ◌↔◌, ◌⊎◌, ◌+◌, ◌<◌, ◌≤◌, ◌||◌, ℕ, zero, suc, Bool, true, false, cond, Option, Some, None, List, [], ◌∷◌, ◌++◌, length, map, take, slice_get, nat_eq, inl, inr, refl, sym, ap, subst, ◌∙◌, arith}
use Rattle.std.specs.FinSet as finite
use Rattle.std.specs.List.{Contains, IsDistinct}
use Rattle.std.specs.Ordering.{nat_cmp}
use Rattle.std.specs.Option.{unwrap_or}
use Rattle.std.proofs.lemmas.Bool.{cases_lt, eqb-true, eq-eqb}
use Rattle.graph_walks.specs.Worlds.{FactGives}
use Rattle.graph_walks.specs.Backs.{Seen}
use Rattle.graph_walks.proofs.Lists.{empty, first_as, first_or_later, later, got, Origin, map_from, map_has}
use Rattle.stack_code.specs.declared.code.Code.{Code}
use Rattle.stack_code.specs.declared.op.Op.TheVariants as op
use Rattle.typegraph.specs.declared.goals.Binding.{Binding}
use Rattle.typegraph.specs.Graphs.{GraphTables, IsGiven}
use Rattle.typegraph.specs.Maps.{look, IsRising, IsJoined}
use Rattle.typegraph.proofs.Joins.{joined_rising}
use Rattle.typegraph.proofs.Clashing.{joined_look}
use Rattle.goal_solver.specs.Graphs as numbers
use Rattle.type_terms.specs.Stubs.{Name, Stub}
use Rattle.type_terms.specs.Terms.{Term}
use Rattle.program_tables.specs.Programs.{Compiled}
use Rattle.abstract_shapes.specs.declared.place.Place.{Place}
use Rattle.abstract_shapes.specs.declared.shape.Shape.{Shape as ShapeRow}
use Rattle.abstract_shapes.specs.declared.table.TableRow.{TableRow}
use Rattle.abstract_shapes.specs.Numbering.{structures, shape_at}
use Rattle.abstract_shapes.specs.Places.{same_place}
use Rattle.abstract_shapes.specs.Printed.{IsPrinted}
use Rattle.abstract_shapes.specs.Scenes as scenes
use Rattle.abstract_shapes.specs.Scenes.{shapes_in, shapes_under, ids_below}
use Rattle.abstract_shapes.specs.Shapes.{Shape, any}
use Rattle.abstract_shapes.specs.Tables.{table_at, has_shape, entries, places_of}
use Rattle.world_rules.specs.Places.{Context, main, Variable, local, slot, global, Point, at}
use Rattle.world_rules.specs.Sources.{Source}
use Rattle.world_rules.specs.Items.{Item, an_entry, world_of}
use Rattle.world_rules.specs.Rules.{Stands, IsDerived}
use Rattle.world_rules.specs.Stubs.{EndsWith, IsSceneOf, IsTypeOfName, AreNames, no_names, a_name, IsStubOf}
use Rattle.world_rules.specs.Texts.{class_name}
use Rattle.world_tables.specs.declared.spot.PointSpot.{PointSpot}
use Rattle.world_tables.specs.declared.spot.VariableSpot.{VariableSpot}
use Rattle.world_tables.specs.declared.spot.VariableSpot.TheVariants.{Local, Slot, Global}
use Rattle.world_tables.specs.Tables.{Tables, HaveOneNumber, the_shape, items_of, IsNumbering, AreTables, AreFinished}
use Rattle.world_tables.specs.Rows.{WorldRows, tables_of, contexts_of, the_context, point_of, variable_of}
use Rattle.world_tables.proofs.Entries.{table_entry, entry_table}
use Rattle.world_tables.proofs.Items.{In, in_contexts, in_edges, in_facts, in_entries, items_in, has_entry}
use Rattle.world_tables.proofs.Prefixes.{as_many, first_structures, take_get}
use Rattle.graph_queries.specs.Choices.{bindings}
use Rattle.world_queries.specs.Choices.{IsChoice, shapes_by}
use Rattle.world_queries.specs.Queries.{StandsAt, HasSeenChoice, HasEnd}
use Rattle.world_queries.proofs.Choosing.{shape_there}
use Rattle.abstract_vm.specs.Worlds as worlds
use Rattle.abstract_vm.specs.Worlds.{WorldState, source, IsWorldOf}
use Rattle.world_stub.specs.Ends.{IsEnd, goal_of, IsSeenAtOne, IsSeenAt, HasShape}
use Rattle.world_stub.specs.Results.{IsTypeAt, AreRowsOf, no_rows, a_row}
use Rattle.world_stub.proofs.Classless.{NamesNoClass, HasNoClass, given_no_class, printed_too}
use Rattle.world_stub.proofs.Lists.{with_last, before_last, at_last, map_get}

-- ---- ids in sets and tables

ids_into : (members : finite.FinSet nat_cmp) (n id : ℕ) → Contains (ids_below members n) id → (id < n) × (finite.contains members id ≡ true)
ids_into members zero id c = empty id c
ids_into members (suc n) id c = go (finite.contains members n) refl c (ids_into members n id)
  where
    wider : (id < n) × (finite.contains members id ≡ true) → (id < suc n) × (finite.contains members id ≡ true)
    wider h = let l : id < n = h.0 in (omega (arith, l), h.1)

    go : (b : Bool) → finite.contains members n ≡ b → Contains (cond b (ids_below members n ++ n ∷ []) (ids_below members n)) id → (Contains (ids_below members n) id → (id < n) × (finite.contains members id ≡ true)) → (id < suc n) × (finite.contains members id ≡ true)
    go true e d more = elim (with_last (ids_below members n) n id d) [ inl k ↦ wider (more k) | inr f ↦ (omega (arith, f), ap (λ i. finite.contains members i) f ∙ e) ]
    go false e d more = wider (more d)

ids_from : (members : finite.FinSet nat_cmp) (n id : ℕ) → id < n → finite.contains members id ≡ true → Contains (ids_below members n) id
ids_from members zero id l t = absurd (omega (arith, l))
ids_from members (suc n) id l t = go (finite.contains members n) refl (split id n l) (λ m. ids_from members n id m t)
  where
    split : (k n : ℕ) → k < suc n → (k < n) ⊎ (k ≡ n)
    split k n l = elim (cases_lt k n) [ inl m ↦ inl m | inr m ↦ inr (omega (arith, l, m)) ]

    go : (b : Bool) → finite.contains members n ≡ b → (id < n) ⊎ (id ≡ n) → (id < n → Contains (ids_below members n) id) → Contains (cond b (ids_below members n ++ n ∷ []) (ids_below members n)) id
    go true e (inl m) more = before_last (ids_below members n) n id (more m)
    go true e (inr f) more = at_last (ids_below members n) n id f
    go false e (inl m) more = more m
    go false e (inr f) more = let h : true ≡ false = sym t ∙ ap (λ i. finite.contains members i) f ∙ e in cc

member : (k : ℕ) (xs : List ℕ) → has_shape k xs ≡ true → Contains xs k
member k [] h = cc
member k (x ∷ xs) h = go (nat_eq k x) refl h (member k xs)
  where
    go : (b : Bool) → nat_eq k x ≡ b → (b || has_shape k xs) ≡ true → (has_shape k xs ≡ true → Contains xs k) → Contains (x ∷ xs) k
    go true e h more = first_as x k xs (eqb-true k x e)
    go false e h more = later x k xs (more h)

is_member : (k : ℕ) (xs : List ℕ) → Contains xs k → has_shape k xs ≡ true
is_member k [] c = empty k c
is_member k (x ∷ xs) c = elim (first_or_later x k xs c) [ inl e ↦ ap (λ b. b || has_shape k xs) (eq-eqb k x e) | inr d ↦ over (nat_eq k x) (is_member k xs d) ]
  where
    over : (b : Bool) → has_shape k xs ≡ true → (b || has_shape k xs) ≡ true
    over true h = refl
    over false h = h

-- ---- names and spots

only_global : (contexts : List Context) (v : VariableSpot) (n : ℕ) → variable_of contexts v ≡ global n → v ≡ Global n
only_global contexts (Local c i) n e = cc
only_global contexts (Slot c i) n e = cc
only_global contexts (Global m) n e = let same : m ≡ n = cc in ap Global same

record Preimage {X Y : Type 0} (f : X → Y) (xs : List X) (k : ℕ) (y : Y) : Type 0 where
  item : X
  is : slice_get xs k ≡ Some item
  same : f item ≡ y

preimage : {X Y : Type 0} (f : X → Y) (xs : List X) (k : ℕ) (y : Y) → slice_get (map f xs) k ≡ Some y → Preimage f xs k y
preimage f [] k y e = cc
preimage f (x ∷ xs) zero y e = let same : f x ≡ y = cc in record { item = x; is = refl; same = same }
preimage f (x ∷ xs) (suc k) y e = let p : Preimage f xs k y = preimage f xs k y e in record { item = p.item; is = p.is; same = p.same }

one_rising : (b : Binding) → IsRising (b ∷ [])
one_rising b i j d l k = absurd (omega (arith, l, k))

-- the one number of a choice for one variable
record IsOne (g : GraphTables) (var : ℕ) (ids : List ℕ) : Type 0 where
  id : ℕ
  ids_are : ids ≡ id ∷ []
  given : IsGiven g var id

-- ---- a world's scene, and what a global has in it

module _ (compiled : Compiled) (stubs : List (List ℕ × Stub)) (depth : ℕ) (w : WorldState) (is : IsWorldOf (source compiled stubs depth w) w)
    (ends : List ℕ) (ends_are : (id : ℕ) → Contains ends id ↔ IsEnd compiled w.rows id)
    (numbered : (n : ℕ) (shape : Shape) → EndsWith (source compiled stubs depth w) (worlds.items_in w) n shape ↔ HasEnd (source compiled stubs depth w) (tables_of w.rows) n shape)
    (given_is : (var id : ℕ) (x : Variable) (t : Shape) → slice_get (tables_of w.rows).variables var ≡ Some x → slice_get (tables_of w.rows).shapes id ≡ Some t → FactGives (world_of (source compiled stubs depth w) (worlds.items_in w)) x t ↔ IsGiven w.rows.graph var id)
    (no_class : (i : Item) → IsDerived (source compiled stubs depth w) i → HasNoClass i) where
  item_no_class : (i : Item) → Contains (worlds.items_in w) i → HasNoClass i
  item_no_class i c = no_class i (is.tables.derived.each i c)

  -- a variable's spot stands once
  one_number : HaveOneNumber w.rows.variables
  one_number i j x e f =
      is.tables.numbering.variables_once i j (variable_of (contexts_of w.rows) x) (map_get (variable_of (contexts_of w.rows)) w.rows.variables i x e) (map_get (variable_of (contexts_of w.rows)) w.rows.variables j x f)

  module _ (n : ℕ) (term : Term) (a : IsTypeAt compiled w ends n term) where
    abbrev all : List Shape
    all = structures a.rows

    -- a shape of the world is the one that is kept under its number
    same_shape : (id : ℕ) → id < length w.rows.graph.truths → slice_get (tables_of w.rows).shapes id ≡ slice_get (structures a.rows) id
    same_shape id l =
        ap (λ rows. slice_get (structures rows) id) (sym a.first)
        ∙ (ap (λ (ss : List Shape). slice_get ss id) (first_structures (length w.rows.graph.truths) a.rows a.many)
        ∙ take_get (length w.rows.graph.truths) (structures a.rows) id l)

    shape_is : (id : ℕ) → id < length w.rows.graph.truths → the_shape (tables_of w.rows) id ≡ shape_at (structures a.rows) id
    shape_is id l = ap (λ o. unwrap_or o any) (same_shape id l)

    below_truths : (var id : ℕ) → IsGiven w.rows.graph var id → id < length w.rows.graph.truths
    below_truths var id g = subst (λ m. id < m) is.tables.numbering.shape_count (shape_there (source compiled stubs depth w) (tables_of w.rows) is.tables.numbering var id g)

    -- ---- what is seen at an end

    to_end : (id : ℕ) → HasShape w ends n id → HasEnd (source compiled stubs depth w) (tables_of w.rows) n (the_shape (tables_of w.rows) id)
    to_end id h =
        let e : IsEnd compiled w.rows h.seen.at_one.point = (ends_are h.seen.at_one.point).0 h.seen.at_one.is_point in
        let p : slice_get (tables_of w.rows).points h.seen.at_one.point ≡ Some (at main e.spot.place e.spot.depth) =
        map_get (point_of (contexts_of w.rows)) w.rows.points h.seen.at_one.point e.spot e.stands ∙ ap (λ c. Some (at c e.spot.place e.spot.depth)) e.in_main in
        let q = (is.tables.numbering.are_points main e.spot.place e.spot.depth (got (tables_of w.rows).points h.seen.at_one.point (at main e.spot.place e.spot.depth) p)).1 in
        record {
          id = h.seen.at_one.point;
          place = e.spot.place;
          depth = e.spot.depth;
          stands = record { point = p; stands = record { code = q.code; of = q.of; op = subst (λ (k : Code). slice_get k.ops e.spot.place ≡ Some op.End) (of_body q.code q.of) e.ends; has_depth = q.has_depth } };
          var = h.var;
          number_is = map_get (variable_of (contexts_of w.rows)) w.rows.variables h.var (Global n) h.number_is;
          choice = record {
            ids = id ∷ [];
            goals = goal_of h.var id;
            is = record { given = (h.seen.given, tt); joined = joined_rising (goal_of h.var id) (one_rising (record { var = h.var; shape = id })); rising = one_rising (record { var = h.var; shape = id }) };
            shapes_are = refl;
            seen = h.seen.at_one.seen;
          };
        }
      where
        of_body : (k : Code) → Some compiled.program.body ≡ Some k → compiled.program.body ≡ k
        of_body k e = cc

    one_of : (var : ℕ) (t : Shape) (ids : List ℕ) (goals : List Binding) → IsChoice w.rows.graph (var ∷ []) ids goals → IsOne w.rows.graph var ids
    one_of var t [] goals c = absurd c.given
    one_of var t (i ∷ []) goals c = record { id = i; ids_are = refl; given = c.given.0 }
    one_of var t (i ∷ j ∷ ids) goals c = absurd c.given.1

    record HasId (t : Shape) : Type 0 where
      id : ℕ
      has : HasShape w ends n id
      same : the_shape (tables_of w.rows) id ≡ t

    from_end : (t : Shape) → HasEnd (source compiled stubs depth w) (tables_of w.rows) n t → HasId t
    from_end t h =
        let o : IsOne w.rows.graph h.var h.choice.ids = one_of h.var t h.choice.ids h.choice.goals h.choice.is in
        let v : Preimage (variable_of (contexts_of w.rows)) w.rows.variables h.var (global n) = preimage (variable_of (contexts_of w.rows)) w.rows.variables h.var (global n) h.number_is in
        let p : Preimage (point_of (contexts_of w.rows)) w.rows.points h.id (at main h.place h.depth) = preimage (point_of (contexts_of w.rows)) w.rows.points h.id (at main h.place h.depth) h.stands.point in
        let in_main : the_context (contexts_of w.rows) p.item.context ≡ main = ap context_of_point p.same in
        let place_is : p.item.place ≡ h.place = ap place_of_point p.same in
        let body : h.stands.stands.code ≡ compiled.program.body = of_body h.stands.stands.code h.stands.stands.of in
        let j : IsJoined [] (goal_of h.var o.id) (Some h.choice.goals) = subst (λ ids. IsJoined [] (bindings (h.var ∷ []) ids) (Some h.choice.goals)) o.ids_are h.choice.is.joined in
        record {
          id = o.id;
          has = record {
            var = h.var;
            number_is = v.is ∙ ap Some (only_global (contexts_of w.rows) v.item n v.same);
            seen = record {
              given = o.given;
              at_one = record {
                point = h.id;
                is_point = (ends_are h.id).1 (record {
                  spot = p.item;
                  stands = p.is;
                  in_main = in_main;
                  ends = ap (λ k. slice_get compiled.program.body.ops k) place_is ∙ ap (λ (k : Code). slice_get k.ops h.place) (sym body) ∙ h.stands.stands.op;
                });
                seen = subst (λ m. Seen (numbers.world_of w.rows.graph) h.id m w.solver.budget) (joined_look (goal_of h.var o.id) h.choice.goals j) h.choice.seen;
              };
            };
          };
          same = first_same (the_shape (tables_of w.rows) o.id) t (ap (shapes_by (tables_of w.rows)) (sym o.ids_are) ∙ h.choice.shapes_are);
        }
      where
        of_body : (k : Code) → Some compiled.program.body ≡ Some k → k ≡ compiled.program.body
        of_body k e = cc

        context_of_point : Point → Context
        context_of_point (at c place depth) = c

        place_of_point : Point → ℕ
        place_of_point (at c place depth) = place

        first_same : (x y : Shape) → x ∷ [] ≡ y ∷ [] → x ≡ y
        first_same x y e = cc

    -- ---- the shapes of the set

    pub ends_with : (t : Shape) → Contains (shapes_in a.members (structures a.rows)) t ↔ EndsWith (source compiled stubs depth w) (worlds.items_in w) n t
    ends_with t = (
      λ c.
          let o : Origin (shape_at (structures a.rows)) (ids_below a.members (length (structures a.rows))) t = map_from (shape_at (structures a.rows)) (ids_below a.members (length (structures a.rows))) t c in
          let h : HasShape w ends n o.item = (a.has one_number o.item).0 (ids_into a.members (length (structures a.rows)) o.item o.is).1 in
          let l : o.item < length w.rows.graph.truths = below_truths h.var o.item h.seen.given in
          (numbered n t).1 (subst (HasEnd (source compiled stubs depth w) (tables_of w.rows) n) (shape_is o.item l ∙ o.same) (to_end o.item h)),
      λ e.
          let h : HasId t = from_end t ((numbered n t).0 e) in
          let l : h.id < length w.rows.graph.truths = below_truths h.has.var h.id h.has.seen.given in
          let m : length (structures a.rows) ≡ length a.rows = as_many a.rows in
          let many : length w.rows.graph.truths ≤ length a.rows = a.many in
          subst (Contains (shapes_in a.members (structures a.rows))) (sym (shape_is h.id l) ∙ h.same)
          (map_has (shape_at (structures a.rows)) (ids_below a.members (length (structures a.rows))) h.id (ids_from a.members (length (structures a.rows)) h.id (omega (arith, l, m, many)) ((a.has one_number h.id).1 h.has))),
    )

    set_no_class : (t : Shape) → Contains (shapes_in a.members (structures a.rows)) t → NamesNoClass t
    set_no_class t c =
        let h : HasId t = from_end t ((numbered n t).0 ((ends_with t).0 c)) in
        let l : h.id < length w.rows.graph.truths = below_truths h.has.var h.id h.has.seen.given in
        subst NamesNoClass h.same (given_shape h.has.var h.id (map_get (variable_of (contexts_of w.rows)) w.rows.variables h.has.var (Global n) h.has.number_is) l h.has.seen.given)
      where
        given_shape : (var id : ℕ) → slice_get (tables_of w.rows).variables var ≡ Some (global n) → id < length w.rows.graph.truths → IsGiven w.rows.graph var id → NamesNoClass (the_shape (tables_of w.rows) id)
        given_shape var id v l g = go (slice_get (tables_of w.rows).shapes id) refl
          where
            go : (o : Option Shape) → slice_get (tables_of w.rows).shapes id ≡ o → NamesNoClass (unwrap_or o any)
            go None e = tt
            go (Some t) e = given_no_class (source compiled stubs depth w) (worlds.items_in w) item_no_class (global n) t ((given_is var id (global n) t v e).1 g)

    -- ---- the joined tables

    joined_into : (place : Place) (t : Shape) → Contains (shapes_under (structures a.rows) (table_at w.rows.joined place)) t → Contains (worlds.items_in w) (an_entry place t)
    joined_into place t c =
        let o : Origin (shape_at (structures a.rows)) (table_at w.rows.joined place) t = map_from (shape_at (structures a.rows)) (table_at w.rows.joined place) t c in
        let e : Contains (entries w.rows.joined) (place, o.item) = table_entry place o.item w.rows.joined (is_member o.item (table_at w.rows.joined place) o.is) in
        let l : o.item < length w.rows.graph.truths = subst (λ m. o.item < m) is.tables.numbering.shape_count (is.tables.entries_there (place, o.item) e) in
        subst (λ u. Contains (worlds.items_in w) (an_entry place u)) (shape_is o.item l ∙ o.same) (has_entry (tables_of w.rows) (place, o.item) e)

    joined_from : (place : Place) (t : Shape) (i : Item) → In (tables_of w.rows) i → i ≡ an_entry place t → Contains (shapes_under (structures a.rows) (table_at w.rows.joined place)) t
    joined_from place t _ (in_contexts c k) e = cc
    joined_from place t _ (in_edges d k) e = cc
    joined_from place t _ (in_facts q h k) e = cc
    joined_from place t _ (in_entries (q, id) k) e =
        let p : q ≡ place = cc in
        let y : the_shape (tables_of w.rows) id ≡ t = cc in
        let l : id < length w.rows.graph.truths = subst (λ m. id < m) is.tables.numbering.shape_count (is.tables.entries_there (q, id) k) in
        let there : Contains (table_at w.rows.joined place) id = member id (table_at w.rows.joined place) (entry_table place id w.rows.joined a.apart (subst (λ r. Contains {X = Place × ℕ} (entries w.rows.joined) (r, id)) p k)) in
        subst (Contains (shapes_under (structures a.rows) (table_at w.rows.joined place))) (sym (shape_is id l) ∙ y) (map_has (shape_at (structures a.rows)) (table_at w.rows.joined place) id there)

    pub type_of_name : IsTypeOfName (source compiled stubs depth w) (worlds.items_in w) n term
    type_of_name =
        record {
          scene = record { class_name = class_name compiled.program; joined = λ place. shapes_under (structures a.rows) (table_at w.rows.joined place) };
          is_scene = record {
            names = λ c. refl;
            joined = λ place t. (joined_into place t, λ c. joined_from place t (an_entry place t) (items_in (tables_of w.rows) (an_entry place t) c) refl);
          };
          shapes = shapes_in a.members (structures a.rows);
          ends = ends_with;
          printed =
              printed_too (scenes.class_name compiled.program.names compiled.class_names) (class_name compiled.program) (λ place. shapes_under (structures a.rows) (table_at w.rows.joined place))
              (λ place t c. item_no_class (an_entry place t) (joined_into place t c)) 3 (shapes_in a.members (structures a.rows)) term set_no_class a.printed;
        }

  pub names_are : {ns : List ℕ} {rows : List Name} → AreRowsOf compiled w ends ns rows → AreNames (source compiled stubs depth w) (worlds.items_in w) ns rows
  names_are no_rows = no_names
  names_are (a_row {n} {ns} {row} {rows} r more) = a_name r.text (type_of_name n row.term r.type_is) (names_are more)

  pub stub_is : {rows : List Name} (stub : Stub) → AreRowsOf compiled w ends compiled.scopes.printed rows → stub.names ≡ rows → stub.funs ≡ [] → stub.classes ≡ [] → IsStubOf (source compiled stubs depth w) (worlds.items_in w) stub
  stub_is {rows} stub are names funs classes =
      record { names = subst (AreNames (source compiled stubs depth w) (worlds.items_in w) compiled.scopes.printed) (sym names) (names_are are); funs = funs; classes = classes }
