-- A computed world whose traces pass the tests stands in each closed world.
use Rattle.std.proofs.Common.{◌≡◌, ℕ, suc, zero, ◌+◌, ◌<◌, ◌≤◌, Bool, true, false, not, ◌==◌, ◌⊎◌, inl, inr, Option, Some, None, option_map, option_and_then, List, [], ◌∷◌, length, slice_get, nat_lt, nat_eq, refl, sym, ap, subst, ◌∙◌, arith}
use Rattle.std.specs.List.{Contains}
use Rattle.std.proofs.lemmas.Bool.Decides.{nat_tests}
use Rattle.graph_walks.specs.Worlds as worlds
use Rattle.graph_walks.specs.Worlds.{Memory, Edge, Test, MayBeTrue, MayBeFalse, Is, PassesBy}
use Rattle.graph_walks.specs.Walks.{Answers, unasked, passes, Walk}
use Rattle.graph_walks.proofs.Lists.{empty, first, later, first_or_later, only, got}
use Rattle.flow_graph.specs.declared.edge.Truth.{Truth}
use Rattle.flow_graph.specs.declared.edge.Truth.TheVariants.{Yes, No, Both}
use Rattle.stack_code.specs.declared.op.Op.{Op}
use Rattle.stack_code.specs.Depths as depths
use Rattle.stack_code.specs.Depths.{HasDepth, begins, given}
use Rattle.stack_code.specs.Effects.{effect_of, falls, goal_of, depth_after, depth_at_goal}
use Rattle.abstract_shapes.specs.Shapes.{Shape, truth_of}
use Rattle.world_rules.specs.declared.row.TableEntry.{TableEntry}
use Rattle.world_rules.specs.declared.row.Yield.{Yield}
use Rattle.world_rules.specs.declared.transfer.SeatReading.{SeatReading}
use Rattle.world_rules.specs.Places.{main, Variable, slot, Point, at, below_top, target_of}
use Rattle.world_rules.specs.Sources.{Source}
use Rattle.world_rules.specs.Branches.{Branch, branch, fall_test, ask_top, is_call}
use Rattle.world_rules.specs.Items.{Item, a_context, an_edge, an_entry, Agree, variables, world_of, truth_as}
use Rattle.world_rules.specs.Rows.{row_of, made}
use Rattle.world_rules.specs.Rules.{HasPlace, Stands, readings_at, it, Fires, of_module, IsClosed, IsContained}
use Rattle.world_rules.proofs.Same.{equal}
use Rattle.world_rules.proofs.Members.{edge_item, fact_item}
use Rattle.world_rules.proofs.Counted.{goal_is}
use Rattle.world_rules.proofs.Extending.{some_same, walk_fires, assigns_on, passes_on, jumps_on, fact_there, entry_there, fall_there, jump_there}
use Rattle.world_rules.proofs.Paths.{Arrives}
use Rattle.world_cases.proofs.Pairs.{all, each, both, either, same_shape, shape_equal}
use Rattle.world_cases.proofs.Tables.{Spot, numbers, add_made, shapes_given, add_entry, entries_given, lets_through}
use Rattle.world_cases.proofs.Tables as tables
use Rattle.world_cases.proofs.Traces.{Turn, goes, jumps, State, has, when, look, surely, tested}
use Rattle.world_cases.proofs.Traces as traces
use Rattle.world_cases.proofs.Walked.{Found, found_any, or_else, numbered, Way, fell, jumped, Kind, edge_kind, fact_kind, entry_kind, stem}

-- ---- what a test or a look-up has shown

when_is : {A : Type 0} (b : Bool) (x : Option A) (y : A) → when b x ≡ Some y → (b ≡ true) × (x ≡ Some y)
when_is true x y e = (refl, e)
when_is false x y e = cc

record Then {A B : Type 0} (f : A → Option B) (x : Option A) (y : B) : Type 0 where
  item : A
  is : x ≡ Some item
  next : f item ≡ Some y

then_is : {A B : Type 0} (f : A → Option B) (x : Option A) (y : B) → option_and_then f x ≡ Some y → Then f x y
then_is f None y e = cc
then_is f (Some a) y e = record { item = a; is = refl; next = e }

record Mapped {A B : Type 0} (f : A → B) (x : Option A) (y : B) : Type 0 where
  item : A
  is : x ≡ Some item
  same : f item ≡ y

mapped_is : {A B : Type 0} (f : A → B) (x : Option A) (y : B) → option_map f x ≡ Some y → Mapped f x y
mapped_is f None y e = cc
mapped_is f (Some a) y e = record { item = a; is = refl; same = some_same e }

less : (m n : ℕ) → nat_lt m n ≡ true → m < n
less m n h = grind (arith, nat_tests)

looked : (m : Memory Variable Shape) (xs : List Variable) (ts : List Shape) → look m xs ≡ Some ts → Agree xs ts m
looked m [] ts e = let same : [] ≡ ts = some_same e in subst (λ z. Agree [] z m) same tt
looked m (x ∷ xs) ts e =
    let one : Then (λ t. option_map (λ ts. t ∷ ts) (look m xs)) (m x) ts = then_is _ (m x) ts e in
    let two : Mapped (λ ts. one.item ∷ ts) (look m xs) ts = mapped_is (λ ts. one.item ∷ ts) (look m xs) ts one.next in
    subst (λ z. Agree (x ∷ xs) z m) two.same (one.is, looked m xs two.item two.is)

numbers_below : (k n p : ℕ) → Contains (numbers k n) p → p < k + n
numbers_below k zero p c = empty p c
numbers_below k (suc n) p c = elim (first_or_later k p (numbers (suc k) n) c) [ inl e ↦ omega (arith, e) | inr d ↦ omega (arith, numbers_below (suc k) n p d) ]

-- ---- what a reading gives

record Made (read : List Shape) (ys : List Yield) (t : Shape) : Type 0 where
  yield : Yield
  is : Contains ys yield
  makes : made read yield ≡ Some t

made_from : (read : List Shape) (ys : List Yield) (t : Shape) → Contains (shapes_given read ys) t → Made read ys t
made_from read [] t c = empty t c
made_from read (y ∷ ys) t c = go (made read y) refl c (made_from read ys t)
  where
    more : Made read ys t → Made read (y ∷ ys) t
    more m = record { yield = m.yield; is = later y m.yield ys m.is; makes = m.makes }

    go : (o : Option Shape) → made read y ≡ o → Contains (add_made o (shapes_given read ys)) t → (Contains (shapes_given read ys) t → Made read ys t) → Made read (y ∷ ys) t
    go None e k rest = more (rest k)
    go (Some u) e k rest = elim (first_or_later u t (shapes_given read ys) k) [ inl i ↦ record { yield = y; is = first y ys; makes = e ∙ ap Some (sym i) } | inr d ↦ more (rest d) ]

record Entered (read : List Shape) (es : List TableEntry) (i : Item) : Type 0 where
  entry : TableEntry
  shape : Shape
  is : Contains es entry
  makes : made read entry.given ≡ Some shape
  same : an_entry entry.place shape ≡ i

entered_from : (read : List Shape) (es : List TableEntry) (i : Item) → Contains (entries_given read es) i → Entered read es i
entered_from read [] i c = empty i c
entered_from read (e ∷ es) i c = go (made read e.given) refl c (entered_from read es i)
  where
    more : Entered read es i → Entered read (e ∷ es) i
    more m = record { entry = m.entry; shape = m.shape; is = later e m.entry es m.is; makes = m.makes; same = m.same }

    go : (o : Option Shape) → made read e.given ≡ o → Contains (add_entry e o (entries_given read es)) i → (Contains (entries_given read es) i → Entered read es i) → Entered read (e ∷ es) i
    go None j k rest = more (rest k)
    go (Some t) j k rest = elim (first_or_later _ i (entries_given read es) k) [ inl l ↦ record { entry = e; shape = t; is = first e es; makes = j; same = sym l } | inr d ↦ more (rest d) ]

module _ (s : Source) (other : List Item) (closed : IsClosed s other) where
  abbrev w : worlds.World Point Variable Shape
  w = world_of s other

  main_there : Contains other (a_context main)
  main_there = closed.has _ of_module

  -- ---- a turn goes from a walk to a walk

  abbrev pub Arrived : State → Type 0
  Arrived st = Arrives s other st.place st.depth st.vars st.shapes

  sure : (test : Test Shape) (t : Shape) → surely test t ≡ true → PassesBy w.truth test t
  sure MayBeTrue t h = go (truth_of t) h
    where
      go : (x : Truth) → elim x [ No ↦ false | _ ↦ true ] ≡ true → (Some (truth_as x) ≡ Some worlds.Yes) ⊎ (Some (truth_as x) ≡ Some worlds.Both)
      go Yes h = inl refl
      go Both h = inr refl
      go No h = cc
  sure MayBeFalse t h = go (truth_of t) h
    where
      go : (x : Truth) → elim x [ Yes ↦ false | _ ↦ true ] ≡ true → (Some (truth_as x) ≡ Some worlds.No) ⊎ (Some (truth_as x) ≡ Some worlds.Both)
      go No h = inl refl
      go Both h = inr refl
      go Yes h = cc
  sure (Is u) t h = cc

  answered : (m : Memory Variable Shape) (depth : ℕ) (test : Option (Test Shape)) → tested m depth test ≡ true → Answers w (ask_top main depth test) m
  answered m depth None h = unasked
  answered m depth (Some test) h = go (m (slot main (below_top depth 0))) refl h
    where
      go : (o : Option Shape) → m (slot main (below_top depth 0)) ≡ o → elim o [ None ↦ false | Some t ↦ surely test t ] ≡ true → Answers w (ask_top main depth (Some test)) m
      go None e h = cc
      go (Some t) e h = passes t e (sure test t h)

  not_true : (b : Bool) → not b ≡ true → b ≡ false
  not_true true h = cc
  not_true false h = refl

  goes_on : (st next : State) (o : Op) (k : ℕ) → Arrived st → slice_get s.program.body.ops st.place ≡ Some o → traces.on s st k o ≡ Some next → Arrived next
  goes_on st next o k a i h =
      let one = when_is (falls o) _ next h in
      let two = when_is (not (is_call o)) _ next one.1 in
      let three = when_is (traces.is_deep s o st.depth) _ next two.1 in
      let four = when_is (traces.is_place s (suc st.place)) _ next three.1 in
      let five = when_is (tested (has st) st.depth (fall_test o)) _ next four.1 in
      let needs : (effect_of o).needs < suc st.depth = less (effect_of o).needs (suc st.depth) three.0 in
      let few : suc st.place < length s.program.body.ops = less (suc st.place) (length s.program.body.ops) four.0 in
      let deep : HasDepth s.program.body (suc st.place) (depth_after o st.depth) = given a.deep i (depths.goes_on (omega (arith, needs)) one.0) few in
      let stands : Stands s main st.place st.depth o = record { code = s.program.body; of = refl; op = i; has_depth = a.deep } in
      let place : HasPlace s main (suc st.place) (depth_after o st.depth) = record { code = s.program.body; of = refl; has_depth = deep } in
      go (target_of s.program (at main st.place st.depth)) refl five.1 one.0 (not_true (is_call o) two.0) stands place deep (answered (has st) st.depth (fall_test o) five.0)
    where
      go : (x : Option Variable) → target_of s.program (at main st.place st.depth) ≡ x → traces.written s st o k x ≡ Some next → falls o ≡ true → is_call o ≡ false → Stands s main st.place st.depth o →
          HasPlace s main (suc st.place) (depth_after o st.depth) → HasDepth s.program.body (suc st.place) (depth_after o st.depth) → Answers w (ask_top main st.depth (fall_test o)) (has st) → Arrived next
      go None e h f n stands place deep answers =
          let same : record { place = suc st.place; depth = depth_after o st.depth; vars = st.vars; shapes = st.shapes } ≡ next = some_same h in
          subst Arrived same (record { walk = passes_on s other closed main st.place st.depth o (has st) (has st) main_there stands a.walk f n place answers (λ x t g. (λ j. let no : None ≡ Some x = sym e ∙ j in cc, g)); deep = deep })
      go (Some x) e h f n stands place deep answers =
          let one : Then (λ r. option_and_then (traces.with_result s st o x r k) (look (has st) (variables main r.seats))) (slice_get (readings_at s main st.depth o) 0) next = then_is _ (slice_get (readings_at s main st.depth o) 0) next h in
          let r : SeatReading = one.item in
          let two : Then (traces.with_result s st o x r k) (look (has st) (variables main r.seats)) next = then_is _ (look (has st) (variables main r.seats)) next one.next in
          let read : List Shape = two.item in
          let three = then_is _ (slice_get (row_of r.transfer read).results k) next two.next in
          let four = mapped_is _ (made read three.item) next three.next in
          subst Arrived four.same (record {
            walk =
                assigns_on s other closed main st.place st.depth o (has st) main_there stands a.walk f n place answers r read (got (readings_at s main st.depth o) 0 r one.is) refl (looked (has st) (variables main r.seats) read two.is)
                three.item four.item (got (row_of r.transfer read).results k three.item three.is) (it four.is) x e;
            deep = deep;
          })

  goes_off : (st next : State) (o : Op) (b : Branch) → Arrived st → slice_get s.program.body.ops st.place ≡ Some o → branch o ≡ Some b → traces.off_by s st o b ≡ Some next → Arrived next
  goes_off st next o b a i j h =
      let one = when_is (traces.is_deep s o st.depth) _ next h in
      let two = when_is (traces.is_place s b.goal) _ next one.1 in
      let three = when_is (tested (has st) st.depth b.on_jump) _ next two.1 in
      let needs : (effect_of o).needs < suc st.depth = less (effect_of o).needs (suc st.depth) one.0 in
      let few : b.goal < length s.program.body.ops = less b.goal (length s.program.body.ops) two.0 in
      let deep : HasDepth s.program.body b.goal (depth_at_goal o st.depth) = given a.deep i (depths.jumps (omega (arith, needs)) (goal_is o b j)) few in
      let stands : Stands s main st.place st.depth o = record { code = s.program.body; of = refl; op = i; has_depth = a.deep } in
      subst Arrived (some_same three.1) (record {
        walk = jumps_on s other closed main st.place st.depth o b (has st) main_there stands a.walk j (record { code = s.program.body; of = refl; has_depth = deep }) (answered (has st) st.depth b.on_jump three.0);
        deep = deep;
      })

  turned : (st next : State) (t : Turn) → Arrived st → traces.turn s st t ≡ Some next → Arrived next
  turned st next (goes k) a h = let one = then_is (traces.on s st k) (slice_get s.program.body.ops st.place) next h in goes_on st next one.item k a one.is one.next
  turned st next jumps a h =
      let one = then_is (λ o. option_and_then (traces.off_by s st o) (branch o)) (slice_get s.program.body.ops st.place) next h in
      let two = then_is (traces.off_by s st one.item) (branch one.item) next one.next in
      goes_off st next one.item two.item a one.is two.is two.next

  pub followed : (turns : List Turn) (st : State) → Arrived st → (x : State) → Contains (traces.follow s turns st) x → Arrived x
  followed [] st a x c = subst Arrived (sym (only st x c)) a
  followed (t ∷ turns) st a x c = go (traces.turn s st t) refl (first_or_later st x _ c) (λ next b d. followed turns next b x d)
    where
      go : (o : Option State) → traces.turn s st t ≡ o → (x ≡ st) ⊎ Contains (elim o [ None ↦ [] | Some next ↦ traces.follow s turns next ]) x → ((next : State) → Arrived next → Contains (traces.follow s turns next) x → Arrived x) → Arrived x
      go o e (inl i) more = subst Arrived (sym i) a
      go None e (inr d) more = empty x d
      go (Some next) e (inr d) more = more next (turned st next t a e) d

  module _ (table : List Spot) (no_ranges : s.program.body.ranges ≡ []) (ok : tables.checked s table ≡ true) (visits : List State) (traced : traces.traced s table visits ≡ true) (came : (x : State) → Contains visits x → Arrived x) where
    abbrev spot : ℕ → Spot
    spot p = tables.spot s table p

    abbrev places : List ℕ
    places = tables.places s table

    abbrev Deep : ℕ → Type 0
    Deep p = HasDepth s.program.body p (spot p).depth

    -- ---- every place has its depth

    comes_deep : (p q : ℕ) (o : Op) → slice_get s.program.body.ops q ≡ Some o → p < length s.program.body.ops → Deep q → traces.comes s table visits p q o ≡ true → Deep p
    comes_deep p q o i l d h =
        let needs : (effect_of o).needs < suc (spot q).depth = less _ _ (both _ _ h).0 in
        let enough : (effect_of o).needs ≤ (spot q).depth = omega (arith, needs) in
        either _ (traces.goal_comes s table visits q o (goal_of o) p) (both _ _ h).1
        (λ k. let f = both (falls o) _ k in let g = both (suc q == p) _ f.1 in by_fall f.0 (equal (suc q) p g.0) (equal _ _ g.1) enough)
        (λ k. by_goal (goal_of o) refl k enough)
      where
        by_fall : falls o ≡ true → suc q ≡ p → depth_after o (spot q).depth ≡ (spot p).depth → (effect_of o).needs ≤ (spot q).depth → Deep p
        by_fall f e g enough = subst (λ x. HasDepth s.program.body p x) g (subst (λ x. HasDepth s.program.body x (depth_after o (spot q).depth)) e (given d i (depths.goes_on enough f) (omega (arith, e, l))))

        by_goal : (x : Option ℕ) → goal_of o ≡ x → traces.goal_comes s table visits q o x p ≡ true → (effect_of o).needs ≤ (spot q).depth → Deep p
        by_goal None e k enough = cc
        by_goal (Some goal) e k enough =
            let m = both (goal == p) _ k in
            let j : goal ≡ p = equal goal p m.0 in
            subst (λ x. HasDepth s.program.body p x) (equal _ _ m.1) (subst (λ x. HasDepth s.program.body x (depth_at_goal o (spot q).depth)) j (given d i (depths.jumps enough e) (omega (arith, j, l))))

    behind : (p : ℕ) → p < length s.program.body.ops → traces.is_behind s table visits p ≡ true → ((q : ℕ) → q < p → Deep q) → Deep p
    behind zero l h f = subst (λ x. HasDepth s.program.body 0 x) (sym (equal _ _ h)) (begins l)
    behind (suc p) l h f =
        let q : Found (traces.comes_from s table visits (suc p)) (numbers 0 (suc p)) = found_any (traces.comes_from s table visits (suc p)) (numbers 0 (suc p)) h in
        go q.item (slice_get s.program.body.ops q.item) refl q.holds (f q.item (omega (arith, numbers_below 0 (suc p) q.item q.is)))
      where
        go : (q : ℕ) (x : Option Op) → slice_get s.program.body.ops q ≡ x → traces.comes_by s table visits (suc p) q x ≡ true → Deep q → Deep (suc p)
        go q None e k d = cc
        go q (Some o) e k d = comes_deep (suc p) q o e l d k

    stands_on : (p : ℕ) → Contains places p → (traces.is_behind s table visits p ≡ true) × (traces.stands_by s table visits p (slice_get s.program.body.ops p) ≡ true)
    stands_on p c = both _ _ (each (traces.stands_on s table visits) places traced p c)

    below : (n : ℕ) → n ≤ length s.program.body.ops → (p : ℕ) → p < n → Deep p
    below zero l p h = absurd (omega arith)
    below (suc n) l p h = go (nat_eq p n) refl (below n (omega (arith, l)))
      where
        go : (b : Bool) → nat_eq p n ≡ b → ((q : ℕ) → q < n → Deep q) → Deep p
        go true e f = let i : p ≡ n = equal p n e in behind p (omega (arith, i, l)) (stands_on p (numbered 0 _ p (omega arith) (omega (arith, i, l)))).0 (λ q k. f q (omega (arith, i, k)))
        go false e f = f p (grind (arith, nat_tests, e, h))

    pub deep : (p : ℕ) → Contains places p → Deep p
    deep p c = below (length s.program.body.ops) (omega arith) p (omega (arith, numbers_below 0 _ p c))

    -- ---- every item is there

    pub fires : (p : ℕ) (o : Op) (r : SeatReading) (read : List Shape) → slice_get s.program.body.ops p ≡ Some o → Contains places p → (spot p).reached ≡ true →
        Contains (tables.reads_at s table p o) r → Contains (tables.chosen_at s table p r) read → Fires s other main p (spot p).depth r read
    fires p o r read i l h is c =
        let all_there : traces.stands s table visits p o ≡ true = subst (λ x. traces.stands_by s table visits p x ≡ true) i (stands_on p l).1 in
        let covers = or_else (spot p).reached _ (both _ _ (both _ _ all_there).1).1 h in
        let one = each (λ r. all (traces.is_visited s table visits p r) (tables.chosen_at s table p r)) (tables.reads_at s table p o) covers r is in
        let two : traces.is_visited s table visits p r read ≡ true = each (traces.is_visited s table visits p r) (tables.chosen_at s table p r) one read c in
        let found : Found (traces.is_visit s table visits p r read) visits = found_any (traces.is_visit s table visits p r read) visits two in
        go found.item (came found.item found.is) found.holds
      where
        same_all : (ts us : List Shape) → traces.same_shapes s ts us ≡ true → ts ≡ us
        same_all [] [] k = refl
        same_all [] (u ∷ us) k = cc
        same_all (t ∷ ts) [] k = cc
        same_all (t ∷ ts) (u ∷ us) k = let m = both (same_shape t u) _ k in ap (λ x. x ∷ ts) (shape_equal t u m.0) ∙ ap (λ xs. u ∷ xs) (same_all ts us m.1)

        same_look : (m : Memory Variable Shape) (xs : List Variable) (x : Option (List Shape)) → look m xs ≡ x → traces.same_looked s x read ≡ true → Agree xs read m
        same_look m xs None e k = cc
        same_look m xs (Some ts) e k = looked m xs read (e ∙ ap Some (same_all ts read k))

        go : (st : State) → Arrived st → traces.is_visit s table visits p r read st ≡ true → Fires s other main p (spot p).depth r read
        go st a k =
            let one = both (st.place == p) _ k in
            let two = both (st.depth == (spot p).depth) _ one.1 in
            let here : at main st.place st.depth ≡ at main p (spot p).depth = ap (λ x. at main x st.depth) (equal st.place p one.0) ∙ ap (at main p) (equal _ _ two.0) in
            walk_fires s other main p (spot p).depth o r read (has st) main_there (record { code = s.program.body; of = refl; op = i; has_depth = deep p l }) is refl (same_look (has st) (variables main r.seats) _ refl two.1)
            (subst (λ q. Walk w q (has st)) here a.walk)

    edge_in : (p : ℕ) (o : Op) (d : Edge Point Variable Shape) → slice_get s.program.body.ops p ≡ Some o → Contains places p → Way s table no_ranges ok p o d → Contains other (an_edge d)
    edge_in p o d i l way = go way (subst (λ x. traces.stands_by s table visits p x ≡ true) i (stands_on p l).1)
      where
        stands : Stands s main p (spot p).depth o
        stands = record { code = s.program.body; of = refl; op = i; has_depth = deep p l }

        go : {d : Edge Point Variable Shape} → Way s table no_ranges ok p o d → traces.stands s table visits p o ≡ true → Contains other (an_edge d)
        go (fell f) k =
            let g = both (falls o) (not (is_call o)) f in
            let m = both (traces.is_deep s o (spot p).depth) _ (or_else (falls o) _ (both _ _ k).0 g.0) in
            let needs : (effect_of o).needs < suc (spot p).depth = less _ _ m.0 in
            let few : suc p < length s.program.body.ops = less _ _ m.1 in
            edge_item other _ (fall_there s other closed main p (spot p).depth o main_there stands g.0 (not_true (is_call o) g.1)
            (record { code = s.program.body; of = refl; has_depth = given (deep p l) i (depths.goes_on (omega (arith, needs)) g.0) few }))
        go (jumped b e) k =
            let m = both (traces.is_deep s o (spot p).depth) (traces.is_place s b.goal) (subst (λ x. traces.goes_to s table visits p x o ≡ true) e (both _ _ (both _ _ k).1).0) in
            let needs : (effect_of o).needs < suc (spot p).depth = less _ _ m.0 in
            let few : b.goal < length s.program.body.ops = less _ _ m.1 in
            edge_item other _ (jump_there s other closed main p (spot p).depth o b main_there stands e
            (record { code = s.program.body; of = refl; has_depth = given (deep p l) i (depths.jumps (omega (arith, needs)) (goal_is o b e)) few }))

    kind_in : (p : ℕ) (o : Op) (i : Item) → slice_get s.program.body.ops p ≡ Some o → Contains places p → Kind s table no_ranges ok p o i → Contains other i
    kind_in p o i e l (edge_kind d way) = edge_in p o d e l way
    kind_in p o i e l (fact_kind r read t h is c m) =
        let y : Made read (row_of r.transfer read).results t = made_from read (row_of r.transfer read).results t m in
        fact_item other _ (fact_there s other closed main p (spot p).depth r read (fires p o r read e l h is c) y.yield t y.is (it y.makes))
    kind_in p o i e l (entry_kind r read h is c m) =
        let y : Entered read (row_of r.transfer read).entries i = entered_from read (row_of r.transfer read).entries i m in
        subst (Contains other) y.same (entry_there s other closed main p (spot p).depth r read (fires p o r read e l h is c) y.entry y.shape y.is (it y.makes))

    pub is_contained : IsContained (tables.world s table) other
    is_contained = record { at = λ i c. elim (stem s table no_ranges ok i c) [ inl e ↦ subst (Contains other) (sym e) main_there | inr m ↦ kind_in m.place m.op i m.is_op m.is_listed m.kind ] }
