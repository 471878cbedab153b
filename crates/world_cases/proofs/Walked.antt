-- What walks have in a computed world: at each place of the body no more than they may have there.
use Rattle.std.proofs.Common.{◌≡◌, ℕ, suc, zero, ◌+◌, ◌<◌, ◌≤◌, Bool, true, false, not, ◌&&◌, ◌||◌, ◌==◌, cond, ◌⊎◌, inl, inr, Option, Some, None, List, [], ◌∷◌, map, length, slice_get, is_some, refl, sym, ap, subst, ◌∙◌, arith, nat_eq}
use Rattle.std.specs.Prelude.{IsTrue}
use Rattle.std.specs.List.{Contains, flat_map, list_any}
use Rattle.std.proofs.lemmas.Bool.Decides.{nat_tests}
use Rattle.std.proofs.lemmas.List.Elements.{Contains-append_cases, Contains-append_left, Contains-append_right}
use Rattle.graph_walks.specs.Worlds as worlds
use Rattle.graph_walks.specs.Worlds.{Memory, nothing, Edge, Fact, Test, MayBeTrue, MayBeFalse, Is, PassesBy, HasFact, assigned, FactGives}
use Rattle.graph_walks.specs.Walks.{Answers, passes, Comes, kept, made, Step, Walk, start, step}
use Rattle.graph_walks.proofs.Lists.{empty, first, first_as, later, first_or_later, only, map_has, map_from, Origin, flat_map_has, flat_map_from, Part}
use Rattle.flow_graph.specs.declared.edge.Truth.{Truth}
use Rattle.flow_graph.specs.declared.edge.Truth.TheVariants.{Yes, No, Both}
use Rattle.stack_code.specs.declared.op.Op.{Op}
use Rattle.stack_code.specs.Depths as depths
use Rattle.stack_code.specs.Depths.{HasDepth, begins, given, handles}
use Rattle.stack_code.specs.Effects.{falls, goal_of, depth_after, depth_at_goal}
use Rattle.abstract_shapes.specs.declared.place.Place.{Place}
use Rattle.abstract_shapes.specs.Shapes.{Shape, truth_of}
use Rattle.world_rules.specs.declared.row.TableEntry.{TableEntry}
use Rattle.world_rules.specs.declared.row.Yield.{Yield}
use Rattle.world_rules.specs.declared.transfer.SeatReading.{SeatReading}
use Rattle.world_rules.specs.Places.{Context, main, entry, called, Variable, slot, Point, at, below_top, op_at, target_of}
use Rattle.world_rules.specs.Sources.{Source}
use Rattle.world_rules.specs.Branches.{Branch, branch, fall_test, ask_top}
use Rattle.world_rules.specs.Items.{Item, has_context, a_context, an_edge, a_fact, an_entry, variables, world_of, truth_as}
use Rattle.world_rules.specs.Rows.{row_of, made as shape_made}
use Rattle.world_rules.specs.Rules.{fall_edge, jump_edge}
use Rattle.world_rules.proofs.Same.{equal, variable_equal}
use Rattle.world_rules.proofs.Members.{edge_item, fact_item, context_item}
use Rattle.world_rules.proofs.Counted.{goal_is}
use Rattle.world_rules.proofs.Extending.{some_same}
use Rattle.world_cases.proofs.Pairs.{Pair, all, each, both, either, has_pair, pair_there, shapes_of, shape_of, IsAmong, choice_pairs}
use Rattle.world_cases.proofs.Tables.{Spot, numbers, add_made, shapes_given, add_entry, entries_given, is_plain, is_plain_row, lets_through, is_target}
use Rattle.world_cases.proofs.Tables as tables

-- ---- lists

pub numbered : (k n p : ℕ) → k ≤ p → p < k + n → Contains (numbers k n) p
numbered k zero p l h = absurd (omega arith)
numbered k (suc n) p l h = go (nat_eq k p) refl (λ m. numbered (suc k) n p m (omega arith))
  where
    go : (b : Bool) → nat_eq k p ≡ b → (suc k ≤ p → Contains (numbers (suc k) n) p) → Contains (k ∷ numbers (suc k) n) p
    go true e more = first_as k p (numbers (suc k) n) (sym (equal k p e))
    go false e more = later k p (numbers (suc k) n) (more (grind (arith, nat_tests, e)))

refuted : {P : Type 0} (b : Bool) → not b ≡ true → b ≡ true → P
refuted true h k = cc
refuted false h k = cc

pub or_else : (a b : Bool) → not a || b ≡ true → a ≡ true → b ≡ true
or_else true b h k = h
or_else false b h k = cc

any_of : {X : Type 0} (p : X → Bool) (xs : List X) (x : X) → Contains xs x → p x ≡ true → list_any p xs ≡ true
any_of p [] x c h = empty x c
any_of p (y ∷ xs) x c h = go (p y) refl (first_or_later y x xs c) (λ d. any_of p xs x d h)
  where
    go : (b : Bool) → p y ≡ b → (x ≡ y) ⊎ Contains xs x → (Contains xs x → list_any p xs ≡ true) → b || list_any p xs ≡ true
    go true e d more = refl
    go false e (inl i) more = let j : p y ≡ true = subst (λ z. p z ≡ true) i h in cc
    go false e (inr d) more = more d

pub record Found {X : Type 0} (p : X → Bool) (xs : List X) : Type 0 where
  pub item : X
  pub is : Contains xs item
  pub holds : p item ≡ true

pub found_any : {X : Type 0} (p : X → Bool) (xs : List X) → list_any p xs ≡ true → Found p xs
found_any p [] h = cc
found_any p (y ∷ xs) h = go (p y) refl h (found_any p xs)
  where
    go : (b : Bool) → p y ≡ b → b || list_any p xs ≡ true → (list_any p xs ≡ true → Found p xs) → Found p (y ∷ xs)
    go true e k more = record { item = y; is = first y xs; holds = e }
    go false e k more = let f : Found p xs = more k in record { item = f.item; is = later y f.item xs f.is; holds = f.holds }

-- ---- what a reading gives

pub made_there : (shapes : List Shape) (ys : List Yield) (y : Yield) (t : Shape) → Contains ys y → shape_made shapes y ≡ Some t → Contains (shapes_given shapes ys) t
made_there shapes [] y t c e = empty y c
made_there shapes (z ∷ ys) y t c e = go (shape_made shapes z) refl (first_or_later z y ys c) (λ d. made_there shapes ys y t d e)
  where
    go : (o : Option Shape) → shape_made shapes z ≡ o → (y ≡ z) ⊎ Contains ys y → (Contains ys y → Contains (shapes_given shapes ys) t) → Contains (add_made o (shapes_given shapes ys)) t
    go None i (inl j) more = let k : shape_made shapes z ≡ Some t = subst (λ x. shape_made shapes x ≡ Some t) j e in cc
    go None i (inr d) more = more d
    go (Some u) i (inl j) more = let k : shape_made shapes z ≡ Some t = subst (λ x. shape_made shapes x ≡ Some t) j e in first_as u t (shapes_given shapes ys) (sym (some_same (sym i ∙ k)))
    go (Some u) i (inr d) more = later u t (shapes_given shapes ys) (more d)

pub entry_there : (shapes : List Shape) (es : List TableEntry) (e : TableEntry) (t : Shape) → Contains es e → shape_made shapes e.given ≡ Some t → Contains (entries_given shapes es) (an_entry e.place t)
entry_there shapes [] e t c h = empty e c
entry_there shapes (z ∷ es) e t c h = go (shape_made shapes z.given) refl (first_or_later z e es c) (λ d. entry_there shapes es e t d h)
  where
    go : (o : Option Shape) → shape_made shapes z.given ≡ o → (e ≡ z) ⊎ Contains es e → (Contains es e → Contains (entries_given shapes es) (an_entry e.place t)) → Contains (add_entry z o (entries_given shapes es)) (an_entry e.place t)
    go None i (inl j) more = let k : shape_made shapes z.given ≡ Some t = subst (λ x. shape_made shapes x.given ≡ Some t) j h in cc
    go None i (inr d) more = more d
    go (Some u) i (inl j) more =
        let k : shape_made shapes z.given ≡ Some t = subst (λ x. shape_made shapes x.given ≡ Some t) j h in
        let l : u ≡ t = some_same (sym i ∙ k) in
        first_as _ _ (entries_given shapes es) (ap (λ x. an_entry x.place t) j ∙ ap (an_entry z.place) (sym l))
    go (Some u) i (inr d) more = later _ _ (entries_given shapes es) (more d)

-- the entries are no edges, facts or contexts
pub data IsEntry : Item → Type 0 where
  entry_is : (place : Place) (t : Shape) → IsEntry (an_entry place t)

only_entries : (shapes : List Shape) (es : List TableEntry) (i : Item) → Contains (entries_given shapes es) i → IsEntry i
only_entries shapes [] i c = empty i c
only_entries shapes (e ∷ es) i c = go (shape_made shapes e.given) c (only_entries shapes es i)
  where
    go : (o : Option Shape) → Contains (add_entry e o (entries_given shapes es)) i → (Contains (entries_given shapes es) i → IsEntry i) → IsEntry i
    go None k more = more k
    go (Some t) k more = elim (first_or_later _ i (entries_given shapes es) k) [ inl j ↦ subst IsEntry (sym j) (entry_is e.place t) | inr d ↦ more d ]

module _ (s : Source) (table : List Spot) (no_ranges : s.program.body.ranges ≡ []) (ok : tables.checked s table ≡ true) where
  abbrev spot : ℕ → Spot
  spot p = tables.spot s table p

  abbrev here : ℕ → Point
  here p = tables.here s table p

  abbrev world : List Item
  world = tables.world s table

  abbrev w : worlds.World Point Variable Shape
  w = world_of s world

  abbrev places : List ℕ
  places = tables.places s table

  pub listed : (p : ℕ) → p < length s.program.body.ops → Contains places p
  listed p l = numbered 0 _ p (omega arith) (omega (arith, l))

  good_there : (p : ℕ) (o : Op) → slice_get s.program.body.ops p ≡ Some o → Contains places p → tables.good s table p o ≡ true
  good_there p o e c =
      let tests : (tables.begins_well s table ≡ true) × (all (tables.good_on s table) places ≡ true) = both _ _ ok in
      subst (λ x. tables.good_by s table p x ≡ true) e (each (tables.good_on s table) places tests.1 p c)

  -- ---- depths

  pub record IsPlaced (p d : ℕ) : Type 0 where
    pub deep : (spot p).depth ≡ d
    pub few : p < length s.program.body.ops

  deep_on : (p : ℕ) (o : Op) → tables.deep s table p o ≡ true → falls o ≡ true → (spot (suc p)).depth ≡ depth_after o (spot p).depth
  deep_on p o h f = equal _ _ (or_else (falls o) _ (both _ _ h).0 f)

  deep_off : (p : ℕ) (o : Op) (g : ℕ) → tables.deep s table p o ≡ true → goal_of o ≡ Some g → (spot g).depth ≡ depth_at_goal o (spot p).depth
  deep_off p o g h e = equal _ _ (subst (λ x. tables.goal_deep s table p o x ≡ true) e (both _ _ h).1)

  pub placed : {p d : ℕ} → HasDepth s.program.body p d → IsPlaced p d
  placed (begins l) = record { deep = equal _ _ (both _ _ (both _ _ ok).0).0; few = l }
  placed (given {from} {before} {op} h e g l) = next g (placed h) l
    where
      next : {place depth : ℕ} → depths.Gives op from before place depth → IsPlaced from before → place < length s.program.body.ops → IsPlaced place depth
      next (depths.goes_on n f) i few = record { deep = deep_on from op (both _ _ (good_there from op e (listed from i.few))).0 f ∙ ap (depth_after op) i.deep; few = few }
      next (depths.jumps {goal} n f) i few = record { deep = deep_off from op goal (both _ _ (good_there from op e (listed from i.few))).0 f ∙ ap (depth_at_goal op) i.deep; few = few }
  placed (handles {range} h c v l) = empty range (subst (λ z. Contains z range) no_ranges c)

  -- ---- what stands in the world

  stands_there : (p : ℕ) (o : Op) → slice_get s.program.body.ops p ≡ Some o → Contains places p → (i : Item) → Contains (tables.items_at s table p o) i → Contains world i
  stands_there p o e l i c = later (a_context main) i _ (flat_map_has (tables.items_on s table) places p i l (subst (λ x. Contains (tables.items_by s table p x) i) (sym e) c))

  pub edge_there : (p : ℕ) (o : Op) → slice_get s.program.body.ops p ≡ Some o → Contains places p → (d : Edge Point Variable Shape) → Contains (tables.edges_at s table p o) d → Contains world (an_edge d)
  edge_there p o e l d c = stands_there p o e l (an_edge d) (Contains-append_left (map an_edge (tables.edges_at s table p o)) _ (an_edge d) (map_has an_edge (tables.edges_at s table p o) d c))

  pub given_there : (p : ℕ) (o : Op) → slice_get s.program.body.ops p ≡ Some o → Contains places p → (spot p).reached ≡ true → (r : SeatReading) → Contains (tables.reads_at s table p o) r →
      (shapes : List Shape) → Contains (tables.chosen_at s table p r) shapes → (i : Item) → Contains (tables.items_of s table p r shapes) i → Contains world i
  given_there p o e l h r k shapes d i c =
      stands_there p o e l i (Contains-append_right (map an_edge (tables.edges_at s table p o)) _ i (subst (λ b. Contains (cond b (flat_map (tables.items_read s table p) (tables.reads_at s table p o)) []) i) (sym h)
      (flat_map_has (tables.items_read s table p) (tables.reads_at s table p o) r i k (flat_map_has (tables.items_of s table p r) (tables.chosen_at s table p r) shapes i d c))))

  -- ---- and where it comes from

  pub data Way (p : ℕ) (o : Op) : Edge Point Variable Shape → Type 0 where
    fell : tables.falls_on s table o ≡ true → Way p o (fall_edge main p (spot p).depth o)
    jumped : (b : Branch) → branch o ≡ Some b → Way p o (jump_edge main p (spot p).depth o b)

  way_of : (p : ℕ) (o : Op) (d : Edge Point Variable Shape) → Contains (tables.edges_at s table p o) d → Way p o d
  way_of p o d c =
      elim (Contains-append_cases (cond (tables.falls_on s table o) (fall_edge main p (spot p).depth o ∷ []) []) (tables.jumps_by s table p o (branch o)) d c) [
        | inl k ↦ falling (tables.falls_on s table o) refl k
        | inr k ↦ jumping (branch o) refl k
      ]
    where
      falling : (b : Bool) → tables.falls_on s table o ≡ b → Contains (cond b (fall_edge main p (spot p).depth o ∷ []) []) d → Way p o d
      falling true e k = subst (λ z. Way p o z) (sym (only _ d k)) (fell e)
      falling false e k = empty d k

      jumping : (x : Option Branch) → branch o ≡ x → Contains (tables.jumps_by s table p o x) d → Way p o d
      jumping None e k = empty d k
      jumping (Some b) e k = subst (λ z. Way p o z) (sym (only _ d k)) (jumped b e)

  pub data Kind (p : ℕ) (o : Op) : Item → Type 0 where
    edge_kind : (d : Edge Point Variable Shape) → Way p o d → Kind p o (an_edge d)
    fact_kind : (r : SeatReading) (shapes : List Shape) (t : Shape) → (spot p).reached ≡ true → Contains (tables.reads_at s table p o) r → Contains (tables.chosen_at s table p r) shapes →
        Contains (shapes_given shapes (row_of r.transfer shapes).results) t → Kind p o (tables.fact_at s table p r shapes t)
    entry_kind : {i : Item} (r : SeatReading) (shapes : List Shape) → (spot p).reached ≡ true → Contains (tables.reads_at s table p o) r → Contains (tables.chosen_at s table p r) shapes →
        Contains (entries_given shapes (row_of r.transfer shapes).entries) i → Kind p o i

  kind : (p : ℕ) (o : Op) (i : Item) → Contains (tables.items_at s table p o) i → Kind p o i
  kind p o i c = elim (Contains-append_cases (map an_edge (tables.edges_at s table p o)) (cond (spot p).reached (flat_map (tables.items_read s table p) (tables.reads_at s table p o)) []) i c) [ inl k ↦ by_edge k | inr k ↦ by_read (spot p).reached refl k ]
    where
      by_edge : Contains (map an_edge (tables.edges_at s table p o)) i → Kind p o i
      by_edge k = let q : Origin an_edge (tables.edges_at s table p o) i = map_from an_edge (tables.edges_at s table p o) i k in subst (λ z. Kind p o z) q.same (edge_kind q.item (way_of p o q.item q.is))

      by_shapes : (r : SeatReading) (shapes : List Shape) → (spot p).reached ≡ true → Contains (tables.reads_at s table p o) r → Contains (tables.chosen_at s table p r) shapes → Contains (tables.items_of s table p r shapes) i → Kind p o i
      by_shapes r shapes h k d m =
          elim (Contains-append_cases (map (tables.fact_at s table p r shapes) (shapes_given shapes (row_of r.transfer shapes).results)) (entries_given shapes (row_of r.transfer shapes).entries) i m) [
            | inl n ↦ let q : Origin (tables.fact_at s table p r shapes) (shapes_given shapes (row_of r.transfer shapes).results) i = map_from (tables.fact_at s table p r shapes) (shapes_given shapes (row_of r.transfer shapes).results) i n in
                subst (λ z. Kind p o z) q.same (fact_kind r shapes q.item h k d q.is)
            | inr n ↦ entry_kind r shapes h k d n
          ]

      by_read : (b : Bool) → (spot p).reached ≡ b → Contains (cond b (flat_map (tables.items_read s table p) (tables.reads_at s table p o)) []) i → Kind p o i
      by_read false h k = empty i k
      by_read true h k =
          let one : Part (tables.items_read s table p) (tables.reads_at s table p o) i = flat_map_from (tables.items_read s table p) (tables.reads_at s table p o) i k in
          let two : Part (tables.items_of s table p one.item) (tables.chosen_at s table p one.item) i = flat_map_from (tables.items_of s table p one.item) (tables.chosen_at s table p one.item) i one.part in
          by_shapes one.item two.item h one.is two.is two.part

  pub record Stem (i : Item) : Type 0 where
    pub place : ℕ
    pub op : Op
    pub is_op : slice_get s.program.body.ops place ≡ Some op
    pub is_listed : Contains places place
    pub kind : Kind place op i

  pub stem : (i : Item) → Contains world i → (i ≡ a_context main) ⊎ Stem i
  stem i c = elim (first_or_later (a_context main) i _ c) [ inl e ↦ inl e | inr d ↦ let q : Part (tables.items_on s table) places i = flat_map_from (tables.items_on s table) places i d in inr (go q.item q.is (slice_get s.program.body.ops q.item) refl q.part) ]
    where
      go : (p : ℕ) → Contains places p → (x : Option Op) → slice_get s.program.body.ops p ≡ x → Contains (tables.items_by s table p x) i → Stem i
      go p l None e k = empty i k
      go p l (Some o) e k = record { place = p; op = o; is_op = e; is_listed = l; kind = kind p o i k }

  pub main_only : (c : Context) → Contains world (a_context c) → main ≡ c
  main_only c k = elim (stem (a_context c) k) [ inl e ↦ same e | inr m ↦ none m.kind ]
    where
      same : a_context c ≡ a_context main → main ≡ c
      same e = let i : c ≡ main = cc in sym i

      not_entry : IsEntry (a_context c) → main ≡ c
      not_entry e = elim e [ ]

      none : {p : ℕ} {o : Op} → Kind p o (a_context c) → main ≡ c
      none (entry_kind r shapes h k d n) = not_entry (only_entries shapes (row_of r.transfer shapes).entries _ n)

  pub record EdgeFrom (d : Edge Point Variable Shape) : Type 0 where
    pub place : ℕ
    pub op : Op
    pub is_op : slice_get s.program.body.ops place ≡ Some op
    pub is_listed : Contains places place
    pub way : Way place op d

  pub edge_from : (d : Edge Point Variable Shape) → Contains w.edges d → EdgeFrom d
  edge_from d k = elim (stem (an_edge d) (edge_item world d k)) [ inl e ↦ cc | inr m ↦ record { place = m.place; op = m.op; is_op = m.is_op; is_listed = m.is_listed; way = of m.kind } ]
    where
      not_entry : {p : ℕ} {o : Op} → IsEntry (an_edge d) → Way p o d
      not_entry e = elim e [ ]

      of : {p : ℕ} {o : Op} → Kind p o (an_edge d) → Way p o d
      of (edge_kind e y) = y
      of (entry_kind r shapes h k d n) = not_entry (only_entries shapes (row_of r.transfer shapes).entries _ n)

  pub record FactFrom (f : Fact Point Variable Shape) : Type 0 where
    pub place : ℕ
    pub op : Op
    pub is_op : slice_get s.program.body.ops place ≡ Some op
    pub is_listed : Contains places place
    pub point : f.point ≡ here place
    pub reached : (spot place).reached ≡ true
    pub given : Contains (tables.results s table place op) f.shape
    pub source : (v : Variable) (u : Shape) → f.source v ≡ Some u → Contains (spot place).may (v, u)

  pub fact_from : (f : Fact Point Variable Shape) → Contains w.facts f → FactFrom f
  fact_from f k = elim (stem (a_fact f) (fact_item world f k)) [ inl e ↦ cc | inr m ↦ of m.is_op m.is_listed m.kind ]
    where
      not_entry : {f : Fact Point Variable Shape} → IsEntry (a_fact f) → FactFrom f
      not_entry e = elim e [ ]

      of : {p : ℕ} {o : Op} {f : Fact Point Variable Shape} → slice_get s.program.body.ops p ≡ Some o → Contains places p → Kind p o (a_fact f) → FactFrom f
      of {p} {o} i l (fact_kind r shapes t h c d m) =
          record {
            place = p;
            op = o;
            is_op = i;
            is_listed = l;
            point = refl;
            reached = h;
            given = flat_map_has (λ r. flat_map (λ shapes. shapes_given shapes (row_of r.transfer shapes).results) (tables.chosen_at s table p r)) (tables.reads_at s table p o) r t c
                (flat_map_has (λ shapes. shapes_given shapes (row_of r.transfer shapes).results) (tables.chosen_at s table p r) shapes t d m);
            source = choice_pairs (spot p).may (variables main r.seats) shapes d;
          }
      of i l (entry_kind r shapes h k d n) = not_entry (only_entries shapes (row_of r.transfer shapes).entries _ n)

  -- ---- what walks have

  -- a point of the table that is reached, and a memory of what walks may have there
  pub record IsHeld (q : Point) (m : Memory Variable Shape) : Type 0 where
    pub place : ℕ
    pub is : q ≡ here place
    pub reached : (spot place).reached ≡ true
    pub among : IsAmong (spot place).may m

  same_place : (p q : ℕ) → here p ≡ here q → p ≡ q
  same_place p q e = cc

  abbrev At : ℕ → Memory Variable Shape → Type 0
  At p m = ((spot p).reached ≡ true) × IsAmong (spot p).may m

  pub held_at : (p : ℕ) (m : Memory Variable Shape) → IsHeld (here p) m → At p m
  held_at p m h = subst (λ q. At q m) (sym (same_place p h.place h.is)) (h.reached, h.among)

  lets : (t : Test Shape) (u : Shape) → PassesBy w.truth t u → lets_through t u ≡ true
  lets MayBeTrue u h = go (truth_of u) h
    where
      go : (x : Truth) → (Some (truth_as x) ≡ Some worlds.Yes) ⊎ (Some (truth_as x) ≡ Some worlds.Both) → elim x [ No ↦ false | _ ↦ true ] ≡ true
      go Yes h = refl
      go Both h = refl
      go No (inl e) = cc
      go No (inr e) = cc
  lets MayBeFalse u h = go (truth_of u) h
    where
      go : (x : Truth) → (Some (truth_as x) ≡ Some worlds.No) ⊎ (Some (truth_as x) ≡ Some worlds.Both) → elim x [ Yes ↦ false | _ ↦ true ] ≡ true
      go No h = refl
      go Both h = refl
      go Yes (inl e) = cc
      go Yes (inr e) = cc
  lets (Is t) u h = refl

  opened : (p : ℕ) (t : Option (Test Shape)) (m : Memory Variable Shape) → IsAmong (spot p).may m → Answers w (ask_top main (spot p).depth t) m → tables.open_by s table p t ≡ true
  opened p None m h a = refl
  opened p (Some t) m h (passes u e g) = any_of (lets_through t) (shapes_of (spot p).may (slot main (below_top (spot p).depth 0))) u (shape_of (spot p).may _ u (h.at _ u e)) (lets t u g)

  target_is : (target : Option Variable) (v : Variable) → is_target target v ≡ true → target ≡ Some v
  target_is None v h = cc
  target_is (Some x) v h = ap Some (variable_equal x v h)

  kept_there : (target : Option Variable) (pairs next : List Pair) → tables.kept_in s table target pairs next ≡ true → (v : Variable) (u : Shape) → Contains pairs (v, u) → (target ≡ Some v → ⊥) → Contains next (v, u)
  kept_there target pairs next h v u c n =
      either (is_target target v) (has_pair next v u) (each (λ x. is_target target x.0 || has_pair next x.0 x.1) pairs h (v, u) c)
      (λ e. absurd (n (target_is target v e))) (λ e. pair_there next v u e)

  given_next : (target : Option Variable) (ts : List Shape) (next : List Pair) → tables.given_in s table target ts next ≡ true → (v : Variable) → target ≡ Some v → (u : Shape) → Contains ts u → Contains next (v, u)
  given_next target ts next h v e u c = pair_there next v u (each (λ t. has_pair next v t) ts (subst (λ x. tables.given_in s table x ts next ≡ true) e h) u c)

  op_same : (p q : ℕ) (o k : Op) → p ≡ q → slice_get s.program.body.ops p ≡ Some o → slice_get s.program.body.ops q ≡ Some k → k ≡ o
  op_same p q o k e i j = some_same (sym j ∙ ap (slice_get s.program.body.ops) (sym e) ∙ i)

  -- a fact at a place gives one of its results
  result_at : (p : ℕ) (o : Op) (u : Shape) (source : Memory Variable Shape) → slice_get s.program.body.ops p ≡ Some o → HasFact w (here p) u source → Contains (tables.results s table p o) u
  result_at p o u source i f =
      let from : FactFrom (record { point = here p; shape = u; source = source }) = fact_from _ f in
      let e : p ≡ from.place = same_place p from.place from.point in
      subst (λ q. Contains (tables.results s table q o) u) (sym e) (subst (λ k. Contains (tables.results s table from.place k) u) (op_same p from.place o from.op e i from.is_op) from.given)

  pub flows : (p : ℕ) (o : Op) → slice_get s.program.body.ops p ≡ Some o → Contains places p → (spot p).reached ≡ true →
      (tables.goes_on s table p o ≡ true) × (tables.goes_off s table p (branch o) ≡ true) × (tables.plain s table p o ≡ true)
  flows p o i l h =
      let all : (tables.deep s table p o ≡ true) × (not (spot p).reached || (tables.goes_on s table p o && (tables.goes_off s table p (branch o) && tables.plain s table p o)) ≡ true) = both _ _ (good_there p o i l) in
      let rest : (tables.goes_on s table p o ≡ true) × (tables.goes_off s table p (branch o) && tables.plain s table p o ≡ true) = both _ _ (or_else _ _ all.1 h) in
      (rest.0, (both _ _ rest.1).0, (both _ _ rest.1).1)

  falls_too : (a b : Bool) → a && b ≡ true → a ≡ true
  falls_too a b h = (both a b h).0

  on_further : (p : ℕ) (o : Op) (m n : Memory Variable Shape) → slice_get s.program.body.ops p ≡ Some o → Contains places p → At p m → tables.falls_on s table o ≡ true →
      Step w (fall_edge main p (spot p).depth o) m n → IsHeld (at main (suc p) (depth_after o (spot p).depth)) n
  on_further p o m n i l h f st =
      let target : Option Variable = target_of s.program (here p) in
      let lets_on : tables.open_by s table p (fall_test o) ≡ true = opened p (fall_test o) m h.1 st.answers in
      let next = both (spot (suc p)).reached _ (or_else _ _ (or_else _ _ (flows p o i l h.0).0 f) lets_on) in
      let rest = both (tables.kept_in s table target (spot p).may (spot (suc p)).may) _ next.1 in
      record {
        place = suc p;
        is = ap (at main (suc p)) (sym (deep_on p o (both _ _ (good_there p o i l)).0 (falls_too _ _ f)));
        reached = next.0;
        among = record { at = λ v u e. go rest.0 rest.1 v u (st.comes v u e) };
      }
    where
      go : tables.kept_in s table (target_of s.program (here p)) (spot p).may (spot (suc p)).may ≡ true → tables.given_in s table (target_of s.program (here p)) (tables.results s table p o) (spot (suc p)).may ≡ true →
          (v : Variable) (u : Shape) → Comes w (fall_edge main p (spot p).depth o) m v u → Contains (spot (suc p)).may (v, u)
      go k g v u (kept n e) = kept_there _ (spot p).may (spot (suc p)).may k v u (h.1.at v u e) n
      go k g v u (made a source f x) = given_next _ (tables.results s table p o) (spot (suc p)).may g v a u (result_at p o u source i f)

  off_further : (p : ℕ) (o : Op) (b : Branch) (m n : Memory Variable Shape) → slice_get s.program.body.ops p ≡ Some o → Contains places p → At p m → branch o ≡ Some b →
      Step w (jump_edge main p (spot p).depth o b) m n → IsHeld (at main b.goal (depth_at_goal o (spot p).depth)) n
  off_further p o b m n i l h f st =
      let lets_on : tables.open_by s table p b.on_jump ≡ true = opened p b.on_jump m h.1 st.answers in
      let next = both (spot b.goal).reached _ (or_else _ _ (subst (λ x. tables.goes_off s table p x ≡ true) f (flows p o i l h.0).1) lets_on) in
      record {
        place = b.goal;
        is = ap (at main b.goal) (sym (deep_off p o b.goal (both _ _ (good_there p o i l)).0 (goal_is o b f)));
        reached = next.0;
        among = record { at = λ v u e. go next.1 v u (st.comes v u e) };
      }
    where
      go : tables.kept_in s table None (spot p).may (spot b.goal).may ≡ true → (v : Variable) (u : Shape) → Comes w (jump_edge main p (spot p).depth o b) m v u → Contains (spot b.goal).may (v, u)
      go k v u (kept n e) = kept_there None (spot p).may (spot b.goal).may k v u (h.1.at v u e) n
      go k v u (made a source f x) = cc

  further : (p : ℕ) (o : Op) (e : Edge Point Variable Shape) → slice_get s.program.body.ops p ≡ Some o → Contains places p → Way p o e → (m n : Memory Variable Shape) → IsHeld e.from m → Step w e m n → IsHeld e.to n
  further p o e i l (fell f) m n h st = on_further p o m n i l (held_at p m h) f st
  further p o e i l (jumped b f) m n h st = off_further p o b m n i l (held_at p m h) f st

  begins_at : (q : Point) → IsTrue (w.root q) → here 0 ≡ q
  begins_at (at main place depth) r =
      let k : ((place == 0) ≡ true) × _ = both (place == 0) _ r in
      let i : place ≡ 0 = equal place 0 k.0 in
      let j : depth ≡ 0 = equal depth 0 (both (depth == 0) _ k.1).0 in
      let d : (spot 0).depth ≡ 0 = equal _ _ (both _ _ (both _ _ ok).0).0 in
      ap (at main 0) (d ∙ sym j) ∙ ap (λ x. at main x depth) (sym i)
  begins_at (at (entry f) place depth) r =
      let k : ((place == 0) ≡ true) × _ = both (place == 0) _ r in
      let j : ((depth == 0) ≡ true) × _ = both (depth == 0) _ k.1 in
      let has : ((is_some (op_at s.program (entry f) 0)) ≡ true) × (has_context world (entry f) ≡ true) = both (is_some (op_at s.program (entry f) 0)) (has_context world (entry f)) j.1 in
      let n : main ≡ entry f = main_only (entry f) (context_item world (entry f) has.1) in
      cc
  begins_at (at (called c p d f) place depth) r = cc

  pub held : {q : Point} {m : Memory Variable Shape} → Walk w q m → IsHeld q m
  held (start {p} r) = record { place = 0; is = sym (begins_at p r); reached = (both _ _ (both _ _ ok).0).1; among = record { at = λ v u e. cc } }
  held (step {before} {after} e k st) =
      let from : EdgeFrom e = edge_from e st.edge in
      further from.place from.op e from.is_op from.is_listed from.way before after (held k) st
