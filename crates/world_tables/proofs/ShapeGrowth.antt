-- What interning a shape and naming it leave of the tables.
use Rattle.std.proofs.Common.{◌≡◌, ℕ, suc, zero, ◌+◌, ◌<◌, ◌≤◌, Bool, true, false, List, [], ◌∷◌, ◌++◌, length, map, take, drop, slice_get, Some, ◌⊎◌, inl, inr, refl, sym, ap, subst, ◌∙◌, arith, append-nil, length-append}
use Rattle.std.proofs.lemmas.List.{take-append-le, length-map}
use Rattle.typegraph.specs.Graphs.{GraphTables}
use Rattle.typegraph.specs.Validity as graph_validity
use Rattle.abstract_shapes.specs.declared.shape.Shape.{Shape as ShapeRow}
use Rattle.abstract_shapes.specs.Numbering.{structure, structures, IsThere, HasId, HaveOneId}
use Rattle.abstract_shapes.specs.Same.{same_structure}
use Rattle.abstract_shapes.specs.SameLaws.{structure_itself, structure_is}
use Rattle.abstract_shapes.specs.Shapes.{Shape, truth_of}
use Rattle.world_rules.specs.Sources.{Source}
use Rattle.world_tables.specs.Tables.{items_of, HaveOneNumber, AreTables}
use Rattle.world_tables.specs.Rows.{WorldRows, tables_of, IsWithShapes, IsKept}
use Rattle.world_tables.proofs.Growth.{kept_shapes}
use Rattle.world_tables.proofs.Items.{below}
use Rattle.world_tables.proofs.Prefixes.{first_structures, as_many, take_get, take_got, take_more, structure_front}
use Rattle.world_tables.proofs.WithShape as shapes

-- ---- what interning leaves

pub record Tail (old new : List Shape) : Type 0 where
  pub more : List Shape
  pub is : new ≡ old ++ more

-- a shape has an id or not
with_id : (xs : List Shape) (x : Shape) → HasId xs x ⊎ (HasId xs x → ⊥)
with_id [] x = inr (λ h. no h.0 h.1)
  where
    no : (k : ℕ) → slice_get [] k ≡ Some x → ⊥
    no k e = cc
with_id (y ∷ xs) x = go (same_structure y x) refl (with_id xs x)
  where
    go : (b : Bool) → same_structure y x ≡ b → HasId xs x ⊎ (HasId xs x → ⊥) → HasId (y ∷ xs) x ⊎ (HasId (y ∷ xs) x → ⊥)
    go true e more = inl (zero, ap Some (structure_is y x e))
    go false e (inl h) = inl (suc h.0, h.1)
    go false e (inr n) = inr (λ h. at h.0 h.1)
      where
        at : (k : ℕ) → slice_get (y ∷ xs) k ≡ Some x → ⊥
        at zero f = let g : y ≡ x = cc in let h : true ≡ false = sym (structure_itself y) ∙ (ap (same_structure y) g ∙ e) in cc
        at (suc k) f = n (k, f)

pub interned : (old new : List ShapeRow) (x : Shape) → (HasId (structures old) x → new ≡ old) → ((HasId (structures old) x → ⊥) → structures new ≡ structures old ++ x ∷ []) → Tail (structures old) (structures new)
interned old new x known fresh =
    elim (with_id (structures old) x) [
      | inl h ↦ record { more = []; is = ap structures (known h) ∙ sym (append-nil (structures old)) }
      | inr n ↦ record { more = x ∷ []; is = fresh n }
    ]

pub nothing_interned : (old new : List ShapeRow) → new ≡ old → Tail (structures old) (structures new)
nothing_interned old new e = record { more = []; is = ap structures e ∙ sym (append-nil (structures old)) }

-- ---- what naming leaves

enough : {X : Type 0} (n : ℕ) (xs : List X) → length (take n xs) ≡ n → n ≤ length xs
enough zero xs e = omega arith
enough (suc n) [] e = absurd (omega (arith, e))
enough (suc n) (x ∷ xs) e = let l : n ≤ length xs = enough n xs (omega (arith, e)) in omega (arith, l)

module _ (rows : WorldRows) (kept : IsKept rows) (all new_all : List ShapeRow) (is : rows.shapes ≡ take (length rows.graph.truths) all) (tail : Tail (structures all) (structures new_all)) where
  abbrev n : ℕ
  n = length rows.graph.truths

  few : n ≤ length all
  few = enough n all (sym (ap length kept.truths_are ∙ (length-map (structures rows.shapes) truth_of ∙ (as_many rows.shapes ∙ ap length is))))

  old_are : structures rows.shapes ≡ take n (structures all)
  old_are = ap structures is ∙ first_structures n all few

  pub front_stays : take n (structures new_all) ≡ structures rows.shapes
  front_stays =
      let l : n ≤ length (structures all) = subst (λ k. n ≤ k) (sym (as_many all)) few in
      ap (take n) tail.is ∙ (take-append-le n (structures all) tail.more l ∙ sym old_are)

  pub truths_before : rows.graph.truths ≡ map truth_of (take n (structures new_all))
  truths_before = kept.truths_are ∙ ap (map truth_of) (sym front_stays)

  pub few_before : n ≤ length new_all
  few_before =
      let a : length (structures new_all) ≡ length (structures all) + length tail.more = ap length tail.is ∙ length-append (structures all) tail.more in
      let b : length (structures new_all) ≡ length new_all = as_many new_all in
      let d : length (structures all) ≡ length all = as_many all in
      let l : n ≤ length all = few in
      omega (arith, a, b, d, l)

module _ (rows : WorldRows) (kept : IsKept rows) (all new_all : List ShapeRow) (is : rows.shapes ≡ take (length rows.graph.truths) all) (tail : Tail (structures all) (structures new_all))
    (m : ℕ) (g : GraphTables) (from : length rows.graph.truths ≤ m) (below : m ≤ length new_all) (graph_is : g ≡ record rows.graph { truths = map truth_of (take m (structures new_all)) }) (counted : m ≡ length g.truths) where
  abbrev more : List Shape
  more = drop (length rows.graph.truths) (take m (structures new_all))

  pub shapes_are : structures (take (length g.truths) new_all) ≡ take m (structures new_all)
  shapes_are = subst (λ k. structures (take k new_all) ≡ take m (structures new_all)) counted (first_structures m new_all below)

  truths_are : g.truths ≡ map truth_of (structures (take (length g.truths) new_all))
  truths_are = ap (λ h. h.truths) graph_is ∙ ap (map truth_of) (sym shapes_are)

  same_graph : g ≡ record rows.graph { truths = g.truths }
  same_graph = graph_is ∙ ap (λ ts. record rows.graph { truths = ts }) (sym (ap (λ h. h.truths) graph_is))

  pub shapes_grow : structures (take (length g.truths) new_all) ≡ structures rows.shapes ++ more
  shapes_grow = shapes_are ∙ (take_more (length rows.graph.truths) m (structures new_all) from ∙ ap (λ zs. zs ++ more) (front_stays rows kept all new_all is tail))

  pub kept_after : IsKept (record rows { graph = g; shapes = take (length g.truths) new_all })
  kept_after = subst (λ h. IsKept (record rows { graph = h; shapes = take (length g.truths) new_all })) (sym same_graph) (kept_shapes rows kept g.truths (take (length g.truths) new_all) truths_are)

  pub with_shapes : IsWithShapes rows (record rows { graph = g; shapes = take (length g.truths) new_all })
  with_shapes =
      record {
        more = more;
        shapes = shapes_grow;
        rest = ap (λ h. record rows { graph = h; shapes = take (length g.truths) new_all }) (same_graph ∙ ap (λ ts. record rows.graph { truths = ts }) truths_are);
      }

  module _ (once : HaveOneId (structures new_all)) (valid : graph_validity.IsValid g) (s : Source) (a : AreTables s (tables_of rows)) where
    once_now : HaveOneNumber (structures rows.shapes ++ more)
    once_now = subst HaveOneNumber (sym shapes_are ∙ shapes_grow) (λ i j x h k. once i j x (take_got m (structures new_all) i x h) (take_got m (structures new_all) j x k))

    truths_now : g.truths ≡ map truth_of (structures rows.shapes ++ more)
    truths_now = truths_are ∙ ap (map truth_of) shapes_grow

    tables_after : tables_of (record rows { graph = g; shapes = take (length g.truths) new_all }) ≡ record (tables_of rows) { graph = record rows.graph { truths = g.truths }; shapes = structures rows.shapes ++ more }
    tables_after = λ i. record (tables_of (record rows { graph = same_graph i })) { shapes = shapes_grow i }

    pub shapes_keep : AreTables s (tables_of (record rows { graph = g; shapes = take (length g.truths) new_all })) × (items_of (tables_of (record rows { graph = g; shapes = take (length g.truths) new_all })) ≡ items_of (tables_of rows))
    shapes_keep = (
      subst (AreTables s) (sym tables_after) (shapes.shape_keeps s (tables_of rows) a more once_now g.truths truths_now (subst graph_validity.IsValid same_graph valid)),
      ap items_of tables_after ∙ shapes.same_items s (tables_of rows) a more once_now g.truths truths_now (subst graph_validity.IsValid same_graph valid),
    )

-- nothing was interned and nothing named
module _ (rows : WorldRows) (kept : IsKept rows) where
  pub same_shapes : IsWithShapes rows rows
  same_shapes = record { more = []; shapes = sym (append-nil (structures rows.shapes)); rest = ap (λ ts. record rows { graph = record rows.graph { truths = ts } }) kept.truths_are }

-- ---- a shape that stands there

module _ (rows : WorldRows) (kept : IsKept rows) (all new_all : List ShapeRow) (is : rows.shapes ≡ take (length rows.graph.truths) all) (tail : Tail (structures all) (structures new_all)) (row : ShapeRow) (receiver : IsThere (length rows.shapes) row) where
  as_long : length rows.shapes ≡ length rows.graph.truths
  as_long = sym (as_many rows.shapes) ∙ (sym (length-map (structures rows.shapes) truth_of) ∙ sym (ap length kept.truths_are))

  pub same_structure_now : structure (structures rows.shapes) row ≡ structure (structures all) row
  same_structure_now =
      ap (λ xs. structure xs row) (ap structures is ∙ first_structures (length rows.graph.truths) all (few rows kept all new_all is tail))
      ∙ structure_front (length rows.graph.truths) (structures all) row (subst (λ k. IsThere k row) as_long receiver)

  -- it has the id among all shapes that it has among the named ones
  pub found_at : (h : HasId (structures rows.shapes) (structure (structures rows.shapes) row)) → slice_get (structures all) h.0 ≡ Some (structure (structures all) row)
  found_at h = take_got (length rows.graph.truths) (structures all) h.0 _ (ap (λ xs. slice_get xs h.0) (sym (ap structures is ∙ first_structures (length rows.graph.truths) all (few rows kept all new_all is tail))) ∙ (h.1 ∙ ap Some same_structure_now))

  pub found_below : (h : HasId (structures rows.shapes) (structure (structures rows.shapes) row)) → h.0 < length rows.graph.truths
  found_below h =
      let l : h.0 < length (structures rows.shapes) = below (structures rows.shapes) h.0 _ h.1 in
      let a : length (structures rows.shapes) ≡ length rows.shapes = as_many rows.shapes in
      let b : length rows.shapes ≡ length rows.graph.truths = as_long in
      omega (arith, l, a, b)

  -- so has one that is interned, once it is named
  pub numbered_now : (m : ℕ) (g : GraphTables) → length rows.graph.truths ≤ m → m ≤ length new_all → g ≡ record rows.graph { truths = map truth_of (take m (structures new_all)) } → m ≡ length g.truths →
      (id : ℕ) → id < m → slice_get (structures new_all) id ≡ Some (structure (structures all) row) → slice_get (structures (take (length g.truths) new_all)) id ≡ Some (structure (structures rows.shapes) row)
  numbered_now m g from below graph_is counted id l h =
      ap (λ xs. slice_get xs id) (shapes_are rows kept all new_all is tail m g from below graph_is counted) ∙ (take_get m (structures new_all) id l ∙ (h ∙ ap Some (sym same_structure_now)))
