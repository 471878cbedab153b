-- The shapes under ids that the graph has are those of its own shapes.
use Rattle.std.proofs.Common.{◌≡◌, ℕ, suc, zero, ◌<◌, ◌≤◌, List, [], ◌∷◌, length, map, take, slice_get, refl, sym, ap, ◌∙◌, arith}
use Rattle.std.specs.Option.{unwrap_or}
use Rattle.std.specs.List.{Contains}
use Rattle.graph_walks.proofs.Lists.{first, later}
use Rattle.abstract_shapes.specs.declared.shape.Shape.{Shape as ShapeRow}
use Rattle.abstract_shapes.specs.Numbering.{structures}
use Rattle.abstract_shapes.specs.Scenes.{shapes_under}
use Rattle.abstract_shapes.specs.Shapes.{any, truth_of}
use Rattle.world_tables.specs.Rows.{WorldRows, tables_of, IsKept}
use Rattle.world_tables.proofs.Prefixes.{as_many, first_structures, take_get}
use Rattle.world_queries.specs.Choices.{shapes_by}

length_map : {X Y : Type 0} (f : X → Y) (xs : List X) → length (map f xs) ≡ length xs
length_map f [] = refl
length_map f (x ∷ xs) = ap suc (length_map f xs)

-- a front of n elements is of a list that has as many
long : {X : Type 0} (n : ℕ) (xs : List X) → n ≡ length (take n xs) → n ≤ length xs
long zero xs e = omega arith
long (suc n) [] e = absurd (omega (arith, e))
long (suc n) (x ∷ xs) e = let more : n ≤ length xs = long n xs (omega (arith, e)) in omega (arith, more)

module _ (rows : WorldRows) (kept : IsKept rows) (all : List ShapeRow) (front : take (length rows.graph.truths) all ≡ rows.shapes) where
  abbrev n : ℕ
  n = length rows.graph.truths

  count : n ≡ length (take n all)
  count = ap length kept.truths_are ∙ length_map truth_of (structures rows.shapes) ∙ as_many rows.shapes ∙ ap length (sym front)

  same : structures rows.shapes ≡ take n (structures all)
  same = ap structures (sym front) ∙ first_structures n all (long n all count)

  at : (id : ℕ) → id < n → slice_get (structures all) id ≡ slice_get (structures rows.shapes) id
  at id l = sym (ap (λ xs. slice_get xs id) same ∙ take_get n (structures all) id l)

  pub shapes_read : (ids : List ℕ) → ((id : ℕ) → Contains ids id → id < n) → shapes_under (structures all) ids ≡ shapes_by (tables_of rows) ids
  shapes_read [] h = refl
  shapes_read (id ∷ ids) h =
      let one : unwrap_or (slice_get (structures all) id) any ≡ unwrap_or (slice_get (structures rows.shapes) id) any = ap (λ o. unwrap_or o any) (at id (h id (first id ids))) in
      let more : shapes_under (structures all) ids ≡ shapes_by (tables_of rows) ids = shapes_read ids (λ k c. h k (later id k ids c)) in
      cc
