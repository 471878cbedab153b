-- The first of the shapes that rows are.
use Rattle.std.proofs.Common.{◌≡◌, ℕ, suc, zero, ◌<◌, ◌≤◌, List, [], ◌∷◌, ◌++◌, length, take, drop, slice_get, Some, refl, sym, ap, ◌∙◌, arith, append_assoc, append-nil}
use Rattle.std.specs.Option.{unwrap_or}
use Rattle.std.proofs.lemmas.List.{take-append-drop}
use Rattle.abstract_shapes.specs.declared.shape.Shape.{Shape as ShapeRow}
use Rattle.abstract_shapes.specs.declared.shape.Shape.TheVariants as shape
use Rattle.abstract_shapes.specs.Numbering.{structure, structures_from, structures, IsThere}
use Rattle.abstract_shapes.specs.Shapes.{Shape, any, bound_native}

-- what rows are goes on from what those before them are
record GoesOn (known : List Shape) (rows : List ShapeRow) : Type 0 where
  more : List Shape
  is : structures_from known rows ≡ known ++ more
  long : length more ≡ length rows

goes_on : (known : List Shape) (rows : List ShapeRow) → GoesOn known rows
goes_on known [] = record { more = []; is = sym (append-nil known); long = refl }
goes_on known (row ∷ rows) =
    let s : Shape = structure known row in
    let g : GoesOn (known ++ s ∷ []) rows = goes_on (known ++ s ∷ []) rows in
    record { more = s ∷ g.more; is = g.is ∙ append_assoc known (s ∷ []) g.more; long = ap suc g.long }

joined : (known : List Shape) (rows more : List ShapeRow) → structures_from known (rows ++ more) ≡ structures_from (structures_from known rows) more
joined known [] more = refl
joined known (row ∷ rows) more = joined (known ++ structure known row ∷ []) rows more

front : {X : Type 0} (xs ys : List X) (n : ℕ) → length xs ≡ n → take n (xs ++ ys) ≡ xs
front [] ys zero e = refl
front [] ys (suc n) e = absurd (omega (arith, e))
front (x ∷ xs) ys zero e = absurd (omega (arith, e))
front (x ∷ xs) ys (suc n) e = ap (λ zs. x ∷ zs) (front xs ys n (omega (arith, e)))

-- so many first elements, where there are enough
pub taken : {X : Type 0} (n : ℕ) (xs : List X) → n ≤ length xs → length (take n xs) ≡ n
taken zero xs l = refl
taken (suc n) [] l = absurd (omega (arith, l))
taken (suc n) (x ∷ xs) l = ap suc (taken n xs (omega (arith, l)))

-- as many shapes as rows
pub as_many : (rows : List ShapeRow) → length (structures rows) ≡ length rows
as_many rows = let g : GoesOn [] rows = goes_on [] rows in ap length g.is ∙ g.long

-- the shapes of the first rows are the first shapes
pub first_structures : (n : ℕ) (rows : List ShapeRow) → n ≤ length rows → structures (take n rows) ≡ take n (structures rows)
first_structures n rows l =
    let g : GoesOn (structures (take n rows)) (drop n rows) = goes_on (structures (take n rows)) (drop n rows) in
    let e : structures rows ≡ structures (take n rows) ++ g.more = ap structures (sym (take-append-drop n rows)) ∙ (joined [] (take n rows) (drop n rows) ∙ g.is) in
    sym (ap (take n) e ∙ front (structures (take n rows)) g.more n (as_many (take n rows) ∙ taken n rows l))

-- ---- first elements of a list

module _ {X : Type 0} where
  pub take_get : (n : ℕ) (xs : List X) (k : ℕ) → k < n → slice_get (take n xs) k ≡ slice_get xs k
  take_get zero xs k l = absurd (omega (arith, l))
  take_get (suc n) [] k l = refl
  take_get (suc n) (x ∷ xs) zero l = refl
  take_get (suc n) (x ∷ xs) (suc k) l = take_get n xs k (omega (arith, l))

  pub take_got : (n : ℕ) (xs : List X) (k : ℕ) (x : X) → slice_get (take n xs) k ≡ Some x → slice_get xs k ≡ Some x
  take_got zero xs k x h = cc
  take_got (suc n) [] k x h = cc
  take_got (suc n) (y ∷ xs) zero x h = h
  take_got (suc n) (y ∷ xs) (suc k) x h = take_got n xs k x h

  -- more of the first ones are those of before, and others
  pub take_more : (n m : ℕ) (xs : List X) → n ≤ m → take m xs ≡ take n xs ++ drop n (take m xs)
  take_more n m xs l = sym (take-append-drop n (take m xs)) ∙ ap (λ zs. zs ++ drop n (take m xs)) (twice n m xs l)
    where
      twice : (n m : ℕ) (xs : List X) → n ≤ m → take n (take m xs) ≡ take n xs
      twice zero m xs l = refl
      twice (suc n) zero xs l = absurd (omega (arith, l))
      twice (suc n) (suc m) [] l = refl
      twice (suc n) (suc m) (x ∷ xs) l = ap (λ zs. x ∷ zs) (twice n m xs (omega (arith, l)))

  pub take_next_one : (n : ℕ) (xs : List X) (d : X) → n < length xs → take (suc n) xs ≡ take n xs ++ unwrap_or (slice_get xs n) d ∷ []
  take_next_one n [] d l = absurd (omega (arith, l))
  take_next_one zero (x ∷ xs) d l = refl
  take_next_one (suc n) (x ∷ xs) d l = ap (λ zs. x ∷ zs) (take_next_one n xs d (omega (arith, l)))

-- a shape is told by those before it
pub structure_front : (n : ℕ) (xs : List Shape) (row : ShapeRow) → IsThere n row → structure (take n xs) row ≡ structure xs row
structure_front n xs (shape.BoundNative id row) h = ap (λ o. bound_native (unwrap_or o any) row) (take_get n xs id h)
structure_front n xs row h = refl
