-- Depths that stand at places in a row.
use Rattle.std.proofs.Common.{◌≡◌, ℕ, suc, ◌+◌, List, [], ◌∷◌, ◌++◌, length, refl, subst, arith}
use Rattle.stack_code.specs.declared.code.Range.{Range}
use Rattle.tree_code.specs.declared.instr.Instr.{Instr}
use Rattle.tree_code.specs.Flows.{Stands, AreRight, RangesRight, first_depth}

module _ (depths : ℕ → ℕ) where
  pub stands_split : (xs ys : List ℕ) (place : ℕ) → Stands depths place (xs ++ ys) → Stands depths place xs × Stands depths (place + length xs) ys
  stands_split [] ys place s = let e : place ≡ place + 0 = omega arith in (tt, subst (λ p. Stands depths p ys) e s)
  stands_split (x ∷ xs) ys place s =
      let rest = stands_split xs ys (suc place) s.1 in
      let e : suc place + length xs ≡ place + suc (length xs) = omega arith in
      ((s.0, rest.0), subst (λ p. Stands depths p ys) e rest.1)

  pub stands_join : (xs ys : List ℕ) (place : ℕ) → Stands depths place xs → Stands depths (place + length xs) ys → Stands depths place (xs ++ ys)
  stands_join [] ys place s t = let e : place + 0 ≡ place = omega arith in subst (λ p. Stands depths p ys) e t
  stands_join (x ∷ xs) ys place s t =
      let e : place + suc (length xs) ≡ suc place + length xs = omega arith in
      (s.0, stands_join xs ys (suc place) s.1 (subst (λ p. Stands depths p ys) e t))

  pub stands_first : (xs : List ℕ) (after place : ℕ) → Stands depths place (xs ++ after ∷ []) → depths place ≡ first_depth xs after
  stands_first [] after place s = s.0
  stands_first (x ∷ xs) after place s = s.0

  pub stands_last : (xs : List ℕ) (after place : ℕ) → Stands depths place (xs ++ after ∷ []) → depths (place + length xs) ≡ after
  stands_last xs after place s = (stands_split xs (after ∷ []) place s).1.0

  module _ (places : ℕ) where
    pub right_join : (xs ys : List Instr) (place : ℕ) → AreRight places depths place xs → AreRight places depths (place + length xs) ys → AreRight places depths place (xs ++ ys)
    right_join [] ys place s t = let e : place + 0 ≡ place = omega arith in subst (λ p. AreRight places depths p ys) e t
    right_join (x ∷ xs) ys place s t =
        let e : place + suc (length xs) ≡ suc place + length xs = omega arith in
        (s.0, right_join xs ys (suc place) s.1 (subst (λ p. AreRight places depths p ys) e t))

    pub ranges_join : (xs ys : List Range) → RangesRight places depths xs → RangesRight places depths ys → RangesRight places depths (xs ++ ys)
    ranges_join [] ys s t = t
    ranges_join (x ∷ xs) ys s t = (s.0, ranges_join xs ys s.1 t)

pub first_join : (xs ys : List ℕ) (middle after : ℕ) → first_depth ys after ≡ middle → first_depth (xs ++ ys) after ≡ first_depth xs middle
first_join [] ys middle after e = e
first_join (x ∷ xs) ys middle after e = refl
