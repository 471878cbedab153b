-- When two lists of bindings are the same map.
use Rattle.std.proofs.Common.{rules, Decides, ◌≡◌, ◌↔◌, ℕ, suc, zero, ◌<◌, Bool, true, false, cond, Option, Some, None, List, [], ◌∷◌, ◌⊎◌, inl, inr, length, take, refl, sym, ap, subst, ◌∙◌, arith, nat_eq, IsTrue}
use Rattle.std.specs.List.{All, Contains}
use Rattle.std.specs.Cmp.Lexicographic.{pointwise}
use Rattle.std.proofs.Math.Seq.{take-length}
use lib.Pointwise.{pointwise_decides}
use Rattle.typegraph.specs.declared.goals.Binding.{Binding}
use Rattle.typegraph.specs.Maps.{look, IsOnce, IsRising}
use Rattle.typegraph.specs.Keys.{binding_eq}
use Rattle.typegraph.proofs.Looks.{equal, equal_as, binding_cases, look_finds}

pub all_taken : {X : Type 0} (P : X → Type 0) (xs : List X) (i : ℕ) → i ≡ length xs → All P (take i xs) → All P xs
all_taken P xs i e h = subst (λ ys. All P ys) (ap (λ n. take n xs) e ∙ take-length xs) h

pub rising_once : (xs : List Binding) → IsRising xs → IsOnce xs
rising_once xs rising i j d l k e = let h = rising i j d l k in omega (arith, h, e)

pub rising_tail : (x : Binding) (xs : List Binding) → IsRising (x ∷ xs) → IsRising xs
rising_tail x xs rising i j d l k = rising (suc i) (suc j) d (omega arith) (omega arith)

-- the first binding stands before each other one
pub rising_first : (x : Binding) (xs : List Binding) → IsRising (x ∷ xs) → (y : Binding) → Contains xs y → x.var < y.var
rising_first x xs rising y (k, l, e) = subst (λ z. x.var < z.var) e (rising zero (suc k) y (omega arith) (omega arith))

-- so its variable has no other one
first_alone : (x : Binding) (xs : List Binding) → IsRising (x ∷ xs) → look xs x.var ≡ None
first_alone x xs rising = go (look xs x.var) refl
  where
    go : (o : Option ℕ) → look xs x.var ≡ o → look xs x.var ≡ None
    go None e = e
    go (Some s) e = let l : x.var < x.var = rising_first x xs rising (record { var = x.var; shape = s }) (look_finds xs x.var s e) in absurd (omega (arith, l))

first_found : (x : Binding) (xs : List Binding) → look (x ∷ xs) x.var ≡ Some x.shape
first_found x xs = ap (λ t. cond t (Some x.shape) (look xs x.var)) (equal_as x.var x.var refl)

-- two maps that give each variable the same shape have the same bindings
pub rising_same : (one other : List Binding) → IsRising one → IsRising other → look one ≡ look other → one ≡ other
rising_same [] [] a b e = refl
rising_same [] (y ∷ ys) a b e = let k : None ≡ Some y.shape = ap (λ m. m y.var) e ∙ first_found y ys in cc
rising_same (x ∷ xs) [] a b e = let k : None ≡ Some x.shape = ap (λ m. m x.var) (sym e) ∙ first_found x xs in cc
rising_same (x ∷ xs) (y ∷ ys) a b e = at (binding_cases y x ys here) (binding_cases x y xs there) (rising_same xs ys (rising_tail x xs a) (rising_tail y ys b))
  where
    here : Contains (y ∷ ys) x
    here = look_finds (y ∷ ys) x.var x.shape (ap (λ m. m x.var) (sym e) ∙ first_found x xs)

    there : Contains (x ∷ xs) y
    there = look_finds (x ∷ xs) y.var y.shape (ap (λ m. m y.var) e ∙ first_found y ys)

    rest : x ≡ y → look xs ≡ look ys
    rest same = λ i v. for v (nat_eq x.var v) refl i
      where
        passed : (z : Binding) (zs : List Binding) (v : ℕ) → nat_eq z.var v ≡ false → look (z ∷ zs) v ≡ look zs v
        passed z zs v f = ap (λ t. cond t (Some z.shape) (look zs v)) f

        for : (v : ℕ) (t : Bool) → nat_eq x.var v ≡ t → look xs v ≡ look ys v
        for v true f =
            let i : x.var ≡ v = equal x.var v f in
            let j : y.var ≡ v = ap (λ z. z.var) (sym same) ∙ i in
            ap (look xs) (sym i) ∙ first_alone x xs a ∙ sym (ap (look ys) (sym j) ∙ first_alone y ys b)
        for v false f = sym (passed x xs v f) ∙ ap (λ m. m v) e ∙ passed y ys v (ap (λ z. nat_eq z.var v) (sym same) ∙ f)

    at : (x ≡ y) ⊎ Contains ys x → (y ≡ x) ⊎ Contains xs y → (look xs ≡ look ys → xs ≡ ys) → x ∷ xs ≡ y ∷ ys
    at (inl same) c more = let t : xs ≡ ys = more (rest same) in cc
    at (inr c) (inl same) more = let l : y.var < x.var = rising_first y ys b x c in let k : y.var ≡ x.var = ap (λ z. z.var) same in absurd (omega (arith, l, k))
    at (inr c) (inr d) more = let l : y.var < x.var = rising_first y ys b x c in let k : x.var < y.var = rising_first x xs a y d in absurd (omega (arith, l, k))

pub binding_exact : (a b : Binding) → Decides (binding_eq a b) (a ≡ b)
binding_exact a b = search rules

-- what is found equal is the same
pub map_exact : (one other : List Binding) → Decides (pointwise binding_eq one other) (one ≡ other)
map_exact = pointwise_decides {E = binding_eq} binding_exact

pub same_bindings : (one other : List Binding) (r : Bool) → r ≡ pointwise binding_eq one other → IsTrue r ↔ one ≡ other
same_bindings one other r e = (λ t. (map_exact one other).0 (sym e ∙ t), λ i. e ∙ (map_exact one other).1 i)

pub same_shapes : (one other : List Binding) (r : Bool) → IsRising one → IsRising other → r ≡ pointwise binding_eq one other → IsTrue r ↔ look one ≡ look other
same_shapes one other r a b e = (λ t. ap look ((map_exact one other).0 (sym e ∙ t)), λ i. e ∙ (map_exact one other).1 (rising_same one other a b i))
