-- What a look-up finds in a list of bindings.
use Rattle.std.proofs.Common.{◌≡◌, ◌≢◌, ℕ, suc, zero, Bool, true, false, cond, Some, None, List, [], ◌∷◌, refl, sym, ap, subst, ◌∙◌, arith, nat_eq, ◌⊎◌, inl, inr}
use Rattle.std.specs.List.{Contains}
use Rattle.std.proofs.lemmas.Bool.Decides.{nat_tests}
use Rattle.typegraph.specs.declared.goals.Binding.{Binding}
use Rattle.typegraph.specs.Maps.{look, IsOnce}

pub equal : (m n : ℕ) → nat_eq m n ≡ true → m ≡ n
equal m n h = grind (arith, nat_tests)

pub equal_itself : (m : ℕ) → nat_eq m m ≡ true
equal_itself m = grind (arith, nat_tests)

pub equal_as : (m n : ℕ) → m ≡ n → nat_eq m n ≡ true
equal_as m n e = subst (λ x. nat_eq m x ≡ true) e (equal_itself m)

pub first_binding : (x : Binding) (xs : List Binding) → Contains (x ∷ xs) x
first_binding x xs = (zero, omega arith, refl)

pub later_binding : (y x : Binding) (xs : List Binding) → Contains xs x → Contains (y ∷ xs) x
later_binding y x xs (k, l, e) = (suc k, omega arith, e)

pub binding_cases : (y x : Binding) (xs : List Binding) → Contains (y ∷ xs) x → (x ≡ y) ⊎ Contains xs x
binding_cases y x xs (zero, l, e) = inl (sym e)
binding_cases y x xs (suc k, l, e) = inr (k, omega arith, e)

-- what is found is there
pub look_finds : (xs : List Binding) (v s : ℕ) → look xs v ≡ Some s → Contains xs (record { var = v; shape = s })
look_finds [] v s h = cc
look_finds (x ∷ xs) v s h = go (nat_eq x.var v) refl h (look_finds xs v s)
  where
    go : (t : Bool) → nat_eq x.var v ≡ t → cond t (Some x.shape) (look xs v) ≡ Some s → (look xs v ≡ Some s → Contains xs (record { var = v; shape = s })) → Contains (x ∷ xs) (record { var = v; shape = s })
    go true e h more =
        let ss : x.shape ≡ s = cc in
        let same : x ≡ record { var = v; shape = s } = λ i. record { var = equal x.var v e i; shape = ss i } in
        subst (λ z. Contains (x ∷ xs) z) same (first_binding x xs)
    go false e h more = later_binding x (record { var = v; shape = s }) xs (more h)

-- a variable that is there is found
pub look_some : (xs : List Binding) (x : Binding) → Contains xs x → look xs x.var ≡ None → ⊥
look_some [] x c h = omega (arith, c.1)
look_some (y ∷ xs) x c h = go (nat_eq y.var x.var) refl h (binding_cases y x xs c) (look_some xs x)
  where
    go : (t : Bool) → nat_eq y.var x.var ≡ t → cond t (Some y.shape) (look xs x.var) ≡ None → (x ≡ y) ⊎ Contains xs x → (Contains xs x → look xs x.var ≡ None → ⊥) → ⊥
    go true e h c more = cc
    go false e h (inl i) more = let k : nat_eq y.var x.var ≡ true = equal_as y.var x.var (ap (λ z. z.var) (sym i)) in cc
    go false e h (inr d) more = more d h

-- where no variable stands twice, each binding is found
pub look_once : (xs : List Binding) (v s : ℕ) → IsOnce xs → Contains xs (record { var = v; shape = s }) → look xs v ≡ Some s
look_once [] v s once c = let z : ⊥ = omega (arith, c.1) in absurd z
look_once (x ∷ xs) v s once c = go (nat_eq x.var v) refl (binding_cases x (record { var = v; shape = s }) xs c) (look_once xs v s tail)
  where
    tail : IsOnce xs
    tail i j d l k = once (suc i) (suc j) d (omega arith) (omega arith)

    head : Contains xs (record { var = v; shape = s }) → x.var ≢ v
    head (k, l, e) same = once zero (suc k) (record { var = v; shape = s }) (omega arith) (omega arith) (same ∙ ap (λ b. b.var) (sym e))

    go : (t : Bool) → nat_eq x.var v ≡ t → (record { var = v; shape = s } ≡ x) ⊎ Contains xs (record { var = v; shape = s }) → (Contains xs (record { var = v; shape = s }) → look xs v ≡ Some s) → cond t (Some x.shape) (look xs v) ≡ Some s
    go true e (inl i) more = ap (λ b. Some b.shape) (sym i)
    go true e (inr d) more = absurd (head d (equal x.var v e))
    go false e (inl i) more = let k : nat_eq x.var v ≡ true = equal_as x.var v (ap (λ b. b.var) (sym i)) in cc
    go false e (inr d) more = more d
