-- Whether a context is in a list.
use Rattle.std.proofs.Common.{◌≡◌, ℕ, suc, zero, Bool, true, false, Option, Some, None, List, [], ◌∷◌, ◌⊎◌, inl, inr, refl, ap, arith, nat_eq}
use Rattle.std.specs.List.{Contains}
use Rattle.flow_graph.specs.declared.context.Context.{Context}
use Rattle.typegraph.proofs.Looks.{equal, equal_as}

abbrev Known : Type 0 → Type 0
Known A = A ⊎ (A → ⊥)

pub number_known : (m n : ℕ) → Known (m ≡ n)
number_known m n = go (nat_eq m n) refl
  where
    go : (t : Bool) → nat_eq m n ≡ t → Known (m ≡ n)
    go true e = inl (equal m n e)
    go false e = inr (λ i. let k : nat_eq m n ≡ true = equal_as m n i in cc)

option_known : (a b : Option ℕ) → Known (a ≡ b)
option_known None None = inl refl
option_known None (Some b) = inr (λ e. cc)
option_known (Some a) None = inr (λ e. cc)
option_known (Some a) (Some b) = go (number_known a b)
  where
    go : Known (a ≡ b) → Known (Some a ≡ Some b)
    go (inl e) = inl (ap Some e)
    go (inr n) = inr (λ e. n (cc))

context_known : (a b : Context) → Known (a ≡ b)
context_known a b = by_parent (option_known a.parent b.parent)
  where
    by_fun : a.parent ≡ b.parent → a.call ≡ b.call → Known (a.fun ≡ b.fun) → Known (a ≡ b)
    by_fun e f (inl g) = inl (λ i. record { parent = e i; call = f i; fun = g i })
    by_fun e f (inr n) = inr (λ h. n (ap (λ c. c.fun) h))

    by_call : a.parent ≡ b.parent → Known (a.call ≡ b.call) → Known (a ≡ b)
    by_call e (inl f) = by_fun e f (option_known a.fun b.fun)
    by_call e (inr n) = inr (λ h. n (ap (λ c. c.call) h))

    by_parent : Known (a.parent ≡ b.parent) → Known (a ≡ b)
    by_parent (inl e) = by_call e (option_known a.call b.call)
    by_parent (inr n) = inr (λ h. n (ap (λ c. c.parent) h))

pub has_known : (contexts : List Context) (context : Context) → Contains contexts context ⊎ (Contains contexts context → ⊥)
has_known [] context = inr (λ c. omega (arith, c.1))
has_known (x ∷ contexts) context = go (context_known x context) (has_known contexts context)
  where
    go : Known (x ≡ context) → Known (Contains contexts context) → Known (Contains (x ∷ contexts) context)
    go (inl e) more = inl (0, omega arith, e)
    go (inr n) (inl c) = inl (suc c.0, omega (arith, c.1), c.2)
    go (inr n) (inr m) = inr (λ c. at c)
      where
        at : Contains (x ∷ contexts) context → ⊥
        at (zero, l, e) = n e
        at (suc k, l, e) = m (k, omega arith, e)
