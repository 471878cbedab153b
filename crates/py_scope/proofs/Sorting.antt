-- A sort by the texts of names.
use Rattle.std.proofs.Common.{◌≡◌, ℕ, List, ap}
use Rattle.std.proofs.lemmas.Fn.{always_returns_same}
use Rattle.std.specs.Borrow.{Bor}
use Rattle.std.specs.Fn.{Mut, Called}
use Rattle.std.specs.List.Sorted.{IsSortedByClosure, IsStableByClosure}
use Rattle.std.specs.Ordering.{is_lt}
use Rattle.std.specs.declared.cmp.Ordering.{Ordering}
use Rattle.scope_rules.specs.Printed.{text_order, in_order}
use Rattle.scope_rules.proofs.InOrder.{lt, ranks, sorted_is}

-- from the clauses `sorted` and `stable` of `sort_by`, where each call compares the texts of the two names
pub in_order_from_sort_by : {F : Type 0} {g : Mut F (Bor ℕ × (Bor ℕ × Unit {0})) Ordering} {f : F} (texts : List (List ℕ)) (xs ys : List ℕ)
    → IsSortedByClosure g f ys → IsStableByClosure g f xs ys
    → ((a : Bor ℕ × (Bor ℕ × Unit {0})) (r : Ordering) (f' : F) → Called g f a r f' → (r ≡ text_order texts a.0.now a.1.0.now) × (f' ≡ f)) → ys ≡ in_order texts xs
in_order_from_sort_by {g = g} {f = f} texts xs ys sorted stable h =
    let compares = always_returns_same g (λ a r. is_lt r ≡ lt texts a.0.now a.1.0.now) f (λ a r f' k. (ap is_lt (h a r f' k).0, (h a r f' k).1)) in
    sorted_is texts xs ys (sorted (lt texts) (ranks texts) compares) (stable (lt texts) (ranks texts) compares)
