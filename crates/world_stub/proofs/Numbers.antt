-- Numbers that their order calls equal are the same.
use Rattle.std.proofs.Common.{◌≡◌, ◌<◌, ℕ, true, refl, sym, true≢false}
use Rattle.std.specs.Ordering.{nat_cmp, eq_by_cmp, is_eq, MatchOrdering}
use Rattle.std.specs.declared.cmp.Ordering.{Ordering}
use Rattle.std.specs.declared.cmp.Ordering.TheVariants.{Less, Equal, Greater}
use Rattle.std.proofs.lemmas.Cmp.{ranked}

pub is_equal : (o : Ordering) → is_eq o ≡ true → o ≡ Equal
is_equal Less e = absurd (true≢false (sym e))
is_equal Equal e = refl
is_equal Greater e = absurd (true≢false (sym e))

pub same_number : (m n : ℕ) → nat_cmp m n ≡ Equal → m ≡ n
same_number m n e = go (nat_cmp m n) e (ranked m n (nat_cmp m n) refl)
  where
    go : (o : Ordering) → o ≡ Equal → MatchOrdering o (m < n) (m ≡ n) (n < m) → m ≡ n
    go Less e h = cc
    go Equal e h = h
    go Greater e h = cc

pub same_line : (m n : ℕ) → eq_by_cmp nat_cmp m n ≡ true → m ≡ n
same_line m n e = same_number m n (is_equal (nat_cmp m n) e)
