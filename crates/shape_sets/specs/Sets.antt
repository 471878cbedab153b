-- A set of shapes as contracts see it: a finite set of numbers, and the width that its numbers are below.
use Rattle.std.specs.Prelude.{ℕ, Bool, not, refl}
use Rattle.std.specs.Coded.{Coded, code_by, coded×, coded_ℕ}
use Rattle.std.specs.Ordering.{nat_cmp}
use Rattle.std.specs.FinSet as finite

pub record Members : Type 0 where
  pub width : ℕ
  pub members : finite.FinSet nat_cmp

abbrev pub members_code : Coded Members
members_code = code_by (ℕ × finite.FinSet nat_cmp) (coded× coded_ℕ (finite.code coded_ℕ)) (λ s. (s.width, s.members)) (λ p. record { width = p.0; members = p.1 }) (λ _. refl)

-- whether a set has a member that it did not have before
abbrev pub grew : finite.FinSet nat_cmp → finite.FinSet nat_cmp → Bool
grew old new = not (finite.is_subset new old)
