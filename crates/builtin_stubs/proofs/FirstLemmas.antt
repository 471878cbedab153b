-- The first row that fits, where a function changes the last cell of each row.
use Rattle.std.proofs.Common.{◌≡◌, Bool, true, false, ◌&&◌, List, [], ◌∷◌, Option, Some, option_map, map, if◌then◌else◌, refl}
use Rattle.builtin_stubs.specs.declared.basic.Basic.{Basic}
use Rattle.builtin_stubs.specs.declared.operand.Operand.{Operand}
use Rattle.builtin_stubs.specs.Operands.{fits, first_of, first_of_two}

module _ {X Y : Type 0} (f : X → Y) where
  here_or : (b : Bool) (x : X) (o : Option X) (p : Option Y) → p ≡ option_map f o → (if b then Some (f x) else p) ≡ option_map f (if b then Some x else o)
  here_or true x o p e = refl
  here_or false x o p e = e

  pub first_map : (rows : List (Operand × X)) (k : Basic) → first_of (map (λ r. (r.0, f r.1)) rows) k ≡ option_map f (first_of rows k)
  first_map [] k = refl
  first_map (r ∷ rows) k = here_or (fits r.0 k) r.1 (first_of rows k) (first_of (map (λ r. (r.0, f r.1)) rows) k) (first_map rows k)

  pub first_two_map : (rows : List (Operand × Operand × X)) (left right : Basic) → first_of_two (map (λ r. (r.0, r.1, f r.2)) rows) left right ≡ option_map f (first_of_two rows left right)
  first_two_map [] left right = refl
  first_two_map (r ∷ rows) left right =
      here_or (fits r.0 left && fits r.1 right) r.2 (first_of_two rows left right) (first_of_two (map (λ r. (r.0, r.1, f r.2)) rows) left right) (first_two_map rows left right)
