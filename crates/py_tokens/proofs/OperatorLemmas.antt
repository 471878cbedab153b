-- An operator that is found lies within the text.
use Rattle.std.proofs.Common.{◌≡◌, ℕ, ◌<◌, ◌≤◌, Bool, true, false, cond, nat_eq, nat_lt, List, [], ◌∷◌, length, take, Option, Some, IfSome, refl, ap, subst, sym, arith, length-take}
use Rattle.std.specs.List.{list_all, starts_with}
use Rattle.std.specs.Cmp.Lexicographic.{bytes_decides}
use Rattle.std.proofs.lemmas.Bool.Decides.{nat_tests}
use Rattle.py_tokens.specs.declared.operator.FoundOp.{FoundOp}
use Rattle.py_tokens.specs.declared.token.Op.{Op}
use Rattle.py_tokens.specs.Operators.{operator_rows, row_operator, operator_of}
use Rattle.py_tokens.specs.Rows.{first_said}
use Rattle.py_tokens.proofs.Classes.{and_parts}

some_bytes : (n : ℕ) → nat_lt 0 n ≡ true → 0 < n
some_bytes n h = grind (arith, nat_tests)

module _ (text : List ℕ) where
  abbrev IsWithin : FoundOp → Type 0
  IsWithin f = (0 < f.len) × (f.len ≤ length text)

  first_within : (b : Bool) (f : FoundOp) (more : Option FoundOp) → (b ≡ true → IsWithin f) → IfSome more IsWithin → IfSome (cond b (Some f) more) IsWithin
  first_within true f more here later = here refl
  first_within false f more here later = later

  front_within : (spelling : List ℕ) → starts_with nat_eq text spelling ≡ true → length spelling ≤ length text
  front_within spelling h = omega (arith, ap length ((bytes_decides spelling (take (length spelling) text)).0 h), length-take (length spelling) text)

  rows_within : (rows : List (List ℕ × Op)) → list_all (λ row. nat_lt 0 (length row.0)) rows ≡ true → IfSome (first_said (starts_with nat_eq text) row_operator rows) IsWithin
  rows_within [] h = tt
  rows_within (row ∷ rows) h =
      let parts = and_parts (nat_lt 0 (length row.0)) (list_all (λ r. nat_lt 0 (length r.0)) rows) h in
      first_within (starts_with nat_eq text row.0) (row_operator row) (first_said (starts_with nat_eq text) row_operator rows)
      (λ begins. (some_bytes (length row.0) parts.0, front_within row.0 begins)) (rows_within rows parts.1)

  pub operator_within : (o : Option FoundOp) → o ≡ operator_of text → IfSome o IsWithin
  operator_within o is = subst (λ x. IfSome x IsWithin) (sym is) (rows_within operator_rows refl)
