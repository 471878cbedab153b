-- A search of a table as a program keeps it.
use Rattle.std.proofs.Common.{◌≡◌, ℕ, Bool, true, false, cond, List, [], ◌∷◌, map, Option, None, Some, Bor, refl, sym, ap, ◌∙◌}
use Rattle.std.specs.List.{find}
use Rattle.std.specs.Option.{option_map}
use Rattle.py_tokens.specs.Rows.{first_said}

module _ {X Y : Type 0} (test : List ℕ → Bool) (says : List ℕ × X → Y) where
  abbrev row : Bor (List ℕ) × X → List ℕ × X
  row kept = (kept.0.now, kept.1)

  said_or : (b : Bool) (kept : Bor (List ℕ) × X) (more : Option (Bor (List ℕ) × X)) (other : Option Y) →
      option_map (λ k. says (row k)) more ≡ other → option_map (λ k. says (row k)) (cond b (Some kept) more) ≡ cond b (Some (says (row kept))) other
  said_or true kept more other same = refl
  said_or false kept more other same = same

  said_by_find : (rows : List (Bor (List ℕ) × X)) → option_map (λ k. says (row k)) (find (λ k. test k.0.now) rows) ≡ first_said test says (map row rows)
  said_by_find [] = refl
  said_by_find (kept ∷ rows) = said_or (test kept.0.now) kept (find (λ k. test k.0.now) rows) (first_said test says (map row rows)) (said_by_find rows)

  option_twice : (o : Option (Bor (Bor (List ℕ) × X))) → option_map (λ k. says (row k.now)) o ≡ option_map (λ k. says (row k)) (option_map (λ k. k.now) o)
  option_twice None = refl
  option_twice (Some k) = refl

  -- what the first row that `find` gives says
  pub said_of_found : (rows : List (Bor (List ℕ) × X)) (o p : Option (Bor (Bor (List ℕ) × X))) → o ≡ p → option_map (λ k. k.now) o ≡ find (λ k. test k.0.now) rows →
      option_map (λ k. says (row k.now)) p ≡ first_said test says (map row rows)
  said_of_found rows o p was found = sym (ap (option_map (λ k. says (row k.now))) was) ∙ option_twice o ∙ ap (option_map (λ k. says (row k))) found ∙ said_by_find rows
