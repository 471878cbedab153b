-- Tables whose rows are a text and what it means.
use Rattle.std.specs.Prelude.{ℕ, Bool, if◌then◌else◌, List, [], ◌∷◌, Option, None, Some}

-- what the first row whose text passes the test says
abbrev pub first_said : {X Y : Type 0} → (List ℕ → Bool) → (List ℕ × X → Y) → List (List ℕ × X) → Option Y
first_said test says [] = None
first_said test says (row ∷ rows) = if test row.0 then Some (says row) else first_said test says rows
