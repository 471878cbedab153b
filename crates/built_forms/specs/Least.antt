-- The least of some lines.
use Rattle.std.specs.Prelude.{ℕ, nat_lt, List, [], ◌∷◌, Option, Some, None, if◌then◌else◌}

-- the lesser of a line and the least one so far
abbrev pub lesser : Option ℕ → ℕ → ℕ
lesser None line = line
lesser (Some least) line = if nat_lt line least then line else least

abbrev pub least_from : Option ℕ → List ℕ → Option ℕ
least_from least [] = least
least_from least (line ∷ lines) = least_from (Some (lesser least line)) lines

-- the least, if there is one
abbrev pub least : List ℕ → Option ℕ
least lines = least_from None lines
