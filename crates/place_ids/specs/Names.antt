-- What a table of names says of a text, where the names are the list of their bytes.
use Rattle.std.specs.Prelude.{ℕ, Bool, List, [], ◌∷◌, ◌++◌, if◌then◌else◌}
use Rattle.std.specs.List.{list_any, position_or_len}
use Rattle.std.specs.Str.{bytes_eq}

-- whether a text is among the names
abbrev pub has_name : List (List ℕ) → List ℕ → Bool
has_name names text = list_any (bytes_eq text) names

-- the names after a text is interned: a new text stands at the end
abbrev pub with_name : List (List ℕ) → List ℕ → List (List ℕ)
with_name names text = if has_name names text then names else names ++ text ∷ []

-- the number of a text: its place among the names, or the next one where it is new
abbrev pub number_in : List (List ℕ) → List ℕ → ℕ
number_in names text = position_or_len (bytes_eq text) names
