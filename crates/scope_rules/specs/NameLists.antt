-- Lists of names, each once, and the texts of names.
use Rattle.std.specs.Prelude.{ℕ, Bool, true, false, nat_eq, List, [], ◌∷◌, ◌++◌, Option, Some, None, slice_get, position, if◌then◌else◌}
use Rattle.std.specs.List.{list_any}

abbrev pub has_name : List ℕ → ℕ → Bool
has_name names n = list_any (nat_eq n) names

-- A name that is not there yet goes last.
abbrev pub with_name : List ℕ → ℕ → List ℕ
with_name names n = if has_name names n then names else names ++ n ∷ []

abbrev pub with_name_if : Bool → List ℕ → ℕ → List ℕ
with_name_if true names n = with_name names n
with_name_if false names n = names

abbrev pub place_of : List ℕ → ℕ → Option ℕ
place_of names n = position (nat_eq n) names

abbrev pub text_in : Option (List ℕ) → List ℕ
text_in None = []
text_in (Some text) = text

-- the text of a name
abbrev pub text_of : List (List ℕ) → ℕ → List ℕ
text_of texts n = text_in (slice_get texts n)
