-- What is said of the outside: what a shelf holds, what a sink has taken, and when a count of faults rose.
use Rattle.std.specs.Prelude.{◌≡◌, ℕ, ◌-◌, ◌^◌, ◌<◌, ◌≤◌, ◌⊎◌, List, ◌++◌, length, Option, IsSomeAnd, Some}
use Rattle.std.specs.Option.{option_map}
use Rattle.outside_io.specs.declared.shelf.Fetched.{Fetched}
use Rattle.outside_io.specs.declared.shelf.Fetched.TheVariants.{Whole, TooLong}

-- The files that are held: the bytes under each name, where there are any.
abbrev pub Files : Type 0
Files = List ℕ → Option (List ℕ)

-- the last value of a count of faults, where it stays
abbrev pub last_count : ℕ
last_count = 2 ^ 64 - 1

-- The count rose in a call: it is greater than at the call's beginning, or stands at its last value.
abbrev pub Rose : ℕ → ℕ → Type 0
Rose before after = (before < after) ⊎ (after ≡ last_count)

-- What a fetch gives that doesn't fail: the text that is held under the name, where it has no more bytes than the limit.
abbrev pub Gives : Files → List ℕ → ℕ → Fetched → Type 0
Gives files name limit (Whole text) = (files name ≡ Some text.items) × (length text.items ≤ limit)
Gives files name limit TooLong = IsSomeAnd (files name) (λ text. limit < length text)

-- What a sink had taken, with these bytes after it. Where it doesn't tell what it took, it goes on not telling.
abbrev pub Takes : Option (List ℕ) → Option (List ℕ) → List ℕ → Type 0
Takes old new bytes = new ≡ option_map (λ taken. taken ++ bytes) old
