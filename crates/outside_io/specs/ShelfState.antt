-- What is seen of a shelf in memory, and which of its fetches fail.
use Rattle.std.specs.Prelude.{ℕ, ◌⊎◌, List, map, Option, Contains, IsNone, String, string_bytes, Vec}
use Rattle.std.specs.declared.alloc.Global.{Global}
use Rattle.std.specs.Map.{lookup}
use Rattle.std.specs.Str.{bytes_eq}
use Rattle.outside_io.specs.Counts.{next_count}
use Rattle.outside_io.specs.Outside.{Files}

-- A shelf in memory: the names with their texts, the numbers of the fetches that fail, how many fetches there were,
-- how many failed, and the name of the last that failed.
pub record ShelfState : Type 0 where
  pub files : List (List ℕ × List ℕ)
  pub failing : List ℕ
  pub fetches : ℕ
  pub faults : ℕ
  pub last : Option (List ℕ)

-- The names and texts of a map, as lists of bytes.
abbrev pub shown : List (String Global × Vec ℕ Global) → List (List ℕ × List ℕ)
shown entries = map (λ e. (string_bytes e.0, e.1.items)) entries

-- The text that stands under a name, where one does.
abbrev pub text_of : List (List ℕ × List ℕ) → Files
text_of files name = lookup (bytes_eq name) files

-- The next fetch fails at this name: its number is listed, or no text stands under the name.
abbrev pub FetchFails : ShelfState → List ℕ → Type 0
FetchFails shelf name = (Contains shelf.failing (next_count shelf.fetches)) ⊎ (IsNone (text_of shelf.files name))
