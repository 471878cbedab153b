-- What a read under a limit gives.
use Rattle.std.specs.Prelude.{◌≡◌, ℕ, ◌<◌, ◌≤◌, List, length, Option, ⊤}
use Rattle.std.specs.Io.KnownBytes.{Consumes}
use Rattle.outside_io.specs.declared.shelf.Fetched.{Fetched}
use Rattle.outside_io.specs.declared.shelf.Fetched.TheVariants.{Whole, TooLong}

-- Of a text that is known: the whole of it, where it has no more bytes than the limit, and else that it is too long.
abbrev pub IsReadOf : List ℕ → ℕ → Fetched → Type 0
IsReadOf text limit (Whole bytes) = (bytes.items ≡ text) × (length text ≤ limit)
IsReadOf text limit TooLong = limit < length text

-- Of any text: what is given whole has no more bytes than the limit.
abbrev pub IsWithin : ℕ → Fetched → Type 0
IsWithin limit (Whole bytes) = length bytes.items ≤ limit
IsWithin limit TooLong = ⊤

-- A reader that tells its bytes has lost some from their front, and no more than this many.
unfoldable pub ReadsUpTo : ℕ → Option (List ℕ) → Option (List ℕ) → Type 0
ReadsUpTo most old new = (bytes : List ℕ) × Consumes old new bytes × (length bytes ≤ most)
