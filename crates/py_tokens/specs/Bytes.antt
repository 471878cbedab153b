-- Classes of bytes.
use Rattle.std.specs.Prelude.{◌≡◌, ℕ, Bool, false, not, ◌&&◌, ◌||◌, ◌==◌, List, [], ◌∷◌}
use Rattle.std.specs.Char.{is_ascii_alphanumeric}

-- A byte that a name may go on with: an ASCII letter, a digit or `_`.
abbrev pub is_name_byte : ℕ → Bool
is_name_byte b = is_ascii_alphanumeric b || b == 95

-- A byte of the white space within a line: space, tab or form feed.
abbrev pub is_space_byte : ℕ → Bool
is_space_byte b = b == 32 || b == 9 || b == 12

-- A byte that ends no line: neither a line feed nor a carriage return.
abbrev pub is_line_byte : ℕ → Bool
is_line_byte b = not (b == 10) && not (b == 13)

-- The text doesn't begin with a byte that passes the test.
abbrev pub Stops : (ℕ → Bool) → List ℕ → Type 0
Stops test [] = Unit {0}
Stops test (b ∷ bs) = test b ≡ false
