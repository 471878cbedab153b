-- What a literal's content begins with: what the code computes, which is proved to lead to the literal's end.
use Rattle.std.specs.Prelude.{ℕ, ◌+◌, false, not, ◌&&◌, ◌==◌, if◌then◌else◌, List, [], ◌∷◌, length}
use Rattle.py_tokens.specs.declared.literal.Prefix.{Prefix}
use Rattle.py_tokens.specs.declared.literal.Piece.{Piece}
use Rattle.py_tokens.specs.declared.literal.Piece.TheVariants as piece
use Rattle.py_tokens.specs.Literals.{is_line_end, begins, is_foreign, pair_len}

-- what a pair is, of which these bytes stand after the backslash
abbrev pub pair_of : List ℕ → Prefix → Piece
pair_of [] prefix = piece.Passed 1 false
pair_of (b ∷ bs) prefix =
    if is_line_end b then piece.Passed (1 + pair_len (b ∷ bs)) (not prefix.raw)
    else (if is_foreign prefix b then piece.Bad 1 else piece.Passed 2 false)

-- what a literal's content begins with
abbrev pub piece_of : List ℕ → List ℕ → Prefix → Piece
piece_of [] close prefix = piece.End
piece_of (b ∷ bs) close prefix =
    if begins close (b ∷ bs) then piece.Close
    else (if b == 92 then pair_of bs prefix
    else (if length close == 1 && is_line_end b then piece.End
    else (if is_foreign prefix b then piece.Bad 0 else piece.Passed 1 false)))
