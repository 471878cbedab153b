-- Parts that are put behind what is written, one after another.
use Rattle.std.specs.Prelude.{ℕ, List, [], ◌∷◌, ◌++◌}

-- a blank line stands between a part and what is written, where neither is empty
abbrev pub with_part : List ℕ → List ℕ → List ℕ
with_part written [] = written
with_part [] part = part
with_part (b ∷ written) part = b ∷ written ++ 10 ∷ part

abbrev pub with_parts : List ℕ → List (List ℕ) → List ℕ
with_parts written [] = written
with_parts written (part ∷ parts) = with_parts (with_part written part) parts
