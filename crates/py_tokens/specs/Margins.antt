-- What leading space makes (language reference, "Indentation").
use Rattle.std.specs.Prelude.{ℕ, ◌+◌, ◌-◌, ◌%◌, ◌==◌, Bool, true, false, if◌then◌else◌, List, [], ◌∷◌, length}
use Rattle.std.specs.List.{list_all}
use Rattle.py_tokens.specs.declared.place.Filling.{Filling}
use Rattle.py_tokens.specs.declared.place.Filling.TheVariants as filling

-- the column past a byte of leading space: a tab goes on to the next multiple of eight
abbrev pub next_column : ℕ → ℕ → ℕ
next_column column byte = if byte == 9 then column + (8 - column % 8) else column + 1

-- the column that leading space makes, from this column on
abbrev pub column_from : ℕ → List ℕ → ℕ
column_from column [] = column
column_from column (b ∷ bs) = column_from (next_column column b) bs

-- what leading space is made of
abbrev pub filling_of : List ℕ → Filling
filling_of space =
    if length space == 0 then filling.Nothing
    else (if list_all (λ b. b == 32) space then filling.Spaces
    else (if list_all (λ b. b == 9) space then filling.Tabs else filling.Mixed))

-- whether leading space of the second kind may not stand under a first indented line of the first
abbrev pub clashes : Filling → Filling → Bool
clashes first filling.Mixed = true
clashes filling.Spaces filling.Tabs = true
clashes filling.Tabs filling.Spaces = true
clashes first second = false

-- the kind of the first indented line, after a line of the second kind
abbrev pub first_filling : Filling → Filling → Filling
first_filling filling.Nothing second = second
first_filling first second = first
