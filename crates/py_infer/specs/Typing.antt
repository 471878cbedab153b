-- What a statement does to the types of names.
use Rattle.std.specs.Prelude.{◌≡◌, ℕ, List, Option, None, Some, option_map, if◌then◌else◌}
use Rattle.std.specs.Cmp.Lexicographic.{slice_cmp}
use Rattle.std.specs.List.Sorted.{IsStrictlySortedBy}
use Rattle.std.specs.Option.{option_and_then}
use Rattle.std.specs.Ordering.{nat_cmp}
use Rattle.std.specs.Str.{bytes_eq}
use Rattle.py_tree.specs.Tree.{Expr, StmtKind}
use Rattle.py_infer.specs.declared.plain_type.PlainType.{PlainType}
use Rattle.py_infer.specs.Lines.{Line, meaning, type_of}
use Rattle.py_infer.specs.Modules.{expression_of, line_of}
use Rattle.py_infer.specs.Stubs.{Row, Rows, type_in, names_of}

-- the type of what an expression assigns, where names have the types of these rows
abbrev pub type_of_expr : List (List ℕ) → Rows → Expr → Option PlainType
type_of_expr names rows value = option_and_then (meaning type_of (type_in rows)) (expression_of names value)

-- the name that a line assigns, and the type that it gives it
abbrev pub row_of_line : Rows → Line → Option Row
row_of_line rows line = option_map (λ t. (line.target, t)) (meaning type_of (type_in rows) line.value)

-- the same of a statement
abbrev pub row_of : List (List ℕ) → Rows → StmtKind → Option Row
row_of names rows kind = option_and_then (row_of_line rows) (line_of names kind)

-- the rows are in the order of the names' bytes
abbrev pub IsOrdered : Rows → Type 0
IsOrdered rows = IsStrictlySortedBy (slice_cmp nat_cmp) (names_of rows)

-- the new rows are the old ones with this one in place of the name's old one, if there is one
abbrev pub IsWith : Rows → Rows → Option Row → Type 0
IsWith old new None = new ≡ old
IsWith old new (Some row) = ((n : List ℕ) → type_in new n ≡ (if bytes_eq row.0 n then Some row.1 else type_in old n)) × IsOrdered new
