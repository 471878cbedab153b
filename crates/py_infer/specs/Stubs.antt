-- The stub of a plain module.
use Rattle.std.specs.Prelude.{◌≡◌, ℕ, List, [], map, Option, String, string_bytes}
use Rattle.std.specs.declared.alloc.Global.{Global}
use Rattle.std.specs.Cmp.Lexicographic.{slice_cmp}
use Rattle.std.specs.List.Sorted.{IsStrictlySortedBy}
use Rattle.std.specs.Map.{lookup}
use Rattle.std.specs.Ordering.{nat_cmp}
use Rattle.std.specs.Str.{bytes_eq}
use Rattle.type_terms.specs.Stubs.{Name, Stub}
use Rattle.type_terms.specs.Terms as term
use Rattle.type_terms.specs.Terms.{Term}
use Rattle.py_infer.specs.declared.plain_type.PlainType.{PlainType}
use Rattle.py_infer.specs.declared.plain_type.PlainType.TheVariants as type
use Rattle.py_infer.specs.Lines.{Line, types_after}

-- a name, and its type
abbrev pub Row : Type 0
Row = List ℕ × PlainType

abbrev pub Rows : Type 0
Rows = List Row

-- the rows of a map
abbrev pub rows_of : List (String Global × PlainType) → Rows
rows_of entries = map (λ e. (string_bytes e.0, e.1)) entries

-- the type of a name in the rows
abbrev pub type_in : Rows → List ℕ → Option PlainType
type_in rows n = lookup (bytes_eq n) rows

-- the names of the rows, in their order
abbrev pub names_of : Rows → List (List ℕ)
names_of rows = map (λ (r : Row). r.0) rows

-- The rows of the stub: each name that the lines assign, with its type after them, in the order of the names' bytes.
pub record AreRowsOf (lines : List Line) (rows : Rows) : Type 0 where
  pub ordered : IsStrictlySortedBy (slice_cmp nat_cmp) (names_of rows)
  pub exact : (n : List ℕ) → type_in rows n ≡ types_after lines n

-- the type's term
abbrev pub term_of : PlainType → Term
term_of type.NoneType = term.none
term_of type.Bool = term.bool
term_of type.Int = term.int
term_of type.Float = term.float
term_of type.Str = term.str
term_of type.Bytes = term.bytes

-- a name with its type, as a stub declares it
abbrev pub name_of : Row → Name
name_of row = record { name = row.0; term = term_of row.1 }

-- the stub of the rows: it declares the names and nothing else
abbrev pub stub_of : Rows → Stub
stub_of rows = record { names = map name_of rows; funs = []; classes = [] }
