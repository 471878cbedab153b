-- The operators and delimiters (language reference, "Operators", "Delimiters").
use Rattle.std.specs.Prelude.{ℕ, nat_eq, List, length, map, Option}
use Rattle.std.specs.List.{starts_with}
use Rattle.py_tokens.specs.declared.operator.FoundOp.{FoundOp}
use Rattle.py_tokens.specs.declared.operator.TheConstants.{OPERATOR_ROWS}
use Rattle.py_tokens.specs.declared.token.Op.{Op}
use Rattle.py_tokens.specs.Rows.{first_said}

-- each operator and how it is spelled, no longer one after a shorter
abbrev pub operator_rows : List (List ℕ × Op)
operator_rows = map (λ row. (row.0.now, row.1)) OPERATOR_ROWS

-- the operator of a row, with its length
abbrev pub row_operator : List ℕ × Op → FoundOp
row_operator row = record { op = row.1; len = length row.0 }

-- the longest operator that a text begins with
abbrev pub operator_of : List ℕ → Option FoundOp
operator_of text = first_said (starts_with nat_eq text) row_operator operator_rows
