-- The keywords of Python (language reference, "Keywords").
use Rattle.std.specs.Prelude.{ℕ, List, map, Option}
use Rattle.std.specs.Str.{bytes_eq}
use Rattle.py_tokens.specs.declared.token.Keyword.{Keyword}
use Rattle.py_tokens.specs.declared.word.TheConstants.{KEYWORD_ROWS}
use Rattle.py_tokens.specs.Rows.{first_said}

-- each keyword and how it is spelled
abbrev pub keyword_rows : List (List ℕ × Keyword)
keyword_rows = map (λ row. (row.0.now, row.1)) KEYWORD_ROWS

-- the keyword that a word is
abbrev pub keyword_of : List ℕ → Option Keyword
keyword_of word = first_said (bytes_eq word) (λ row. row.1) keyword_rows
