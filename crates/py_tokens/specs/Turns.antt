-- What a scan does next: it goes on, or it meets a fault.
use Rattle.std.specs.Prelude.{ℕ, ◌+◌, ◌==◌, true, false, not, nat_lt, if◌then◌else◌, List, [], ◌∷◌, ◌++◌, take, drop, length}
use Rattle.std.specs.List.{prefix_len}
use Rattle.place_ids.specs.Names.{number_in}
use Rattle.place_ids.specs.declared.Span.{Span}
use Rattle.py_tokens.specs.declared.token.Token.{Token}
use Rattle.py_tokens.specs.declared.token.TokenKind.{TokenKind}
use Rattle.py_tokens.specs.declared.token.TokenKind.TheVariants as kind
use Rattle.py_tokens.specs.declared.token.Op.TheVariants as op
use Rattle.py_tokens.specs.declared.fault.TokenFault.{TokenFault}
use Rattle.py_tokens.specs.declared.fault.TokenFault.TheVariants as fault
use Rattle.py_tokens.specs.declared.front.Front.{Front}
use Rattle.py_tokens.specs.declared.front.Front.TheVariants as front
use Rattle.py_tokens.specs.declared.front.Flaw.{Flaw}
use Rattle.py_tokens.specs.declared.front.Flaw.TheVariants as flaw
use Rattle.py_tokens.specs.declared.place.Place.{Place}
use Rattle.py_tokens.specs.declared.place.Place.TheVariants as place
use Rattle.py_tokens.specs.declared.place.Margin.{Margin}
use Rattle.py_tokens.specs.Bytes.{is_space_byte}
use Rattle.py_tokens.specs.Margins.{column_from, filling_of, clashes, first_filling}
use Rattle.py_tokens.specs.Fronts.{begins_with, front_of}
use Rattle.py_tokens.specs.Scans.{Scan, span_at, token_of, past, at_place, naming, top_of, popped}

-- what a scan gives as it goes on: tokens, where it stands then, and the text that is left
pub record Move : Type 0 where
  pub tokens : List Token
  pub after : Scan
  pub rest : List ℕ

pub data Turn : Type 0 where
  goes : Move → Turn
  fails : TokenFault → Turn

-- the scan goes past n bytes, gives these tokens and stands then at this place
abbrev pub passes : List Token → ℕ → Place → List ℕ → Scan → Turn
passes tokens n where_ text scan = goes (record { tokens = tokens; after = at_place where_ (past n text scan); rest = drop n text })

-- the fault of a flaw
abbrev pub fault_of : Flaw → Span → TokenFault
fault_of flaw.BadCharacter span = fault.BadCharacter span
fault_of flaw.OpenString span = fault.OpenString span
fault_of flaw.BadNumber span = fault.BadNumber span
fault_of flaw.WideInt span = fault.WideInt span
fault_of flaw.NotNfkc span = fault.NotNfkc span
fault_of flaw.Prefix span = fault.Prefix span

-- Leading space ----

-- how many bytes the form feed has that is skipped at the start of a line
abbrev pub skipped_len : List ℕ → ℕ
skipped_len text = if begins_with 12 text then 1 else 0

-- A form feed at the start of a line is skipped; the rest of the leading space may have none.
abbrev pub margin_turn : List ℕ → Scan → Turn
margin_turn text scan =
    let from = skipped_len text in
    let len = prefix_len is_space_byte (drop from text) in
    let space = take len (drop from text) in
    let clear = prefix_len (λ b. not (b == 12)) space in
    if nat_lt clear len then fails (fault.BadCharacter (span_at (from + clear) 1 text scan))
    else passes [] (from + len) (place.Margin (record { span = span_at from len text scan; column = column_from 0 space; filling = filling_of space; ends_block = false })) text scan

-- the empty span at the end of another, which lies in one line
abbrev pub end_of : Span → Span
end_of span = record { start = span.end; end = span.end; line = span.line }

-- a token of no bytes at the end of leading space
abbrev pub at_margin : TokenKind → Margin → Token
at_margin k margin = record { kind = k; span = end_of margin.span }

-- the scan within a logical line, the first of which has this leading space
abbrev pub within_line : Margin → Scan → Scan
within_line margin scan = record scan { place = place.Line; filling = first_filling scan.filling margin.filling }

-- the last block ends
abbrev pub dedent_turn : Margin → List ℕ → Scan → Turn
dedent_turn margin text scan =
    goes (record { tokens = at_margin kind.Dedent margin ∷ []; after = record scan { columns = popped scan.columns; place = place.Margin (record margin { ends_block = true }) }; rest = text })

-- the line goes on with the last block
abbrev pub same_turn : Margin → List ℕ → Scan → Turn
same_turn margin text scan = goes (record { tokens = []; after = within_line margin scan; rest = text })

-- a block begins
abbrev pub indent_turn : Margin → List ℕ → Scan → Turn
indent_turn margin text scan =
    goes (record { tokens = at_margin kind.Indent margin ∷ []; after = record (within_line margin scan) { columns = scan.columns ++ (margin.column ∷ []) }; rest = text })

-- a line that is indented deeper begins a block, unless it has ended one
abbrev pub deeper_turn : Margin → List ℕ → Scan → Turn
deeper_turn margin text scan = if margin.ends_block then fails (fault.BadIndent margin.span) else indent_turn margin text scan

abbrev pub column_turn : Margin → List ℕ → Scan → Turn
column_turn margin text scan =
    if nat_lt margin.column (top_of scan.columns) then dedent_turn margin text scan
    else (if margin.column == top_of scan.columns then same_turn margin text scan else deeper_turn margin text scan)

-- A logical line begins.
abbrev pub begin_turn : Margin → List ℕ → Scan → Turn
begin_turn margin text scan = if clashes scan.filling margin.filling then fails (fault.MixedTabs margin.span) else column_turn margin text scan

-- Tokens ----

-- the openers that aren't closed after a token: a closer of any kind takes away the last one
abbrev pub openers_after : TokenKind → Span → List Span → List Span
openers_after (kind.Op op.LeftParen) span openers = openers ++ (span ∷ [])
openers_after (kind.Op op.LeftSquare) span openers = openers ++ (span ∷ [])
openers_after (kind.Op op.LeftBrace) span openers = openers ++ (span ∷ [])
openers_after (kind.Op op.RightParen) span openers = popped openers
openers_after (kind.Op op.RightSquare) span openers = popped openers
openers_after (kind.Op op.RightBrace) span openers = popped openers
openers_after k span openers = openers

-- a token of n bytes
abbrev pub token_turn : TokenKind → ℕ → List ℕ → Scan → Turn
token_turn k n text scan =
    passes (token_of k n text scan ∷ []) n place.Line text (record scan { openers = openers_after k (span_at 0 n text scan) scan.openers })

-- a name of n bytes; an equal name has the same number
abbrev pub name_turn : ℕ → List ℕ → Scan → Turn
name_turn n text scan = token_turn (kind.Name (number_in scan.names (take n text))) n text (naming (take n text) scan)

-- the NEWLINE of a logical line
abbrev pub newline_turn : ℕ → List ℕ → Scan → Turn
newline_turn n text scan = passes (token_of kind.Newline n text scan ∷ []) n place.Start text scan

-- A line end within brackets separates; else it is the NEWLINE of a logical line.
abbrev pub line_end_turn : ℕ → List ℕ → Scan → Turn
line_end_turn n text scan = if length scan.openers == 0 then newline_turn n text scan else passes [] n place.Line text scan

abbrev pub flawed_turn : Flaw → ℕ → ℕ → List ℕ → Scan → Turn
flawed_turn what from n text scan = fails (fault_of what (span_at from n text scan))

-- within a logical line
abbrev pub line_turn : Front → List ℕ → Scan → Turn
line_turn (front.Separator n) text scan = passes [] n place.Line text scan
line_turn (front.LineEnd n) text scan = line_end_turn n text scan
line_turn (front.Name n) text scan = name_turn n text scan
line_turn (front.Token k n) text scan = token_turn k n text scan
line_turn (front.Flawed what from n) text scan = flawed_turn what from n text scan

-- before the first token of a logical line; a line that has none is blank
abbrev pub blank_turn : Margin → Front → List ℕ → Scan → Turn
blank_turn margin (front.Separator n) text scan = passes [] n (place.Margin margin) text scan
blank_turn margin (front.LineEnd n) text scan = passes [] n place.Start text scan
blank_turn margin other text scan = begin_turn margin text scan

abbrev pub turn_at : Place → List ℕ → Scan → Turn
turn_at place.Start text scan = margin_turn text scan
turn_at (place.Margin margin) text scan = blank_turn margin (front_of text) text scan
turn_at place.Line text scan = line_turn (front_of text) text scan

-- what a scan does next, where some text is left
abbrev pub turn_of : List ℕ → Scan → Turn
turn_of text scan = turn_at scan.place text scan
