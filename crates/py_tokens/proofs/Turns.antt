-- Each turn of a scan leaves less to do, so that a scan ends.
use Rattle.std.proofs.Common.{◌≡◌, ◌≢◌, ℕ, ◌+◌, ◌*◌, ◌-◌, ◌<◌, ◌≤◌, Bool, true, false, cond, nat_lt, List, [], ◌∷◌, length, drop, refl, ap, arith, length-append, length-drop, length-take}
use Rattle.std.specs.List.{prefix_len}
use Rattle.std.proofs.lemmas.Bool.Decides.{nat_tests}
use Rattle.py_tokens.specs.declared.fault.TokenFault.{TokenFault}
use Rattle.py_tokens.specs.declared.front.Front.{Front}
use Rattle.py_tokens.specs.declared.front.Front.TheVariants as front
use Rattle.py_tokens.specs.declared.place.Margin.{Margin}
use Rattle.py_tokens.specs.declared.place.Place.{Place}
use Rattle.py_tokens.specs.declared.place.Place.TheVariants as place
use Rattle.py_tokens.specs.Bytes.{is_space_byte}
use Rattle.py_tokens.specs.Fronts.{begins_with, front_of}
use Rattle.py_tokens.specs.Scans.{Scan, top_of, popped}
use Rattle.py_tokens.specs.Turns.{Move, Turn, goes, fails, passes, margin_turn, dedent_turn, same_turn, indent_turn, deeper_turn, column_turn, begin_turn, blank_turn, newline_turn, line_end_turn, line_turn, turn_at, turn_of}
use Rattle.py_tokens.specs.Fronts.{width}
use Rattle.py_tokens.proofs.FrontLemmas.{front_some}

-- how far a place is from the tokens of a line
abbrev pub rank : Place → ℕ
rank place.Start = 3
rank (place.Margin margin) = 2
rank place.Line = 0

-- how much is left to do
abbrev pub left : Scan → List ℕ → ℕ
left scan text = 4 * length text + rank scan.place + length scan.columns

-- what a turn leaves is less than n, where it goes on; and it gives one token at most
pub data LeavesLess (n : ℕ) : Turn → Type 0 where
  leaves : {move : Move} → left move.after move.rest < n → length move.tokens ≤ 1 → LeavesLess n (goes move)
  stops : {found : TokenFault} → LeavesLess n (fails found)

-- the two ways of a test
either : (n : ℕ) (b : Bool) (x y : Turn) → (b ≡ true → LeavesLess n x) → (b ≡ false → LeavesLess n y) → LeavesLess n (cond b x y)
either n true x y first second = first refl
either n false x y first second = second refl

some_left : (text : List ℕ) → text ≢ [] → 0 < length text
some_left [] some = absurd (some refl)
some_left (b ∷ bs) some = omega arith

-- some bytes fewer
passed : (n : ℕ) (text : List ℕ) → 0 < n → text ≢ [] → length (drop n text) + 1 ≤ length text
passed n text some full = omega (arith, some_left text full, length-drop n text)

margin_less : (text : List ℕ) (scan : Scan) → scan.place ≡ place.Start → LeavesLess (left scan text) (margin_turn text scan)
margin_less text scan is =
    either _ _ _ _ (λ h. stops) (λ h. leaves (omega (arith, ap rank is, length-drop (cond (begins_with 12 text) 1 0 + prefix_len is_space_byte (drop (cond (begins_with 12 text) 1 0) text)) text)) (omega arith))

nat_lt_true : (m n : ℕ) → nat_lt m n ≡ true → m < n
nat_lt_true m n h = grind (arith, nat_tests)

popped_less : (column : ℕ) (columns : List ℕ) → nat_lt column (top_of columns) ≡ true → length (popped columns) + 1 ≤ length columns
popped_less column [] deeper = absurd (omega (arith, nat_lt_true column 0 deeper))
popped_less column (c ∷ cs) deeper = omega (arith, length-take (length (c ∷ cs) - 1) (c ∷ cs))

module _ (m : Margin) (text : List ℕ) (scan : Scan) (is : scan.place ≡ place.Margin m) where
  dedent_less : nat_lt m.column (top_of scan.columns) ≡ true → LeavesLess (left scan text) (dedent_turn m text scan)
  dedent_less deeper = leaves (omega (arith, ap rank is, popped_less m.column scan.columns deeper)) (omega arith)

  same_less : LeavesLess (left scan text) (same_turn m text scan)
  same_less = leaves (omega (arith, ap rank is)) (omega arith)

  indent_less : LeavesLess (left scan text) (indent_turn m text scan)
  indent_less = leaves (omega (arith, ap rank is, length-append scan.columns (m.column ∷ []))) (omega arith)

  deeper_less : LeavesLess (left scan text) (deeper_turn m text scan)
  deeper_less = either _ _ _ _ (λ h. stops) (λ h. indent_less)

  column_less : LeavesLess (left scan text) (column_turn m text scan)
  column_less = either _ _ _ _ dedent_less (λ h. either _ _ _ _ (λ h-2. same_less) (λ h-2. deeper_less))

  begin_less : LeavesLess (left scan text) (begin_turn m text scan)
  begin_less = either _ _ _ _ (λ h. stops) (λ h. column_less)

blank_less : (m : Margin) (what : Front) (text : List ℕ) (scan : Scan) → scan.place ≡ place.Margin m → text ≢ [] → 0 < width what → LeavesLess (left scan text) (blank_turn m what text scan)
blank_less m (front.Separator n) text scan is full some = leaves (omega (arith, ap rank is, passed n text some full)) (omega arith)
blank_less m (front.LineEnd n) text scan is full some = leaves (omega (arith, ap rank is, passed n text some full)) (omega arith)
blank_less m (front.Name n) text scan is full some = begin_less m text scan is
blank_less m (front.Token k n) text scan is full some = begin_less m text scan is
blank_less m (front.Flawed what from n) text scan is full some = begin_less m text scan is

newline_less : (n : ℕ) (text : List ℕ) (scan : Scan) → text ≢ [] → 0 < n → LeavesLess (left scan text) (newline_turn n text scan)
newline_less n text scan full some = leaves (omega (arith, passed n text some full)) (omega arith)

passes_less : (n : ℕ) (text : List ℕ) (scan : Scan) → text ≢ [] → 0 < n → LeavesLess (left scan text) (passes [] n place.Line text scan)
passes_less n text scan full some = leaves (omega (arith, passed n text some full)) (omega arith)

line_end_less : (n : ℕ) (text : List ℕ) (scan : Scan) → text ≢ [] → 0 < n → LeavesLess (left scan text) (line_end_turn n text scan)
line_end_less n text scan full some = either _ _ _ _ (λ h. newline_less n text scan full some) (λ h. passes_less n text scan full some)

line_less : (what : Front) (text : List ℕ) (scan : Scan) → text ≢ [] → 0 < width what → LeavesLess (left scan text) (line_turn what text scan)
line_less (front.Separator n) text scan full some = leaves (omega (arith, passed n text some full)) (omega arith)
line_less (front.LineEnd n) text scan full some = line_end_less n text scan full some
line_less (front.Name n) text scan full some = leaves (omega (arith, passed n text some full)) (omega arith)
line_less (front.Token k n) text scan full some = leaves (omega (arith, passed n text some full)) (omega arith)
line_less (front.Flawed what from n) text scan full some = stops

place_less : (where_ : Place) (text : List ℕ) (scan : Scan) → scan.place ≡ where_ → text ≢ [] → LeavesLess (left scan text) (turn_at where_ text scan)
place_less place.Start text scan is full = margin_less text scan is
place_less (place.Margin m) text scan is full = blank_less m (front_of text) text scan is full (front_some text)
place_less place.Line text scan is full = line_less (front_of text) text scan full (front_some text)

-- a turn leaves less to do
pub turn_less : (text : List ℕ) (scan : Scan) → text ≢ [] → LeavesLess (left scan text) (turn_of text scan)
turn_less text scan full = place_less scan.place text scan refl full
