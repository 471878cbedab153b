-- What lies between two tokens.
use Rattle.std.proofs.Common.{◌≡◌, ℕ, zero, suc, ◌+◌, ◌<◌, ◌≤◌, inl, inr, Bool, true, false, cond, ◌==◌, nat_lt, List, [], ◌∷◌, ◌++◌, length, take, drop, replicate, refl, sym, ap, ◌∙◌, subst, arith, append_assoc, length-append, length-drop, length-take}
use Rattle.std.specs.List.{list_all, prefix_len}
use Rattle.std.proofs.lemmas.Bool.Decides.{nat_tests}
use Rattle.std.proofs.lemmas.List.{append-nil, take-append-drop}
use Rattle.std.proofs.lemmas.List.Sums.{prefix_len-le-length}
use Rattle.py_tokens.proofs.AsciiFronts.{front_within}
use Rattle.py_tokens.proofs.Cuts.{join_ascii, line_end_ascii_len}
use Rattle.py_tokens.proofs.FrontLemmas.{Stands, a_separator, a_line_end, name_stands, token_stands, flaw_stands, stands}
use Rattle.py_tokens.proofs.Classes.{both_true}
use Rattle.py_tokens.proofs.RunLemmas.{run_each}
use Rattle.py_tokens.specs.declared.token.Token.{Token}
use Rattle.py_tokens.specs.declared.token.TokenKind.{TokenKind}
use Rattle.py_tokens.specs.declared.token.TokenKind.TheVariants as kind
use Rattle.py_tokens.specs.declared.fault.TokenFault.{TokenFault}
use Rattle.py_tokens.specs.declared.front.Front.{Front}
use Rattle.py_tokens.specs.declared.place.Margin.{Margin}
use Rattle.py_tokens.specs.declared.place.Place.{Place}
use Rattle.py_tokens.specs.declared.place.Place.TheVariants as place
use Rattle.py_tokens.specs.Bytes.{is_space_byte, is_line_byte}
use Rattle.py_tokens.specs.Fronts.{begins_with, line_end_len, joined_len, join_len, separator_len, front_of}
use Rattle.py_tokens.specs.Scans.{Scan, mark_len, token_of, top_of}
use Rattle.py_tokens.specs.Turns.{Move, Turn, goes, fails, passes, newline_turn, line_end_turn, token_turn, name_turn, line_turn, blank_turn, begin_turn, column_turn, deeper_turn, indent_turn, same_turn, dedent_turn, margin_turn, skipped_len, turn_at}
use Rattle.py_tokens.specs.Readings.{last_newline, last_tokens, Reads, reads_end, reads_step, HasTokens}
use Rattle.py_tokens.specs.Separators.{IsLineEnd, IsGap, no_gap, space, comment, join, line_end, AreLaid, laid_end, laid_token}

-- two gaps make one
gap_append : {xs ys : List ℕ} → IsGap xs → IsGap ys → IsGap (xs ++ ys)
gap_append no_gap gap = gap
gap_append {ys = ys} (space {rest = rest} front is all more) gap = space front (ap (λ t. t ++ ys) is ∙ append_assoc front rest ys) all (gap_append more gap)
gap_append {ys = ys} (comment {rest = rest} front is all more) gap = comment front (ap (λ t. t ++ ys) is ∙ ap (λ t. 35 ∷ t) (append_assoc front rest ys)) all (gap_append more gap)
gap_append {ys = ys} (join {rest = rest} front is all more) gap = join front (ap (λ t. t ++ ys) is ∙ ap (λ t. 92 ∷ t) (append_assoc front rest ys)) all (gap_append more gap)
gap_append {ys = ys} (line_end {rest = rest} front is all more) gap = line_end front (ap (λ t. t ++ ys) is ∙ append_assoc front rest ys) all (gap_append more gap)

-- a gap before tokens that are laid
laid_after : (offset : ℕ) (gap text : List ℕ) (tokens : List Token) → IsGap gap → AreLaid (offset + length gap) text tokens → AreLaid offset (gap ++ text) tokens
laid_after offset gap text tokens is (laid_end rest) = laid_end (gap_append is rest)
laid_after offset gap text tokens is (laid_token {gap = inner} len rest whole between start end more) =
    laid_token len rest (ap (λ t. gap ++ t) whole ∙ sym (append_assoc gap inner rest)) (gap_append is between) (omega (arith, start, length-append gap inner)) end more

space_gap : (text : List ℕ) → IsGap (take (prefix_len is_space_byte text) text)
space_gap text = space (take (prefix_len is_space_byte text) text) (sym (append-nil _)) (run_each is_space_byte text) no_gap

after_return : (b : ℕ) (bs : List ℕ) (t : Bool) → b ≡ 13 → begins_with 10 bs ≡ t → IsLineEnd (take (cond t 2 1) (b ∷ bs))
after_return b bs false is other = inr (inl (ap (λ c. c ∷ []) is))
after_return b [] true is feed = absurd (cc)
after_return b (c ∷ cs) true is feed = let same : c ≡ 10 = grind (arith, nat_tests) in inr (inr (ap (λ d. d ∷ c ∷ []) is ∙ ap (λ d. 13 ∷ d ∷ []) same))

at_return : (b : ℕ) (bs : List ℕ) (t : Bool) → (b == 13) ≡ t → 0 < cond t (cond (begins_with 10 bs) 2 1) 0 → IsLineEnd (take (cond t (cond (begins_with 10 bs) 2 1) 0) (b ∷ bs))
at_return b bs true is some = after_return b bs (begins_with 10 bs) (grind (arith, nat_tests)) refl
at_return b bs false is some = absurd (omega (arith, some))

at_feed : (b : ℕ) (bs : List ℕ) (t : Bool) → (b == 10) ≡ t → 0 < cond t 1 (cond (b == 13) (cond (begins_with 10 bs) 2 1) 0) →
    IsLineEnd (take (cond t 1 (cond (b == 13) (cond (begins_with 10 bs) 2 1) 0)) (b ∷ bs))
at_feed b bs true is some = let same : b ≡ 10 = grind (arith, nat_tests) in inl (ap (λ c. c ∷ []) same)
at_feed b bs false is some = at_return b bs (b == 13) refl some

line_end_is : (text : List ℕ) → 0 < line_end_len text → IsLineEnd (take (line_end_len text) text)
line_end_is [] some = absurd (omega (arith, some))
line_end_is (b ∷ bs) some = at_feed b bs (b == 10) refl some

line_end_gap : (text : List ℕ) → 0 < line_end_len text → IsGap (take (line_end_len text) text)
line_end_gap text some = line_end (take (line_end_len text) text) (sym (append-nil _)) (line_end_is text some) no_gap

take_one : (b n : ℕ) (bs : List ℕ) → take (1 + n) (b ∷ bs) ≡ b ∷ take n bs
take_one b n bs = ap (λ m. take m (b ∷ bs)) (one n)
  where
    one : (k : ℕ) → 1 + k ≡ suc k
    one k = omega arith

joined_gap : (b : ℕ) (bs : List ℕ) (t : Bool) → b ≡ 92 → (line_end_len bs == 0) ≡ t → 0 < cond t 0 (1 + line_end_len bs) → IsGap (take (cond t 0 (1 + line_end_len bs)) (b ∷ bs))
joined_gap b bs true is none some = absurd (omega (arith, some))
joined_gap b bs false is none some =
    let more : 0 < line_end_len bs = grind (arith, nat_tests) in
    subst IsGap (sym (take_one b (line_end_len bs) bs)) (join (take (line_end_len bs) bs) (ap (λ c. c ∷ take (line_end_len bs) bs) is ∙ ap (λ ts. 92 ∷ ts) (sym (append-nil _))) (line_end_is bs more) no_gap)

comment_gap : (b : ℕ) (bs : List ℕ) → b ≡ 35 → IsGap (take (prefix_len is_line_byte (b ∷ bs)) (b ∷ bs))
comment_gap b bs is =
    let goes_on : is_line_byte b ≡ true = ap is_line_byte is in
    subst (λ t. IsGap (take (cond t (1 + prefix_len is_line_byte bs) 0) (b ∷ bs))) (sym goes_on)
    (subst IsGap (sym (take_one b (prefix_len is_line_byte bs) bs)) (comment (take (prefix_len is_line_byte bs) bs) (ap (λ c. c ∷ take (prefix_len is_line_byte bs) bs) is ∙ ap (λ ts. 35 ∷ ts) (sym (append-nil _))) (run_each is_line_byte bs) no_gap))

separator_by : (b : ℕ) (bs : List ℕ) (t u : Bool) → (b == 35) ≡ t → (b == 92) ≡ u → 0 < cond t (prefix_len is_line_byte (b ∷ bs)) (cond u (join_len (b ∷ bs)) (prefix_len is_space_byte (b ∷ bs))) →
    IsGap (take (cond t (prefix_len is_line_byte (b ∷ bs)) (cond u (join_len (b ∷ bs)) (prefix_len is_space_byte (b ∷ bs)))) (b ∷ bs))
separator_by b bs true u is other some = comment_gap b bs (grind (arith, nat_tests))
separator_by b bs false true is other some = by_join (b == 92) refl some
  where
    by_join : (v : Bool) → (b == 92) ≡ v → 0 < cond v (joined_len bs) 0 → IsGap (take (cond v (joined_len bs) 0) (b ∷ bs))
    by_join true same more = joined_gap b bs (line_end_len bs == 0) (grind (arith, nat_tests)) refl more
    by_join false same more = absurd (omega (arith, more))
separator_by b bs false false is other some = space_gap (b ∷ bs)

separator_gap : (text : List ℕ) → 0 < separator_len text → IsGap (take (separator_len text) text)
separator_gap [] some = absurd (omega (arith, some))
separator_gap (b ∷ bs) some = separator_by b bs (b == 35) (b == 92) refl refl some

separator_within : (text : List ℕ) → separator_len text ≤ length text
separator_within text = by_tests (begins_with 35 text) (begins_with 92 text)
  where
    by_tests : (t u : Bool) → cond t (prefix_len is_line_byte text) (cond u (join_len text) (prefix_len is_space_byte text)) ≤ length text
    by_tests true u = prefix_len-le-length is_line_byte text
    by_tests false true = front_within (join_len text) text (join_ascii text)
    by_tests false false = prefix_len-le-length is_space_byte text

line_end_within : (text : List ℕ) → line_end_len text ≤ length text
line_end_within text = front_within (line_end_len text) text (line_end_ascii_len text)

-- The tokens of a text that is left are laid in it. Before the first token of a logical line they are laid from the end of
-- its leading space on.
abbrev LaidAt : Place → Scan → List ℕ → List Token → Type 0
LaidAt place.Start scan text tokens = AreLaid scan.offset text tokens
LaidAt (place.Margin m) scan text tokens = (gap : List ℕ) → IsGap gap → m.span.end + length gap ≡ scan.offset → AreLaid m.span.end (gap ++ text) tokens
LaidAt place.Line scan text tokens = AreLaid scan.offset text tokens

-- where the tokens after a turn are laid, those before it are
data Keeps (where_ : Place) (scan : Scan) (text : List ℕ) : Turn → Type 0 where
  keeps : {move : Move} → ((more : List Token) → LaidAt move.after.place move.after move.rest more → LaidAt where_ scan text (move.tokens ++ more)) → Keeps where_ scan text (goes move)
  stops : {found : TokenFault} → Keeps where_ scan text (fails found)

either : (p : Place) (scan : Scan) (text : List ℕ) (b : Bool) (x y : Turn) → (b ≡ true → Keeps p scan text x) → (b ≡ false → Keeps p scan text y) → Keeps p scan text (cond b x y)
either p scan text true x y first second = first refl
either p scan text false x y first second = second refl

-- past a gap of n bytes
past_gap : (offset n : ℕ) (text : List ℕ) (tokens : List Token) → n ≤ length text → IsGap (take n text) → AreLaid (offset + n) (drop n text) tokens → AreLaid offset text tokens
past_gap offset n text tokens within gap laid =
    let long : length (take n text) ≡ n = omega (arith, length-take n text, within) in
    subst (λ t. AreLaid offset t tokens) (take-append-drop n text)
    (laid_after offset (take n text) (drop n text) tokens gap (subst (λ k. AreLaid (offset + k) (drop n text) tokens) (sym long) laid))

-- past a token of n bytes that stands here
past_token : (offset n : ℕ) (text : List ℕ) (k : TokenKind) (line : ℕ) (tokens : List Token) → AreLaid (offset + n) (drop n text) tokens →
    AreLaid offset text (record { kind = k; span = record { start = offset + 0; end = offset + 0 + n; line = line } } ∷ tokens)
past_token offset n text k line tokens laid =
    laid_token n text refl no_gap refl refl (subst (λ e. AreLaid e (drop n text) tokens) (none offset n) laid)
  where
    none : (a b : ℕ) → a + b ≡ a + 0 + b
    none a b = omega arith

-- a token of no bytes that stands here
at_once : (offset : ℕ) (text : List ℕ) (k : TokenKind) (line : ℕ) (tokens : List Token) → AreLaid offset text tokens →
    AreLaid offset text (record { kind = k; span = record { start = offset; end = offset; line = line } } ∷ tokens)
at_once offset text k line tokens laid = laid_token 0 text refl no_gap (none offset) (none offset) laid
  where
    none : (a : ℕ) → a ≡ a + 0
    none a = omega arith

sums : (a b c : ℕ) → a + b + c ≡ a + (b + c)
sums a b c = omega arith

by_feed : (text : List ℕ) (t : Bool) → begins_with 12 text ≡ t → IsGap (take (cond t 1 0 + prefix_len is_space_byte (drop (cond t 1 0) text)) text)
by_feed text false h = subst (λ n. IsGap (take n text)) (zero_plus (prefix_len is_space_byte text)) (space_gap text)
  where
    zero_plus : (n : ℕ) → n ≡ 0 + n
    zero_plus n = omega arith
by_feed [] true h = absurd (cc)
by_feed (b ∷ bs) true h =
    let n = prefix_len is_space_byte bs in
    let feed : b ≡ 12 = grind (arith, nat_tests) in
    subst IsGap (sym (take_one b n bs))
    (space (b ∷ take n bs) (sym (append-nil _)) (both_true (is_space_byte b) (list_all is_space_byte (take n bs)) (ap is_space_byte feed) (run_each is_space_byte bs)) no_gap)

margin_gap : (text : List ℕ) → IsGap (take (skipped_len text + prefix_len is_space_byte (drop (skipped_len text) text)) text)
margin_gap text = by_feed text (begins_with 12 text) refl

skipped_within : (text : List ℕ) (t : Bool) → begins_with 12 text ≡ t → cond t 1 0 ≤ length text
skipped_within text false h = omega arith
skipped_within [] true h = absurd (cc)
skipped_within (b ∷ bs) true h = omega arith

margin_within : (text : List ℕ) → skipped_len text + prefix_len is_space_byte (drop (skipped_len text) text) ≤ length text
margin_within text =
    omega (arith, skipped_within text (begins_with 12 text) refl, prefix_len-le-length is_space_byte (drop (skipped_len text) text), length-drop (skipped_len text) text)

module _ (text : List ℕ) (scan : Scan) where
  skip_keeps : (n : ℕ) → n ≤ length text → IsGap (take n text) → Keeps place.Line scan text (passes [] n place.Line text scan)
  skip_keeps n within gap = keeps (λ more laid. past_gap scan.offset n text more within gap laid)

  newline_keeps : (n : ℕ) → Keeps place.Line scan text (newline_turn n text scan)
  newline_keeps n = keeps (λ more laid. past_token scan.offset n text kind.Newline _ more laid)

  line_end_keeps : (n : ℕ) → n ≤ length text → IsGap (take n text) → Keeps place.Line scan text (line_end_turn n text scan)
  line_end_keeps n within gap = either _ _ _ _ _ _ (λ h. newline_keeps n) (λ h. skip_keeps n within gap)

  token_keeps : (k : TokenKind) (n : ℕ) → Keeps place.Line scan text (token_turn k n text scan)
  token_keeps k n = keeps (λ more laid. past_token scan.offset n text k _ more laid)

  name_keeps : (n : ℕ) → Keeps place.Line scan text (name_turn n text scan)
  name_keeps n = keeps (λ more laid. past_token scan.offset n text _ _ more laid)

  line_keeps : (f : Front) → Stands text f → Keeps place.Line scan text (line_turn f text scan)
  line_keeps f (a_separator some) = skip_keeps (separator_len text) (separator_within text) (separator_gap text some)
  line_keeps f (a_line_end some) = line_end_keeps (line_end_len text) (line_end_within text) (line_end_gap text some)
  line_keeps f (name_stands {n = n} some) = name_keeps n
  line_keeps f (token_stands {k = k} {n = n} some) = token_keeps k n
  line_keeps f flaw_stands = stops

  -- the leading space of a line
  margin_keeps : Keeps place.Start scan text (margin_turn text scan)
  margin_keeps =
      let from = skipped_len text in
      let len = prefix_len is_space_byte (drop from text) in
      either _ _ _ _ _ _ (λ h. stops) (λ h. keeps (λ more laid.
      let there = laid [] no_gap (omega arith) in
      past_gap scan.offset (from + len) text more (margin_within text) (margin_gap text) (subst (λ o. AreLaid o (drop (from + len) text) more) (sums scan.offset from len) there)))

module _ (m : Margin) (text : List ℕ) (scan : Scan) where
  dedent_keeps : Keeps (place.Margin m) scan text (dedent_turn m text scan)
  dedent_keeps = keeps (λ more laid gap is ends. at_once m.span.end (gap ++ text) kind.Dedent m.span.line more (laid gap is ends))

  same_keeps : Keeps (place.Margin m) scan text (same_turn m text scan)
  same_keeps = keeps (λ more laid gap is ends. laid_after m.span.end gap text more is (subst (λ o. AreLaid o text more) (sym ends) laid))

  indent_keeps : Keeps (place.Margin m) scan text (indent_turn m text scan)
  indent_keeps = keeps (λ more laid gap is ends.
      at_once m.span.end (gap ++ text) kind.Indent m.span.line more (laid_after m.span.end gap text more is (subst (λ o. AreLaid o text more) (sym ends) laid)))

  deeper_keeps : Keeps (place.Margin m) scan text (deeper_turn m text scan)
  deeper_keeps = either _ _ _ _ _ _ (λ h. stops) (λ h. indent_keeps)

  column_keeps : Keeps (place.Margin m) scan text (column_turn m text scan)
  column_keeps =
      let same = m.column == top_of scan.columns in
      either _ _ _ (nat_lt m.column (top_of scan.columns)) (dedent_turn m text scan) (cond same (same_turn m text scan) (deeper_turn m text scan)) (λ h. dedent_keeps)
      (λ h. either _ _ _ same (same_turn m text scan) (deeper_turn m text scan) (λ h-2. same_keeps) (λ h-2. deeper_keeps))

  begin_keeps : Keeps (place.Margin m) scan text (begin_turn m text scan)
  begin_keeps = either _ _ _ _ _ _ (λ h. stops) (λ h. column_keeps)

  further : (n : ℕ) (more : List Token) (gap : List ℕ) → n ≤ length text → IsGap (take n text) → IsGap gap → m.span.end + length gap ≡ scan.offset →
      ((g : List ℕ) → IsGap g → m.span.end + length g ≡ scan.offset + n → AreLaid m.span.end (g ++ drop n text) more) → AreLaid m.span.end (gap ++ text) more
  further n more gap within next is ends laid =
      subst (λ t. AreLaid m.span.end t more) (append_assoc gap (take n text) (drop n text) ∙ ap (λ t. gap ++ t) (take-append-drop n text))
      (laid (gap ++ take n text) (gap_append is next) (omega (arith, ends, length-append gap (take n text), length-take n text, within)))

  blank_keeps : (f : Front) → Stands text f → Keeps (place.Margin m) scan text (blank_turn m f text scan)
  blank_keeps f (a_separator some) = keeps (λ more laid gap is ends. further (separator_len text) more gap (separator_within text) (separator_gap text some) is ends laid)
  blank_keeps f (a_line_end some) = keeps (λ more laid gap is ends.
      laid_after m.span.end gap text more is (subst (λ o. AreLaid o text more) (sym ends) (past_gap scan.offset (line_end_len text) text more (line_end_within text) (line_end_gap text some) laid)))
  blank_keeps f (name_stands some) = begin_keeps
  blank_keeps f (token_stands some) = begin_keeps
  blank_keeps f flaw_stands = begin_keeps

place_keeps : (where_ : Place) (text : List ℕ) (scan : Scan) → Keeps where_ scan text (turn_at where_ text scan)
place_keeps place.Start text scan = margin_keeps text scan
place_keeps (place.Margin m) text scan = blank_keeps m text scan (front_of text) (stands text)
place_keeps place.Line text scan = line_keeps text scan (front_of text) (stands text)

laid_move : (scan : Scan) (text : List ℕ) (move : Move) (more : List Token) → Keeps scan.place scan text (goes move) → LaidAt move.after.place move.after move.rest more → LaidAt scan.place scan text (move.tokens ++ more)
laid_move scan text move more (keeps h) laid = h more laid

-- the tokens at the end stand there at once
end_at_once : (scan : Scan) (k : TokenKind) (text : List ℕ) (tokens : List Token) → AreLaid scan.offset text tokens → AreLaid scan.offset text (token_of k 0 [] scan ∷ tokens)
end_at_once scan k text tokens laid = laid_token 0 text refl no_gap refl refl (subst (λ o. AreLaid o text tokens) (none scan.offset) laid)
  where
    none : (a : ℕ) → a ≡ a + 0 + 0
    none a = omega arith

dedents_laid : (scan : Scan) (n : ℕ) (text : List ℕ) → IsGap text → AreLaid scan.offset text (replicate n (token_of kind.Dedent 0 [] scan) ++ token_of kind.End 0 [] scan ∷ [])
dedents_laid scan zero text gap = end_at_once scan kind.End text [] (laid_end gap)
dedents_laid scan (suc n) text gap = end_at_once scan kind.Dedent text (replicate n (token_of kind.Dedent 0 [] scan) ++ token_of kind.End 0 [] scan ∷ []) (dedents_laid scan n text gap)

last_laid : (where_ : Place) (scan : Scan) → LaidAt where_ scan [] (last_newline where_ scan ++ (replicate (length scan.columns) (token_of kind.Dedent 0 [] scan) ++ token_of kind.End 0 [] scan ∷ []))
last_laid place.Start scan = dedents_laid scan (length scan.columns) [] no_gap
last_laid (place.Margin m) scan = λ gap is ends.
    laid_after m.span.end gap [] (replicate (length scan.columns) (token_of kind.Dedent 0 [] scan) ++ token_of kind.End 0 [] scan ∷ []) is
    (subst (λ o. AreLaid o [] (replicate (length scan.columns) (token_of kind.Dedent 0 [] scan) ++ token_of kind.End 0 [] scan ∷ [])) (sym ends) (dedents_laid scan (length scan.columns) [] no_gap))
last_laid place.Line scan = end_at_once scan kind.Newline [] (replicate (length scan.columns) (token_of kind.Dedent 0 [] scan) ++ token_of kind.End 0 [] scan ∷ []) (dedents_laid scan (length scan.columns) [] no_gap)

-- the tokens that are read are laid
laid : {scan : Scan} {text : List ℕ} {tokens : List Token} {names : List (List ℕ)} → Reads scan text tokens names → LaidAt scan.place scan text tokens
laid {scan} {text} {tokens} (reads_end empty closed is named) =
    subst (λ ts. LaidAt scan.place scan text ts) (sym is) (subst (λ t. LaidAt scan.place scan t (last_tokens scan)) (sym empty) (last_laid scan.place scan))
laid {scan} {text} {tokens} (reads_step {more = more} {move = move} full turn rest is) =
    subst (LaidAt scan.place scan text) (sym is) (laid_move scan text move more (subst (Keeps scan.place scan text) turn (place_keeps scan.place text scan)) (laid rest))

pub tokens_laid : (text : List ℕ) (tokens : List Token) (names : List (List ℕ)) → HasTokens text tokens names → AreLaid (mark_len text) (drop (mark_len text) text) tokens
tokens_laid text tokens names reads = laid reads
