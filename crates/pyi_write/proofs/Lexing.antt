-- From which scans a text gives which lexemes: one step of the scan.
use Rattle.std.proofs.Common.{◌≡◌, ◌≢◌, ℕ, suc, ◌+◌, ◌==◌, ◌⊎◌, Bool, true, false, not, ◌||◌, cond, List, [], ◌∷◌, ◌++◌, length, take, drop, slice_get, replicate, refl, sym, ap, ◌∙◌, subst, arith, append_assoc}
use Rattle.std.specs.List.{list_any, prefix_len}
use Rattle.std.specs.Option.{unwrap_or}
use Rattle.std.specs.Str.{bytes_eq}
use Rattle.std.specs.Cmp.Lexicographic.{bytes_decides}
use Rattle.std.proofs.lemmas.List.{append-nil}
use Rattle.place_ids.specs.Names.{has_name, with_name, number_in}
use Rattle.place_ids.specs.declared.Span.{Span}
use Rattle.py_tokens.specs.declared.token.Token.{Token}
use Rattle.py_tokens.specs.declared.token.TokenKind.{TokenKind}
use Rattle.py_tokens.specs.declared.token.TokenKind.TheVariants as kind
use Rattle.py_tokens.specs.Fronts.{front_of}
use Rattle.py_tokens.specs.Margins.{filling_of}
use Rattle.py_tokens.specs.Readings.{Reads, reads_end, reads_step, last_tokens, last_newline}
use Rattle.py_tokens.specs.Scans.{Scan, start_at, span_at, token_of, past, at_place, naming}
use Rattle.py_tokens.specs.Turns.{Move, goes, turn_of, turn_at, line_turn, token_turn, name_turn, newline_turn, passes, within_line, openers_after}
use Rattle.pyi_write.specs.Lexemes.{Lexeme, name, mark, newline, lexeme_of, lexemes}

-- the text that is left gives these lexemes
pub record Gives (scan : Scan) (text : List ℕ) (ls : List Lexeme) : Type 0 where
  pub tokens : List Token
  pub names : List (List ℕ)
  pub more : List (List ℕ)
  pub reads : Reads scan text tokens names
  pub kept : names ≡ scan.names ++ more
  pub same : lexemes names tokens ≡ ls

-- the first indented line so far, if there was one, is indented by spaces
abbrev pub IsPlain : Scan → Type 0
IsPlain scan = (scan.filling ≡ (start_at 0).filling) ⊎ (scan.filling ≡ filling_of (32 ∷ []))

-- the scan within a logical line, and at the start of one
abbrev pub on_line : Scan → Scan
on_line scan = at_place (within_line (record { span = record { start = 0; end = 0; line = 0 }; column = 0; filling = (start_at 0).filling; ends_block = false }) scan).place scan

abbrev pub on_start : Scan → Scan
on_start scan = at_place (start_at 0).place scan

-- within a logical line, with these blocks around it and so many open brackets
pub record IsWithin (cols : List ℕ) (n : ℕ) (scan : Scan) : Type 0 where
  pub line : scan.place ≡ (on_line scan).place
  pub columns : scan.columns ≡ cols
  pub plain : IsPlain scan
  pub openers : length scan.openers ≡ n

-- at the start of a line, with no open bracket
pub record IsStart (cols : List ℕ) (scan : Scan) : Type 0 where
  pub start : scan.place ≡ (on_start scan).place
  pub columns : scan.columns ≡ cols
  pub plain : IsPlain scan
  pub openers : scan.openers ≡ []

abbrev pub InLine : List ℕ → ℕ → List ℕ → List Lexeme → Type 0
InLine cols n text ls = (scan : Scan) → IsWithin cols n scan → Gives scan text ls

abbrev pub AtStart : List ℕ → List ℕ → List Lexeme → Type 0
AtStart cols text ls = (scan : Scan) → IsStart cols scan → Gives scan text ls

-- ---- one step

lexemes_append : (names : List (List ℕ)) (xs ys : List Token) → lexemes names (xs ++ ys) ≡ lexemes names xs ++ lexemes names ys
lexemes_append names [] ys = refl
lexemes_append names (x ∷ xs) ys = ap (λ ls. lexeme_of names x.kind ∷ ls) (lexemes_append names xs ys)

taken : (scan : Scan) (text : List ℕ) (move : Move) (front ls : List Lexeme) (new : List (List ℕ)) → text ≢ [] → turn_of text scan ≡ goes move →
    move.after.names ≡ scan.names ++ new → ((more : List (List ℕ)) → lexemes (move.after.names ++ more) move.tokens ≡ front) → Gives move.after move.rest ls → Gives scan text (front ++ ls)
taken scan text move front ls new full turn grown spelled later = record {
  tokens = move.tokens ++ later.tokens;
  names = later.names;
  more = new ++ later.more;
  reads = reads_step full turn later.reads refl;
  kept = later.kept ∙ ap (λ ns. ns ++ later.more) grown ∙ append_assoc scan.names new later.more;
  same = lexemes_append later.names move.tokens later.tokens
      ∙ ap (λ ls-2. ls-2 ++ lexemes later.names later.tokens) (ap (λ ns. lexemes ns move.tokens) later.kept ∙ spelled later.more)
      ∙ ap (λ ls-2. front ++ ls-2) later.same;
}

-- a step that gives no names
pub quiet : (scan : Scan) (text : List ℕ) (move : Move) (front ls : List Lexeme) → text ≢ [] → turn_of text scan ≡ goes move → move.after.names ≡ scan.names →
    ((more : List (List ℕ)) → lexemes (move.after.names ++ more) move.tokens ≡ front) → Gives move.after move.rest ls → Gives scan text (front ++ ls)
quiet scan text move front ls full turn same spelled later = taken scan text move front ls [] full turn (same ∙ sym (append-nil scan.names)) spelled later

pub some_text : {b : ℕ} {bs : List ℕ} → b ∷ bs ≢ []
some_text h = absurd (cc)

-- ---- within a line

abbrev pub moved : TokenKind → ℕ → List ℕ → Scan → Move
moved k n text scan = record {
  tokens = token_of k n text scan ∷ [];
  after = on_line (past n text (record scan { openers = openers_after k (span_at 0 n text scan) scan.openers }));
  rest = drop n text;
}

pub in_token : {cols : List ℕ} {n m : ℕ} {b : ℕ} {bs rest : List ℕ} {l : Lexeme} {ls : List Lexeme} (k : TokenKind) (size : ℕ) →
    ((scan : Scan) → line_turn (front_of (b ∷ bs)) (b ∷ bs) scan ≡ token_turn k size (b ∷ bs) scan) → drop size (b ∷ bs) ≡ rest → ((names : List (List ℕ)) → lexeme_of names k ≡ l) →
    ((span : Span) (os : List Span) → length os ≡ n → length (openers_after k span os) ≡ m) → InLine cols m rest ls → InLine cols n (b ∷ bs) (l ∷ ls)
in_token {cols} {n} {m} {b} {bs} {rest} {l} {ls} k size stands gone spelled opened later scan is =
    let move = moved k size (b ∷ bs) scan in
    quiet scan (b ∷ bs) move (l ∷ []) ls some_text
    (ap (λ p. turn_at p (b ∷ bs) scan) is.line ∙ stands scan) refl
    (λ more. ap (λ x. x ∷ []) (spelled (scan.names ++ more)))
    (subst (λ r. Gives move.after r ls) (sym gone)
    (later move.after (record { line = refl; columns = is.columns; plain = is.plain; openers = opened (span_at 0 size (b ∷ bs) scan) scan.openers is.openers })))

pub in_space : {cols : List ℕ} {n : ℕ} {b : ℕ} {bs rest : List ℕ} {ls : List Lexeme} (size : ℕ) →
    ((scan : Scan) → line_turn (front_of (b ∷ bs)) (b ∷ bs) scan ≡ passes [] size (on_line scan).place (b ∷ bs) scan) → drop size (b ∷ bs) ≡ rest → InLine cols n rest ls → InLine cols n (b ∷ bs) ls
in_space {cols} {n} {b} {bs} {rest} {ls} size stands gone later scan is =
    let after : Scan = on_line (past size (b ∷ bs) scan) in
    quiet scan (b ∷ bs) (record { tokens = []; after = after; rest = drop size (b ∷ bs) }) [] ls some_text
    (ap (λ p. turn_at p (b ∷ bs) scan) is.line ∙ stands scan) refl (λ more. refl)
    (subst (λ r. Gives after r ls) (sym gone) (later after (record { line = refl; columns = is.columns; plain = is.plain; openers = is.openers })))

none_open : (os : List Span) → length os ≡ 0 → os ≡ []
none_open [] h = refl
none_open (o ∷ os) h = absurd (omega (arith, h))

pub in_newline : {cols : List ℕ} {rest : List ℕ} {ls : List Lexeme} → AtStart cols rest ls → InLine cols 0 (10 ∷ rest) (newline ∷ ls)
in_newline {cols} {rest} {ls} later scan is =
    let after : Scan = on_start (past 1 (10 ∷ rest) scan) in
    quiet scan (10 ∷ rest) (record { tokens = token_of kind.Newline 1 (10 ∷ rest) scan ∷ []; after = after; rest = rest }) (newline ∷ []) ls some_text
    (ap (λ p. turn_at p (10 ∷ rest) scan) is.line ∙ ap (λ k. cond (k == 0) (newline_turn 1 (10 ∷ rest) scan) (passes [] 1 (on_line scan).place (10 ∷ rest) scan)) is.openers) refl (λ more. refl)
    (later after (record { start = refl; columns = is.columns; plain = is.plain; openers = none_open scan.openers is.openers }))

-- ---- names

name_more : (b : Bool) (n w : List ℕ) (ns more : List (List ℕ)) → cond b (n ∷ ns) ((n ∷ ns) ++ w ∷ []) ++ more ≡ n ∷ (cond b ns (ns ++ w ∷ []) ++ more)
name_more true n w ns more = refl
name_more false n w ns more = refl

name_here : (w n : List ℕ) (ns more : List (List ℕ)) (b : Bool) → bytes_eq w n ≡ b →
    unwrap_or (slice_get (cond (list_any (bytes_eq w) ns) ns (ns ++ w ∷ []) ++ more) (prefix_len (λ x. not (bytes_eq w x)) ns)) [] ≡ w →
    unwrap_or (slice_get (cond (b || list_any (bytes_eq w) ns) (n ∷ ns) ((n ∷ ns) ++ w ∷ []) ++ more) (cond (not b) (1 + prefix_len (λ x. not (bytes_eq w x)) ns) 0)) [] ≡ w
name_here w n ns more true is later = sym ((bytes_decides w n).0 is)
name_here w n ns more false is later =
    let k = prefix_len (λ x. not (bytes_eq w x)) ns in
    let next : 1 + k ≡ suc k = omega arith in
    ap (λ xs. unwrap_or (slice_get xs (1 + k)) []) (name_more (list_any (bytes_eq w) ns) n w ns more)
    ∙ ap (λ j. unwrap_or (slice_get (n ∷ (cond (list_any (bytes_eq w) ns) ns (ns ++ w ∷ []) ++ more)) j) []) next ∙ later

name_found : (w : List ℕ) (ns more : List (List ℕ)) → unwrap_or (slice_get (with_name ns w ++ more) (number_in ns w)) [] ≡ w
name_found w [] more = refl
name_found w (n ∷ ns) more = name_here w n ns more (bytes_eq w n) refl (name_found w ns more)

new_name : (b : Bool) (ns : List (List ℕ)) (w : List ℕ) → cond b ns (ns ++ w ∷ []) ≡ ns ++ cond b [] (w ∷ [])
new_name true ns w = sym (append-nil ns)
new_name false ns w = refl

pub in_name : {cols : List ℕ} {n : ℕ} {b : ℕ} {bs rest w : List ℕ} {ls : List Lexeme} (size : ℕ) →
    ((scan : Scan) → line_turn (front_of (b ∷ bs)) (b ∷ bs) scan ≡ name_turn size (b ∷ bs) scan) → take size (b ∷ bs) ≡ w → drop size (b ∷ bs) ≡ rest → InLine cols n rest ls → InLine cols n (b ∷ bs) (name w ∷ ls)
in_name {cols} {n} {b} {bs} {rest} {w} {ls} size stands word gone later scan is =
    let v = take size (b ∷ bs) in
    let move = moved (kind.Name (number_in scan.names v)) size (b ∷ bs) (naming v scan) in
    taken scan (b ∷ bs) move (name w ∷ []) ls (cond (has_name scan.names v) [] (v ∷ [])) some_text
    (ap (λ p. turn_at p (b ∷ bs) scan) is.line ∙ stands scan)
    (new_name (has_name scan.names v) scan.names v)
    (λ more. ap (λ x. name x ∷ []) (name_found v scan.names more ∙ word))
    (subst (λ r. Gives move.after r ls) (sym gone)
    (later move.after (record { line = refl; columns = is.columns; plain = is.plain; openers = is.openers })))

-- ---- at the start of a line

pub at_end : AtStart [] [] (mark kind.End ∷ [])
at_end scan is = record {
  tokens = last_tokens scan;
  names = scan.names;
  more = [];
  reads = reads_end refl is.openers refl refl;
  kept = sym (append-nil scan.names);
  same = ap (λ p. lexemes scan.names (last_newline p scan ++ (replicate (length scan.columns) (token_of kind.Dedent 0 [] scan) ++ token_of kind.End 0 [] scan ∷ []))) is.start
      ∙ ap (λ c. lexemes scan.names (replicate (length c) (token_of kind.Dedent 0 [] scan) ++ token_of kind.End 0 [] scan ∷ [])) is.columns;
}

pub at_block_end : AtStart (4 ∷ []) [] (mark kind.Dedent ∷ mark kind.End ∷ [])
at_block_end scan is = record {
  tokens = last_tokens scan;
  names = scan.names;
  more = [];
  reads = reads_end refl is.openers refl refl;
  kept = sym (append-nil scan.names);
  same = ap (λ p. lexemes scan.names (last_newline p scan ++ (replicate (length scan.columns) (token_of kind.Dedent 0 [] scan) ++ token_of kind.End 0 [] scan ∷ []))) is.start
      ∙ ap (λ c. lexemes scan.names (replicate (length c) (token_of kind.Dedent 0 [] scan) ++ token_of kind.End 0 [] scan ∷ [])) is.columns;
}
