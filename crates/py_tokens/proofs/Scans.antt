-- What a scan has read so far, and what is left, make the whole.
use Rattle.std.proofs.Common.{◌≡◌, ◌≢◌, ℕ, ◌+◌, ◌*◌, ◌-◌, ◌<◌, ◌≤◌, List, [], ◌∷◌, ◌++◌, length, drop, replicate, Some, Result, Err, Ok, IfErr, refl, sym, ap, ◌∙◌, subst, arith, append_assoc, length-append, length-drop}
use Rattle.std.specs.List.{slice_get}
use Rattle.std.proofs.lemmas.List.{length-replicate}
use Rattle.place_ids.specs.declared.Span.{Span}
use Rattle.py_tokens.specs.declared.token.Token.{Token}
use Rattle.py_tokens.specs.declared.token.TokenKind.TheVariants as kind
use Rattle.py_tokens.specs.declared.fault.TokenFault.{TokenFault}
use Rattle.py_tokens.specs.declared.fault.TokenFault.TheVariants as fault
use Rattle.py_tokens.specs.declared.place.Place.{Place}
use Rattle.py_tokens.specs.declared.place.Place.TheVariants as place
use Rattle.py_tokens.specs.declared.scanner.Scanner.{Scanner}
use Rattle.py_tokens.specs.TokenList.{TokenList}
use Rattle.py_tokens.specs.Scans.{Scan, start_at, mark_len, token_of}
use Rattle.py_tokens.specs.Turns.{Move, goes, fails, turn_of}
use Rattle.py_tokens.specs.Readings.{last_newline, last_tokens, Reads, reads_end, reads_step, Meets, meets_end, meets_here, meets_later, HasTokens, HasFault}
use Rattle.py_tokens.specs.Scanners.{scan_of, Follows}
use Rattle.py_tokens.proofs.OneAnswer.{one_fault, never_both}
use Rattle.py_tokens.proofs.Turns.{left, LeavesLess, leaves, turn_less}

-- A scan of the text stands here, with this text left and these tokens read.
pub record Continues (text : List ℕ) (scan : Scan) (rest : List ℕ) (done : List Token) : Type 0 where
  pub forth : (more : List Token) (names : List (List ℕ)) → Reads scan rest more names → HasTokens text (done ++ more) names
  pub meets : (found : TokenFault) → Meets scan rest found → HasFault text found
  pub few : length done + left scan rest ≤ 4 * length text + 3

continues_move : (text : List ℕ) (scan : Scan) (rest : List ℕ) (done : List Token) (move : Move) → Continues text scan rest done → rest ≢ [] → turn_of rest scan ≡ goes move →
    LeavesLess (left scan rest) (goes move) → Continues text move.after move.rest (done ++ move.tokens)
continues_move text scan rest done move c full turn (leaves shorter one) = record {
  forth = λ more names h. subst (λ ts. HasTokens text ts names) (sym (append_assoc done move.tokens more)) (c.forth (move.tokens ++ more) names (reads_step full turn h refl));
  meets = λ found h. c.meets found (meets_later full turn h);
  few = omega (arith, c.few, shorter, one, length-append done move.tokens);
}

some_full : (rest : List ℕ) → 0 < length rest → rest ≢ []
some_full [] some = absurd (omega (arith, some))
some_full (b ∷ bs) some = λ h. absurd (cc)

module _ (text : List ℕ) (old new : Scanner) where
  -- a step of the scanner goes on with the scan
  pub continues_takes : Continues text (scan_of old) old.rest.now old.tokens → 0 < length old.rest.now → Follows old new (turn_of old.rest.now (scan_of old)) →
      Continues text (scan_of new) new.rest.now new.tokens
  continues_takes c some (move, is, takes) =
      let full = some_full old.rest.now some in
      let next = continues_move text (scan_of old) old.rest.now old.tokens move c full is (subst (LeavesLess (left (scan_of old) old.rest.now)) is (turn_less old.rest.now (scan_of old) full)) in
      subst (λ s. Continues text s new.rest.now new.tokens) (sym takes.after)
      (subst (λ r. Continues text move.after r new.tokens) (sym takes.rest) (subst (λ ts. Continues text move.after move.rest ts) (sym takes.tokens) next))

  -- and leaves less to do
  pub takes_less : 0 < length old.rest.now → Follows old new (turn_of old.rest.now (scan_of old)) → left (scan_of new) new.rest.now < left (scan_of old) old.rest.now
  takes_less some (move, is, takes) =
      by_less (subst (LeavesLess (left (scan_of old) old.rest.now)) is (turn_less old.rest.now (scan_of old) (some_full old.rest.now some)))
    where
      by_less : LeavesLess (left (scan_of old) old.rest.now) (goes move) → left (scan_of new) new.rest.now < left (scan_of old) old.rest.now
      by_less (leaves shorter one) = omega (arith, shorter, ap (λ s. left s new.rest.now) takes.after, ap (left move.after) takes.rest)

pub none_left : (xs : List ℕ) → length xs ≡ 0 → xs ≡ []
none_left [] h = refl
none_left (x ∷ xs) h = absurd (omega (arith, h))

-- where nothing is left, the tokens at the end make the whole
pub continues_end : (text : List ℕ) (scan : Scan) (rest : List ℕ) (done all : List Token) → Continues text scan rest done → rest ≡ [] → scan.openers ≡ [] → all ≡ done ++ last_tokens scan → HasTokens text all scan.names
continues_end text scan rest done all c empty closed is = subst (λ ts. HasTokens text ts scan.names) (sym is) (c.forth (last_tokens scan) scan.names (reads_end empty closed refl refl))

newline_few : (where_ : Place) (scan : Scan) → length (last_newline where_ scan) ≤ 1
newline_few place.Start scan = omega arith
newline_few (place.Margin m) scan = omega arith
newline_few place.Line scan = omega arith

pub end_few : (text : List ℕ) (scan : Scan) (rest : List ℕ) (done all : List Token) → Continues text scan rest done → all ≡ done ++ last_tokens scan → length all ≤ 4 * length text + 5
end_few text scan rest done all c is =
    let dedents = replicate (length scan.columns) (token_of kind.Dedent 0 [] scan) in
    omega (
      arith,
      c.few,
      ap length is,
      length-append done (last_tokens scan),
      length-append (last_newline scan.place scan) (dedents ++ token_of kind.End 0 [] scan ∷ []),
      length-append dedents (token_of kind.End 0 [] scan ∷ []),
      length-replicate (length scan.columns) (token_of kind.Dedent 0 [] scan),
      newline_few scan.place scan,
    )

pub continues_new : (text : List ℕ) (scanner : Scanner) → scan_of scanner ≡ start_at (mark_len text) → scanner.rest.now ≡ drop (mark_len text) text → scanner.tokens ≡ [] →
    Continues text (scan_of scanner) scanner.rest.now scanner.tokens
continues_new text scanner starts whole empty =
    subst (λ s. Continues text s scanner.rest.now scanner.tokens) (sym starts)
    (subst (λ r. Continues text (start_at (mark_len text)) r scanner.tokens) (sym whole) (subst (λ ts. Continues text (start_at (mark_len text)) (drop (mark_len text) text) ts) (sym empty) (record {
      forth = λ more names h. h;
      meets = λ found h. h;
      few = omega (arith, length-drop (mark_len text) text);
    })))

module _ {T : Type 0} (text : List ℕ) (scan : Scan) (rest : List ℕ) (done : List Token) (r : Result T TokenFault) (e : TokenFault) (c : Continues text scan rest done) where
  -- the fault of a step is the text's
  pub refused_step : 0 < length rest → (x : TokenFault) × (r ≡ Err x) × (x ≡ e) → (e ≢ fault.Memory → turn_of rest scan ≡ fails e) → IfErr r (λ f. f ≢ fault.Memory → HasFault text f)
  refused_step some (x, is, same) turn =
      subst (λ s. IfErr s (λ f. f ≢ fault.Memory → HasFault text f)) (sym is)
      (λ other. c.meets x (meets_here (some_full rest some) (turn (λ h. other (same ∙ h)) ∙ ap fails (sym same))))

  -- and so is the fault at the end
  pub refused_end : length rest ≡ 0 → (x : TokenFault) × (r ≡ Err x) × (x ≡ e) →
      (e ≢ fault.Memory → (last : Span) × (slice_get scan.openers (length scan.openers - 1) ≡ Some last) × (e ≡ fault.OpenBracket last)) → IfErr r (λ f. f ≢ fault.Memory → HasFault text f)
  refused_end none (x, is, same) opened =
      subst (λ s. IfErr s (λ f. f ≢ fault.Memory → HasFault text f)) (sym is)
      (λ other. let open_ = opened (λ h. other (same ∙ h)) in c.meets x (meets_end (none_left rest none) open_.1 (same ∙ open_.2)))

module _ {T : Type 0} (text : List ℕ) where
  -- a text with a fault has no other
  pub first_of : (r : Result T TokenFault) → IfErr r (λ f. f ≢ fault.Memory → HasFault text f) → IfErr r (λ f. f ≢ fault.Memory → (other : TokenFault) → HasFault text other → other ≡ f)
  first_of (Ok x) h = tt
  first_of (Err f) h = λ real other has. one_fault has (h real)

  -- and no tokens
  pub none_of : (r : Result T TokenFault) → IfErr r (λ f. f ≢ fault.Memory → HasFault text f) → IfErr r (λ f. f ≢ fault.Memory → (all : List Token) (names : List (List ℕ)) → HasTokens text all names → ⊥)
  none_of (Ok x) h = tt
  none_of (Err f) h = λ real all names has. never_both has (h real)

-- the tokens that are made of a scanner are those that it has read
pub reads_made : (text : List ℕ) {made : TokenList} {tokens : List Token} {new old : Scan} →
    made ≡ record { tokens = tokens; names = new.names } → new ≡ old → HasTokens text tokens old.names → HasTokens text made.tokens made.names
reads_made text {made} {tokens} {new} {old} is same h =
    subst (λ m. HasTokens text m.tokens m.names) (sym is) (subst (λ (s : Scan). HasTokens text tokens s.names) (sym same) h)
