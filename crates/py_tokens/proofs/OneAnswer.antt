-- A text has one list of tokens or one fault.
use Rattle.std.proofs.Common.{◌≡◌, ◌≢◌, ℕ, ◌+◌, ◌-◌, ◌<◌, suc, zero, ◌⊎◌, inl, inr, List, [], ◌∷◌, ◌++◌, length, Option, None, Some, refl, sym, ap, ◌∙◌, subst, arith, slice_get}
use Rattle.std.proofs.lemmas.Option.{slice_get-get_or}
use Rattle.place_ids.specs.declared.Span.{Span}
use Rattle.py_tokens.specs.declared.token.Token.{Token}
use Rattle.py_tokens.specs.declared.fault.TokenFault.{TokenFault}
use Rattle.py_tokens.specs.declared.fault.TokenFault.TheVariants as fault
use Rattle.py_tokens.specs.Scans.{Scan}
use Rattle.py_tokens.specs.Turns.{Move, Turn, goes, fails, turn_of}
use Rattle.py_tokens.proofs.Turns.{left, LeavesLess, leaves, stops, turn_less}
use Rattle.py_tokens.specs.Readings.{last_tokens, Reads, reads_end, reads_step, Meets, meets_end, meets_here, meets_later}

same_move : {m n : Move} {t : Turn} → t ≡ goes m → t ≡ goes n → m ≡ n
same_move first second = cc

same_fault : {m n : TokenFault} {t : Turn} → t ≡ fails m → t ≡ fails n → m ≡ n
same_fault first second = cc

not_both : {m : Move} {f : TokenFault} {t : Turn} → t ≡ goes m → t ≡ fails f → ⊥
not_both {m} {f} first second = let both : goes m ≡ fails f = sym first ∙ second in absurd (cc)

same_some : {X : Type 0} {x y : X} {o : Option X} → o ≡ Some x → o ≡ Some y → x ≡ y
same_some first second = cc

no_last : {last : Span} {openers : List Span} → openers ≡ [] → slice_get openers (length openers - 1) ≡ Some last → ⊥
no_last {last} {openers} none some =
    let both : None ≡ Some last = sym (ap (λ (os : List Span). slice_get os (length os - 1)) none) ∙ some in absurd (cc)

pub one_reading : {scan : Scan} {text : List ℕ} {tokens others : List Token} {names more : List (List ℕ)} →
    Reads scan text tokens names → Reads scan text others more → (tokens ≡ others) × (names ≡ more)
one_reading (reads_end empty closed is named) (reads_end empty-2 closed-2 is-2 named-2) = (is ∙ sym is-2, named ∙ sym named-2)
one_reading (reads_end empty closed is named) (reads_step some turn rest is-2) = absurd (some empty)
one_reading (reads_step some turn rest is) (reads_end empty closed is-2 named) = absurd (some empty)
one_reading {others = others} {more = names} (reads_step {more = more} {move = move} some turn rest is) (reads_step {more = more-2} {move = move-2} some-2 turn-2 rest-2 is-2) =
    let same = same_move turn-2 turn in
    let after = one_reading rest (subst (λ (m : Move). Reads m.after m.rest more-2 names) same rest-2) in
    (is ∙ ap (λ ts. move.tokens ++ ts) after.0 ∙ ap (λ (m : Move). m.tokens ++ more-2) (sym same) ∙ sym is-2, after.1)

pub one_fault : {scan : Scan} {text : List ℕ} {found other : TokenFault} → Meets scan text found → Meets scan text other → found ≡ other
one_fault (meets_end empty last is) (meets_end empty-2 last-2 is-2) = is ∙ ap (λ s. fault.OpenBracket s) (same_some last last-2) ∙ sym is-2
one_fault (meets_end empty last is) (meets_here some turn) = absurd (some empty)
one_fault (meets_end empty last is) (meets_later some turn rest) = absurd (some empty)
one_fault (meets_here some turn) (meets_end empty last is) = absurd (some empty)
one_fault (meets_here some turn) (meets_here some-2 turn-2) = same_fault turn turn-2
one_fault (meets_here some turn) (meets_later some-2 turn-2 rest) = absurd (not_both turn-2 turn)
one_fault (meets_later some turn rest) (meets_end empty last is) = absurd (some empty)
one_fault (meets_later some turn rest) (meets_here some-2 turn-2) = absurd (not_both turn turn-2)
one_fault {other = other} (meets_later some turn rest) (meets_later some-2 turn-2 rest-2) =
    one_fault rest (subst (λ (m : Move). Meets m.after m.rest other) (same_move turn-2 turn) rest-2)

pub never_both : {scan : Scan} {text : List ℕ} {tokens : List Token} {names : List (List ℕ)} {found : TokenFault} → Reads scan text tokens names → Meets scan text found → ⊥
never_both (reads_end empty closed is named) (meets_end empty-2 last is-2) = no_last closed last
never_both (reads_end empty closed is named) (meets_here some turn) = some empty
never_both (reads_end empty closed is named) (meets_later some turn rest) = some empty
never_both (reads_step some turn rest is) (meets_end empty last is-2) = some empty
never_both (reads_step some turn rest is) (meets_here some-2 turn-2) = not_both turn turn-2
never_both {found = found} (reads_step some turn rest is) (meets_later some-2 turn-2 rest-2) =
    never_both rest (subst (λ (m : Move). Meets m.after m.rest found) (same_move turn-2 turn) rest-2)

-- what a scan answers of the text that is left
abbrev pub Answered : Scan → List ℕ → Type 0
Answered scan text = ((tokens : List Token) × (names : List (List ℕ)) × Reads scan text tokens names) ⊎ ((found : TokenFault) × Meets scan text found)

no_none : {x : Span} → None ≡ Some x → ⊥
no_none h = absurd (cc)

one_opener : (scan : Scan) (text : List ℕ) (o : Span) (os : List Span) (last : Option Span) → text ≡ [] → scan.openers ≡ o ∷ os → slice_get (o ∷ os) (length (o ∷ os) - 1) ≡ last → Answered scan text
one_opener scan text o os None empty is none = absurd (no_none (sym none ∙ slice_get-get_or (o ∷ os) (length (o ∷ os) - 1) o (omega arith)))
one_opener scan text o os (Some last) empty is some = inr (fault.OpenBracket last, meets_end empty (ap (λ (s : List Span). slice_get s (length s - 1)) is ∙ some) refl)

empty_one : (scan : Scan) (text : List ℕ) (openers : List Span) → text ≡ [] → scan.openers ≡ openers → Answered scan text
empty_one scan text [] empty is = inl (last_tokens scan, scan.names, reads_end empty is refl refl)
empty_one scan text (o ∷ os) empty is = one_opener scan text o os (slice_get (o ∷ os) (length (o ∷ os) - 1)) empty is refl

after_one : (scan : Scan) (text : List ℕ) (move : Move) → text ≢ [] → turn_of text scan ≡ goes move → Answered move.after move.rest → Answered scan text
after_one scan text move full turn (inl (tokens, names, reads)) = inl (move.tokens ++ tokens, names, reads_step full turn reads refl)
after_one scan text move full turn (inr (found, meets)) = inr (found, meets_later full turn meets)

by_turn : (scan : Scan) (text : List ℕ) (turn : Turn) → text ≢ [] → turn_of text scan ≡ turn → LeavesLess (left scan text) turn →
    ((move : Move) → left move.after move.rest < left scan text → Answered move.after move.rest) → Answered scan text
by_turn scan text (goes move) full is (leaves shorter few) later = after_one scan text move full is (later move shorter)
by_turn scan text (fails found) full is stops later = inr (found, meets_here full is)

-- a text has tokens or a fault: by induction on what is left to do
answered_in : (n : ℕ) (scan : Scan) (text : List ℕ) → left scan text < n → Answered scan text
answered_in zero scan text less = absurd (omega (arith, less))
answered_in (suc n) scan [] less = empty_one scan [] scan.openers refl refl
answered_in (suc n) scan (b ∷ bs) less =
    by_turn scan (b ∷ bs) (turn_of (b ∷ bs) scan) (λ h. absurd (cc)) refl (turn_less (b ∷ bs) scan (λ h. absurd (cc)))
    (λ move shorter. answered_in n move.after move.rest (omega (arith, less, shorter)))

pub answered : (scan : Scan) (text : List ℕ) → Answered scan text
answered scan text = answered_in (left scan text + 1) scan text (omega arith)
