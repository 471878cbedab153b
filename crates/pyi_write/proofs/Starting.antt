-- How a line begins: at the margin, or in a block that is indented by four spaces.
use Rattle.std.proofs.Common.{◌≡◌, ℕ, ◌==◌, inl, inr, Bool, true, false, cond, nat_lt, List, [], ◌∷◌, ◌++◌, length, Some, chars, refl, sym, ap, ◌∙◌, subst}
use Rattle.place_ids.specs.declared.Span.{Span}
use Rattle.py_tokens.specs.declared.token.Keyword.{Keyword}
use Rattle.py_tokens.specs.declared.token.TokenKind.TheVariants as kind
use Rattle.py_tokens.specs.declared.fault.TokenFault.TheVariants as fault
use Rattle.py_tokens.specs.Fronts.{front_of, begins_with}
use Rattle.py_tokens.specs.Keywords.{keyword_of}
use Rattle.py_tokens.specs.Margins.{filling_of, clashes, first_filling}
use Rattle.py_tokens.specs.Scans.{Scan, span_at, past, at_place, top_of, popped}
use Rattle.py_tokens.specs.Turns.{Turn, goes, fails, turn_at, margin_turn, blank_turn, begin_turn, dedent_turn, same_turn, deeper_turn, within_line, at_margin}
use Rattle.pyi_write.specs.Lexemes.{Lexeme, mark}
use Rattle.pyi_write.specs.NormalStubs.{IsIdentifier}
use Rattle.pyi_write.proofs.Lexing.{IsPlain, InLine, AtStart, on_start, quiet, some_text}
use Rattle.pyi_write.proofs.Words.{IsWord, a_word, ends, letter, first_letter, no_form_feed, no_blank, no_tab, word_branch, begins_too, unmarked, front_is, keyword_begins, name_begins}
use Rattle.pyi_write.proofs.Reading.{no_word_is_empty}

-- a text with which a logical line may begin
pub record Opens (text : List ℕ) : Type 0 where
  pub first : ℕ
  pub rest : List ℕ
  pub is : text ≡ first ∷ rest
  pub a_letter : letter first ≡ true
  pub unmarked : begins_with 65279 (chars text) ≡ false
  pub begins : (span : Span) (column : ℕ) (space : List ℕ) (ended : Bool) (text-2 : List ℕ) (scan : Scan) →
      blank_turn (record { span = span; column = column; filling = filling_of space; ends_block = ended }) (front_of text) text-2 scan
      ≡ begin_turn (record { span = span; column = column; filling = filling_of space; ends_block = ended }) text-2 scan

pub identifier_opens : (w rest : List ℕ) → IsIdentifier w → ends rest ≡ true → Opens (w ++ rest)
identifier_opens [] rest is end = absurd (no_word_is_empty (a_word is))
identifier_opens (b ∷ bs) rest is end =
    let word = a_word is in
    let low = first_letter b bs is.begins in
    record {
      first = b;
      rest = bs ++ rest;
      is = refl;
      a_letter = low;
      unmarked = unmarked (b ∷ bs) rest word end;
      begins = name_begins (b ∷ bs) rest word end is.free (front_is (b ∷ bs) rest word end (word_branch b low (bs ++ rest) (begins_too (b ∷ bs) rest word end)));
    }

pub keyword_opens : (k : Keyword) (w rest : List ℕ) → IsWord w → keyword_of w ≡ Some k → ends rest ≡ true → Opens (w ++ rest)
keyword_opens k [] rest is says end = absurd (no_word_is_empty is)
keyword_opens k (b ∷ bs) rest is says end =
    let low = first_letter b bs is.begins in
    record {
      first = b;
      rest = bs ++ rest;
      is = refl;
      a_letter = low;
      unmarked = unmarked (b ∷ bs) rest is end;
      begins = keyword_begins (b ∷ bs) rest is end k says (front_is (b ∷ bs) rest is end (word_branch b low (bs ++ rest) (begins_too (b ∷ bs) rest is end)));
    }

-- ---- the leading space

abbrev after_of : Turn → Scan → Scan
after_of (goes move) scan = move.after
after_of (fails f) scan = scan

-- the scan behind leading space
abbrev margined : ℕ → List ℕ → List ℕ → Scan → Scan
margined size space text scan =
    at_place (after_of (blank_turn (record { span = span_at 0 size text scan; column = size; filling = filling_of space; ends_block = false }) (front_of (32 ∷ [])) text scan) scan).place (past size text scan)

flat_turn : (b : ℕ) (bs : List ℕ) (scan : Scan) → letter b ≡ true → margin_turn (b ∷ bs) scan ≡ goes (record { tokens = []; after = margined 0 [] (b ∷ bs) scan; rest = b ∷ bs })
flat_turn b bs scan is =
    let feed = no_form_feed b is in
    let blank = no_blank b is in
    let tab = no_tab b is in
    simp (feed, blank, tab)

abbrev pub four : List ℕ
four = 32 ∷ 32 ∷ 32 ∷ 32 ∷ []

deep_turn : (b : ℕ) (bs : List ℕ) (scan : Scan) → letter b ≡ true → margin_turn (four ++ b ∷ bs) scan ≡ goes (record { tokens = []; after = margined 4 four (four ++ b ∷ bs) scan; rest = b ∷ bs })
deep_turn b bs scan is =
    let feed = no_form_feed b is in
    let blank = no_blank b is in
    let tab = no_tab b is in
    simp (feed, blank, tab)

-- ---- where the line stands

clear_flat : (scan : Scan) → IsPlain scan → clashes scan.filling (filling_of []) ≡ false
clear_flat scan (inl h) = ap (λ f. clashes f (filling_of [])) h
clear_flat scan (inr h) = ap (λ f. clashes f (filling_of [])) h

clear_deep : (scan : Scan) → IsPlain scan → clashes scan.filling (filling_of four) ≡ false
clear_deep scan (inl h) = ap (λ f. clashes f (filling_of four)) h
clear_deep scan (inr h) = ap (λ f. clashes f (filling_of four)) h

module _ (span : Span) (column : ℕ) (space : List ℕ) (ended : Bool) (text : List ℕ) (scan : Scan) where
  abbrev begun : Turn
  begun = begin_turn (record { span = span; column = column; filling = filling_of space; ends_block = ended }) text scan

  abbrev same : Turn
  same = same_turn (record { span = span; column = column; filling = filling_of space; ends_block = ended }) text scan

  abbrev dedented : Turn
  dedented = dedent_turn (record { span = span; column = column; filling = filling_of space; ends_block = ended }) text scan

  abbrev deeper : Turn
  deeper = deeper_turn (record { span = span; column = column; filling = filling_of space; ends_block = ended }) text scan

  abbrev by_columns : List ℕ → Turn
  by_columns cols = cond (nat_lt column (top_of cols)) dedented (cond (column == top_of cols) same deeper)

  stands : (cols : List ℕ) → clashes scan.filling (filling_of space) ≡ false → scan.columns ≡ cols → begun ≡ by_columns cols
  stands cols clear columns = ap (λ t. cond t (fails (fault.MixedTabs span)) (by_columns scan.columns)) clear ∙ ap by_columns columns

plain_flat : (scan : Scan) → IsPlain scan → IsPlain (record scan { filling = first_filling scan.filling (filling_of []) })
plain_flat scan (inl h) = inl (ap (λ f. first_filling f (filling_of [])) h)
plain_flat scan (inr h) = inr (ap (λ f. first_filling f (filling_of [])) h)

plain_deep : (scan : Scan) → IsPlain scan → IsPlain (record scan { filling = first_filling scan.filling (filling_of four) })
plain_deep scan (inl h) = inr (ap (λ f. first_filling f (filling_of four)) h)
plain_deep scan (inr h) = inr (ap (λ f. first_filling f (filling_of four)) h)

-- a line at the margin, where no block is around it
pub top_line : {text : List ℕ} {ls : List Lexeme} → Opens text → InLine [] 0 text ls → AtStart [] text ls
top_line {text} {ls} o later = subst (λ x. AtStart [] x ls) (sym o.is) (begin (subst (λ x. Opens x) o.is o) (subst (λ x. InLine [] 0 x ls) o.is later))
  where
    begin : Opens (o.first ∷ o.rest) → InLine [] 0 (o.first ∷ o.rest) ls → AtStart [] (o.first ∷ o.rest) ls
    begin p rest scan is =
        let t = o.first ∷ o.rest in
        let mid = margined 0 [] t scan in
        let after : Scan = within_line (record { span = span_at 0 0 t scan; column = 0; filling = filling_of []; ends_block = false }) mid in
        quiet scan t (record { tokens = []; after = mid; rest = t }) [] ls some_text
        (ap (λ q. turn_at q t scan) is.start ∙ flat_turn o.first o.rest scan o.a_letter) refl (λ more. refl)
        (quiet mid t (record { tokens = []; after = after; rest = t }) [] ls some_text
        (p.begins (span_at 0 0 t scan) 0 [] false t mid ∙ stands (span_at 0 0 t scan) 0 [] false t mid [] (clear_flat scan is.plain) is.columns) refl (λ more. refl)
        (rest after (record { line = refl; columns = is.columns; plain = plain_flat scan is.plain; openers = ap length is.openers })))

-- a line at the margin behind a block
pub behind_block : {text : List ℕ} {ls : List Lexeme} → Opens text → InLine [] 0 text ls → AtStart (4 ∷ []) text (mark kind.Dedent ∷ ls)
behind_block {text} {ls} o later = subst (λ x. AtStart (4 ∷ []) x (mark kind.Dedent ∷ ls)) (sym o.is) (begin (subst (λ x. Opens x) o.is o) (subst (λ x. InLine [] 0 x ls) o.is later))
  where
    begin : Opens (o.first ∷ o.rest) → InLine [] 0 (o.first ∷ o.rest) ls → AtStart (4 ∷ []) (o.first ∷ o.rest) (mark kind.Dedent ∷ ls)
    begin p rest scan is =
        let t = o.first ∷ o.rest in
        let mid = margined 0 [] t scan in
        let span = span_at 0 0 t scan in
        let out : Scan = after_of (dedented span 0 [] false t mid) mid in
        let after : Scan = within_line (record { span = span; column = 0; filling = filling_of []; ends_block = true }) out in
        quiet scan t (record { tokens = []; after = mid; rest = t }) [] (mark kind.Dedent ∷ ls) some_text
        (ap (λ q. turn_at q t scan) is.start ∙ flat_turn o.first o.rest scan o.a_letter) refl (λ more. refl)
        (quiet mid t (record { tokens = at_margin kind.Dedent (record { span = span; column = 0; filling = filling_of []; ends_block = false }) ∷ []; after = out; rest = t }) (mark kind.Dedent ∷ []) ls some_text
        (p.begins span 0 [] false t mid ∙ stands span 0 [] false t mid (4 ∷ []) (clear_flat scan is.plain) is.columns) refl (λ more. refl)
        (quiet out t (record { tokens = []; after = after; rest = t }) [] ls some_text
        (p.begins span 0 [] true t out ∙ stands span 0 [] true t out [] (clear_flat scan is.plain) (ap popped is.columns)) refl (λ more. refl)
        (rest after (record { line = refl; columns = ap popped is.columns; plain = plain_flat scan is.plain; openers = ap length is.openers }))))

-- the first line of a block
pub block_begins : {text : List ℕ} {ls : List Lexeme} → Opens text → InLine (4 ∷ []) 0 text ls → AtStart [] (four ++ text) (mark kind.Indent ∷ ls)
block_begins {text} {ls} o later = subst (λ x. AtStart [] (four ++ x) (mark kind.Indent ∷ ls)) (sym o.is) (begin (subst (λ x. Opens x) o.is o) (subst (λ x. InLine (4 ∷ []) 0 x ls) o.is later))
  where
    begin : Opens (o.first ∷ o.rest) → InLine (4 ∷ []) 0 (o.first ∷ o.rest) ls → AtStart [] (four ++ o.first ∷ o.rest) (mark kind.Indent ∷ ls)
    begin p rest scan is =
        let t = o.first ∷ o.rest in
        let mid = margined 4 four (four ++ t) scan in
        let span = span_at 0 4 (four ++ t) scan in
        let after : Scan = after_of (deeper span 4 four false t mid) mid in
        quiet scan (four ++ t) (record { tokens = []; after = mid; rest = t }) [] (mark kind.Indent ∷ ls) some_text
        (ap (λ q. turn_at q (four ++ t) scan) is.start ∙ deep_turn o.first o.rest scan o.a_letter) refl (λ more. refl)
        (quiet mid t (record { tokens = at_margin kind.Indent (record { span = span; column = 4; filling = filling_of four; ends_block = false }) ∷ []; after = after; rest = t }) (mark kind.Indent ∷ []) ls some_text
        (p.begins span 4 four false t mid ∙ stands span 4 four false t mid [] (clear_deep scan is.plain) is.columns) refl (λ more. refl)
        (rest after (record { line = refl; columns = ap (λ c. c ++ 4 ∷ []) is.columns; plain = plain_deep scan is.plain; openers = ap length is.openers })))

-- a later line of a block
pub block_line : {text : List ℕ} {ls : List Lexeme} → Opens text → InLine (4 ∷ []) 0 text ls → AtStart (4 ∷ []) (four ++ text) ls
block_line {text} {ls} o later = subst (λ x. AtStart (4 ∷ []) (four ++ x) ls) (sym o.is) (begin (subst (λ x. Opens x) o.is o) (subst (λ x. InLine (4 ∷ []) 0 x ls) o.is later))
  where
    begin : Opens (o.first ∷ o.rest) → InLine (4 ∷ []) 0 (o.first ∷ o.rest) ls → AtStart (4 ∷ []) (four ++ o.first ∷ o.rest) ls
    begin p rest scan is =
        let t = o.first ∷ o.rest in
        let mid = margined 4 four (four ++ t) scan in
        let span = span_at 0 4 (four ++ t) scan in
        let after : Scan = within_line (record { span = span; column = 4; filling = filling_of four; ends_block = false }) mid in
        quiet scan (four ++ t) (record { tokens = []; after = mid; rest = t }) [] ls some_text
        (ap (λ q. turn_at q (four ++ t) scan) is.start ∙ deep_turn o.first o.rest scan o.a_letter) refl (λ more. refl)
        (quiet mid t (record { tokens = []; after = after; rest = t }) [] ls some_text
        (p.begins span 4 four false t mid ∙ stands span 4 four false t mid (4 ∷ []) (clear_deep scan is.plain) is.columns) refl (λ more. refl)
        (rest after (record { line = refl; columns = is.columns; plain = plain_deep scan is.plain; openers = ap length is.openers })))

-- a blank line
pub blank_line : {cols : List ℕ} {text : List ℕ} {ls : List Lexeme} → AtStart cols text ls → AtStart cols (10 ∷ text) ls
blank_line {cols} {text} {ls} later scan is =
    let t = 10 ∷ text in
    let mid = margined 0 [] t scan in
    let after : Scan = on_start (past 1 t mid) in
    quiet scan t (record { tokens = []; after = mid; rest = t }) [] ls some_text (ap (λ q. turn_at q t scan) is.start) refl (λ more. refl)
    (quiet mid t (record { tokens = []; after = after; rest = text }) [] ls some_text refl refl (λ more. refl)
    (later after (record { start = refl; columns = is.columns; plain = is.plain; openers = is.openers })))
