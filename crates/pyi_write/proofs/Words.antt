-- What stands at the front of a text that begins with a word.
use Rattle.std.proofs.Common.{◌≡◌, ℕ, suc, ◌+◌, ◌<◌, ◌==◌, inl, inr, Bool, true, false, not, ◌&&◌, ◌||◌, cond, nat_le, nat_lt, List, [], ◌∷◌, ◌++◌, length, take, drop, None, Some, chars, encode_utf8_all, refl, sym, ap, ◌∙◌, arith}
use Rattle.std.specs.Char.{is_ascii_alphabetic, is_ascii_digit}
use Rattle.std.specs.List.{list_all, prefix_len, take_while}
use Rattle.std.specs.Str.{IsUtf8}
use Rattle.std.proofs.Math.Seq.{take-append_seam}
use Rattle.std.proofs.lemmas.Bool.{cases_Bool}
use Rattle.std.proofs.lemmas.Bool.Decides.{nat_tests}
use Rattle.std.proofs.lemmas.List.{drop_at}
use Rattle.std.proofs.lemmas.Str.{chars-append, chars-IsAscii, encodes-chars, IsUtf8-from_ascii}
use Rattle.std.proofs.lemmas.Str.Ascii.{IsAscii-nil, IsAscii-cons}
use Rattle.unicode_ident.specs.Ident.{is_xid_start, is_xid_continue}
use Rattle.unicode_ident.proofs.Computing.{unicode_ident}
use Rattle.unicode_ident.proofs.IdentLemmas.{is_xid_start-ascii, is_xid_continue-ascii}
use Rattle.py_tokens.specs.declared.token.Keyword.{Keyword}
use Rattle.py_tokens.specs.declared.token.TokenKind.TheVariants as kind
use Rattle.py_tokens.specs.Bytes.{is_name_byte, is_space_byte}
use Rattle.py_tokens.specs.Fronts.{front_of, begins_with, begins_with_quote, named_front, word_front}
use Rattle.py_tokens.specs.Keywords.{keyword_of}
use Rattle.place_ids.specs.declared.Span.{Span}
use Rattle.py_tokens.specs.Margins.{filling_of}
use Rattle.py_tokens.specs.Scans.{Scan}
use Rattle.py_tokens.specs.Turns.{line_turn, token_turn, name_turn, blank_turn, begin_turn}
use Rattle.py_tokens.specs.Words.{begins_word, is_normal, may_begin_word, first_passes, word_len}
use Rattle.pyi_write.specs.NormalStubs.{IsIdentifier}

-- what reads as a name or a keyword
pub record IsWord (w : List ℕ) : Type 0 where
  pub utf8 : IsUtf8 w
  pub begins : begins_word w ≡ true
  pub goes_on : list_all is_xid_continue (chars w) ≡ true
  pub normal : is_normal w ≡ true

pub a_word : {w : List ℕ} → IsIdentifier w → IsWord w
a_word is = record { utf8 = is.utf8; begins = is.begins; goes_on = is.goes_on; normal = is.normal }

-- whether a word ends before these bytes
abbrev pub ends : List ℕ → Bool
ends [] = false
ends (b ∷ bs) = nat_lt b 128 && (not (is_name_byte b) && not (b == 34 || b == 39))

-- whether a byte may be the first of a word
abbrev pub letter : ℕ → Bool
letter b = nat_le 128 b || (is_ascii_alphabetic b || b == 95)

pub chars_ascii : (b : ℕ) (bs : List ℕ) → b < 128 → chars (b ∷ bs) ≡ b ∷ chars bs
chars_ascii b bs low =
    let ascii = IsAscii-cons b [] low IsAscii-nil in
    chars-append (b ∷ []) bs (IsUtf8-from_ascii (b ∷ []) ascii) ∙ ap (λ cs. cs ++ chars bs) (chars-IsAscii (b ∷ []) ascii)

not_low : (b : ℕ) → nat_lt b 128 ≡ false → letter b ≡ true
not_low b h = grind (arith, nat_tests)

is_low : (b : ℕ) → nat_lt b 128 ≡ true → b < 128
is_low b h = grind (arith, nat_tests)

ascii_letter : (b : ℕ) → (is_ascii_alphabetic b || b == 95) ≡ true → letter b ≡ true
ascii_letter b h = grind (arith, nat_tests)

pub first_letter : (b : ℕ) (bs : List ℕ) → begins_word (b ∷ bs) ≡ true → letter b ≡ true
first_letter b bs begins = elim (cases_Bool (nat_lt b 128)) [
  | inl low ↦
      let small = is_low b low in
      ascii_letter b (ap (λ t. t || b == 95) (sym (is_xid_start-ascii b small)) ∙ sym (ap (first_passes may_begin_word) (chars_ascii b bs small)) ∙ begins)
  | inr high ↦ not_low b high
]

-- ---- no byte with which something else begins

module _ (b : ℕ) (is : letter b ≡ true) where
  pub no_hash : (b == 35) ≡ false
  no_hash = grind (arith, nat_tests)

  pub no_backslash : (b == 92) ≡ false
  no_backslash = grind (arith, nat_tests)

  pub no_feed : (b == 10) ≡ false
  no_feed = grind (arith, nat_tests)

  pub no_return : (b == 13) ≡ false
  no_return = grind (arith, nat_tests)

  pub no_form_feed : (b == 12) ≡ false
  no_form_feed = grind (arith, nat_tests)

  pub no_quote : (b == 34) ≡ false
  no_quote = grind (arith, nat_tests)

  pub no_tick : (b == 39) ≡ false
  no_tick = grind (arith, nat_tests)

  pub no_dot : (b == 46) ≡ false
  no_dot = grind (arith, nat_tests)

  pub dot_no : (46 == b) ≡ false
  dot_no = grind (arith, nat_tests)

  pub no_blank : (b == 32) ≡ false
  no_blank = grind (arith, nat_tests)

  pub no_tab : (b == 9) ≡ false
  no_tab = grind (arith, nat_tests)

  pub no_space : is_space_byte b ≡ false
  no_space = grind (arith, nat_tests)

  pub no_digit : is_ascii_digit b ≡ false
  no_digit = grind (arith, nat_tests)

  pub word_branch : (bs : List ℕ) → begins_word (b ∷ bs) ≡ true → front_of (b ∷ bs) ≡ word_front (b ∷ bs) (word_len (b ∷ bs))
  word_branch bs begins = simp (no_hash, no_backslash, no_space, no_feed, no_return, no_quote, no_tick, begins)

-- ---- no mark at the start of a text

no_mark_starts : is_xid_start 65279 ≡ false
unfolding unicode_ident
no_mark_starts = refl

the_mark : (c : ℕ) → (c == 65279) ≡ true → c ≡ 65279
the_mark c h = grind (arith, nat_tests)

pub first_unmarked : (cs : List ℕ) → first_passes may_begin_word cs ≡ true → begins_with 65279 cs ≡ false
first_unmarked [] h = refl
first_unmarked (c ∷ cs) h = elim (cases_Bool (c == 65279)) [
  | inl is ↦ (let both : false ≡ true = sym (ap (λ t. t || 65279 == 95) no_mark_starts) ∙ sym (ap may_begin_word (the_mark c is)) ∙ h in absurd (cc))
  | inr other ↦ other
]

-- ---- the whole word

ends_low : (b : ℕ) (bs : List ℕ) → ends (b ∷ bs) ≡ true → b < 128
ends_low b bs h = grind (arith, nat_tests)

ends_name : (b : ℕ) (bs : List ℕ) → ends (b ∷ bs) ≡ true → is_name_byte b ≡ false
ends_name b bs h = grind (arith, nat_tests)

ends_quote : (rest : List ℕ) → ends rest ≡ true → begins_with_quote rest ≡ false
ends_quote [] h = refl
ends_quote (b ∷ bs) h = grind (arith, nat_tests)

first_stops : (rest : List ℕ) → ends rest ≡ true → prefix_len is_xid_continue (chars rest) ≡ 0
first_stops [] h = absurd (cc)
first_stops (b ∷ bs) h =
    let low = ends_low b bs h in
    ap (prefix_len is_xid_continue) (chars_ascii b bs low)
    ∙ ap (λ t. cond t (1 + prefix_len is_xid_continue (chars bs)) 0) (is_xid_continue-ascii b low ∙ ends_name b bs h)

pub and_first : (a b : Bool) → a && b ≡ true → a ≡ true
and_first true b h = refl
and_first false b h = absurd (cc)

pub and_second : (a b : Bool) → a && b ≡ true → b ≡ true
and_second true b h = h
and_second false b h = absurd (cc)

take_whole : (p : ℕ → Bool) (cs ds : List ℕ) → list_all p cs ≡ true → prefix_len p ds ≡ 0 → take_while p (cs ++ ds) ≡ cs
take_whole p [] ds all stops = ap (λ n. take n ds) stops
take_whole p (c ∷ cs) ds all stops =
    let next : 1 + prefix_len p (cs ++ ds) ≡ suc (prefix_len p (cs ++ ds)) = omega arith in
    ap (λ t. take (cond t (1 + prefix_len p (cs ++ ds)) 0) (c ∷ cs ++ ds)) (and_first (p c) (list_all p cs) all)
    ∙ ap (λ n. take n (c ∷ cs ++ ds)) next ∙ ap (λ xs. c ∷ xs) (take_whole p cs ds (and_second (p c) (list_all p cs) all) stops)

module _ (w rest : List ℕ) (is : IsWord w) (end : ends rest ≡ true) where
  whole_chars : chars (w ++ rest) ≡ chars w ++ chars rest
  whole_chars = chars-append w rest is.utf8

  word_length : word_len (w ++ rest) ≡ length w
  word_length =
      ap (λ cs. length (encode_utf8_all (take_while is_xid_continue cs))) whole_chars
      ∙ ap (λ cs. length (encode_utf8_all cs)) (take_whole is_xid_continue (chars w) (chars rest) is.goes_on (first_stops rest end))
      ∙ ap length (encodes-chars w is.utf8)

  first_too : (cs ds : List ℕ) → first_passes may_begin_word cs ≡ true → first_passes may_begin_word (cs ++ ds) ≡ true
  first_too [] ds h = absurd (cc)
  first_too (c ∷ cs) ds h = h

  pub begins_too : begins_word (w ++ rest) ≡ true
  begins_too = ap (first_passes may_begin_word) whole_chars ∙ first_too (chars w) (chars rest) is.begins

  pub front_is : front_of (w ++ rest) ≡ word_front (w ++ rest) (word_len (w ++ rest)) → front_of (w ++ rest) ≡ named_front (w ++ rest) (length w) (keyword_of w)
  front_is branch =
      let word = take-append_seam w rest in
      let normal = is.normal in
      branch ∙ ap (word_front (w ++ rest)) word_length ∙ simp (word, normal)

  pub unmarked : begins_with 65279 (chars (w ++ rest)) ≡ false
  unmarked = first_unmarked (chars (w ++ rest)) begins_too

  pub dropped : drop (length w) (w ++ rest) ≡ rest
  dropped = drop_at w rest (length w) refl

  pub keyword_turn : (k : Keyword) → keyword_of w ≡ Some k → front_of (w ++ rest) ≡ named_front (w ++ rest) (length w) (keyword_of w) →
      (scan : Scan) → line_turn (front_of (w ++ rest)) (w ++ rest) scan ≡ token_turn (kind.Keyword k) (length w) (w ++ rest) scan
  keyword_turn k says at scan = ap (λ f. line_turn f (w ++ rest) scan) (at ∙ ap (named_front (w ++ rest) (length w)) says)

  no_quote_behind : begins_with_quote (drop (length w) (w ++ rest)) ≡ false
  no_quote_behind = ap begins_with_quote dropped ∙ ends_quote rest end

  pub name_turn_is : keyword_of w ≡ None → front_of (w ++ rest) ≡ named_front (w ++ rest) (length w) (keyword_of w) →
      (scan : Scan) → line_turn (front_of (w ++ rest)) (w ++ rest) scan ≡ name_turn (length w) (w ++ rest) scan
  name_turn_is says at scan =
      let plain = no_quote_behind in
      ap (λ f. line_turn f (w ++ rest) scan) (at ∙ ap (named_front (w ++ rest) (length w)) says) ∙ simp plain

  pub keyword_begins : (k : Keyword) → keyword_of w ≡ Some k → front_of (w ++ rest) ≡ named_front (w ++ rest) (length w) (keyword_of w) →
      (span : Span) (column : ℕ) (space : List ℕ) (ended : Bool) (text : List ℕ) (scan : Scan) →
      blank_turn (record { span = span; column = column; filling = filling_of space; ends_block = ended }) (front_of (w ++ rest)) text scan
      ≡ begin_turn (record { span = span; column = column; filling = filling_of space; ends_block = ended }) text scan
  keyword_begins k says at span column space ended text scan =
      ap (λ f. blank_turn (record { span = span; column = column; filling = filling_of space; ends_block = ended }) f text scan) (at ∙ ap (named_front (w ++ rest) (length w)) says)

  pub name_begins : keyword_of w ≡ None → front_of (w ++ rest) ≡ named_front (w ++ rest) (length w) (keyword_of w) →
      (span : Span) (column : ℕ) (space : List ℕ) (ended : Bool) (text : List ℕ) (scan : Scan) →
      blank_turn (record { span = span; column = column; filling = filling_of space; ends_block = ended }) (front_of (w ++ rest)) text scan
      ≡ begin_turn (record { span = span; column = column; filling = filling_of space; ends_block = ended }) text scan
  name_begins says at span column space ended text scan =
      let plain = no_quote_behind in
      ap (λ f. blank_turn (record { span = span; column = column; filling = filling_of space; ends_block = ended }) f text scan) (at ∙ ap (named_front (w ++ rest) (length w)) says) ∙ simp plain
