-- How long the word at the front of a text is, and what its first character passes.
use Rattle.std.proofs.Common.{◌≡◌, ℕ, ◌+◌, ◌<◌, ◌≤◌, Bool, true, false, not, cond, List, [], ◌∷◌, ◌++◌, length, take, drop, nat_le, encode_utf8_all, chars, Option, None, Some, MatchOption, MatchBool, refl, sym, ap, ◌∙◌, subst, arith, length-append, append-nil}
use Rattle.std.specs.Char.{IsScalar, encode_utf8}
use Rattle.std.specs.List.{list_all, prefix_len}
use Rattle.std.specs.Option.{unwrap_or}
use Rattle.std.specs.Str.{IsUtf8, IsCharBoundary, NonePass, NoCharPasses, all_scalars}
use Rattle.std.specs.Str.Pattern.{FindsBy, FindsPrefixBy}
use Rattle.std.proofs.Math.Seq.{take-append-add}
use Rattle.std.proofs.lemmas.List.{take-append-drop, length-take-le}
use Rattle.std.proofs.lemmas.Bool.Decides.{nat_tests}
use Rattle.std.proofs.lemmas.Str.{chars-append, chars-IsAscii, chars-nil, chars_from_encodes, chars_past_char, encodes-append, encodes-chars, scalars-chars, encode_ascii, IsUtf8-take, IsUtf8-drop, IsCharBoundary-from_take}
use Rattle.unicode_ident.specs.Ident.{is_xid_continue}
use Rattle.unicode_ident.proofs.IdentLemmas.{is_xid_continue-ascii}
use Rattle.py_tokens.specs.Bytes.{is_name_byte, Stops}
use Rattle.py_tokens.specs.Words.{word_len, first_passes}
use Rattle.py_tokens.proofs.Classes.{and_parts, both_true, name_below, name_ascii, name_utf8}
use Rattle.py_tokens.proofs.RunLemmas.{run_each, run_stops, run_length}

not_false : (b : Bool) → not b ≡ false → b ≡ true
not_false true h = refl
not_false false h = absurd (cc)

not_true : (b : Bool) → not b ≡ true → b ≡ false
not_true true h = absurd (cc)
not_true false h = refl

-- a run goes on over what follows it
prefix_plus : (p : ℕ → Bool) (cs ds : List ℕ) → list_all p cs ≡ true → prefix_len p (cs ++ ds) ≡ length cs + prefix_len p ds
prefix_plus p [] ds each = omega arith
prefix_plus p (c ∷ cs) ds each =
    let parts = and_parts (p c) (list_all p cs) each in
    ap (λ b. cond b (1 + prefix_len p (cs ++ ds)) 0) parts.0 ∙ omega (arith, prefix_plus p cs ds parts.1)

-- the word at the front goes on over what follows letters
word_plus : (text front rest : List ℕ) → IsUtf8 front → text ≡ front ++ rest → list_all is_xid_continue (chars front) ≡ true → word_len text ≡ length front + word_len rest
word_plus text front rest utf8 whole each =
    let cs = chars front in
    let ds = chars rest in
    let n = prefix_len is_xid_continue ds in
    let taken : take (prefix_len is_xid_continue (cs ++ ds)) (cs ++ ds) ≡ cs ++ take n ds = ap (λ k. take k (cs ++ ds)) (prefix_plus is_xid_continue cs ds each) ∙ take-append-add cs ds n in
    ap (λ x. length (encode_utf8_all (take (prefix_len is_xid_continue x) x))) (ap chars whole ∙ chars-append front rest utf8)
    ∙ ap (λ x. length (encode_utf8_all x)) taken ∙ ap length (encodes-append cs (take n ds)) ∙ length-append (encode_utf8_all cs) (encode_utf8_all (take n ds))
    ∙ ap (λ x. length x + length (encode_utf8_all (take n ds))) (encodes-chars front utf8)

-- where the first character may not stand in a word, there is none
word_none : (rest : List ℕ) → Stops is_xid_continue (chars rest) → word_len rest ≡ 0
word_none rest stops = ap (λ n. length (encode_utf8_all (take n (chars rest)))) (run_length is_xid_continue [] (chars rest) refl stops)

-- the word ends where its letters do
word_whole : (text front rest : List ℕ) → IsUtf8 front → text ≡ front ++ rest → list_all is_xid_continue (chars front) ≡ true → Stops is_xid_continue (chars rest) → word_len text ≡ length front
word_whole text front rest utf8 whole each stops = omega (arith, word_plus text front rest utf8 whole each, word_none rest stops)

-- ---- a search for the first character that is no letter

abbrev pub no_letter : ℕ → Bool
no_letter c = not (is_xid_continue c)

none_all : (cs : List ℕ) → NonePass no_letter cs → list_all is_xid_continue cs ≡ true
none_all [] h = refl
none_all (c ∷ cs) h = both_true (is_xid_continue c) (list_all is_xid_continue cs) (not_false (is_xid_continue c) h.0) (none_all cs h.1)

all_letters : (text : List ℕ) → IsUtf8 text → NoCharPasses no_letter text → list_all is_xid_continue (chars text) ≡ true
all_letters text utf8 none = subst (λ cs. list_all is_xid_continue cs ≡ true) (chars_from_encodes none.0 text utf8 none.1) (none_all none.0 none.2)

-- what `find` gives is the length of the word
pub word_found : (Meets : (ℕ → Bool) → Type 0) (text : List ℕ) (o : Option ℕ) → Meets no_letter → IsUtf8 text →
    MatchOption o ((k : ℕ → Bool) → Meets k → FindsBy k text None)
    (λ i. (j : ℕ) × ((k : ℕ → Bool) → Meets k → FindsBy k text (Some (i, j))) × (i ≤ j) × IsCharBoundary text i × IsCharBoundary text j) →
    unwrap_or o (length text) ≡ word_len text
word_found Meets text None meets utf8 h =
    sym (word_whole text text [] utf8 (sym (append-nil text)) (all_letters text utf8 (h no_letter meets)) (subst (Stops is_xid_continue) (sym chars-nil) tt))
word_found Meets text (Some i) meets utf8 h =
    let at = h.1 no_letter meets in
    let front = take i text in
    let rest = drop i text in
    let first : chars rest ≡ at.1.0 ∷ chars (drop h.0 text) = chars_past_char rest (drop h.0 text) at.1.0 (IsUtf8-drop text i utf8 h.3) at.1.2.split in
    let front_utf8 = IsUtf8-take text i utf8 h.3 in
    let stops : Stops is_xid_continue (chars rest) = subst (Stops is_xid_continue) (sym first) (not_true (is_xid_continue at.1.0) at.1.1) in
    sym (word_whole text front rest front_utf8 (sym (take-append-drop i text)) (all_letters front front_utf8 at.0) stops ∙ length-take-le i text h.3.0)

-- ---- ASCII at the front

names_continue : (word : List ℕ) → list_all is_name_byte word ≡ true → list_all is_xid_continue word ≡ true
names_continue [] h = refl
names_continue (c ∷ cs) h =
    let parts = and_parts (is_name_byte c) (list_all is_name_byte cs) h in
    both_true (is_xid_continue c) (list_all is_xid_continue cs) (is_xid_continue-ascii c (name_below c parts.0) ∙ parts.0) (names_continue cs parts.1)

below_128 : (b : ℕ) → nat_le 128 b ≡ false → b < 128
below_128 b h = grind (arith, nat_tests)

-- an ASCII character that is no letter ends the word
word_ends : (rest : List ℕ) → IsUtf8 rest → first_passes (nat_le 128) rest ≡ false → Stops is_name_byte rest → word_len rest ≡ 0
word_ends [] utf8 ascii stops = word_none [] (subst (Stops is_xid_continue) (sym chars-nil) tt)
word_ends (b ∷ bs) utf8 ascii stops =
    let small : b < 128 = below_128 b ascii in
    let first : chars (b ∷ bs) ≡ b ∷ chars bs = chars_past_char (b ∷ bs) bs b utf8 (ap (λ e. e ++ bs) (sym (encode_ascii b small))) in
    word_none (b ∷ bs) (subst (Stops is_xid_continue) (sym first) (is_xid_continue-ascii b small ∙ stops))

module _ (text : List ℕ) (n : ℕ) (is : n ≡ prefix_len is_name_byte text) where
  front_each : list_all is_name_byte (take n text) ≡ true
  front_each = subst (λ k. list_all is_name_byte (take k text) ≡ true) (sym is) (run_each is_name_byte text)

  -- a text may be cut after its ASCII letters
  pub cut_past_ascii : n ≤ length text → IsUtf8 text → IsCharBoundary text n
  cut_past_ascii within utf8 = IsCharBoundary-from_take text n utf8 within (name_utf8 (take n text) front_each)

  -- the word goes on after its ASCII letters
  pub word_past_ascii : n ≤ length text → word_len text ≡ n + word_len (drop n text)
  word_past_ascii within =
      let front = take n text in
      let letters = subst (λ cs. list_all is_xid_continue cs ≡ true) (sym (chars-IsAscii front (name_ascii front front_each))) (names_continue front front_each) in
      word_plus text front (drop n text) (name_utf8 front front_each) (sym (take-append-drop n text)) letters
      ∙ ap (λ k. k + word_len (drop n text)) (length-take-le n text within)

  -- ASCII letters are the whole word where ASCII or nothing follows them
  pub word_is_ascii : n ≤ length text → (rest : List ℕ) → rest ≡ drop n text → IsUtf8 rest → first_passes (nat_le 128) rest ≡ false → n ≡ word_len text
  word_is_ascii within rest same utf8 ascii =
      let stops : Stops is_name_byte rest = subst (Stops is_name_byte) (ap (λ k. drop k text) (sym is) ∙ sym same) (run_stops is_name_byte text) in
      omega (arith, word_past_ascii within, ap word_len same, word_ends rest utf8 ascii stops)

-- ---- the first character

first_none : (test : ℕ → Bool) (text cs : List ℕ) → ((c : ℕ) (rest : List ℕ) → IsScalar c → text ≡ encode_utf8 c ++ rest → test c ≡ false) → all_scalars cs ≡ true → encode_utf8_all cs ≡ text →
    false ≡ first_passes test cs
first_none test text [] none scalars same = refl
first_none test text (c ∷ cs) none scalars same = sym (none c (encode_utf8_all cs) (and_parts _ (all_scalars cs) scalars).0 (sym same))

-- what `starts_with` says is whether the first character passes
pub first_found : (Meets : (ℕ → Bool) → Type 0) (test : ℕ → Bool) (text : List ℕ) (b : Bool) → Meets test → IsUtf8 text →
    MatchBool b ((n : ℕ) × ((k : ℕ → Bool) → Meets k → FindsPrefixBy k text (Some n)) × IsCharBoundary text n) ((k : ℕ → Bool) → Meets k → FindsPrefixBy k text None) →
    b ≡ first_passes test (chars text)
first_found Meets test text true meets utf8 h =
    let at = h.1 test meets in
    sym (ap (first_passes test) (chars_past_char text (drop h.0 text) at.0 utf8 at.2.split) ∙ at.1)
first_found Meets test text false meets utf8 h = first_none test text (chars text) (h test meets) (scalars-chars text utf8) (encodes-chars text utf8)
