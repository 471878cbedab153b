-- How words, operators and spaces are read within a line.
use Rattle.std.proofs.Common.{◌≡◌, ℕ, ◌+◌, ◌-◌, ◌<◌, ◌==◌, Bool, true, false, ◌||◌, ◌&&◌, List, [], ◌∷◌, ◌++◌, length, drop, None, Some, refl, sym, ap, ◌∙◌, subst, arith, lit<, length-append, length-take}
use Rattle.std.specs.Char.{is_ascii_alphabetic}
use Rattle.std.specs.Cmp.Lexicographic.{bytes_decides}
use Rattle.std.specs.List.{list_all}
use Rattle.std.specs.Str.{IsAscii, bytes_eq}
use Rattle.std.proofs.Math.Seq.{take-append_seam}
use Rattle.std.proofs.lemmas.Str.{chars-IsAscii, chars-nil, IsUtf8-from_ascii}
use Rattle.std.proofs.lemmas.Str.Ascii.{IsAscii-nil, IsAscii-cons, All-from_ascii}
use Rattle.std.proofs.lemmas.Bool.Decides.{nat_tests}
use Rattle.unicode_ident.specs.Ident.{is_xid_continue}
use Rattle.unicode_ident.proofs.IdentLemmas.{is_xid_start-ascii, is_xid_continue-ascii}
use Rattle.unicode_normalization.specs.Forms.{Nfkc, normalize}
use Rattle.unicode_normalization.proofs.FormsLemmas.{normalize-ascii}
use Rattle.place_ids.specs.declared.Span.{Span}
use Rattle.py_tokens.specs.declared.token.Keyword.{Keyword}
use Rattle.py_tokens.specs.declared.token.Op.{Op}
use Rattle.py_tokens.specs.declared.token.Op.TheVariants as variant
use Rattle.py_tokens.specs.declared.token.TokenKind.TheVariants as kind
use Rattle.py_tokens.specs.Bytes.{is_name_byte, is_space_byte}
use Rattle.py_tokens.specs.Fronts.{front_of}
use Rattle.py_tokens.specs.Keywords.{keyword_of}
use Rattle.py_tokens.specs.Scans.{Scan}
use Rattle.py_tokens.specs.Turns.{line_turn, token_turn, passes, openers_after}
use Rattle.py_tokens.specs.Words.{begins_word, may_begin_word, first_passes}
use Rattle.pyi_write.specs.Lexemes.{Lexeme, name, op, word, op_bracket, open_behind}
use Rattle.pyi_write.specs.NormalStubs.{IsIdentifier}
use Rattle.pyi_write.proofs.Lexing.{InLine, on_line, in_token, in_space, in_name}
use Rattle.pyi_write.proofs.Words.{IsWord, a_word, ends, letter, chars_ascii, first_letter, and_first, and_second, dot_no, no_space, no_digit, word_branch, begins_too, front_is, dropped, keyword_turn, name_turn_is}

-- ---- words

pub no_word_is_empty : IsWord [] → ⊥
no_word_is_empty is = let none : first_passes may_begin_word [] ≡ true = sym (ap (first_passes may_begin_word) chars-nil) ∙ is.begins in absurd (cc)

pub identifier_reads : {cols : List ℕ} {n : ℕ} {rest : List ℕ} {ls : List Lexeme} (w : List ℕ) → IsIdentifier w → ends rest ≡ true → InLine cols n rest ls → InLine cols n (w ++ rest) (name w ∷ ls)
identifier_reads [] is end later = absurd (no_word_is_empty (a_word is))
identifier_reads {rest = rest} (b ∷ bs) is end later =
    let w = a_word is in
    let branch = word_branch b (first_letter b bs is.begins) (bs ++ rest) (begins_too (b ∷ bs) rest w end) in
    in_name (length (b ∷ bs)) (name_turn_is (b ∷ bs) rest w end is.free (front_is (b ∷ bs) rest w end branch)) (take-append_seam (b ∷ bs) rest) (dropped (b ∷ bs) rest w end) later

pub keyword_reads : {cols : List ℕ} {n : ℕ} {rest : List ℕ} {ls : List Lexeme} (k : Keyword) (w : List ℕ) → IsWord w → keyword_of w ≡ Some k → ends rest ≡ true → InLine cols n rest ls → InLine cols n (w ++ rest) (word k ∷ ls)
keyword_reads k [] is says end later = absurd (no_word_is_empty is)
keyword_reads {rest = rest} k (b ∷ bs) is says end later =
    let branch = word_branch b (first_letter b bs is.begins) (bs ++ rest) (begins_too (b ∷ bs) rest is end) in
    in_token (kind.Keyword k) (length (b ∷ bs)) (keyword_turn (b ∷ bs) rest is end k says (front_is (b ∷ bs) rest is end branch)) (dropped (b ∷ bs) rest is end) (λ names. refl) (λ span os h. h) later

-- ---- words of ASCII

abbrev pub starts_word : List ℕ → Bool
starts_word [] = false
starts_word (b ∷ bs) = is_ascii_alphabetic b || b == 95

name_low : (b : ℕ) → is_name_byte b ≡ true → b < 128
name_low b h = grind (arith, nat_tests)

start_low : (b : ℕ) → (is_ascii_alphabetic b || b == 95) ≡ true → b < 128
start_low b h = grind (arith, nat_tests)

word_ascii : (w : List ℕ) → list_all is_name_byte w ≡ true → IsAscii w
word_ascii [] h = IsAscii-nil
word_ascii (b ∷ bs) h = IsAscii-cons b bs (name_low b (and_first (is_name_byte b) (list_all is_name_byte bs) h)) (word_ascii bs (and_second (is_name_byte b) (list_all is_name_byte bs) h))

word_continues : (w : List ℕ) → list_all is_name_byte w ≡ true → list_all is_xid_continue w ≡ true
word_continues [] h = refl
word_continues (b ∷ bs) h =
    let first = and_first (is_name_byte b) (list_all is_name_byte bs) h in
    ap (λ t. t && list_all is_xid_continue bs) (is_xid_continue-ascii b (name_low b first) ∙ first) ∙ word_continues bs (and_second (is_name_byte b) (list_all is_name_byte bs) h)

word_begins : (w : List ℕ) → starts_word w ≡ true → begins_word w ≡ true
word_begins [] h = absurd (cc)
word_begins (b ∷ bs) h =
    let low = start_low b h in
    ap (first_passes may_begin_word) (chars_ascii b bs low) ∙ ap (λ t. t || b == 95) (is_xid_start-ascii b low) ∙ h

pub ascii_word : (w : List ℕ) → list_all is_name_byte w ≡ true → starts_word w ≡ true → IsWord w
ascii_word w each starts =
    let ascii = word_ascii w each in
    let same = chars-IsAscii w ascii in
    record {
      utf8 = IsUtf8-from_ascii w ascii;
      begins = word_begins w starts;
      goes_on = ap (list_all is_xid_continue) same ∙ word_continues w each;
      normal = ap (λ cs. bytes_eq (normalize Nfkc cs) cs) same ∙ (bytes_decides (normalize Nfkc w) w).1 (normalize-ascii Nfkc w (All-from_ascii w ascii));
    }

pub ascii_identifier : (w : List ℕ) → list_all is_name_byte w ≡ true → starts_word w ≡ true → keyword_of w ≡ None → IsIdentifier w
ascii_identifier w each starts free =
    let is = ascii_word w each starts in
    record { utf8 = is.utf8; begins = is.begins; goes_on = is.goes_on; normal = is.normal; free = free }

-- ---- texts that begin with a letter

pub record Starts (text : List ℕ) : Type 0 where
  pub first : ℕ
  pub rest : List ℕ
  pub is : text ≡ first ∷ rest
  pub a_letter : letter first ≡ true

pub starts_more : (text more : List ℕ) → Starts text → Starts (text ++ more)
starts_more text more s = record { first = s.first; rest = s.rest ++ more; is = ap (λ x. x ++ more) s.is; a_letter = s.a_letter }

pub identifier_starts : (w : List ℕ) → IsIdentifier w → Starts w
identifier_starts [] is = absurd (no_word_is_empty (a_word is))
identifier_starts (b ∷ bs) is = record { first = b; rest = bs; is = refl; a_letter = first_letter b bs is.begins }

space_front : (b : ℕ) (bs : List ℕ) → is_space_byte b ≡ false → (scan : Scan) → line_turn (front_of (32 ∷ b ∷ bs)) (32 ∷ b ∷ bs) scan ≡ passes [] 1 (on_line scan).place (32 ∷ b ∷ bs) scan
space_front b bs h scan = simp h

pub space_before : {cols : List ℕ} {n : ℕ} {ls : List Lexeme} (b : ℕ) (bs : List ℕ) → is_space_byte b ≡ false → InLine cols n (b ∷ bs) ls → InLine cols n (32 ∷ b ∷ bs) ls
space_before b bs h later = in_space 1 (space_front b bs h) refl later

pub space_reads : {cols : List ℕ} {n : ℕ} {text : List ℕ} {ls : List Lexeme} → Starts text → InLine cols n text ls → InLine cols n (32 ∷ text) ls
space_reads {cols} {n} {text} {ls} s later =
    subst (λ x. InLine cols n (32 ∷ x) ls) (sym s.is) (in_space 1 (space_front s.first s.rest (no_space s.first s.a_letter)) refl (subst (λ x. InLine cols n x ls) s.is later))

-- ---- operators

no_word : (b : ℕ) (bs : List ℕ) → b < 128 → (is_ascii_alphabetic b || b == 95) ≡ false → begins_word (b ∷ bs) ≡ false
no_word b bs low h = ap (first_passes may_begin_word) (chars_ascii b bs low) ∙ ap (λ t. t || b == 95) (is_xid_start-ascii b low) ∙ h

opened : (o : Op) (n : ℕ) (span : Span) (os : List Span) → length os ≡ n → length (openers_after (kind.Op o) span os) ≡ open_behind (op_bracket o) n
opened variant.LeftParen n span os h = omega (arith, length-append os (span ∷ []), h)
opened variant.LeftSquare n span os h = omega (arith, length-append os (span ∷ []), h)
opened variant.LeftBrace n span os h = omega (arith, length-append os (span ∷ []), h)
opened variant.RightParen n span os h = omega (arith, length-take (length os - 1) os, h)
opened variant.RightSquare n span os h = omega (arith, length-take (length os - 1) os, h)
opened variant.RightBrace n span os h = omega (arith, length-take (length os - 1) os, h)
opened _ n span os h = h

op_reads : {cols : List ℕ} {n : ℕ} {b : ℕ} {bs rest : List ℕ} {ls : List Lexeme} (o : Op) (size : ℕ) → ((scan : Scan) → line_turn (front_of (b ∷ bs)) (b ∷ bs) scan ≡ token_turn (kind.Op o) size (b ∷ bs) scan) → drop size (b ∷ bs) ≡ rest →
    InLine cols (open_behind (op_bracket o) n) rest ls → InLine cols n (b ∷ bs) (op o ∷ ls)
op_reads {n = n} o size stands rest_is later = in_token (kind.Op o) size stands rest_is (λ names. refl) (opened o n) later

module _ {cols : List ℕ} {n : ℕ} {rest : List ℕ} {ls : List Lexeme} where
  pub open_square : InLine cols (n + 1) rest ls → InLine cols n (91 ∷ rest) (op variant.LeftSquare ∷ ls)
  open_square later = op_reads variant.LeftSquare 1 (λ scan. let h = no_word 91 rest (lit< tt) refl in simp h) refl later

  pub close_square : InLine cols (n - 1) rest ls → InLine cols n (93 ∷ rest) (op variant.RightSquare ∷ ls)
  close_square later = op_reads variant.RightSquare 1 (λ scan. let h = no_word 93 rest (lit< tt) refl in simp h) refl later

  pub open_paren : InLine cols (n + 1) rest ls → InLine cols n (40 ∷ rest) (op variant.LeftParen ∷ ls)
  open_paren later = op_reads variant.LeftParen 1 (λ scan. let h = no_word 40 rest (lit< tt) refl in simp h) refl later

  pub close_paren : InLine cols (n - 1) rest ls → InLine cols n (41 ∷ rest) (op variant.RightParen ∷ ls)
  close_paren later = op_reads variant.RightParen 1 (λ scan. let h = no_word 41 rest (lit< tt) refl in simp h) refl later

  pub comma : InLine cols n rest ls → InLine cols n (44 ∷ rest) (op variant.Comma ∷ ls)
  comma later = op_reads variant.Comma 1 (λ scan. let h = no_word 44 rest (lit< tt) refl in simp h) refl later

  pub dots : InLine cols n rest ls → InLine cols n (46 ∷ 46 ∷ 46 ∷ rest) (op variant.Ellipsis ∷ ls)
  dots later = op_reads variant.Ellipsis 3 (λ scan. let h = no_word 46 (46 ∷ 46 ∷ rest) (lit< tt) refl in simp h) refl later

  pub assign : InLine cols n (46 ∷ rest) ls → InLine cols n (61 ∷ 46 ∷ rest) (op variant.Assign ∷ ls)
  assign later = op_reads variant.Assign 1 (λ scan. let h = no_word 61 (46 ∷ rest) (lit< tt) refl in simp h) refl later

  pub colon_space : InLine cols n (32 ∷ rest) ls → InLine cols n (58 ∷ 32 ∷ rest) (op variant.Colon ∷ ls)
  colon_space later = op_reads variant.Colon 1 (λ scan. let h = no_word 58 (32 ∷ rest) (lit< tt) refl in simp h) refl later

  pub colon_end : InLine cols n (10 ∷ rest) ls → InLine cols n (58 ∷ 10 ∷ rest) (op variant.Colon ∷ ls)
  colon_end later = op_reads variant.Colon 1 (λ scan. let h = no_word 58 (10 ∷ rest) (lit< tt) refl in simp h) refl later

  pub arrow : InLine cols n rest ls → InLine cols n (45 ∷ 62 ∷ rest) (op variant.Arrow ∷ ls)
  arrow later = op_reads variant.Arrow 2 (λ scan. let h = no_word 45 (62 ∷ rest) (lit< tt) refl in simp h) refl later

dot_front : (b : ℕ) (bs : List ℕ) → letter b ≡ true → (scan : Scan) → line_turn (front_of (46 ∷ b ∷ bs)) (46 ∷ b ∷ bs) scan ≡ token_turn (kind.Op variant.Dot) 1 (46 ∷ b ∷ bs) scan
dot_front b bs is scan =
    let plain = no_word 46 (b ∷ bs) (lit< tt) refl in
    let digit = no_digit b is in
    let another = dot_no b is in
    simp (plain, digit, another)

pub dot : {cols : List ℕ} {n : ℕ} {text : List ℕ} {ls : List Lexeme} → Starts text → InLine cols n text ls → InLine cols n (46 ∷ text) (op variant.Dot ∷ ls)
dot {cols} {n} {text} {ls} s later =
    subst (λ x. InLine cols n (46 ∷ x) (op variant.Dot ∷ ls)) (sym s.is) (op_reads variant.Dot 1 (dot_front s.first s.rest s.a_letter) refl (subst (λ x. InLine cols n x ls) s.is later))
