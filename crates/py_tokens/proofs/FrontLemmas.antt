-- What stands at the front of a text has some bytes.
use Rattle.std.proofs.Common.{◌≡◌, ℕ, zero, suc, ◌+◌, ◌<◌, ◌≤◌, Bool, true, false, cond, nat_lt, ◌||◌, inl, inr, ◌==◌, List, [], ◌∷◌, length, take, drop, Option, None, Some, IfSome, encode_utf8, encode_utf8_all, length-append, refl, sym, ap, ◌∙◌, subst, arith}
use Rattle.std.specs.List.{take_while, prefix_len}
use Rattle.std.specs.Str.{chars}
use Rattle.std.specs.Char.{is_ascii_alphanumeric}
use Rattle.std.proofs.lemmas.Str.{length-encode, len_utf8_bounds}
use Rattle.unicode_ident.proofs.IdentLemmas.{is_xid_start-is_xid_continue, is_xid_continue-ascii}
use Rattle.unicode_ident.specs.Ident.{is_xid_start, is_xid_continue}
use Rattle.py_tokens.specs.declared.numeral.FoundNumeral.{FoundNumeral}
use Rattle.std.proofs.lemmas.Bool.{cases_Bool}
use Rattle.std.proofs.lemmas.Bool.Decides.{nat_tests}
use Rattle.py_tokens.specs.declared.token.TokenKind.{TokenKind}
use Rattle.py_tokens.specs.declared.token.Keyword.{Keyword}
use Rattle.py_tokens.specs.declared.front.Front.{Front}
use Rattle.py_tokens.specs.declared.front.Front.TheVariants as front
use Rattle.py_tokens.specs.declared.front.Flaw.{Flaw}
use Rattle.py_tokens.specs.declared.front.Flaw.TheVariants as flaw
use Rattle.py_tokens.specs.declared.literal.Prefix.{Prefix}
use Rattle.py_tokens.specs.declared.literal.Literal.{Literal}
use Rattle.py_tokens.specs.declared.literal.Literal.TheVariants as literal
use Rattle.py_tokens.specs.declared.numeral.Numeral.{Numeral}
use Rattle.py_tokens.specs.declared.numeral.Numeral.TheVariants as numeral
use Rattle.py_tokens.specs.declared.operator.FoundOp.{FoundOp}
use Rattle.py_tokens.specs.Fronts.{width, begins_with_quote, separator_len, line_end_len, closed_front, prefixed_front, named_front, word_front, numeral_front, operator_front, token_front, front_of}
use Rattle.py_tokens.specs.Literals.{literal_of, Lies}
use Rattle.py_tokens.specs.Numerals.{begins, starts_numeral, numeral_of, longest_of}
use Rattle.py_tokens.specs.Keywords.{keyword_of}
use Rattle.py_tokens.specs.Operators.{operator_of}
use Rattle.py_tokens.specs.Words.{is_normal, begins_word, word_len, prefix_of, first_passes, may_begin_word}
use Rattle.py_tokens.proofs.AsciiFronts.{longest_some}
use Rattle.py_tokens.proofs.LiteralLemmas.{IsQuoted, literal_lies}
use Rattle.py_tokens.proofs.OperatorLemmas.{operator_within}

-- a token of some bytes, or a flaw
data IsToken : Front → Type 0 where
  a_name : {n : ℕ} → 0 < n → IsToken (front.Name n)
  a_token : {k : TokenKind} {n : ℕ} → 0 < n → IsToken (front.Token k n)
  a_flaw : {what : Flaw} {from n : ℕ} → IsToken (front.Flawed what from n)

either : (b : Bool) (x y : Front) → (b ≡ true → IsToken x) → (b ≡ false → IsToken y) → IsToken (cond b x y)
either true x y first second = first refl
either false x y first second = second refl

some_true : (n : ℕ) → nat_lt 0 n ≡ true → 0 < n
some_true n h = grind (arith, nat_tests)

quoted : (text : List ℕ) → begins_with_quote text ≡ true → IsQuoted text
quoted [] h = absurd (cc)
quoted (b ∷ bs) h = elim (cases_Bool (b == 34)) [
  | inl is ↦ inl (grind (arith, nat_tests))
  | inr other ↦ inr (grind (arith, nat_tests))
]

prefixed_token : (prefix : Prefix) (len : ℕ) (text : List ℕ) (l : Literal) → 0 < len → IsToken (closed_front prefix len text l)
prefixed_token prefix len text (literal.Closed more empty) some = a_token (omega (arith, some))
prefixed_token prefix len text (literal.Open more) some = a_flaw
prefixed_token prefix len text (literal.Bad at) some = a_flaw

plain_token : (prefix : Prefix) (text : List ℕ) (l : Literal) → Lies text l → IsToken (closed_front prefix 0 text l)
plain_token prefix text (literal.Closed more empty) lies = a_token (omega (arith, lies.0))
plain_token prefix text (literal.Open more) lies = a_flaw
plain_token prefix text (literal.Bad at) lies = a_flaw

prefix_token : (text : List ℕ) (len : ℕ) (p : Option Prefix) → 0 < len → IsToken (prefixed_front text len p)
prefix_token text len None some = a_flaw
prefix_token text len (Some prefix) some = prefixed_token prefix len text (literal_of (drop len text) prefix) some

named_token : (text : List ℕ) (len : ℕ) (k : Option Keyword) → 0 < len → IsToken (named_front text len k)
named_token text len (Some keyword) some = a_token some
named_token text len None some =
    either (begins_with_quote (drop len text)) (prefixed_front text len (prefix_of (take len text))) (front.Name len) (λ h. prefix_token text len (prefix_of (take len text)) some) (λ h. a_name some)

word_token : (text : List ℕ) (len : ℕ) → 0 < len → IsToken (word_front text len)
word_token text len some =
    either (is_normal (take len text)) (named_front text len (keyword_of (take len text))) (front.Flawed flaw.NotNfkc 0 len) (λ h. named_token text len (keyword_of (take len text)) some) (λ h. a_flaw)

numeral_token : (n : Numeral) (len : ℕ) → 0 < len → IsToken (numeral_front n len)
numeral_token (numeral.Int value) len some = a_token some
numeral_token numeral.Wide len some = a_flaw
numeral_token numeral.Float len some = a_token some
numeral_token numeral.Imaginary len some = a_token some
numeral_token numeral.Bad len some = a_flaw

operator_token : (text : List ℕ) (o : Option FoundOp) → IfSome o (λ f. (0 < f.len) × (f.len ≤ length text)) → IsToken (operator_front text o)
operator_token text None within = a_flaw
operator_token text (Some found) within = a_token within.0

bad_or : (b : Bool) (found : FoundNumeral) → (cond b (record { numeral = numeral.Bad; len = found.len }) found).len ≡ found.len
bad_or true found = refl
bad_or false found = refl

numeral_some : (text : List ℕ) → starts_numeral text ≡ true → 0 < (numeral_of text).len
numeral_some text starts = omega (arith, longest_some text starts, bad_or (begins is_xid_continue (chars (drop (longest_of text).len text))) (longest_of text))

begins_continues : (c : ℕ) → may_begin_word c ≡ true → is_xid_continue c ≡ true
begins_continues c h = elim (cases_Bool (is_xid_start c)) [
  | inl starts ↦ is_xid_start-is_xid_continue c starts
  | inr other ↦ (let is : c ≡ 95 = grind (arith, nat_tests) in is_xid_continue-ascii c (omega (arith, is)) ∙ ap (λ d. is_ascii_alphanumeric d || (d == 95)) is)
]

one_letter : (c : ℕ) (cs : List ℕ) (n : ℕ) → 0 < n → 0 < length (encode_utf8_all (take n (c ∷ cs)))
one_letter c cs zero some = absurd (omega (arith, some))
one_letter c cs (suc n) some = omega (arith, length-append (encode_utf8 c) (encode_utf8_all (take n cs)), length-encode c, (len_utf8_bounds c).0)

first_word : (cs : List ℕ) → first_passes may_begin_word cs ≡ true → 0 < length (encode_utf8_all (take_while is_xid_continue cs))
first_word [] h = absurd (cc)
first_word (c ∷ cs) h =
    subst (λ t. 0 < length (encode_utf8_all (take (cond t (1 + prefix_len is_xid_continue cs) 0) (c ∷ cs)))) (sym (begins_continues c h)) (one_letter c cs (1 + prefix_len is_xid_continue cs) (omega arith))

pub word_some : (text : List ℕ) → begins_word text ≡ true → 0 < word_len text
word_some text begins = first_word (chars text) begins

is_token : (text : List ℕ) → IsToken (token_front text)
is_token text =
    either _ _ _ (λ h. plain_token (record { raw = false; bytes = false }) text (literal_of (drop 0 text) (record { raw = false; bytes = false })) (literal_lies text (record { raw = false; bytes = false }) (quoted text h))) (λ h.
    either _ _ _ (λ begins. word_token text (word_len text) (word_some text begins)) (λ h-2.
    either _ _ _ (λ starts. numeral_token (numeral_of text).numeral (numeral_of text).len (numeral_some text starts)) (λ h-3.
    operator_token text (operator_of text) (operator_within text (operator_of text) refl))))

-- What stands at the front of a text: the separator or the line end there, or a token.
pub data Stands (text : List ℕ) : Front → Type 0 where
  a_separator : 0 < separator_len text → Stands text (front.Separator (separator_len text))
  a_line_end : 0 < line_end_len text → Stands text (front.LineEnd (line_end_len text))
  name_stands : {n : ℕ} → 0 < n → Stands text (front.Name n)
  token_stands : {k : TokenKind} {n : ℕ} → 0 < n → Stands text (front.Token k n)
  flaw_stands : {what : Flaw} {from n : ℕ} → Stands text (front.Flawed what from n)

of_token : (text : List ℕ) (f : Front) → IsToken f → Stands text f
of_token text f (a_name some) = name_stands some
of_token text f (a_token some) = token_stands some
of_token text f a_flaw = flaw_stands

way : (text : List ℕ) (b : Bool) (x y : Front) → (b ≡ true → Stands text x) → (b ≡ false → Stands text y) → Stands text (cond b x y)
way text true x y first second = first refl
way text false x y first second = second refl

pub stands : (text : List ℕ) → Stands text (front_of text)
stands text = way text _ _ _ (λ h. a_separator (some_true (separator_len text) h)) (λ h. way text _ _ _ (λ h-2. a_line_end (some_true (line_end_len text) h-2)) (λ h-2. of_token text (token_front text) (is_token text)))

some_width : (text : List ℕ) (f : Front) → Stands text f → 0 < width f
some_width text f (a_separator some) = some
some_width text f (a_line_end some) = some
some_width text f (name_stands some) = some
some_width text f (token_stands some) = some
some_width text f flaw_stands = omega arith

pub front_some : (text : List ℕ) → 0 < width (front_of text)
front_some text = some_width text (front_of text) (stands text)
