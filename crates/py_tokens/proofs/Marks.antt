-- What follows the mark at the start of a text.
use Rattle.std.proofs.Common.{◌≡◌, ℕ, Bool, true, cond, List, [], ◌∷◌, ◌++◌, drop, length, ◌≤◌, arith, encode_utf8, encode_utf8_all, false, ◌==◌, length-append, refl, sym, ap, ◌∙◌}
use Rattle.std.specs.Str.{chars, IsUtf8}
use Rattle.std.proofs.lemmas.Bool.Decides.{nat_tests}
use Rattle.std.proofs.lemmas.List.{drop_at}
use Rattle.std.proofs.lemmas.Str.{chars_past_char, length-encode, encodes-chars}
use Rattle.py_tokens.specs.Scans.{mark_len}
use Rattle.py_tokens.specs.Fronts.{begins_with}

pub after_mark : (text rest : List ℕ) (c : ℕ) → IsUtf8 text → text ≡ encode_utf8 c ++ rest → c ≡ 65279 → rest ≡ drop (mark_len text) text
after_mark text rest c utf8 whole is =
    let first : chars text ≡ c ∷ chars rest = chars_past_char text rest c utf8 whole in
    let marked : begins_with 65279 (chars text) ≡ true = ap (begins_with 65279) (first ∙ ap (λ d. d ∷ chars rest) is) in
    let three : mark_len text ≡ 3 = ap (λ t. cond t 3 0) marked in
    let mark : text ≡ encode_utf8 65279 ++ rest = whole ∙ ap (λ d. encode_utf8 d ++ rest) is in
    sym (ap (λ n. drop n text) three ∙ ap (drop 3) mark ∙ drop_at (encode_utf8 65279) rest 3 (length-encode 65279))

marked : (text : List ℕ) (c : ℕ) (cs : List ℕ) (t : Bool) → IsUtf8 text → chars text ≡ c ∷ cs → (c == 65279) ≡ t → cond t 3 0 ≤ length text
marked text c cs true utf8 is same =
    let mark : c ≡ 65279 = grind (arith, nat_tests) in
    let whole : text ≡ encode_utf8 c ++ encode_utf8_all cs = sym (encodes-chars text utf8) ∙ ap encode_utf8_all is in
    omega (arith, ap length whole, length-append (encode_utf8 c) (encode_utf8_all cs), ap (λ d. length (encode_utf8 d)) mark, length-encode 65279)
marked text c cs false utf8 is same = omega arith

-- a mark lies within its text
pub mark_within : (text : List ℕ) → IsUtf8 text → mark_len text ≤ length text
mark_within text utf8 = by_chars (chars text) refl
  where
    by_chars : (cs : List ℕ) → chars text ≡ cs → cond (begins_with 65279 cs) 3 0 ≤ length text
    by_chars [] is = omega arith
    by_chars (c ∷ cs) is = marked text c cs (c == 65279) utf8 is refl
