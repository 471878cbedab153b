-- Classes of bytes: what is a digit may stand in a name, and what may stand in a name is ASCII.
use Rattle.std.proofs.Common.{◌≡◌, ℕ, ◌<◌, Bool, true, false, ◌&&◌, List, [], ◌∷◌, refl, ap, ◌∙◌, arith}
use Rattle.std.specs.List.{list_all}
use Rattle.std.specs.Str.{IsAscii, IsUtf8}
use Rattle.std.proofs.lemmas.Bool.Decides.{nat_tests}
use Rattle.std.proofs.lemmas.Str.{IsUtf8-from_ascii}
use Rattle.std.proofs.lemmas.Str.Ascii.{IsAscii-nil, IsAscii-cons}
use Rattle.py_tokens.specs.Bytes.{is_name_byte}

pub and_parts : (a b : Bool) → a && b ≡ true → (a ≡ true) × (b ≡ true)
and_parts true b h = (refl, h)
and_parts false b h = absurd (cc)

pub both_true : (a b : Bool) → a ≡ true → b ≡ true → a && b ≡ true
both_true a b h k = ap (λ t. t && b) h ∙ k

pub name_below : (b : ℕ) → is_name_byte b ≡ true → b < 128
name_below b h = grind (arith, nat_tests)

pub name_ascii : (word : List ℕ) → list_all is_name_byte word ≡ true → IsAscii word
name_ascii [] h = IsAscii-nil
name_ascii (c ∷ cs) h =
    let parts = and_parts (is_name_byte c) (list_all is_name_byte cs) h in
    IsAscii-cons c cs (name_below c parts.0) (name_ascii cs parts.1)

-- a word is text
pub name_utf8 : (word : List ℕ) → list_all is_name_byte word ≡ true → IsUtf8 word
name_utf8 word h = IsUtf8-from_ascii word (name_ascii word h)
