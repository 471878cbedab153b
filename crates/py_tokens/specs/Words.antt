-- What a text says as a name: its length, how it may begin, and what it says before a quote.
use Rattle.std.specs.Prelude.{ℕ, Bool, true, false, ◌||◌, ◌==◌, if◌then◌else◌, List, [], ◌∷◌, length, codes, chars, encode_utf8_all, Option, None, Some}
use Rattle.std.specs.List.{take_while}
use Rattle.std.specs.Str.{str_eq_ignore_ascii_case}
use Rattle.unicode_normalization.specs.Forms.{Nfkc, is_in_form}
use Rattle.unicode_ident.specs.Ident.{is_xid_start, is_xid_continue}
use Rattle.py_tokens.specs.declared.literal.Prefix.{Prefix}

-- how many bytes the longest run of characters of XID_Continue at the front of a text has
abbrev pub word_len : List ℕ → ℕ
word_len text = length (encode_utf8_all (take_while is_xid_continue (chars text)))

-- a character that a name may begin with: one of XID_Start, or `_`
abbrev pub may_begin_word : ℕ → Bool
may_begin_word c = is_xid_start c || c == 95

-- whether the first character passes a test
abbrev pub first_passes : (ℕ → Bool) → List ℕ → Bool
first_passes test [] = false
first_passes test (c ∷ cs) = test c

-- whether a text begins with a character that a name may begin with
abbrev pub begins_word : List ℕ → Bool
begins_word text = first_passes may_begin_word (chars text)

-- what a name says before a quote: `r` for raw, `b` for bytes, both in either order, or `u`, in any case
abbrev pub prefix_of : List ℕ → Option Prefix
prefix_of word =
    if str_eq_ignore_ascii_case word (codes "r") then Some (record { raw = true; bytes = false })
    else (if str_eq_ignore_ascii_case word (codes "u") then Some (record { raw = false; bytes = false })
    else (if str_eq_ignore_ascii_case word (codes "b") then Some (record { raw = false; bytes = true })
    else (if str_eq_ignore_ascii_case word (codes "br") || str_eq_ignore_ascii_case word (codes "rb") then Some (record { raw = true; bytes = true })
    else None)))

-- whether a word is in the normal form NFKC
abbrev pub is_normal : List ℕ → Bool
is_normal word = is_in_form Nfkc (chars word)
