-- Names that the profile treats apart.
use Rattle.std.specs.Prelude.{◌≡◌, ℕ, ◌&&◌, Bool, true, false, not, nat_eq, List, [], codes, slice_get, Option, Some, None, IsTrue}
use Rattle.std.specs.List.{starts_with, ends_with}
use Rattle.std.specs.Str.{bytes_eq}
use Rattle.py_tokens.specs.declared.token.TokenKind.TheVariants as kind
use Rattle.py_grammar.specs.Cursor.{Cursor, next}

abbrev pub text_in : Option (List ℕ) → List ℕ
text_in None = []
text_in (Some text) = text

-- the text of a name
abbrev pub text_of : Cursor → ℕ → List ℕ
text_of c n = text_in (slice_get c.names n)

-- two underscores stand at both ends, and the name is not `__init__` (language reference, "Special method names")
abbrev pub is_special : List ℕ → Bool
is_special text = starts_with nat_eq text (codes "__") && (ends_with nat_eq text (codes "__") && not (bytes_eq text (codes "__init__")))

-- two underscores stand at the start and not at the end (language reference, "Private name mangling")
abbrev pub is_private : List ℕ → Bool
is_private text = starts_with nat_eq text (codes "__") && not (ends_with nat_eq text (codes "__"))

abbrev pub is_super : List ℕ → Bool
is_super text = bytes_eq text (codes "super")

-- The next token is this name, in a class no private one.
pub record IsName (c : Cursor) (n : ℕ) : Type 0 where
  pub begins : next c ≡ Some (kind.Name n)
  pub allowed : (c.in_class && is_private (text_of c n)) ≡ false

-- a name that is no special one: after a `.`, or as a member of a class
pub record IsPlainName (c : Cursor) (n : ℕ) : Type 0 where
  pub name : IsName c n
  pub plain : is_special (text_of c n) ≡ false

-- a name as an expression or a target: `super` alone is none
pub record IsVariable (c : Cursor) (n : ℕ) : Type 0 where
  pub name : IsName c n
  pub ordinary : is_super (text_of c n) ≡ false
