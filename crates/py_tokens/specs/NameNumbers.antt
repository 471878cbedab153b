-- Which numbers the names among tokens have.
use Rattle.std.specs.Prelude.{◌≡◌, ℕ, ◌<◌, List, slice_get, Some}
use Rattle.std.specs.Prelude.{option_map}
use Rattle.py_tokens.specs.declared.token.Token.{Token}
use Rattle.py_tokens.specs.declared.token.TokenKind.TheVariants as kind

-- The names among some tokens have numbers below this one.
abbrev pub NamesBelow : ℕ → List Token → Type 0
NamesBelow count tokens = (place n : ℕ) → option_map (λ token. token.kind) (slice_get tokens place) ≡ Some (kind.Name n) → n < count
