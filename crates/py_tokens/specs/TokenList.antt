-- What is seen of the tokens of a text.
use Rattle.std.specs.Prelude.{ℕ, List}
use Rattle.py_tokens.specs.declared.token.Token.{Token}

-- the tokens in their order, and the names that they number
pub record TokenList : Type 0 where
  pub tokens : List Token
  pub names : List (List ℕ)
