-- Which words are accepted: `infer FILE`.
use Rattle.std.specs.Prelude.{◌≡◌, ◌≢◌, ℕ, List, [], ◌∷◌, map, codes, String}
use Rattle.std.specs.String.{string_bytes}

-- A file's name isn't empty. Where it has more than one byte, it doesn't begin with `-`.
abbrev pub IsFileName : List ℕ → Type 0
IsFileName [] = ⊥
IsFileName (first ∷ []) = Unit {0}
IsFileName (first ∷ second ∷ more) = first ≢ 45

-- The words are accepted, and name this file.
pub record Accepts (words : List (List ℕ)) (file : List ℕ) : Type 0 where
  pub words_are : words ≡ codes "infer" ∷ file ∷ []
  pub is_name : IsFileName file

-- the texts of the words that a program is called with
abbrev pub texts_of : {A : Type 0} → List (String A) → List (List ℕ)
texts_of words = map string_bytes words

-- no file makes the words accepted
abbrev pub IsUnaccepted : List (List ℕ) → Type 0
IsUnaccepted words = (file : List ℕ) → Accepts words file → ⊥
