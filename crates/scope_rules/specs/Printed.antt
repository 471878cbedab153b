-- The names that a stub prints of a module: those that get a value other than by import, `def` and `class`, in the order of the
-- bytes of their texts.
use Rattle.std.specs.Prelude.{◌≡◌, ℕ, true, List, [], ◌∷◌, if◌then◌else◌}
use Rattle.std.specs.Cmp.Lexicographic.{slice_cmp}
use Rattle.std.specs.List.Sorted.{IsStrictlySortedBy}
use Rattle.std.specs.Ordering.{nat_cmp, is_lt}
use Rattle.std.specs.declared.cmp.Ordering.{Ordering}
use Rattle.scope_rules.specs.declared.mention.Mention.{Mention}
use Rattle.scope_rules.specs.NameLists.{has_name, text_of}
use Rattle.scope_rules.specs.Named.{named, mentioned}
use Rattle.scope_rules.specs.Roles.{is_value}

-- how the texts of two names compare
abbrev pub text_order : List (List ℕ) → ℕ → ℕ → Ordering
text_order texts n m = slice_cmp nat_cmp (text_of texts n) (text_of texts m)

-- Names are printed: exactly those that get a value so, and each one's text comes before those of the names after it.
pub record ArePrinted (texts : List (List ℕ)) (us : List Mention) (names : List ℕ) : Type 0 where
  pub members : (n : ℕ) → has_name names n ≡ mentioned is_value n us
  pub rise : IsStrictlySortedBy (text_order texts) names

-- No two of the names that get a value have one text.
abbrev pub HaveOwnTexts : List (List ℕ) → List Mention → Type 0
HaveOwnTexts texts us = (n m : ℕ) → mentioned is_value n us ≡ true → mentioned is_value m us ≡ true → text_of texts n ≡ text_of texts m → n ≡ m

-- a name before the first of some names whose text doesn't come before its own
abbrev pub placed : List (List ℕ) → ℕ → List ℕ → List ℕ
placed texts n [] = n ∷ []
placed texts n (m ∷ ms) = if is_lt (text_order texts m n) then m ∷ placed texts n ms else n ∷ m ∷ ms

-- Names in the order of their texts: what is printed, and no other list is (`one_list_is_printed`).
abbrev pub in_order : List (List ℕ) → List ℕ → List ℕ
in_order texts [] = []
in_order texts (n ∷ ns) = placed texts n (in_order texts ns)

abbrev pub printed_of : List (List ℕ) → List Mention → List ℕ
printed_of texts us = in_order texts (named is_value [] us)
