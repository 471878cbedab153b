-- What is still to be written of texts that are joined.
use Rattle.std.proofs.Common.{◌≡◌, ℕ, ◌<◌, ◌==◌, Bool, false, List, [], ◌∷◌, ◌++◌, Bor, codes, map, length, get_or, refl, sym, ap, ◌∙◌, arith, append_assoc}
use Rattle.std.specs.List.{flat_map}
use Rattle.std.proofs.lemmas.Bool.{ne_eqb}
use Rattle.type_terms.specs.declared.term.TypeTerm.{TypeTerm}
use Rattle.type_terms.specs.Texts.{after, joined, is_none, is_optional}
use Rattle.type_terms.specs.View.{term_view, terms_view}
use Rattle.pyi_write.specs.Layout.{typing_line}

-- the rest, where the next text has something before it
abbrev pub rest_of : List ℕ → List (List ℕ) → List ℕ
rest_of before [] = []
rest_of before (x ∷ xs) = before ++ x ++ after xs

pub some_names : (names : List (Bor (List ℕ))) → 0 < length names → codes "from typing import " ++ (joined (map (λ name. name.now) names) ++ codes "\n") ≡ typing_line (map (λ name. name.now) names)
some_names [] h = absurd (omega (arith, h))
some_names (name ∷ names) h = refl

pub flat_append : {X Y : Type 0} (f : X → List Y) (xs ys : List X) → flat_map f (xs ++ ys) ≡ flat_map f xs ++ flat_map f ys
flat_append f [] ys = refl
flat_append f (x ∷ xs) ys = ap (λ zs. f x ++ zs) (flat_append f xs ys) ∙ sym (append_assoc (f x) (flat_map f xs) (flat_map f ys))
