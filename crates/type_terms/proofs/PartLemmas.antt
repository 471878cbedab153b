-- Parts that are put to others, and normal forms of one term more.
use Rattle.std.proofs.Common.{◌≡◌, ℕ, suc, ◌+◌, ◌<◌, List, [], ◌∷◌, ◌++◌, length, get_or, drop, drop-cons, add-one, map, refl, sym, ap, ◌∙◌, append_assoc}
use Rattle.std.proofs.lemmas.List.{map-append}
use Rattle.std.specs.Global.{Vec}
use Rattle.type_terms.specs.declared.term.TypeTerm.{TypeTerm}
use Rattle.type_terms.specs.declared.term.TypeTerm.TheVariants.{Union}
use Rattle.type_terms.proofs.ViewLemmas.{view_union, one_part}
use Rattle.type_terms.specs.Terms.{Term, terms_of, list_of}
use Rattle.type_terms.specs.Normal.{parts, parts_of, IsNormalOf, AreNormalOf}
use Rattle.type_terms.specs.View.{term_view, terms_view}

pub list_of-terms_of : (ts : List Term) → list_of (terms_of ts) ≡ ts
list_of-terms_of [] = refl
list_of-terms_of (t ∷ ts) = ap (λ us. t ∷ us) (list_of-terms_of ts)

append_empty : (us : List Term) → us ++ [] ≡ us
append_empty [] = refl
append_empty (u ∷ us) = ap (λ vs. u ∷ vs) (append_empty us)

pub parts_of-append : (ts : List Term) (t : Term) → parts_of (terms_of (ts ++ t ∷ [])) ≡ parts_of (terms_of ts) ++ parts t
parts_of-append [] t = append_empty (parts t)
parts_of-append (u ∷ us) t = ap (λ vs. parts u ++ vs) (parts_of-append us t) ∙ sym (append_assoc (parts u) (parts_of (terms_of us)) (parts t))

pub added_members : (all new : List TypeTerm) (member : TypeTerm) (members : Vec TypeTerm) → member ≡ Union members → new ≡ all ++ members.items
    → map term_view new ≡ map term_view all ++ parts (term_view member)
added_members all new member members is items =
    ap (map term_view) items ∙ map-append term_view all members.items
    ∙ ap (λ us. map term_view all ++ us) (sym (list_of-terms_of (map term_view members.items)) ∙ ap parts (sym (view_union members)) ∙ ap (λ m. parts (term_view m)) (sym is))

pub added_term : (all new : List TypeTerm) (member : TypeTerm) → ((members : Vec TypeTerm) → member ≡ Union members → ⊥) → new ≡ all ++ member ∷ []
    → map term_view new ≡ map term_view all ++ parts (term_view member)
added_term all new member other items =
    ap (map term_view) items ∙ map-append term_view all (member ∷ []) ∙ ap (λ us. map term_view all ++ us) (one_part member other)

pub added_parts : (all new yielded : List TypeTerm) (member : TypeTerm) → map term_view all ≡ parts_of (terms_view yielded) → map term_view new ≡ map term_view all ++ parts (term_view member)
    → map term_view new ≡ parts_of (terms_view (yielded ++ member ∷ []))
added_parts all new yielded member before added =
    added ∙ ap (λ us. us ++ parts (term_view member)) before
    ∙ sym (ap (λ us. parts_of (terms_of us)) (map-append term_view yielded (member ∷ [])) ∙ parts_of-append (map term_view yielded) (term_view member))

are_normal_push : (ts ns : List Term) (t n : Term) → AreNormalOf (terms_of ts) (terms_of ns) → IsNormalOf t n → AreNormalOf (terms_of (ts ++ t ∷ [])) (terms_of (ns ++ n ∷ []))
are_normal_push [] [] t n all one = (one, tt)
are_normal_push [] (m ∷ ms) t n all one = absurd all
are_normal_push (u ∷ us) [] t n all one = absurd all
are_normal_push (u ∷ us) (m ∷ ms) t n all one = (all.0, are_normal_push us ms t n all.1 one)

pub are_normal_more : (ts ns more new : List TypeTerm) (t n : TypeTerm) → AreNormalOf (terms_view ts) (terms_view ns) → IsNormalOf (term_view t) (term_view n)
    → more ≡ ts ++ t ∷ [] → new ≡ ns ++ n ∷ [] → AreNormalOf (terms_view more) (terms_view new)
are_normal_more ts ns more new t n all one m w =
    rw (m, w, map-append term_view ts (t ∷ []), map-append term_view ns (n ∷ [])) (are_normal_push (map term_view ts) (map term_view ns) (term_view t) (term_view n) all one)

-- the part at a place of a loop, and those that are left
pub next_part : (ts : List TypeTerm) (i : ℕ) (t : TypeTerm) → i < length ts → t ≡ get_or ts i t → map term_view (drop i ts) ≡ term_view t ∷ map term_view (drop (i + 1) ts)
next_part ts i t within is = rw add-one (ap (map term_view) (drop-cons ts i t within) ∙ ap (λ u. term_view u ∷ map term_view (drop (suc i) ts)) (sym is))
