-- The test of places decides whether they are equal.
use Rattle.std.specs.Prelude.{◌≡◌, true, ◌&&◌, ◌==◌, refl}
use Rattle.std.proofs.Common.{ap, sym, ◌∙◌}
use Rattle.abstract_shapes.specs.declared.place.Place.{Place}
use Rattle.abstract_shapes.specs.declared.place.Place.TheVariants.{Attribute, Member, Element, Key, Value, Part, Global, Raised}
use Rattle.abstract_shapes.specs.Places.{kind, first, second, same_place}
use Rattle.abstract_shapes.specs.SameLaws.{number_is, number_itself, both_of, decided}

pub place_itself : (p : Place) → same_place p p ≡ true
place_itself p = ap (λ t. t && ((first p == first p) && (second p == second p))) (number_itself (kind p)) ∙ ap (λ t. t && (second p == second p)) (number_itself (first p)) ∙ number_itself (second p)

-- places that are the same in kind and numbers are the same
by_parts : (p q : Place) → kind p ≡ kind q → first p ≡ first q → second p ≡ second q → p ≡ q
by_parts (Attribute c n) (Attribute d m) k f s = ap (λ x. Attribute x n) f ∙ ap (Attribute d) s
by_parts (Member c n) (Member d m) k f s = ap (λ x. Member x n) f ∙ ap (Member d) s
by_parts (Element site) (Element other) k f s = ap Element f
by_parts (Key site) (Key other) k f s = ap Key f
by_parts (Value site) (Value other) k f s = ap Value f
by_parts (Part site i) (Part other j) k f s = ap (λ x. Part x i) f ∙ ap (Part other) s
by_parts (Global n) (Global m) k f s = ap Global f
by_parts Raised Raised k f s = refl
by_parts _ _ k f s = absurd (cc)

pub place_is : (p q : Place) → same_place p q ≡ true → p ≡ q
place_is p q h =
    let first_parts = both_of (kind p == kind q) ((first p == first q) && (second p == second q)) h in
    let rest = both_of (first p == first q) (second p == second q) first_parts.1 in
    by_parts p q (number_is (kind p) (kind q) first_parts.0) (number_is (first p) (first q) rest.0) (number_is (second p) (second q) rest.1)

pub place-discrete : Discrete Place
place-discrete p q = decided (same_place p q) (place_is p q) (λ e. ap (same_place p) (sym e) ∙ place_itself p)
