-- A set of shapes has one printed type.
use Rattle.std.proofs.Common.{◌≡◌, ℕ, zero, suc, List, ◌∷◌, Some, refl, sym, ap, ◌∙◌, subst}
use Rattle.type_terms.specs.Laws.{SameMembersSameForm}
use Rattle.type_terms.specs.Normal.{IsAmong}
use Rattle.type_terms.specs.Terms as type
use Rattle.type_terms.specs.Terms.{Term, terms_of, list_of}
use Rattle.type_terms.proofs.PartLemmas.{list_of-terms_of}
use Rattle.abstract_shapes.specs.declared.place.Place.{Place}
use Rattle.abstract_shapes.specs.declared.place.Place.TheVariants.{Element, Key, Value, Part}
use Rattle.abstract_shapes.specs.Shapes.{Shape, class, inst}
use Rattle.abstract_shapes.specs.Printed.{Scene, ArePlaces, no_place, a_place, IsShapeType, plain_type, of_plain, of_list, of_dict, of_display, of_tuple, of_pair, IsUnionType, IsPrinted}
use Rattle.abstract_shapes.specs.Laws.{SameSet, SameScene, OnePrintedType}

module _ (scene other : Scene) (same : SameScene scene other) (R Q : List Shape → Term → Type 0)
    (one : (shapes more : List Shape) (t u : Term) → SameSet shapes more → R shapes t → Q more u → t ≡ u) where
  one_places : {site from n : ℕ} {ts us : List Term} → ArePlaces scene R site from n ts → ArePlaces other Q site from n us → ts ≡ us
  one_places no_place no_place = refl
  one_places {site} {from} (a_place {t = t} {ts = ts} first more) (a_place {t = u} {ts = us} second others) =
      ap (λ x. x ∷ ts) (one (scene.joined (Part site from)) (other.joined (Part site from)) t u (same.joined (Part site from)) first second) ∙ ap (λ xs. u ∷ xs) (one_places more others)

  at : (p : Place) {t u : Term} → R (scene.joined p) t → Q (other.joined p) u → t ≡ u
  at p {t} {u} first second = one (scene.joined p) (other.joined p) t u (same.joined p) first second

  some_once : {t u : Term} → Some t ≡ Some u → t ≡ u
  some_once e = cc

  -- classes have the same names
  plain_once : (s : Shape) {t u : Term} → plain_type scene.class_name s ≡ Some t → plain_type other.class_name s ≡ Some u → t ≡ u
  plain_once (class c) h k = some_once (sym h ∙ ap (λ n. Some (type.class_of n)) (same.names c) ∙ k)
  plain_once (inst c) h k = some_once (sym h ∙ ap (λ n. Some (type.class n)) (same.names c) ∙ k)
  plain_once s h k = some_once (sym h ∙ k)

  one_shape : {s : Shape} {t u : Term} → IsShapeType scene R s t → IsShapeType other Q s u → t ≡ u
  one_shape {s} (of_plain first) (of_plain second) = plain_once s first second
  one_shape (of_list {site = site} first) (of_list second) = ap type.list (at (Element site) first second)
  one_shape (of_dict {site = site} {t = t} {u = u} first val) (of_dict {t = v} {u = w} second more) =
      ap (λ x. type.dict x u) (at (Key site) first second) ∙ ap (type.dict v) (at (Value site) val more)
  one_shape (of_display first) (of_display second) = ap (λ ts. type.tuple (terms_of ts)) (one_places first second)
  one_shape (of_tuple {site = site} first) (of_tuple second) = ap type.tuple_of (at (Element site) first second)
  one_shape (of_pair first) (of_pair second) = ap (λ ts. type.tuple (terms_of ts)) (one_places first second)
  one_shape (of_plain first) (of_list second) = absurd (cc)
  one_shape (of_plain first) (of_dict second val) = absurd (cc)
  one_shape (of_plain first) (of_display second) = absurd (cc)
  one_shape (of_plain first) (of_tuple second) = absurd (cc)
  one_shape (of_plain first) (of_pair second) = absurd (cc)
  one_shape (of_list first) (of_plain second) = absurd (cc)
  one_shape (of_dict first val) (of_plain second) = absurd (cc)
  one_shape (of_display first) (of_plain second) = absurd (cc)
  one_shape (of_tuple first) (of_plain second) = absurd (cc)
  one_shape (of_pair first) (of_plain second) = absurd (cc)

  -- the types of one set are among those of the other
  goes_over : (shapes more : List Shape) (t u : Term) → SameSet shapes more → (h : IsUnionType (IsShapeType scene R) shapes t) (k : IsUnionType (IsShapeType other Q) more u) →
      (v : Term) → IsAmong v h.terms → IsAmong v k.terms
  goes_over shapes more t u set h k v among =
      let from = h.each v among in
      let to = k.all from.0 ((set from.0).0 from.1) in
      subst (λ w. IsAmong w k.terms) (sym (one_shape from.2 to.2)) to.1

  comes_back : (shapes more : List Shape) (t u : Term) → SameSet shapes more → (h : IsUnionType (IsShapeType scene R) shapes t) (k : IsUnionType (IsShapeType other Q) more u) →
      (v : Term) → IsAmong v k.terms → IsAmong v h.terms
  comes_back shapes more t u set h k v among =
      let from = k.each v among in
      let to = h.all from.0 ((set from.0).1 from.1) in
      subst (λ w. IsAmong w h.terms) (one_shape to.2 from.2) to.1

  one_union : SameMembersSameForm → (shapes more : List Shape) (t u : Term) → SameSet shapes more → IsUnionType (IsShapeType scene R) shapes t → IsUnionType (IsShapeType other Q) more u → t ≡ u
  one_union form shapes more t u set h k =
      form (terms_of h.terms) (terms_of k.terms) t u
      (λ v. (
        λ among. subst (IsAmong v) (sym (list_of-terms_of k.terms)) (goes_over shapes more t u set h k v (subst (IsAmong v) (list_of-terms_of h.terms) among)),
        λ among. subst (IsAmong v) (sym (list_of-terms_of h.terms)) (comes_back shapes more t u set h k v (subst (IsAmong v) (list_of-terms_of k.terms) among)),
      ))
      h.normal k.normal

pub one_type : SameMembersSameForm → OnePrintedType
one_type form zero scene other shapes more t u same set h k = h ∙ sym k
one_type form (suc depth) scene other shapes more t u same set h k =
    one_union scene other same (IsPrinted scene depth) (IsPrinted other depth) (λ xs ys v w set-2 a b. one_type form depth scene other xs ys v w same set-2 a b) form shapes more t u set h k
