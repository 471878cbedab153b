-- How the types of a set's shapes make the type of the set.
use Rattle.std.proofs.Common.{◌≡◌, ℕ, zero, suc, ◌+◌, ◌-◌, ◌<◌, List, [], ◌∷◌, ◌++◌, length, get_or, map, Option, Some, None, Result, Ok, Err, IfOk, option_map, slice_get, refl, sym, ap, ◌∙◌, subst, arith}
use Rattle.std.specs.Global.{Vec, Box}
use Rattle.std.specs.List.{Contains, AllZip}
use Rattle.std.specs.Option.{unwrap_or}
use Rattle.type_terms.specs.Normal.{IsAmong, here, there, IsNormalOf}
use Rattle.type_terms.specs.Terms as type
use Rattle.type_terms.specs.Terms.{Term, terms_of}
use Rattle.type_terms.specs.View.{term_view}
use Rattle.type_terms.specs.declared.term.TypeTerm.{TypeTerm}
use Rattle.type_terms.specs.declared.term.TypeTerm.TheVariants as variants
use Rattle.type_terms.proofs.ViewLemmas.{view_any, view_union}
use Rattle.abstract_shapes.specs.declared.place.Place.TheVariants.{Element, Key, Value, Part}
use Rattle.abstract_shapes.specs.Numbering.{shape_at}
use Rattle.abstract_shapes.specs.Printed.{Scene, ArePlaces, no_place, a_place, IsShapeType, of_plain, of_list, of_dict, of_display, of_tuple, of_pair, IsUnionType, IsPrinted}
use Rattle.abstract_shapes.specs.Shapes.{Shape, list, dict, tuple, pair, any}
use Rattle.abstract_shapes.proofs.ViewLemmas.{view_list, view_dict, view_tuple_of}

module _ (R : Shape → Term → Type 0) where
  each_of : (shapes : List Shape) (terms : List Term) → AllZip R shapes terms → (u : Term) → IsAmong u terms → (s : Shape) × Contains shapes s × R s u
  each_of [] [] zip u among = elim among [ ]
  each_of [] (t ∷ terms) zip u among = absurd zip
  each_of (s ∷ shapes) [] zip u among = absurd zip
  each_of (s ∷ shapes) (t ∷ terms) zip u here = (s, (0, omega arith, refl), zip.0)
  each_of (s ∷ shapes) (t ∷ terms) zip u (there among) =
      let more = each_of shapes terms zip.1 u among in
      (more.0, (suc more.1.0, omega (arith, more.1.1), more.1.2), more.2)

  all_at : (shapes : List Shape) (terms : List Term) → AllZip R shapes terms → (s : Shape) (k : ℕ) → k < length shapes → get_or shapes k s ≡ s → (u : Term) × IsAmong u terms × R s u
  all_at [] terms zip s k within is = absurd (omega (arith, within))
  all_at (x ∷ shapes) [] zip s k within is = absurd zip
  all_at (x ∷ shapes) (t ∷ terms) zip s zero within is = (t, here, subst (λ y. R y t) is zip.0)
  all_at (x ∷ shapes) (t ∷ terms) zip s (suc k) within is =
      let more = all_at shapes terms zip.1 s k (omega (arith, within)) is in
      (more.0, there more.1, more.2)

  pub union_type : (shapes : List Shape) (terms : List Term) (t : Term) → AllZip R shapes terms → IsNormalOf (type.union (terms_of terms)) t → IsUnionType R shapes t
  union_type shapes terms t zip normal = record {
    terms = terms;
    each = λ u among. each_of shapes terms zip u among;
    all = λ s has. all_at shapes terms zip s has.0 has.1 has.2;
    normal = normal;
  }

-- one depth more
pub printed_more : (scene : Scene) (depth less : ℕ) (shapes : List Shape) (terms : List Term) (t : Term) → (depth ≡ 0 → ⊥) → less ≡ depth - 1 →
    AllZip (IsShapeType scene (IsPrinted scene less)) shapes terms → IsNormalOf (type.union (terms_of terms)) t → IsPrinted scene depth shapes t
printed_more scene zero less shapes terms t some is zip normal = absurd (some refl)
printed_more scene (suc depth) less shapes terms t some is zip normal =
    let same : less ≡ depth = omega (arith, is) in
    union_type (IsShapeType scene (IsPrinted scene depth)) shapes terms t (subst (λ d. AllZip (IsShapeType scene (IsPrinted scene d)) shapes terms) same zip) normal

pub type_made : {E : Type 0} (scene : Scene) (depth less : ℕ) (shapes : List Shape) (types : Vec TypeTerm) (r : Result TypeTerm E) → (depth ≡ 0 → ⊥) → less ≡ depth - 1 →
    AllZip (IsShapeType scene (IsPrinted scene less)) shapes (map term_view types.items) → IfOk r (λ made. IsNormalOf (term_view (variants.Union types)) (term_view made)) →
    IfOk r (λ made. IsPrinted scene depth shapes (term_view made))
type_made scene depth less shapes types (Ok made) some is zip normal =
    printed_more scene depth less shapes (map term_view types.items) (term_view made) some is zip (subst (λ t. IsNormalOf t (term_view made)) (view_union types) normal)
type_made scene depth less shapes types (Err e) some is zip normal = tt

zip_push : {X Y : Type 0} (R : X → Y → Type 0) (xs : List X) (ys : List Y) (x : X) (y : Y) → AllZip R xs ys → R x y → AllZip R (xs ++ x ∷ []) (ys ++ y ∷ [])
zip_push R [] [] x y zip h = (h, tt)
zip_push R [] (b ∷ ys) x y zip h = absurd zip
zip_push R (a ∷ xs) [] x y zip h = absurd zip
zip_push R (a ∷ xs) (b ∷ ys) x y zip h = (zip.0, zip_push R xs ys x y zip.1 h)

map_push : {X Y : Type 0} (f : X → Y) (xs : List X) (x : X) → map f (xs ++ x ∷ []) ≡ map f xs ++ f x ∷ []
map_push f [] x = refl
map_push f (y ∷ xs) x = ap (λ ys. f y ∷ ys) (map_push f xs x)

-- the type of one shape more
pub zip_more : (R : Shape → Term → Type 0) (at : ℕ → Shape) (ids more : List ℕ) (id : ℕ) (items new : List TypeTerm) (made : TypeTerm) → more ≡ ids ++ id ∷ [] → new ≡ items ++ made ∷ [] →
    AllZip R (map at ids) (map term_view items) → R (at id) (term_view made) → AllZip R (map at more) (map term_view new)
zip_more R at ids more id items new made ids_are items_are zip is =
    subst (λ ss. AllZip R ss (map term_view new)) (sym (ap (map at) ids_are ∙ map_push at ids id))
    (subst (λ ts. AllZip R (map at ids ++ at id ∷ []) ts) (sym (ap (map term_view) items_are ∙ map_push term_view items made))
    (zip_push R (map at ids) (map term_view items) (at id) (term_view made) zip is))

-- the type of one place more
module _ (scene : Scene) (R : List Shape → Term → Type 0) (site : ℕ) where
  place_more : (from n at : ℕ) (ts : List Term) (t : Term) → ArePlaces scene R site from n ts → at ≡ from + n → R (scene.joined (Part site at)) t → ArePlaces scene R site from (suc n) (ts ++ t ∷ [])
  place_more from zero at [] t no_place is of = a_place (subst (λ k. R (scene.joined (Part site k)) t) (omega (arith, is)) of) no_place
  place_more from zero at (u ∷ ts) t places is of = elim places [ ]
  place_more from (suc n) at [] t places is of = elim places [ ]
  place_more from (suc n) at (u ∷ ts) t (a_place first more) is of = a_place first (place_more (from + 1) n at ts t more (omega (arith, is)) of)

  pub places_more : (n next : ℕ) (items new : List TypeTerm) (made : TypeTerm) → next ≡ n + 1 → new ≡ items ++ made ∷ [] → ArePlaces scene R site 0 n (map term_view items) → R (scene.joined (Part site n)) (term_view made) → ArePlaces scene R site 0 next (map term_view new)
  places_more n next items new made is items_are places of =
      let same : suc n ≡ next = omega (arith, is) in
      subst (λ k. ArePlaces scene R site 0 k (map term_view new)) same
      (subst (λ ts. ArePlaces scene R site 0 (suc n) ts) (sym (ap (map term_view) items_are ∙ map_push term_view items made)) (place_more 0 n n (map term_view items) (term_view made) places (omega arith) of))

-- ---- containers

module _ (scene : Scene) (R : List Shape → Term → Type 0) (site : ℕ) where
  pub list_made : (item : Box TypeTerm) → R (scene.joined (Element site)) (term_view item.value) → IsShapeType scene R (list site) (term_view (variants.List item))
  list_made item h = subst (λ t. IsShapeType scene R (list site) t) (sym (view_list item)) (of_list h)

  pub dict_made : (key val : Box TypeTerm) → R (scene.joined (Key site)) (term_view key.value) → R (scene.joined (Value site)) (term_view val.value) → IsShapeType scene R (dict site) (term_view (variants.Dict key val))
  dict_made key val h k = subst (λ t. IsShapeType scene R (dict site) t) (sym (view_dict key val)) (of_dict h k)

  pub tuple_made : (item : Box TypeTerm) → R (scene.joined (Element site)) (term_view item.value) → IsShapeType scene R (tuple site None) (term_view (variants.TupleOf item))
  tuple_made item h = subst (λ t. IsShapeType scene R (tuple site None) t) (sym (view_tuple_of item)) (of_tuple h)

-- ---- tuples with so many places

abbrev pub IsTupleOf : Scene → (List Shape → Term → Type 0) → ℕ → ℕ → TypeTerm → Type 0
IsTupleOf scene R site n made = (ts : List Term) × (term_view made ≡ type.tuple (terms_of ts)) × ArePlaces scene R site 0 n ts

module _ {E : Type 0} (scene : Scene) (R : List Shape → Term → Type 0) (site : ℕ) where
  pub pair_made : (r : Result TypeTerm E) → IfOk r (IsTupleOf scene R site 2) → IfOk r (λ made. IsShapeType scene R (pair site) (term_view made))
  pair_made (Ok made) h = subst (λ t. IsShapeType scene R (pair site) t) (sym h.1) (of_pair h.2)
  pair_made (Err e) h = tt

  pub display_made : (n : ℕ) (r : Result TypeTerm E) → IfOk r (IsTupleOf scene R site n) → IfOk r (λ made. IsShapeType scene R (tuple site (Some n)) (term_view made))
  display_made n (Ok made) h = subst (λ t. IsShapeType scene R (tuple site (Some n)) t) (sym h.1) (of_display h.2)
  display_made n (Err e) h = tt

-- ---- a shape that is looked up

module _ {A : Type 0} (f : A → Shape) (shapes : List Shape) (id : ℕ) where
  pub none_at : (scene : Scene) (R : List Shape → Term → Type 0) (o : Option A) → o ≡ None → option_map f o ≡ slice_get shapes id → IsShapeType scene R (shape_at shapes id) (term_view variants.Any)
  none_at scene R None e h = subst (λ t. IsShapeType scene R (shape_at shapes id) t) (sym view_any) (subst (λ p. IsShapeType scene R (unwrap_or p any) type.any) h (of_plain refl))
  none_at scene R (Some x) e h = absurd (cc)

  pub some_at : (o : Option A) (x : A) → o ≡ Some x → option_map f o ≡ slice_get shapes id → f x ≡ shape_at shapes id
  some_at o x e h = ap (λ p. unwrap_or p any) (sym (ap (option_map f) e) ∙ h)
