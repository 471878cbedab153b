-- A value that stands for a shape belongs to each type that is printed for shapes with that one among them.
use Rattle.std.proofs.Common.{◌≡◌, ℕ, ◌||◌, ◌&&◌, true, false, Option, Some, List, [], ◌∷◌, ◌++◌, inl, inr, refl, sym, ap, subst, ◌∙◌, slice_get}
use Rattle.std.specs.Prelude.{IsTrue}
use Rattle.std.specs.Str.{bytes_eq}
use Rattle.std.specs.List.{Contains, list_any}
use Rattle.std.proofs.lemmas.Slice.Eq.{bytes_eq-Decides}
use Rattle.builtin_stubs.specs.declared.native.NativeSort.{NativeSort}
use Rattle.builtin_stubs.specs.declared.native.NativeSort.TheVariants as sort
use Rattle.builtin_stubs.specs.Meanings.{Native}
use Rattle.builtin_stubs.specs.Natives.{natives}
use Rattle.type_terms.specs.BuiltinNames.{has_name}
use Rattle.type_terms.specs.Terms as term
use Rattle.type_terms.specs.Terms.{Term, Terms, terms_of}
use Rattle.type_terms.specs.Normal.{parts, parts_of, is_absorbed, IsAmong, here, there, IsUnionOf, takes_all, nothing, alone, several, IsNormalOf, AreNormalOf, IsNormal}
use Rattle.type_terms.proofs.NormalLemmas.{one_form}
use Rattle.abstract_shapes.specs.Shapes.{Shape}
use Rattle.abstract_shapes.specs.declared.shape.Row.TheVariants.{Builtin}
use Rattle.abstract_shapes.specs.Printed.{Scene, a_callable, plain_type, row_type, by_sort, native_type, IsShapeType, of_plain, IsPrinted}
use Rattle.world_rules.specs.Sources.{Source}
use Rattle.world_rules.specs.Items.{Item}
use Rattle.py_meaning.specs.Values.{Value, ref}
use Rattle.py_meaning.specs.Objects as object
use Rattle.py_meaning.specs.Objects.{Object, object_at}
use Rattle.py_meaning.specs.Programs.{Program}
use Rattle.py_meaning.specs.Belongs.{Belongs, BelongsToOne, IsClassOf, IsCallableOf, names_above, native_names, is_function}
use Rattle.world_covering.specs.Standing.{Stands, a_none, a_true, a_false, an_int, a_float, a_text, some_bytes, from_outside, a_native}
use Rattle.world_covering.specs.Covering.{IsEnding, IsHeld}
use Rattle.world_covering.proofs.Growing.{at_object}
use Rattle.world_covering.proofs.Seats.{some_same}

-- ---- types that stay themselves in a union

record IsAlone (u : Term) : Type 0 where
  is_part : parts u ≡ u ∷ []
  stays : (us : List Term) → is_absorbed us u ≡ false
  normal : IsNormal u

later_among : (xs ys : List Term) (u : Term) → IsAmong u ys → IsAmong u (xs ++ ys)
later_among [] ys u a = a
later_among (x ∷ xs) ys u a = there (later_among xs ys u a)

among_parts : (ts : List Term) (ns : Terms) (u : Term) → IsAlone u → IsAmong u ts → AreNormalOf (terms_of ts) ns → IsAmong u (parts_of ns)
among_parts _ term.no_terms u s (here) h = absurd h
among_parts _ term.no_terms u s (there a) h = absurd h
among_parts _ (term.term n ns) u s (here) h = subst (λ z. IsAmong u (parts z ++ parts_of ns)) (one_form u u n s.normal h.0) (subst (λ z. IsAmong u (z ++ parts_of ns)) (sym s.is_part) here)
among_parts _ (term.term n ns) u s (there {ts = ts} a) h = later_among (parts n) (parts_of ns) u (among_parts ts ns u s a h.1)

not_among : (u : Term) (ts : List Term) → ts ≡ [] → IsAmong u ts → ⊥
not_among u _ e (here) = cc
not_among u _ e (there a) = cc

only_among : (u n : Term) (ts : List Term) → ts ≡ n ∷ [] → IsAmong u ts → u ≡ n
only_among u n _ e (here {ts = ts}) = let same : u ≡ n = cc in same
only_among u n _ e (there {ts = ts} a) = let none : ts ≡ [] = cc in absurd (not_among u ts none a)

module _ (p : Program) (h : List Object) (v : Value) where
  one_of : (u : Term) (ts : List Term) → IsAmong u ts → Belongs p h u v → BelongsToOne p h (terms_of ts) v
  one_of u _ (here) b = inl b
  one_of u _ (there {ts = ts} a) b = inr (one_of u ts a b)

  to_union : (ts : List Term) (n u : Term) → IsAlone u → IsAmong u ts → Belongs p h u v → IsUnionOf ts n → Belongs p h n v
  to_union ts _ u s a b (takes_all e) = tt
  to_union ts _ u s a b (nothing e m) = tt
  to_union ts n u s a b (alone e m) = subst (λ z. Belongs p h z v) (only_among u n (n ∷ []) refl (m.all u (record { among = a; stays = s.stays ts }))) b
  to_union ts _ u s a b (several {t = t} {u = w} {us = us} e m) = one_of u (t ∷ w ∷ us) (m.all u (record { among = a; stays = s.stays ts })) b

  to_normal : (ts : List Term) (n u : Term) → IsAlone u → IsAmong u ts → Belongs p h u v → IsNormalOf (term.union (terms_of ts)) n → Belongs p h n v
  to_normal ts n u s a b k = to_union (parts_of k.0) n u s (among_parts ts k.0 u s a k.1) b k.2

-- ---- a value belongs to the type of its shape

record HasType (p : Program) (h : List Object) (v : Value) (o : Option Term) : Type 0 where
  type : Term
  is : o ≡ Some type
  alone : IsAlone type
  belongs : Belongs p h type v

itself : (name : List ℕ) (more : List (List ℕ)) → has_name (name ∷ more) name ≡ true
itself name more = ap (λ z. z || list_any (bytes_eq name) more) ((bytes_eq-Decides name name).1 refl)

module _ (p : Program) (h : List Object) (place n : ℕ) (row : Native) (e : slice_get h place ≡ Some (object.foreign (object.builtin n))) (y : slice_get natives n ≡ Some row) where
  of_class : row.sort ≡ sort.Class → Belongs p h (term.class_of row.name) (ref place)
  of_class k =
      subst (λ o. IsClassOf p row.name o) (sym (at_object h place (object.foreign (object.builtin n)) e))
      (subst (λ o. IsTrue (has_name (native_names p o) row.name)) (sym y)
      (subst (λ z. IsTrue (has_name (elim z [ sort.Class ↦ names_above p row.name | _ ↦ [] ]) row.name)) (sym k)
      (itself row.name _)))

  of_function : (k : NativeSort) → row.sort ≡ k → (elim k [ sort.Class ↦ false | _ ↦ true ]) ≡ true → Belongs p h a_callable (ref place)
  of_function k i f =
      subst (λ o. IsCallableOf p term.any o) (sym (at_object h place (object.foreign (object.builtin n)) e))
      (subst (λ o. IsTrue (true && is_function o)) (sym y) (subst (λ z. IsTrue (true && (elim z [ sort.Class ↦ false | _ ↦ true ]))) (sym i) f))

  by_its_sort : (k : NativeSort) → row.sort ≡ k → HasType p h (ref place) (Some (by_sort k row.name))
  by_its_sort sort.Class i = record { type = term.class_of row.name; is = refl; alone = record { is_part = refl; stays = λ us. refl; normal = refl }; belongs = of_class i }
  by_its_sort sort.Function i = record { type = a_callable; is = refl; alone = record { is_part = refl; stays = λ us. refl; normal = tt }; belongs = of_function sort.Function i refl }
  by_its_sort sort.Method i = record { type = a_callable; is = refl; alone = record { is_part = refl; stays = λ us. refl; normal = tt }; belongs = of_function sort.Method i refl }
  by_its_sort sort.Value i = record { type = a_callable; is = refl; alone = record { is_part = refl; stays = λ us. refl; normal = tt }; belongs = of_function sort.Value i refl }

  of_native : HasType p h (ref place) (Some (row_type (Builtin n)))
  of_native = subst (λ o. HasType p h (ref place) (Some (native_type o))) (sym y) (by_its_sort row.sort refl)

has_type : (p : Program) (h : List Object) (names : ℕ → List ℕ) (v : Value) (t : Shape) → Stands h v t → HasType p h v (plain_type names t)
has_type p h names _ _ (a_none) = record { type = term.none; is = refl; alone = record { is_part = refl; stays = λ us. refl; normal = tt }; belongs = tt }
has_type p h names _ _ (a_true) = record { type = term.bool; is = refl; alone = record { is_part = refl; stays = λ us. refl; normal = tt }; belongs = tt }
has_type p h names _ _ (a_false) = record { type = term.bool; is = refl; alone = record { is_part = refl; stays = λ us. refl; normal = tt }; belongs = tt }
has_type p h names _ _ (an_int) = record { type = term.int; is = refl; alone = record { is_part = refl; stays = λ us. refl; normal = tt }; belongs = tt }
has_type p h names _ _ (a_float) = record { type = term.float; is = refl; alone = record { is_part = refl; stays = λ us. refl; normal = tt }; belongs = tt }
has_type p h names _ _ (a_text) = record { type = term.str; is = refl; alone = record { is_part = refl; stays = λ us. refl; normal = tt }; belongs = tt }
has_type p h names _ _ (some_bytes) = record { type = term.bytes; is = refl; alone = record { is_part = refl; stays = λ us. refl; normal = tt }; belongs = tt }
has_type p h names _ _ (from_outside e) = record { type = term.any; is = refl; alone = record { is_part = refl; stays = λ us. refl; normal = tt }; belongs = tt }
has_type p h names _ _ (a_native {place = place} {number = number} {row = row} e y) = of_native p h place number row e y

-- none of these shapes has parts to print
plain_alone : (h : List Object) (scene : Scene) (Inner : List Shape → Term → Type 0) (v : Value) (t : Shape) (u : Term) → Stands h v t → IsShapeType scene Inner t u → plain_type scene.class_name t ≡ Some u
plain_alone h scene Inner _ _ u (a_none) (of_plain e) = e
plain_alone h scene Inner _ _ u (a_true) (of_plain e) = e
plain_alone h scene Inner _ _ u (a_false) (of_plain e) = e
plain_alone h scene Inner _ _ u (an_int) (of_plain e) = e
plain_alone h scene Inner _ _ u (a_float) (of_plain e) = e
plain_alone h scene Inner _ _ u (a_text) (of_plain e) = e
plain_alone h scene Inner _ _ u (some_bytes) (of_plain e) = e
plain_alone h scene Inner _ _ u (from_outside x) (of_plain e) = e
plain_alone h scene Inner _ _ u (a_native x y) (of_plain e) = e

-- ---- to what is printed for a set of shapes, and for a name

module _ (p : Program) (h : List Object) (v : Value) (t : Shape) (stands : Stands h v t) where
  pub printed_belongs : (scene : Scene) (shapes : List Shape) (type : Term) → Contains shapes t → IsPrinted scene 3 shapes type → Belongs p h type v
  printed_belongs scene shapes type among printed =
      let u : (u : Term) × IsAmong u printed.terms × IsShapeType scene (IsPrinted scene 2) t u = printed.all t among in
      let own : HasType p h v (plain_type scene.class_name t) = has_type p h scene.class_name v t stands in
      let same : own.type ≡ u.0 = some_same (sym own.is ∙ plain_alone h scene (IsPrinted scene 2) v t u.0 stands u.2) in
      to_normal p h v printed.terms type u.0 (subst IsAlone same own.alone) u.1 (subst (λ z. Belongs p h z v) same own.belongs) printed.normal

pub held_belongs : (s : Source) (items : List Item) (p : Program) (h : List Object) (n : ℕ) (v : Value) → IsEnding s items h n v → IsHeld s items p h n v
held_belongs s items p h n v w =
    record { ending = w; belongs = λ type named. printed_belongs p h v w.shape w.stands named.scene named.shapes type ((named.ends w.shape).1 w.ends) named.printed }
