-- What stands for a shape goes on to, while the heap grows.
use Rattle.std.proofs.Common.{◌≡◌, ℕ, zero, suc, Some, List, [], ◌∷◌, ◌++◌, length, slice_get, slice_set, unwrap_or, refl, ap, ◌∙◌}
use Rattle.type_terms.specs.Terms as type
use Rattle.abstract_shapes.specs.Shapes.{Shape}
use Rattle.py_meaning.specs.Values.{Value}
use Rattle.py_meaning.specs.Objects as object
use Rattle.py_meaning.specs.Objects.{Object, Filling, refilled, object_at}
use Rattle.py_meaning.specs.Actions.{Memory, with_new}
use Rattle.world_covering.specs.Standing.{Stands, a_none, a_true, a_false, an_int, a_float, a_text, some_bytes, from_outside, a_native, IsFixed, Grows}
use Rattle.world_covering.specs.RowLaws.{Stays}

pub grows_self : (h : List Object) → Grows h h
grows_self h = record { has = λ place o f e. e }

pub grows_on : (h j k : List Object) → Grows h j → Grows j k → Grows h k
grows_on h j k a b = record { has = λ place o f e. b.has place o f (a.has place o f e) }

got_before : (h : List Object) (new : Object) (place : ℕ) (o : Object) → slice_get h place ≡ Some o → slice_get (h ++ new ∷ []) place ≡ Some o
got_before [] new place o e = cc
got_before (x ∷ h) new zero o e = e
got_before (x ∷ h) new (suc place) o e = got_before h new place o e

-- one object more
pub grows_new : (h : List Object) (new : Object) → Grows h (h ++ new ∷ [])
grows_new h new = record { has = λ place o f e. got_before h new place o e }

pub got_last : (h : List Object) (new : Object) → slice_get (h ++ new ∷ []) (length h) ≡ Some new
got_last [] new = refl
got_last (x ∷ h) new = got_last h new

stays_same : (o : Object) (new : Filling) → IsFixed o → refilled o new ≡ o
stays_same (object.list site xs) new f = absurd f
stays_same (object.tuple site layout xs) new f = absurd f
stays_same (object.dict site ps) new f = absurd f
stays_same (object.view site native receiver xs) new f = absurd f
stays_same (object.instance c es) new f = absurd f
stays_same (object.class c es) new f = absurd f
stays_same (object.function n) new f = absurd f
stays_same (object.bound v n) new f = absurd f
stays_same (object.foreign x) new f = refl
stays_same (object.bound_foreign v x) new f = absurd f
stays_same (object.imported name) new f = absurd f
stays_same (object.outside t) new f = refl

got_set : (h : List Object) (at place : ℕ) (new : Filling) (o : Object) → IsFixed o → slice_get h place ≡ Some o →
    slice_get (slice_set h at (refilled (unwrap_or (slice_get h at) (object.outside type.any)) new)) place ≡ Some o
got_set [] at place new o f e = cc
got_set (x ∷ h) zero zero new o f e = let same : x ≡ o = cc in ap Some (ap (λ z. refilled z new) same ∙ stays_same o new f)
got_set (x ∷ h) zero (suc place) new o f e = e
got_set (x ∷ h) (suc at) zero new o f e = e
got_set (x ∷ h) (suc at) (suc place) new o f e = got_set h at place new o f e

-- other parts of an object
pub grows_set : (h : List Object) (place : ℕ) (new : Filling) → Grows h (slice_set h place (refilled (object_at h place) new))
grows_set h at new = record { has = λ place o f e. got_set h at place new o f e }

pub stands_on : (h j : List Object) (v : Value) (t : Shape) → Grows h j → Stands h v t → Stands j v t
stands_on h j _ _ g (a_none) = a_none
stands_on h j _ _ g (a_true) = a_true
stands_on h j _ _ g (a_false) = a_false
stands_on h j _ _ g (an_int) = an_int
stands_on h j _ _ g (a_float) = a_float
stands_on h j _ _ g (a_text) = a_text
stands_on h j _ _ g (some_bytes) = some_bytes
stands_on h j _ _ g (from_outside {place = place} e) = from_outside (g.has place (object.outside type.any) tt e)
stands_on h j _ _ g (a_native {place = place} {number = number} e row) = a_native (g.has place (object.foreign (object.builtin number)) tt e) row

pub stays_here : (m : Memory) → Stays m m
stays_here m = record { scope = refl; heap = grows_self m.heap }

pub stays_new : (m : Memory) (o : Object) → Stays m (with_new o m)
stays_new m o = record { scope = refl; heap = grows_new m.heap o }

pub at_object : (h : List Object) (place : ℕ) (o : Object) → slice_get h place ≡ Some o → object_at h place ≡ o
at_object h place o e = ap (λ z. unwrap_or z (object.outside type.any)) e
