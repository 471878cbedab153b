-- No derived shape names a class, so what the classes are called makes no difference to what is printed.
use Rattle.std.proofs.Common.{◌≡◌, ℕ, zero, suc, ◌+◌, Option, Some, None, List, [], ◌∷◌, slice_get, inl, inr, refl, sym, ap, subst, ◌∙◌}
use Rattle.std.specs.List.{Contains}
use Rattle.graph_walks.specs.Worlds.{Memory, Fact, AllGiven, FactGives}
use Rattle.graph_walks.proofs.Lists.{empty, first, first_or_later, later}
use Rattle.type_terms.specs.Normal.{IsAmong}
use Rattle.type_terms.specs.Terms.{Term}
use Rattle.abstract_shapes.specs.declared.place.Place.{Place}
use Rattle.abstract_shapes.specs.declared.place.Place.TheVariants.{Element, Key, Value, Part}
use Rattle.abstract_shapes.specs.declared.shape.Row.TheVariants.{Builtin}
use Rattle.abstract_shapes.specs.Shapes.{Shape, none, true_value, false_value, int, float, str, bytes, list, dict, tuple, pair, view, fun, bound, bound_native, class, inst, native, stub_module, given, ext, any}
use Rattle.abstract_shapes.specs.Printed.{Scene, plain_type, ArePlaces, no_place, a_place, IsShapeType, of_plain, of_list, of_dict, of_display, of_tuple, of_pair, IsUnionType, IsPrinted}
use Rattle.world_rules.specs.declared.row.Yield.{Yield}
use Rattle.world_rules.specs.declared.row.Yield.TheVariants as yields
use Rattle.world_rules.specs.declared.transfer.SeatReading.{SeatReading}
use Rattle.world_rules.specs.Places.{Context, Variable, Point, at}
use Rattle.world_rules.specs.Sources.{Source}
use Rattle.world_rules.specs.Items.{Item, a_context, an_edge, a_fact, an_entry, facts_of, Agree, map_of, variables, world_of}
use Rattle.world_rules.specs.Rows.{made}
use Rattle.world_rules.specs.Rules.{Yields, it, one, Fires, GivesAt, result, enter, Gives, of_module, leads, of_point, IsDerived, derived}
use Rattle.world_rules.specs.Findings.{IsQuery}

abbrev pub NamesNoClass : Shape → Type 0
NamesNoClass (class c) = ⊥
NamesNoClass (inst c) = ⊥
NamesNoClass _ = Unit {0}

-- ---- what is printed

module _ (names other : ℕ → List ℕ) where
  same_plain : (t : Shape) → NamesNoClass t → plain_type names t ≡ plain_type other t
  same_plain none h = refl
  same_plain true_value h = refl
  same_plain false_value h = refl
  same_plain int h = refl
  same_plain float h = refl
  same_plain str h = refl
  same_plain bytes h = refl
  same_plain (list site) h = refl
  same_plain (dict site) h = refl
  same_plain (tuple site places) h = refl
  same_plain (pair site) h = refl
  same_plain (view site) h = refl
  same_plain (fun f) h = refl
  same_plain (bound c f) h = refl
  same_plain (bound_native s row) h = refl
  same_plain (class c) h = absurd h
  same_plain (inst c) h = absurd h
  same_plain (native row) h = refl
  same_plain (stub_module m) h = refl
  same_plain (given t) h = refl
  same_plain ext h = refl
  same_plain any h = refl

  abbrev pub AllNoClass : List Shape → Type 0
  AllNoClass shapes = (t : Shape) → Contains shapes t → NamesNoClass t

  module _ (joined : Place → List Shape) (no_class : (place : Place) → AllNoClass (joined place)) where
    abbrev one_scene : Scene
    one_scene = record { class_name = names; joined = joined }

    abbrev other_scene : Scene
    other_scene = record { class_name = other; joined = joined }

    -- a way to print sets in one scene that is one in the other too
    abbrev Carries : (List Shape → Term → Type 0) → (List Shape → Term → Type 0) → Type 0
    Carries P Q = (shapes : List Shape) (t : Term) → AllNoClass shapes → P shapes t → Q shapes t

    places_too : (P Q : List Shape → Term → Type 0) → Carries P Q → (site : ℕ) {from n : ℕ} {ts : List Term} → ArePlaces one_scene P site from n ts → ArePlaces other_scene Q site from n ts
    places_too P Q carry site no_place = no_place
    places_too P Q carry site (a_place {from} {n} {t} p more) = a_place (carry (joined (Part site from)) t (no_class (Part site from)) p) (places_too P Q carry site more)

    shape_too : (P Q : List Shape → Term → Type 0) → Carries P Q → (s : Shape) (t : Term) → NamesNoClass s → IsShapeType one_scene P s t → IsShapeType other_scene Q s t
    shape_too P Q carry s t h (of_plain e) = of_plain (sym (same_plain s h) ∙ e)
    shape_too P Q carry s whole h (of_list {site} {t} p) = of_list (carry (joined (Element site)) t (no_class (Element site)) p)
    shape_too P Q carry s whole h (of_dict {site} {t} {u} p q) = of_dict (carry (joined (Key site)) t (no_class (Key site)) p) (carry (joined (Value site)) u (no_class (Value site)) q)
    shape_too P Q carry s t h (of_display {site} p) = of_display (places_too P Q carry site p)
    shape_too P Q carry s whole h (of_tuple {site} {t} p) = of_tuple (carry (joined (Element site)) t (no_class (Element site)) p)
    shape_too P Q carry s t h (of_pair {site} p) = of_pair (places_too P Q carry site p)

    union_too : (P Q : List Shape → Term → Type 0) → Carries P Q → Carries (IsUnionType (IsShapeType one_scene P)) (IsUnionType (IsShapeType other_scene Q))
    union_too P Q carry shapes t h u =
        record {
          terms = u.terms;
          each = λ v a. let e = u.each v a in (e.0, e.1, shape_too P Q carry e.0 v (h e.0 e.1) e.2);
          all = λ s c. let e = u.all s c in (e.0, e.1, shape_too P Q carry s e.0 (h s c) e.2);
          normal = u.normal;
        }

    pub printed_too : (depth : ℕ) → Carries (IsPrinted one_scene depth) (IsPrinted other_scene depth)
    printed_too zero shapes t h p = p
    printed_too (suc depth) shapes t h p = union_too (IsPrinted one_scene depth) (IsPrinted other_scene depth) (printed_too depth) shapes t h p

-- ---- what is derived

abbrev pub HasNoClass : Item → Type 0
HasNoClass (a_fact f) = NamesNoClass f.shape
HasNoClass (an_entry place t) = NamesNoClass t
HasNoClass _ = Unit {0}

fact_in : (items : List Item) (f : Fact Point Variable Shape) → Contains (facts_of items) f → Contains items (a_fact f)
fact_in [] f c = empty f c
fact_in (a_context k ∷ items) f c = later (a_context k) (a_fact f) items (fact_in items f c)
fact_in (an_edge e ∷ items) f c = later (an_edge e) (a_fact f) items (fact_in items f c)
fact_in (a_fact g ∷ items) f c = elim (first_or_later g f (facts_of items) c) [ inl e ↦ subst (λ h. Contains (a_fact g ∷ items) (a_fact h)) (sym e) (first (a_fact g) items) | inr d ↦ later (a_fact g) (a_fact f) items (fact_in items f d) ]
fact_in (an_entry p t ∷ items) f c = later (an_entry p t) (a_fact f) items (fact_in items f c)

module _ (s : Source) (items : List Item) (each : (i : Item) → Contains items i → HasNoClass i) where
  pub given_no_class : (x : Variable) (t : Shape) → FactGives (world_of s items) x t → NamesNoClass t
  given_no_class x t g = each (a_fact _) (fact_in items _ g.fact)

  -- the shape at a place of those that are read is given
  read_no_class : (xs : List Variable) (ts : List Shape) (m : Memory Variable Shape) → Agree xs ts m → ((x : Variable) (t : Shape) → m x ≡ Some t → NamesNoClass t) → (i : ℕ) (t : Shape) → slice_get ts i ≡ Some t → NamesNoClass t
  read_no_class [] [] m a h i t e = cc
  read_no_class [] (u ∷ ts) m a h i t e = absurd a
  read_no_class (x ∷ xs) [] m a h i t e = cc
  read_no_class (x ∷ xs) (u ∷ ts) m a h zero t e = let same : u ≡ t = cc in subst NamesNoClass same (h x u a.0)
  read_no_class (x ∷ xs) (u ∷ ts) m a h (suc i) t e = read_no_class xs ts m a.1 h i t e

  module _ (query : (c : Context) (place depth : ℕ) (r : SeatReading) (shapes : List Shape) → Fires s items c place depth r shapes → IsQuery s items c place depth (map_of (variables c r.seats) shapes)) where
    yield_no_class : (c : Context) (place depth : ℕ) (r : SeatReading) (shapes : List Shape) → Fires s items c place depth r shapes → (y : Yield) (t : Shape) → made shapes y ≡ Some t → NamesNoClass t
    yield_no_class c place depth r shapes f (yields.Read i) t e =
        read_no_class (variables c r.seats) shapes (map_of (variables c r.seats) shapes) f.agree (λ x u g. given_no_class x u ((query c place depth r shapes f).given.at x u g)) i t e
    yield_no_class c place depth r shapes f yields.NoneValue t e = let same : none ≡ t = cc in subst NamesNoClass same tt
    yield_no_class c place depth r shapes f yields.TrueValue t e = let same : true_value ≡ t = cc in subst NamesNoClass same tt
    yield_no_class c place depth r shapes f yields.FalseValue t e = let same : false_value ≡ t = cc in subst NamesNoClass same tt
    yield_no_class c place depth r shapes f yields.Int t e = let same : int ≡ t = cc in subst NamesNoClass same tt
    yield_no_class c place depth r shapes f yields.Float t e = let same : float ≡ t = cc in subst NamesNoClass same tt
    yield_no_class c place depth r shapes f yields.Str t e = let same : str ≡ t = cc in subst NamesNoClass same tt
    yield_no_class c place depth r shapes f yields.Bytes t e = let same : bytes ≡ t = cc in subst NamesNoClass same tt
    yield_no_class c place depth r shapes f (yields.Native id) t e = let same : native (Builtin id) ≡ t = cc in subst NamesNoClass same tt
    yield_no_class c place depth r shapes f yields.Ext t e = let same : ext ≡ t = cc in subst NamesNoClass same tt
    yield_no_class c place depth r shapes f yields.Any t e = let same : any ≡ t = cc in subst NamesNoClass same tt
    yield_no_class c place depth r shapes f (yields.Each p) t e = cc

    yields_no_class : (c : Context) (place depth : ℕ) (r : SeatReading) (shapes : List Shape) → Fires s items c place depth r shapes → (y : Yield) (t : Shape) → Yields s items shapes y t → NamesNoClass t
    yields_no_class c place depth r shapes f y t (it e) = yield_no_class c place depth r shapes f y t e
    yields_no_class c here depth r shapes f y t (one {place} h) = each (an_entry place t) h

    at_point : (p : Point) (i : Item) → GivesAt s items p i → HasNoClass i
    at_point p i (result {c} {place} {depth} {r} {t} shapes y f k h) = yields_no_class c place depth r shapes f y t h
    at_point p i (enter {c} {place} {depth} {r} {t} shapes e f k h) = yields_no_class c place depth r shapes f e.given t h

    gives_no_class : (i : Item) → Gives s items i → HasNoClass i
    gives_no_class i of_module = tt
    gives_no_class i (leads c o l p) = tt
    gives_no_class i (of_point {p} g) = at_point p i g

pub derived_no_class : (s : Source) (query : (items : List Item) (c : Context) (place depth : ℕ) (r : SeatReading) (shapes : List Shape) → Fires s items c place depth r shapes → IsQuery s items c place depth (map_of (variables c r.seats) shapes)) →
    (i : Item) → IsDerived s i → HasNoClass i
derived_no_class s query i (derived items each gives) = gives_no_class s items (λ j c. derived_no_class s query j (each j c)) (query items) i gives
