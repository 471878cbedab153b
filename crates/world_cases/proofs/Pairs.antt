-- Tests of variables, shapes and pairs, and what they tell.
use Rattle.std.proofs.Common.{◌≡◌, Bool, true, false, ◌&&◌, ◌||◌, Some, List, [], ◌∷◌, ◌⊎◌, map, cond, inl, inr, refl, sym, ap, subst, ◌∙◌}
use Rattle.std.specs.List.{Contains, flat_map}
use Rattle.graph_walks.specs.Worlds.{Memory}
use Rattle.graph_walks.proofs.Lists.{empty, first, first_as, later, first_or_later, map_has, map_from, Origin, flat_map_has, flat_map_from, Part}
use Rattle.abstract_shapes.specs.Shapes.{Shape, none, true_value, false_value, int, str, ext}
use Rattle.world_rules.specs.Places.{Variable, same_variable}
use Rattle.world_rules.specs.Items.{map_of, Agree}
use Rattle.world_rules.proofs.Same.{variable_equal, variable_same}

-- whether two shapes without parts are the same
abbrev pub same_shape : Shape → Shape → Bool
same_shape none none = true
same_shape true_value true_value = true
same_shape false_value false_value = true
same_shape int int = true
same_shape str str = true
same_shape ext ext = true
same_shape _ _ = false

pub shape_equal : (s t : Shape) → same_shape s t ≡ true → s ≡ t
shape_equal none none h = refl
shape_equal true_value true_value h = refl
shape_equal false_value false_value h = refl
shape_equal int int h = refl
shape_equal str str h = refl
shape_equal ext ext h = refl
shape_equal _ _ h = cc

-- ---- truth values

pub both : (a b : Bool) → a && b ≡ true → (a ≡ true) × (b ≡ true)
both true b h = (refl, h)
both false b h = cc

pub joined : (a b : Bool) → a ≡ true → b ≡ true → a && b ≡ true
joined true b h k = k
joined false b h k = cc

pub either : {P : Type 0} (a b : Bool) → a || b ≡ true → (a ≡ true → P) → (b ≡ true → P) → P
either true b h now then = now refl
either false b h now then = then h

pub left : (a b : Bool) → a ≡ true → a || b ≡ true
left true b h = refl
left false b h = cc

pub right : (a b : Bool) → b ≡ true → a || b ≡ true
right true b h = refl
right false b h = h

-- what a test of each element tells of one
abbrev pub all : {X : Type 0} → (X → Bool) → List X → Bool
all p [] = true
all p (x ∷ xs) = p x && all p xs

pub each : {X : Type 0} (p : X → Bool) (xs : List X) → all p xs ≡ true → (x : X) → Contains xs x → p x ≡ true
each p [] h x c = empty x c
each p (y ∷ xs) h x c =
    let k : (p y ≡ true) × (all p xs ≡ true) = both (p y) (all p xs) h in
    elim (first_or_later y x xs c) [ inl e ↦ subst (λ z. p z ≡ true) (sym e) k.0 | inr d ↦ each p xs k.1 x d ]

-- ---- pairs of a variable and a shape

abbrev pub Pair : Type 0
Pair = Variable × Shape

abbrev pub has_pair : List Pair → Variable → Shape → Bool
has_pair [] v s = false
has_pair (p ∷ pairs) v s = (same_variable p.0 v && same_shape p.1 s) || has_pair pairs v s

pub pair_there : (pairs : List Pair) (v : Variable) (s : Shape) → has_pair pairs v s ≡ true → Contains pairs (v, s)
pair_there [] v s h = cc
pair_there (p ∷ pairs) v s h =
    either (same_variable p.0 v && same_shape p.1 s) (has_pair pairs v s) h
    (λ e. let m : (same_variable p.0 v ≡ true) × (same_shape p.1 s ≡ true) = both _ _ e in
    let i : p.0 ≡ v = variable_equal p.0 v m.0 in
    let j : p.1 ≡ s = shape_equal p.1 s m.1 in
    first_as p (v, s) pairs (ap (λ a. (a, s)) (sym i) ∙ ap (λ b. (p.0, b)) (sym j)))
    (λ d. later p (v, s) pairs (pair_there pairs v s d))

-- the shapes that a variable has among the pairs
abbrev pub shapes_of : List Pair → Variable → List Shape
shapes_of [] x = []
shapes_of (p ∷ pairs) x = cond (same_variable p.0 x) (p.1 ∷ shapes_of pairs x) (shapes_of pairs x)

pub shape_of : (pairs : List Pair) (x : Variable) (s : Shape) → Contains pairs (x, s) → Contains (shapes_of pairs x) s
shape_of [] x s c = empty (x, s) c
shape_of (p ∷ pairs) x s c = go (same_variable p.0 x) refl (first_or_later p (x, s) pairs c) (shape_of pairs x s)
  where
    go : (b : Bool) → same_variable p.0 x ≡ b → ((x, s) ≡ p) ⊎ Contains pairs (x, s) → (Contains pairs (x, s) → Contains (shapes_of pairs x) s) → Contains (cond b (p.1 ∷ shapes_of pairs x) (shapes_of pairs x)) s
    go true i (inl e) more = first_as p.1 s (shapes_of pairs x) (ap (λ q. q.1) e)
    go true i (inr d) more = later p.1 s (shapes_of pairs x) (more d)
    go false i (inl e) more =
        let j : x ≡ p.0 = ap (λ q. q.0) e in
        let k : same_variable p.0 x ≡ true = subst (λ z. same_variable p.0 z ≡ true) (sym j) (variable_same p.0) in
        cc
    go false i (inr d) more = more d

pub of_shape : (pairs : List Pair) (x : Variable) (s : Shape) → Contains (shapes_of pairs x) s → Contains pairs (x, s)
of_shape [] x s c = empty s c
of_shape (p ∷ pairs) x s c = go (same_variable p.0 x) refl c (of_shape pairs x s)
  where
    at : same_variable p.0 x ≡ true → (s ≡ p.1) ⊎ Contains (shapes_of pairs x) s → (Contains (shapes_of pairs x) s → Contains pairs (x, s)) → Contains (p ∷ pairs) (x, s)
    at i (inl e) more =
        let j : p.0 ≡ x = variable_equal p.0 x i in
        first_as p (x, s) pairs (ap (λ a. (a, s)) (sym j) ∙ ap (λ b. (p.0, b)) e)
    at i (inr d) more = later p (x, s) pairs (more d)

    go : (b : Bool) → same_variable p.0 x ≡ b → Contains (cond b (p.1 ∷ shapes_of pairs x) (shapes_of pairs x)) s → (Contains (shapes_of pairs x) s → Contains pairs (x, s)) → Contains (p ∷ pairs) (x, s)
    go true i k more = at i (first_or_later p.1 s (shapes_of pairs x) k) more
    go false i k more = later p (x, s) pairs (more k)

-- ---- choices of a shape for each variable

abbrev pub choices : List Pair → List Variable → List (List Shape)
choices pairs [] = [] ∷ []
choices pairs (x ∷ xs) = flat_map (λ t. map (λ ts. t ∷ ts) (choices pairs xs)) (shapes_of pairs x)

-- a memory all of whose pairs stand there
pub record IsAmong (pairs : List Pair) (m : Memory Variable Shape) : Type 0 where
  pub at : (v : Variable) (s : Shape) → m v ≡ Some s → Contains pairs (v, s)

pub chosen : (pairs : List Pair) (m : Memory Variable Shape) → IsAmong pairs m → (xs : List Variable) (ts : List Shape) → Agree xs ts m → Contains (choices pairs xs) ts
chosen pairs m h [] [] a = first [] []
chosen pairs m h [] (t ∷ ts) a = absurd a
chosen pairs m h (x ∷ xs) [] a = absurd a
chosen pairs m h (x ∷ xs) (t ∷ ts) a =
    flat_map_has (λ t. map (λ ts. t ∷ ts) (choices pairs xs)) (shapes_of pairs x) t (t ∷ ts) (shape_of pairs x t (h.at x t a.0))
    (map_has (λ ts. t ∷ ts) (choices pairs xs) ts (chosen pairs m h xs ts a.1))

-- a map of chosen shapes is such a memory
pub choice_pairs : (pairs : List Pair) (xs : List Variable) (ts : List Shape) → Contains (choices pairs xs) ts → (v : Variable) (s : Shape) → map_of xs ts v ≡ Some s → Contains pairs (v, s)
choice_pairs pairs [] ts c v s e = cc
choice_pairs pairs (x ∷ xs) ts c v s e =
    let p : Part (λ t. map (λ ts. t ∷ ts) (choices pairs xs)) (shapes_of pairs x) ts = flat_map_from _ (shapes_of pairs x) ts c in
    let o : Origin (λ ts. p.item ∷ ts) (choices pairs xs) ts = map_from (λ ts. p.item ∷ ts) (choices pairs xs) ts p.part in
    go p.item o.item (subst (λ z. map_of (x ∷ xs) z v ≡ Some s) (sym o.same) e) (of_shape pairs x p.item p.is) (choice_pairs pairs xs o.item o.is v s)
  where
    go : (t : Shape) (us : List Shape) → map_of (x ∷ xs) (t ∷ us) v ≡ Some s → Contains pairs (x, t) → (map_of xs us v ≡ Some s → Contains pairs (v, s)) → Contains pairs (v, s)
    go t us e h more = at (same_variable x v) refl e
      where
        at : (b : Bool) → same_variable x v ≡ b → cond b (Some t) (map_of xs us v) ≡ Some s → Contains pairs (v, s)
        at true i k =
            let j : t ≡ s = cc in
            let l : x ≡ v = variable_equal x v i in
            subst (λ z. Contains pairs z) (ap (λ a. (a, t)) l ∙ ap (λ b. (v, b)) j) h
        at false i k = more k
