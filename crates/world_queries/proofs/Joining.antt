-- The map of a list of bindings: there is one in order where no variable gets two shapes, and it is the only one.
use Rattle.std.proofs.Common.{◌≡◌, ℕ, ◌<◌, Bool, true, false, cond, nat_eq, nat_lt, Option, Some, None, List, [], ◌∷◌, ◌⊎◌, ◌↔◌, inl, inr, get_or, refl, sym, ap, subst, ◌∙◌, arith}
use Rattle.std.specs.List.{Contains}
use Rattle.std.proofs.lemmas.Bool.Decides.{nat_tests}
use Rattle.std.proofs.lemmas.List.Elements.{Contains-get_or}
use Rattle.std.proofs.lemmas.List.Kept.{AllPairs-cons}
use Rattle.graph_walks.proofs.Lists.{empty}
use Rattle.typegraph.specs.declared.goals.Binding.{Binding}
use Rattle.typegraph.specs.Clashes.{IsConsistent}
use Rattle.typegraph.specs.Maps.{look, HasPair, IsRising, IsJoined, joined, clash}
use Rattle.typegraph.proofs.Looks.{equal, equal_as, first_binding, later_binding, binding_cases, look_finds, look_some}
use Rattle.typegraph.proofs.Agree.{rising_tail, rising_first, rising_same}
use Rattle.typegraph.proofs.Joins.{only_list}

pub joined_pairs : (list all : List Binding) → IsJoined [] list (Some all) → (v s : ℕ) → look all v ≡ Some s ↔ HasPair [] list v s
joined_pairs list all (joined is) = is

-- the map of a list finds what the list finds
pub joined_look : (list all : List Binding) → IsJoined [] list (Some all) → look all ≡ look list
joined_look list all j = λ i v. at v (look all v) refl (look list v) refl i
  where
    at : (v : ℕ) (a : Option ℕ) → look all v ≡ a → (b : Option ℕ) → look list v ≡ b → look all v ≡ look list v
    at v a e (Some s) f = (joined_pairs list all j v s).1 (inr (look_finds list v s f)) ∙ sym f
    at v None e None f = e ∙ sym f
    at v (Some s) e None f = absurd (look_some list (record { var = v; shape = s }) (only_list list v s ((joined_pairs list all j v s).0 e)) f)

pub joined_once : (list all : List Binding) → IsJoined [] list (Some all) → IsConsistent list
joined_once list all j v s t c d = let e : Some s ≡ Some t = sym ((joined_pairs list all j v s).1 (inr c)) ∙ (joined_pairs list all j v t).1 (inr d) in cc

-- a list has a map, or it has none
pub not_both : (list all : List Binding) → IsJoined [] list (Some all) → IsJoined [] list None → ⊥
not_both list all j (clash h) = h.differ (joined_once list all j h.var h.one h.other (only_list list h.var h.one h.has_one) (only_list list h.var h.other h.has_other))

pub one_map : (list one other : List Binding) → IsRising one → IsRising other → IsJoined [] list (Some one) → IsJoined [] list (Some other) → one ≡ other
one_map list one other r q j k = rising_same one other r q (joined_look list one j ∙ sym (joined_look list other k))

-- ---- a binding at its place among bindings in order

abbrev put : Binding → List Binding → List Binding
put b [] = b ∷ []
put b (a ∷ cs) = cond (nat_lt b.var a.var) (b ∷ a ∷ cs) (cond (nat_eq a.var b.var) (a ∷ cs) (a ∷ put b cs))

put_look : (b : Binding) (cs : List Binding) → ((u : ℕ) → look cs b.var ≡ Some u → u ≡ b.shape) → (v : ℕ) → look (put b cs) v ≡ cond (nat_eq b.var v) (Some b.shape) (look cs v)
put_look b [] agrees v = refl
put_look b (a ∷ cs) agrees v = go (nat_lt b.var a.var) (nat_eq a.var b.var) refl (put_look b cs)
  where
    here : nat_eq a.var b.var ≡ true → a.shape ≡ b.shape
    here e = agrees a.shape (ap (λ t. cond t (Some a.shape) (look cs b.var)) e)

    passed : nat_eq a.var b.var ≡ false → (u : ℕ) → look cs b.var ≡ Some u → u ≡ b.shape
    passed e u f = agrees u (ap (λ t. cond t (Some a.shape) (look cs b.var)) e ∙ f)

    met : (p q : Bool) (x y z : Option ℕ) → p ≡ q → x ≡ y → cond p x z ≡ cond q y (cond p x z)
    met true true x y z e f = f
    met true false x y z e f = cc
    met false true x y z e f = cc
    met false false x y z e f = refl

    crossed : (p q : Bool) (x y z : Option ℕ) → (p ≡ true → q ≡ true → ⊥) → cond p x (cond q y z) ≡ cond q y (cond p x z)
    crossed true true x y z h = absurd (h refl refl)
    crossed true false x y z h = refl
    crossed false true x y z h = refl
    crossed false false x y z h = refl

    apart : nat_eq a.var b.var ≡ false → nat_eq a.var v ≡ true → nat_eq b.var v ≡ true → ⊥
    apart e f g = let k : true ≡ false = sym (equal_as a.var b.var (equal a.var v f ∙ sym (equal b.var v g))) ∙ e in cc

    go : (less same : Bool) → nat_eq a.var b.var ≡ same → (((u : ℕ) → look cs b.var ≡ Some u → u ≡ b.shape) → (v : ℕ) → look (put b cs) v ≡ cond (nat_eq b.var v) (Some b.shape) (look cs v)) →
        look (cond less (b ∷ a ∷ cs) (cond same (a ∷ cs) (a ∷ put b cs))) v ≡ cond (nat_eq b.var v) (Some b.shape) (look (a ∷ cs) v)
    go true same e more = refl
    go false true e more = met (nat_eq a.var v) (nat_eq b.var v) (Some a.shape) (Some b.shape) (look cs v) (ap (λ k. nat_eq k v) (equal a.var b.var e)) (ap Some (here e))
    go false false e more =
        ap (cond (nat_eq a.var v) (Some a.shape)) (more (passed e) v)
        ∙ crossed (nat_eq a.var v) (nat_eq b.var v) (Some a.shape) (Some b.shape) (look cs v) (apart e)

put_from : (b : Binding) (cs : List Binding) (x : Binding) → Contains (put b cs) x → (x ≡ b) ⊎ Contains cs x
put_from b [] x c = binding_cases b x [] c
put_from b (a ∷ cs) x c = go (nat_lt b.var a.var) (nat_eq a.var b.var) c (put_from b cs x)
  where
    next : (x ≡ b) ⊎ Contains cs x → (x ≡ b) ⊎ Contains (a ∷ cs) x
    next (inl e) = inl e
    next (inr d) = inr (later_binding a x cs d)

    behind : (x ≡ a) ⊎ Contains (put b cs) x → (Contains (put b cs) x → (x ≡ b) ⊎ Contains cs x) → (x ≡ b) ⊎ Contains (a ∷ cs) x
    behind (inl e) more = inr (subst (Contains (a ∷ cs)) (sym e) (first_binding a cs))
    behind (inr d) more = next (more d)

    go : (less same : Bool) → Contains (cond less (b ∷ a ∷ cs) (cond same (a ∷ cs) (a ∷ put b cs))) x → (Contains (put b cs) x → (x ≡ b) ⊎ Contains cs x) → (x ≡ b) ⊎ Contains (a ∷ cs) x
    go true same d more = binding_cases b x (a ∷ cs) d
    go false true d more = inr d
    go false false d more = behind (binding_cases a x (put b cs) d) more

rising_more : (x : Binding) (xs : List Binding) → ((y : Binding) → Contains xs y → x.var < y.var) → IsRising xs → IsRising (x ∷ xs)
rising_more x xs before r = AllPairs-cons (λ a b. a.var < b.var) x xs (λ k d l. before (get_or xs k d) (Contains-get_or xs k d l)) r

put_rising : (b : Binding) (cs : List Binding) → IsRising cs → IsRising (put b cs)
put_rising b [] r = rising_more b [] (λ y c. empty y c) r
put_rising b (a ∷ cs) r = go (nat_lt b.var a.var) refl (nat_eq a.var b.var) refl (put_rising b cs (rising_tail a cs r))
  where
    less : nat_lt b.var a.var ≡ true → b.var < a.var
    less l = grind (arith, nat_tests)

    above : nat_lt b.var a.var ≡ false → nat_eq a.var b.var ≡ false → a.var < b.var
    above l e = grind (arith, nat_tests)

    first_above : b.var < a.var → (y : Binding) → (y ≡ a) ⊎ Contains cs y → b.var < y.var
    first_above l y (inl e) = subst (λ z. b.var < z.var) (sym e) l
    first_above l y (inr c) = let k : a.var < y.var = rising_first a cs r y c in omega (arith, l, k)

    rest_above : a.var < b.var → (y : Binding) → (y ≡ b) ⊎ Contains cs y → a.var < y.var
    rest_above l y (inl e) = subst (λ z. a.var < z.var) (sym e) l
    rest_above l y (inr c) = rising_first a cs r y c

    go : (p : Bool) → nat_lt b.var a.var ≡ p → (q : Bool) → nat_eq a.var b.var ≡ q → IsRising (put b cs) → IsRising (cond p (b ∷ a ∷ cs) (cond q (a ∷ cs) (a ∷ put b cs)))
    go true l q e more = rising_more b (a ∷ cs) (λ y c. first_above (less l) y (binding_cases a y cs c)) r
    go false l true e more = r
    go false l false e more = rising_more a (put b cs) (λ y c. rest_above (above l e) y (put_from b cs y c)) more

-- ---- the map in order

pub record HasMap (list : List Binding) : Type 0 where
  pub map : List Binding
  pub rising : IsRising map
  pub is : IsJoined [] list (Some map)

no_map : HasMap []
no_map = record { map = []; rising = λ i j d l k. absurd (omega (arith, k)); is = joined (λ v s. (λ e. inl e, λ p. empty _ (only_list [] v s p))) }

module _ (b : Binding) (bs : List Binding) (once : IsConsistent (b ∷ bs)) (m : HasMap bs) where
  agrees : (u : ℕ) → look m.map b.var ≡ Some u → u ≡ b.shape
  agrees u e = once b.var u b.shape (later_binding b _ bs (only_list bs b.var u ((joined_pairs bs m.map m.is b.var u).0 e))) (first_binding b bs)

  to : (v s : ℕ) (t : Bool) → nat_eq b.var v ≡ t → cond t (Some b.shape) (look m.map v) ≡ Some s → HasPair [] (b ∷ bs) v s
  to v s true e h =
      let shape : b.shape ≡ s = cc in
      let same : b ≡ record { var = v; shape = s } = λ i. record { var = equal b.var v e i; shape = shape i } in
      inr (subst (Contains (b ∷ bs)) same (first_binding b bs))
  to v s false e h = inr (later_binding b _ bs (only_list bs v s ((joined_pairs bs m.map m.is v s).0 h)))

  from : (v s : ℕ) (t : Bool) → nat_eq b.var v ≡ t → (record { var = v; shape = s } ≡ b) ⊎ Contains bs (record { var = v; shape = s }) → cond t (Some b.shape) (look m.map v) ≡ Some s
  from v s true e (inl same) = ap (λ x. Some x.shape) (sym same)
  from v s true e (inr c) =
      let here : Contains (b ∷ bs) (record { var = v; shape = b.shape }) = subst (λ k. Contains (b ∷ bs) (record { var = k; shape = b.shape })) (equal b.var v e) (first_binding b bs) in
      ap Some (once v b.shape s here (later_binding b _ bs c))
  from v s false e (inl same) = let k : true ≡ false = sym (equal_as b.var v (ap (λ x. x.var) (sym same))) ∙ e in cc
  from v s false e (inr c) = (joined_pairs bs m.map m.is v s).1 (inr c)

  one_more : HasMap (b ∷ bs)
  one_more =
      record {
        map = put b m.map;
        rising = put_rising b m.map m.rising;
        is = joined (λ v s. (
          λ h. to v s (nat_eq b.var v) refl (sym (put_look b m.map agrees v) ∙ h),
          λ p. put_look b m.map agrees v ∙ from v s (nat_eq b.var v) refl (binding_cases b (record { var = v; shape = s }) bs (only_list (b ∷ bs) v s p)),
        ));
      }

pub has_map : (list : List Binding) → IsConsistent list → HasMap list
has_map [] once = no_map
has_map (b ∷ bs) once = one_more b bs once (has_map bs (λ v s t c d. once v s t (later_binding b _ bs c) (later_binding b _ bs d)))
