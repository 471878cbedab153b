-- The map of bindings, where they give no variable two shapes.
use Rattle.std.proofs.Common.{◌≡◌, ◌↔◌, ℕ, suc, zero, ◌+◌, ◌-◌, ◌<◌, ◌≤◌, nat_lt, nat_eq, slice_get, IsTrue, Err, Bool, true, false, Option, Some, None, List, [], ◌∷◌, ◌++◌, length, get_or, take, drop, refl, sym, ap, subst, ◌∙◌, arith, ◌⊎◌, inl, inr}
use Rattle.std.specs.List.{All, Contains, AllAdjacentBelow, IsAllAdjacentAnswer, HoldsAt, refill}
use Rattle.std.proofs.lemmas.List.{get_or_default, length-take, get_or-take, take_more}
use Rattle.std.proofs.lemmas.Bool.{cases_lt}
use Rattle.std.proofs.lemmas.Bool.Decides.{nat_tests}
use Rattle.std.proofs.lemmas.Option.{slice_get_within, get_or_from_slice_get, slice_get-get_or}
use Rattle.std.proofs.Math.Seq.{take-length}
use Rattle.std.specs.List.Sorted.{IsPermutation, IsNonDecreasingBy, IsBinarySearchResult}
use Rattle.std.specs.Ordering.{nat_cmp, ordering_index}
use Rattle.std.specs.declared.cmp.Ordering.TheVariants.{Equal}
use Rattle.std.proofs.lemmas.Cmp.{ranked}
use Rattle.std.proofs.lemmas.List.Elements.{Contains-get_or, Contains-push, Contains-push_cases, Contains-append_left, Contains-append_right, Contains-append_cases}
use Rattle.std.proofs.lemmas.List.Quantifiers.{all_pairs_push}
use Rattle.std.proofs.lemmas.List.Sorted.{Contains-permutation, IsPermutation-sym, IsNonDecreasingBy-from_default}
use Rattle.typegraph.specs.declared.goals.Binding.{Binding}
use Rattle.typegraph.specs.Maps.{look, HasPair, HasTwoShapes, IsRising, IsJoined, joined, clash, IsPutLast, last, there, clashes}
use Rattle.typegraph.proofs.Looks.{equal, equal_as, look_finds, look_once}
use Rattle.typegraph.proofs.Agree.{rising_once, rising_same}

-- a map, and those that a map and a list are joined to, by the same pairs
pub joined_as : (map list map2 list2 : List Binding) → ((v s : ℕ) → HasPair map list v s → HasPair map2 list2 v s) → ((v s : ℕ) → HasPair map2 list2 v s → HasPair map list v s) → (o : Option (List Binding)) → IsJoined map list o → IsJoined map2 list2 o
joined_as map list map2 list2 to from (Some all) (joined is) = joined (λ v s. (λ h. to v s ((is v s).0 h), λ h. (is v s).1 (from v s h)))
joined_as map list map2 list2 to from None (clash t) = clash (record { var = t.var; one = t.one; other = t.other; differ = t.differ; has_one = to t.var t.one t.has_one; has_other = to t.var t.other t.has_other })

pub only_list : (list : List Binding) (v s : ℕ) → HasPair [] list v s → Contains list (record { var = v; shape = s })
only_list list v s (inl h) = cc
only_list list v s (inr c) = c

-- a list in order is its own map
pub joined_rising : (list : List Binding) → IsRising list → IsJoined [] list (Some list)
joined_rising list rising = joined (λ v s. (λ h. inr (look_finds list v s h), λ h. look_once list v s (rising_once list rising) (only_list list v s h)))

-- and no other is
pub joined_itself : (map all : List Binding) → IsRising map → IsRising all → IsJoined [] map (Some all) → all ≡ map
joined_itself map all r q (joined is) = rising_same all map q r (λ i v. at v (look all v) refl (look map v) refl i)
  where
    at : (v : ℕ) (a : Option ℕ) → look all v ≡ a → (b : Option ℕ) → look map v ≡ b → look all v ≡ look map v
    at v (Some s) e b f = e ∙ sym (look_once map v s (rising_once map r) (only_list map v s ((is v s).0 e)))
    at v None e None f = e ∙ sym f
    at v None e (Some s) f = (is v s).1 (inr (look_finds map v s f)) ∙ sym f

drop_all : (xs : List Binding) (k : ℕ) → k ≡ length xs → drop k xs ≡ []
drop_all [] zero e = refl
drop_all [] (suc k) e = refl
drop_all (x ∷ xs) zero e = absurd (omega (arith, e))
drop_all (x ∷ xs) (suc k) e = drop_all xs k (omega (arith, e))

append_end : (xs : List Binding) → xs ++ [] ≡ xs
append_end [] = refl
append_end (x ∷ xs) = ap (λ ys. x ∷ ys) (append_end xs)

-- a list that is written over whole
pub refill_whole : (n : ℕ) (xs ys : List Binding) → n ≡ length xs → length ys ≡ length xs → refill n xs ys ≡ ys
refill_whole n xs ys e l = ap (λ zs. take n (ys ++ zs)) (drop_all xs (length ys) l) ∙ ap (take n) (append_end ys) ∙ ap (λ k. take k ys) (e ∙ sym l) ∙ take-length ys

-- bindings in another order have the same map
pub joined_sorted : (list sorted : List Binding) → IsPermutation list sorted → (o : Option (List Binding)) → IsJoined [] sorted o → IsJoined [] list o
joined_sorted list sorted p =
    joined_as [] sorted [] list
    (λ v s h. inr (Contains-permutation sorted list (record { var = v; shape = s }) (IsPermutation-sym list sorted p) (only_list sorted v s h)))
    (λ v s h. inr (Contains-permutation list sorted (record { var = v; shape = s }) p (only_list list v s h)))

-- a map and a list, one after the other
pub joined_both : (map list all : List Binding) → IsRising map → all ≡ map ++ list → (o : Option (List Binding)) → IsJoined [] all o → IsJoined map list o
joined_both map list all rising e = joined_as [] all map list (λ v s h. to v s (Contains-append_cases map list (record { var = v; shape = s }) (subst (λ xs. Contains xs (record { var = v; shape = s })) e (only_list all v s h)))) (λ v s h. inr (subst (λ xs. Contains xs (record { var = v; shape = s })) (sym e) (from v s h)))
  where
    to : (v s : ℕ) → Contains map (record { var = v; shape = s }) ⊎ Contains list (record { var = v; shape = s }) → HasPair map list v s
    to v s (inl c) = inl (look_once map v s (rising_once map rising) c)
    to v s (inr c) = inr c

    from : (v s : ℕ) → HasPair map list v s → Contains (map ++ list) (record { var = v; shape = s })
    from v s (inl h) = Contains-append_left map list (record { var = v; shape = s }) (look_finds map v s h)
    from v s (inr c) = Contains-append_right map list (record { var = v; shape = s }) c

-- the map of the bindings so far
pub record IsThinned (done map : List Binding) : Type 0 where
  pub rising : IsRising map
  pub to : (b : Binding) → Contains map b → Contains done b
  pub from : (b : Binding) → Contains done b → Contains map b

pub thinned_none : IsThinned [] []
thinned_none = record { rising = λ i j d l k. absurd (omega (arith, k)); to = λ b c. c; from = λ b c. c }

module _ (sorted : List Binding) (falls_not : IsNonDecreasingBy (λ b. b.var) sorted) (i : ℕ) (b : Binding) (l : i < length sorted) (at : b ≡ get_or sorted i b) (map : List Binding) (t : IsThinned (take i sorted) map) where
  taken : take (i + 1) sorted ≡ take i sorted ++ b ∷ []
  taken = take_more sorted i b l ∙ ap (λ z. take i sorted ++ z ∷ []) (sym at)

  here : Contains sorted b
  here = (i, l, sym at)

  of_taken : (a : Binding) → Contains (take i sorted) a → Contains sorted a
  of_taken a (k, m, e) = let n : k < i = omega (arith, m, length-take i sorted) in (k, omega (arith, n, l), sym (get_or-take i sorted k a n) ∙ e)

  -- a binding of the map is one of the list
  of_list : (a : Binding) → Contains map a → Contains sorted a
  of_list a c = of_taken a (t.to a c)

  before : (a : Binding) → Contains (take i sorted) a → a.var ≤ b.var
  before a (k, m, e) =
      let n : k < i = omega (arith, m, length-take i sorted) in
      let p : (get_or sorted k a).var ≤ (get_or sorted i a).var = falls_not k i a (omega arith) l in
      let q : get_or sorted k a ≡ a = sym (get_or-take i sorted k a n) ∙ e in
      let r : get_or sorted i a ≡ b = get_or_default sorted i a b l ∙ sym at in
      subst (λ z. z.var ≤ b.var) q (subst (λ z. (get_or sorted k a).var ≤ z.var) r p)

  pub thinned_below : All (λ a. a.var ≤ b.var) map
  thinned_below k d m = before (get_or map k d) (t.to (get_or map k d) (Contains-get_or map k d m))

  pub thinned_more : (new : List Binding) → IsPutLast map b true new → IsThinned (take (i + 1) sorted) new
  thinned_more new (last below) =
      record {
        rising = all_pairs_push (λ x y. x.var < y.var) map b t.rising (λ k d m. below k d m);
        to = λ a c. subst (λ xs. Contains xs a) (sym taken) (to a (Contains-push_cases map b a c));
        from = λ a c. from a (Contains-push_cases (take i sorted) b a (subst (λ xs. Contains xs a) taken c));
      }
    where
      to : (a : Binding) → Contains map a ⊎ (b ≡ a) → Contains (take i sorted ++ b ∷ []) a
      to a (inl c) = Contains-append_left (take i sorted) (b ∷ []) a (t.to a c)
      to a (inr e) = subst (λ z. Contains (take i sorted ++ b ∷ []) z) e (Contains-push (take i sorted) b)

      from : (a : Binding) → Contains (take i sorted) a ⊎ (b ≡ a) → Contains (map ++ b ∷ []) a
      from a (inl c) = Contains-append_left map (b ∷ []) a (t.from a c)
      from a (inr e) = subst (λ z. Contains (map ++ b ∷ []) z) e (Contains-push map b)
  thinned_more new (there is) =
      record {
        rising = t.rising;
        to = λ a c. subst (λ xs. Contains xs a) (sym taken) (Contains-append_left (take i sorted) (b ∷ []) a (t.to a c));
        from = λ a c. from a (Contains-push_cases (take i sorted) b a (subst (λ xs. Contains xs a) taken c));
      }
    where
      from : (a : Binding) → Contains (take i sorted) a ⊎ (b ≡ a) → Contains map a
      from a (inl c) = t.from a c
      from a (inr e) = subst (λ z. Contains map z) e is

  pub thinned_clash : (new : List Binding) → IsPutLast map b false new → IsJoined [] sorted None
  thinned_clash new (clashes shape stands differ) = clash (record { var = b.var; one = shape; other = b.shape; differ = differ; has_one = inr (of_list (record { var = b.var; shape = shape }) stands); has_other = inr here })

  pub thinned_refused : (fits : Bool) (new : List Binding) → fits ≡ false → IsPutLast map b fits new → IsJoined [] sorted None
  thinned_refused true new e p = cc
  thinned_refused false new e p = thinned_clash new p

  pub thinned_taken : (fits : Bool) (new : List Binding) → fits ≡ true → IsPutLast map b fits new → IsThinned (take (i + 1) sorted) new
  thinned_taken true new e p = thinned_more new p
  thinned_taken false new e p = cc

pub two_shapes : (map list : List Binding) → IsJoined map list None → HasTwoShapes map list
two_shapes map list (clash t) = t

pub thinned_all : (sorted map : List Binding) (i : ℕ) → i ≡ length sorted → IsThinned (take i sorted) map → IsJoined [] sorted (Some map)
thinned_all sorted map i e t =
    joined (λ v s. (
      λ h. inr (subst (λ xs. Contains xs (record { var = v; shape = s })) whole (t.to (record { var = v; shape = s }) (look_finds map v s h))),
      λ h. look_once map v s (rising_once map t.rising) (t.from (record { var = v; shape = s }) (subst (λ xs. Contains xs (record { var = v; shape = s })) (sym whole) (only_list sorted v s h))),
    ))
  where
    whole : take i sorted ≡ sorted
    whole = ap (λ n. take n sorted) e ∙ take-length sorted

-- where the last binding is of another variable than this, which none exceeds, all are below it
pub all_below : (list : List Binding) (var : ℕ) (x : Binding) → IsRising list → All (λ b. b.var ≤ var) list → slice_get list (length list - 1) ≡ Some x → (x.var ≡ var → ⊥) → All (λ b. b.var < var) list
all_below list var x rising below at other k d l =
    let m : length list - 1 < length list = omega (arith, l) in
    let e : get_or list (length list - 1) d ≡ x = get_or_from_slice_get list (length list - 1) x d at in
    let top : x.var ≤ var = subst (λ z. z.var ≤ var) e (below (length list - 1) d m) in
    let less : x.var < var = omega (arith, top, other) in
    by e less (cases_lt k (length list - 1))
  where
    by : get_or list (length list - 1) d ≡ x → x.var < var → (k < length list - 1) ⊎ (length list - 1 ≤ k) → (get_or list k d).var < var
    by e less (inl m) = let z : (get_or list k d).var < (get_or list (length list - 1) d).var = rising k (length list - 1) d m (omega (arith, l)) in let y : (get_or list k d).var < x.var = subst (λ b. (get_or list k d).var < b.var) e z in omega (arith, y, less)
    by e less (inr m) = let i : length list - 1 ≡ k = omega (arith, m, l) in subst (λ n. (get_or list n d).var < var) i (subst (λ b. b.var < var) (sym e) less)

pub last_there : (list : List Binding) (var : ℕ) (x : Binding) → slice_get list (length list - 1) ≡ Some x → x.var ≡ var → Contains list (record { var = var; shape = x.shape })
last_there list var x at e = let l : length list - 1 < length list = slice_get_within list (length list - 1) x at in (length list - 1, l, get_or_from_slice_get list (length list - 1) x (record { var = var; shape = x.shape }) at ∙ (λ i. record { var = e i; shape = x.shape }))

pub none_last : (list : List Binding) → slice_get list (length list - 1) ≡ None → list ≡ []
none_last [] e = refl
none_last (x ∷ list) e = absurd (gone (x ∷ list) (omega arith) e)
  where
    gone : (xs : List Binding) → 0 < length xs → slice_get xs (length xs - 1) ≡ None → ⊥
    gone xs l e = let k : Some (get_or xs (length xs - 1) x) ≡ None = sym (slice_get-get_or xs (length xs - 1) x (omega (arith, l))) ∙ e in cc

step_more : (list : List Binding) (i j : ℕ) (d : Binding) → (i < j → (get_or list i d).var < (get_or list j d).var) → (get_or list j d).var < (get_or list (suc j) d).var → (i < j) ⊎ (j ≤ i) → i < suc j → (get_or list i d).var < (get_or list (suc j) d).var
step_more list i j d far step (inl m) l = let z : (get_or list i d).var < (get_or list j d).var = far m in omega (arith, z, step)
step_more list i j d far step (inr m) l = let e : i ≡ j = omega (arith, m, l) in subst (λ n. (get_or list n d).var < (get_or list (suc j) d).var) (sym e) step

rising_by_steps : (list : List Binding) (i j : ℕ) (d : Binding) → ((m : ℕ) → suc m < length list → (get_or list m d).var < (get_or list (suc m) d).var) → i < j → j < length list → (get_or list i d).var < (get_or list j d).var
rising_by_steps list i zero d next l k = absurd (omega (arith, l))
rising_by_steps list i (suc j) d next l k = step_more list i j d (λ m. rising_by_steps list i j d next m (omega (arith, k))) (next j k) (cases_lt i j) l

-- neighbours that rise
pub rising_adjacent : (list : List Binding) → AllAdjacentBelow (λ a b. nat_lt a.var b.var ≡ true) list (length list) → IsRising list
rising_adjacent list h i j d l k = rising_by_steps list i j d next l k
  where
    next : (m : ℕ) → suc m < length list → (get_or list m d).var < (get_or list (suc m) d).var
    next m n = subst (λ q. (get_or list m d).var < (get_or list q d).var) {x = m + 1} (omega arith) (let z : nat_lt (get_or list m d).var (get_or list (m + 1) d).var ≡ true = h m d (omega (arith, n)) in grind (arith, nat_tests))

pub rising_answer : (list : List Binding) (r : Bool) → IsAllAdjacentAnswer (λ a b t. t ≡ nat_lt a.var b.var) list r → IsTrue r ↔ IsRising list
rising_answer list true h = (λ _. rising_adjacent list (λ k d l. sym (h k d l)), λ _. refl)
rising_answer list false (k, l, h) = (λ t. cc, λ rising. absurd (falls rising))
  where
    falls : IsRising list → ⊥
    falls rising =
        let d : Binding = record { var = 0; shape = 0 } in
        let m : (get_or list k d).var < (get_or list (k + 1) d).var = rising k (k + 1) d (omega arith) l in
        let e : nat_lt (get_or list k d).var (get_or list (k + 1) d).var ≡ true = grind (arith, nat_tests) in
        let f : false ≡ nat_lt (get_or list k d).var (get_or list (k + 1) d).var = h d in
        cc

module _ (list : List Binding) (rising : IsRising list) (var : ℕ) where
  comparisons_rise : IsNonDecreasingBy (λ b. ordering_index (nat_cmp b.var var)) list
  comparisons_rise = IsNonDecreasingBy-from_default (λ b. ordering_index (nat_cmp b.var var)) list (record { var = 0; shape = 0 }) (λ i j le l. go i j l (cases_lt i j) le)
    where
      go : (i j : ℕ) → j < length list → (i < j) ⊎ (j ≤ i) → i ≤ j → ordering_index (nat_cmp (get_or list i (record { var = 0; shape = 0 })).var var) ≤ ordering_index (nat_cmp (get_or list j (record { var = 0; shape = 0 })).var var)
      go i j l (inl m) le = let z : (get_or list i (record { var = 0; shape = 0 })).var < (get_or list j (record { var = 0; shape = 0 })).var = rising i j (record { var = 0; shape = 0 }) m l in grind (arith, nat_tests)
      go i j l (inr m) le = let e : i ≡ j = omega (arith, m, le) in subst (λ n. ordering_index (nat_cmp (get_or list i (record { var = 0; shape = 0 })).var var) ≤ ordering_index (nat_cmp (get_or list n (record { var = 0; shape = 0 })).var var)) e (omega arith)

  pub found_by_search : (at : ℕ) (x : Binding) → at < length list → HoldsAt (λ b. nat_cmp b.var var ≡ Equal) list at → x ≡ get_or list at x → look list var ≡ Some x.shape
  found_by_search at x l h is =
      let e : x.var ≡ var = ranked x.var var Equal (sym (subst (λ b. nat_cmp b.var var ≡ Equal) (sym is) (h x))) in
      look_once list var x.shape (rising_once list rising) (subst (λ z. Contains list z) (λ i. record { var = e i; shape = x.shape }) (at, l, sym is))

  pub none_by_search : (at : ℕ) → IsBinarySearchResult (λ b. nat_cmp b.var var) list (Err at) → look list var ≡ None
  none_by_search at parted = go (look list var) refl
    where
      side : (s k : ℕ) → k < length list → get_or list k (record { var = var; shape = s }) ≡ record { var = var; shape = s } → (k < at) ⊎ (at ≤ k) → ⊥
      side s k l e (inl m) = let z : (get_or list k (record { var = var; shape = s })).var < var = ranked _ var _ (sym ((parted comparisons_rise).0 k (record { var = var; shape = s }) (omega arith) m)) in let f : (get_or list k (record { var = var; shape = s })).var ≡ var = ap (λ b. b.var) e in omega (arith, z, f)
      side s k l e (inr m) = let z : var < (get_or list k (record { var = var; shape = s })).var = ranked _ var _ (sym ((parted comparisons_rise).1 k (record { var = var; shape = s }) m l)) in let f : (get_or list k (record { var = var; shape = s })).var ≡ var = ap (λ b. b.var) e in omega (arith, z, f)

      go : (o : Option ℕ) → look list var ≡ o → look list var ≡ None
      go None e = e
      go (Some s) e = let c : Contains list (record { var = var; shape = s }) = look_finds list var s e in absurd (side s c.0 c.1 c.2 (cases_lt c.0 at))

pub put_stands : (old : List Binding) (b : Binding) (shape : ℕ) (r : Bool) → Contains old (record { var = b.var; shape = shape }) → r ≡ nat_eq shape b.shape → IsPutLast old b r old
put_stands old b shape r c e = go r (nat_eq shape b.shape) refl e
  where
    go : (r t : Bool) → nat_eq shape b.shape ≡ t → r ≡ nat_eq shape b.shape → IsPutLast old b r old
    go true true i j = there (subst (λ z. Contains old (record { var = b.var; shape = z })) (equal shape b.shape i) c)
    go true false i j = cc
    go false true i j = cc
    go false false i j = clashes shape c (λ k. let z : nat_eq shape b.shape ≡ true = equal_as shape b.shape k in cc)
