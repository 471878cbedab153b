-- The list of what is wanted before an edge has exactly the pairs that are wanted there.
use Rattle.std.proofs.Common.{◌≡◌, ◌≢◌, ◌↔◌, ℕ, Bool, true, false, not, Option, Some, None, List, [], ◌∷◌, ◌++◌, nat_eq, ◌⊎◌, inl, inr, refl, sym, ap, subst, ◌∙◌}
use Rattle.std.specs.List.{Contains, filter}
use Rattle.std.specs.Option.{option_to_list}
use Rattle.std.proofs.lemmas.List.Elements.{Contains-append_cases, Contains-append_left, Contains-append_right}
use Rattle.std.proofs.lemmas.Option.{some_pair_parts}
use Rattle.graph_walks.specs.Backs.{Wanted, still, by_source, by_ask}
use Rattle.graph_walks.proofs.Lists.{empty, only, first, filter_keeps, filter_from}
use Rattle.typegraph.specs.declared.goals.Binding.{Binding}
use Rattle.typegraph.specs.Maps.{look, IsOnce, HasPair, IsJoined, joined, clash}
use Rattle.typegraph.proofs.Looks.{equal, equal_as, look_finds, look_once}
use Rattle.goal_solver.specs.declared.state.State.{State}
use Rattle.goal_solver.specs.States.{state_of}
use Rattle.goal_solver.specs.Backs.{is_var, pair_of, wanted_list, IsBefore}

joined_same : (list one other : List Binding) → IsJoined [] list (Some one) → IsJoined [] list (Some other) → look one ≡ look other
joined_same list one other (joined is) (joined too) = λ i v. at v (look one v) refl (look other v) refl i
  where
    at : (v : ℕ) (a : Option ℕ) → look one v ≡ a → (b : Option ℕ) → look other v ≡ b → look one v ≡ look other v
    at v (Some s) i b k = i ∙ sym ((too v s).1 ((is v s).0 i))
    at v None i None k = i ∙ sym k
    at v None i (Some s) k = (is v s).1 ((too v s).0 k) ∙ sym k

not_both : {A : Type 0} (list one : List Binding) → IsJoined [] list None → IsJoined [] list (Some one) → A
not_both list one (clash t) (joined is) =
    let p : look one t.var ≡ Some t.one = (is t.var t.one).1 t.has_one in
    let q : look one t.var ≡ Some t.other = (is t.var t.other).1 t.has_other in
    let z : Some t.one ≡ Some t.other = sym p ∙ q in
    let same : t.one ≡ t.other = cc in
    absurd (t.differ same)

-- the state of a map that was made, or none
module _ (from : ℕ) (target : Option ℕ) (goals source : List Binding) (pair : Option Binding) (list : List Binding) (is : list ≡ wanted_list target goals source pair) (answer : Option (List Binding)) (made : IsJoined [] list answer) where
  pub none_before : answer ≡ None → (x : State) → IsBefore from target goals source pair x → ⊥
  none_before e x b = not_both (wanted_list target goals source pair) x.goals (subst (λ l. IsJoined [] l None) is (subst (λ o. IsJoined [] list o) e made)) b.joined

  pub is_before : (m : List Binding) → answer ≡ Some m → (x : State) → x ≡ record { point = from; goals = m } → IsBefore from target goals source pair x
  is_before m e x s =
      let j : IsJoined [] (wanted_list target goals source pair) (Some m) = subst (λ l. IsJoined [] l (Some m)) is (subst (λ o. IsJoined [] list o) e made) in
      record { point = ap (λ z. z.point) s; joined = subst (λ z. IsJoined [] (wanted_list target goals source pair) (Some z.goals)) (sym s) j }

  pub same_before : (m : List Binding) → answer ≡ Some m → (x : State) → IsBefore from target goals source pair x → (from, look m) ≡ state_of x
  same_before m e x b =
      let j : IsJoined [] (wanted_list target goals source pair) (Some m) = subst (λ l. IsJoined [] l (Some m)) is (subst (λ o. IsJoined [] list o) e made) in
      let h : look m ≡ look x.goals = joined_same (wanted_list target goals source pair) m x.goals j b.joined in
      λ i. (sym b.point i, h i)

not_var : (target : Option ℕ) (v : ℕ) → not (is_var target v) ≡ true → target ≢ Some v
not_var None v h e = cc
not_var (Some u) v h e = go (nat_eq u v) refl h
  where
    go : (t : Bool) → nat_eq u v ≡ t → not t ≡ true → ⊥
    go true i h = cc
    go false i h = let same : u ≡ v = cc in let k : nat_eq u v ≡ true = equal_as u v same in cc

var_not : (target : Option ℕ) (v : ℕ) → target ≢ Some v → not (is_var target v) ≡ true
var_not None v n = refl
var_not (Some u) v n = go (nat_eq u v) refl
  where
    go : (t : Bool) → nat_eq u v ≡ t → not t ≡ true
    go true i = absurd (n (ap Some (equal u v i)))
    go false i = refl

module _ (target : Option ℕ) (goals source : List Binding) (pair : Option Binding) (goals_once : IsOnce goals) (source_once : IsOnce source) where
  abbrev pub TheWanted : ℕ → ℕ → Type 0
  TheWanted = Wanted target (look goals) (look source) (pair_of pair)

  pair_has : (b : Binding) (p : Option Binding) → Contains (option_to_list p) b → pair_of p ≡ Some (b.var, b.shape)
  pair_has b None c = empty b c
  pair_has b (Some x) c = let e : b ≡ x = only x b c in ap (λ z. Some (z.var, z.shape)) (sym e)

  has_pair : (p : Option Binding) (v s : ℕ) → pair_of p ≡ Some (v, s) → Contains (option_to_list p) (record { var = v; shape = s })
  has_pair None v s e = cc
  has_pair (Some x) v s e =
      let q : (x.var ≡ v) × (x.shape ≡ s) = some_pair_parts _ _ _ _ e in
      subst (λ z. Contains (x ∷ []) z) (λ i. record { var = q.0 i; shape = q.1 i }) (first x [])

  pub wanted_from : (v s : ℕ) → Contains (wanted_list target goals source pair) (record { var = v; shape = s }) → TheWanted v s
  wanted_from v s c = go (Contains-append_cases (filter (λ b. not (is_var target b.var)) goals) (source ++ option_to_list pair) (record { var = v; shape = s }) c)
    where
      rest : Contains source (record { var = v; shape = s }) ⊎ Contains (option_to_list pair) (record { var = v; shape = s }) → TheWanted v s
      rest (inl d) = by_source (look_once source v s source_once d)
      rest (inr d) = by_ask (pair_has (record { var = v; shape = s }) pair d)

      go : Contains (filter (λ b. not (is_var target b.var)) goals) (record { var = v; shape = s }) ⊎ Contains (source ++ option_to_list pair) (record { var = v; shape = s }) → TheWanted v s
      go (inl d) = let f : (not (is_var target v) ≡ true) × Contains goals (record { var = v; shape = s }) = filter_from (λ b. not (is_var target b.var)) goals (record { var = v; shape = s }) d in still (not_var target v f.0) (look_once goals v s goals_once f.1)
      go (inr d) = rest (Contains-append_cases source (option_to_list pair) (record { var = v; shape = s }) d)

  pub wanted_to : (v s : ℕ) → TheWanted v s → Contains (wanted_list target goals source pair) (record { var = v; shape = s })
  wanted_to v s (still n h) =
      Contains-append_left (filter (λ b. not (is_var target b.var)) goals) (source ++ option_to_list pair) (record { var = v; shape = s })
      (filter_keeps (λ b. not (is_var target b.var)) goals (record { var = v; shape = s }) (var_not target v n) (look_finds goals v s h))
  wanted_to v s (by_source h) =
      Contains-append_right (filter (λ b. not (is_var target b.var)) goals) (source ++ option_to_list pair) (record { var = v; shape = s })
      (Contains-append_left source (option_to_list pair) (record { var = v; shape = s }) (look_finds source v s h))
  wanted_to v s (by_ask h) =
      Contains-append_right (filter (λ b. not (is_var target b.var)) goals) (source ++ option_to_list pair) (record { var = v; shape = s })
      (Contains-append_right source (option_to_list pair) (record { var = v; shape = s }) (has_pair pair v s h))

  in_list : (v s : ℕ) → HasPair [] (wanted_list target goals source pair) v s → TheWanted v s
  in_list v s (inl h) = cc
  in_list v s (inr c) = wanted_from v s c

  -- a map of what the list has is a map of exactly what is wanted, and the other way round
  pub joined_is : (m : List Binding) → IsJoined [] (wanted_list target goals source pair) (Some m) → (v s : ℕ) → look m v ≡ Some s ↔ TheWanted v s
  joined_is m (joined is) v s = (λ h. in_list v s ((is v s).0 h), λ w. (is v s).1 (inr (wanted_to v s w)))

  pub is_joined : (m : List Binding) → ((v s : ℕ) → look m v ≡ Some s ↔ TheWanted v s) → IsJoined [] (wanted_list target goals source pair) (Some m)
  is_joined m is = joined (λ v s. (λ h. inr (wanted_to v s ((is v s).0 h)), λ p. (is v s).1 (in_list v s p)))
