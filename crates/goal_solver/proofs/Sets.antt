-- Sets of states, whose goals stand in order.
use Rattle.std.proofs.Common.{◌≡◌, ◌≢◌, ◌↔◌, ◌+◌, ◌≤◌, Bool, true, false, not, ◌&&◌, if◌then◌else◌, List, [], ◌∷◌, ◌++◌, map, length, refl, sym, ap, subst, ◌∙◌, arith, ◌⊎◌, inl, inr, IsTrue, nat_eq, length-append, Result, Ok, Err, IfOk}
use Rattle.std.specs.List.{Contains, list_any}
use Rattle.std.specs.Cmp.{unsigned_Decides}
use Rattle.std.specs.Cmp.Lexicographic.{pointwise}
use Rattle.std.proofs.lemmas.List.{map_push}
use Rattle.std.proofs.lemmas.List.Quantifiers.{all_pairs_push}
use Rattle.std.proofs.lemmas.List.Elements.{Contains-get_or, Contains-push_cases}
use Rattle.indexmap.specs.IndexSet.{insert_key, insert_all}
use Rattle.graph_walks.proofs.Lists.{empty, first, first_as, later, first_or_later, Origin, map_from}
use Rattle.flow_graph.proofs.Same.{IsExact, any_true, any_false}
use Rattle.typegraph.specs.Keys.{binding_eq}
use Rattle.typegraph.specs.Maps.{IsRising}
use Rattle.typegraph.proofs.Agree.{map_exact, rising_same}
use Rattle.goal_solver.specs.declared.state.State.{State}
use Rattle.goal_solver.specs.contracts.state.StatePartialEq.TheImpl.{eq-value}
use Rattle.goal_solver.specs.States.{state_of, IsMet, AreApart, AreStates, IsAdded, was_there, put_last, IsUnion}
use Rattle.goal_solver.proofs.Meetings.{met_here, met_in, added_kept, added_from, added_met}

-- a fact of what was returned, where there is something
pub if_ok_map : {A E : Type 0} (r : Result A E) (P Q : A → Type 0) → ((a : A) → P a → Q a) → IfOk r P → IfOk r Q
if_ok_map (Ok a) P Q f h = f a h
if_ok_map (Err e) P Q f h = h

pub if_ok_at : {A : Type 0} {E : Type 0} (r : Result A E) (P : A → Type 0) (a : A) → r ≡ Ok a → IfOk r P → P a
if_ok_at r P a e h = subst (λ t. IfOk t P) e h

both : (x y : Bool) → (x && y) ≡ true → (x ≡ true) × (y ≡ true)
both true y h = (refl, h)
both false y h = cc

pub state_exact : IsExact eq-value.it
state_exact a b = (to, from)
  where
    to : eq-value.it a b ≡ true → a ≡ b
    to h =
        let p : (nat_eq a.point b.point ≡ true) × (pointwise binding_eq a.goals b.goals ≡ true) = both _ _ h in
        λ i. record { point = (unsigned_Decides a.point b.point).0 p.0 i; goals = (map_exact a.goals b.goals).0 p.1 i }

    from : a ≡ b → eq-value.it a b ≡ true
    from e = λ i. (((unsigned_Decides a.point b.point).1 (ap (λ f. f.point) e)) i) && (((map_exact a.goals b.goals).1 (ap (λ f. f.goals) e)) i)

same_state : (a b : State) → IsRising a.goals → IsRising b.goals → state_of a ≡ state_of b → a ≡ b
same_state a b ra rb e = λ i. record { point = (e i).0; goals = rising_same a.goals b.goals ra rb (ap (λ z. z.1) e) i }

met_there : (states : List State) (x : State) → AreStates states → IsRising x.goals → IsMet states x → Contains states x
met_there states x a r m = go (map_from state_of states (state_of x) m)
  where
    go : Origin state_of states (state_of x) → Contains states x
    go o = subst (λ z. Contains states z) (same_state o.item x (a.rising o.item o.is) r o.same) o.is

pub has_met : (states : List State) (x : State) (r : Bool) → AreStates states → IsRising x.goals → r ≡ list_any (eq-value.it x) states → IsTrue r ↔ IsMet states x
has_met states x r a rise e = (λ t. met_here states x x (any_true eq-value.it state_exact states x (sym e ∙ t)) refl, λ m. from (list_any (eq-value.it x) states) refl (met_there states x a rise m))
  where
    from : (t : Bool) → list_any (eq-value.it x) states ≡ t → Contains states x → r ≡ true
    from true i c = e ∙ i
    from false i c = absurd (any_false eq-value.it state_exact states x i c)

apart_push : (xs : List State) (x : State) → AreApart xs → (IsMet xs x → ⊥) → AreApart (xs ++ x ∷ [])
apart_push xs x a n =
    rw map_push (all_pairs_push (λ a b. a ≢ b) (map state_of xs) (state_of x) a
    (λ k d l e. n (subst (λ z. Contains (map state_of xs) z) e (Contains-get_or (map state_of xs) k d l))))

pub states_none : AreStates []
states_none = record { apart = λ i j d l k. let z : ⊥ = omega (arith, k) in absurd z; rising = λ x c. empty x c }

pub set_added : (states : List State) (x : State) → AreStates states → IsRising x.goals → IsAdded states x (not (list_any (eq-value.it x) states)) (insert_key eq-value.it states x) × AreStates (insert_key eq-value.it states x)
set_added states x a r = go (list_any (eq-value.it x) states) refl
  where
    go : (t : Bool) → list_any (eq-value.it x) states ≡ t → IsAdded states x (not (list_any (eq-value.it x) states)) (insert_key eq-value.it states x) × AreStates (insert_key eq-value.it states x)
    go true e =
        let same : insert_key eq-value.it states x ≡ states = ap (λ b. if b then states else states ++ x ∷ []) e in
        (was_there (met_here states x x (any_true eq-value.it state_exact states x e) refl) (ap not e) same, subst (λ ys. AreStates ys) (sym same) a)
    go false e =
        let same : insert_key eq-value.it states x ≡ states ++ x ∷ [] = ap (λ b. if b then states else states ++ x ∷ []) e in
        let none : IsMet states x → ⊥ = λ m. any_false eq-value.it state_exact states x e (met_there states x a r m) in
        (put_last none (ap not e) same, subst (λ ys. AreStates ys) (sym same) (record { apart = apart_push states x a.apart none; rising = λ y c. rise y (Contains-push_cases states x y c) }))
      where
        rise : (y : State) → Contains states y ⊎ (x ≡ y) → IsRising y.goals
        rise y (inl c) = a.rising y c
        rise y (inr i) = subst (λ z. IsRising z.goals) i r

added_few : (xs ys : List State) (x : State) (fresh : Bool) → IsAdded xs x fresh ys → length ys ≤ length xs + 1
added_few xs ys x fresh (was_there m f e) = omega (arith, ap length e)
added_few xs ys x fresh (put_last n f e) = omega (arith, ap length e, length-append xs (x ∷ []))

union_more : (x : State) (xs states mid all : List State) (fresh : Bool) → IsAdded states x fresh mid → IsUnion mid xs all → IsUnion states (x ∷ xs) all
union_more x xs states mid all fresh s u =
    record {
      kept = λ y c. u.kept y (added_kept states mid x fresh s y c);
      added = λ y c. add y (first_or_later x y xs c);
      from = λ y c. from y (u.from y c);
      few = let l : length mid ≤ length states + 1 = added_few states mid x fresh s in omega (arith, l, u.few);
    }
  where
    add : (y : State) → (y ≡ x) ⊎ Contains xs y → IsMet all y
    add y (inl e) = subst (λ z. IsMet all z) (sym e) (met_in mid all u.kept (state_of x) (added_met states mid x fresh s))
    add y (inr c) = u.added y c

    early : (y : State) → Contains states y ⊎ (y ≡ x) → Contains states y ⊎ Contains (x ∷ xs) y
    early y (inl c) = inl c
    early y (inr e) = inr (first_as x y xs e)

    from : (y : State) → Contains mid y ⊎ Contains xs y → Contains states y ⊎ Contains (x ∷ xs) y
    from y (inl c) = early y (added_from states mid x fresh s y c)
    from y (inr c) = inr (later x y xs c)

pub set_union : (xs states : List State) → AreStates states → ((x : State) → Contains xs x → IsRising x.goals) → IsUnion states xs (insert_all eq-value.it states xs) × AreStates (insert_all eq-value.it states xs)
set_union [] states a r = (record { kept = λ x c. c; added = λ x c. empty x c; from = λ x c. inl c; few = omega arith }, a)
set_union (x ∷ xs) states a r =
    let s : IsAdded states x (not (list_any (eq-value.it x) states)) (insert_key eq-value.it states x) × AreStates (insert_key eq-value.it states x) = set_added states x a (r x (first x xs)) in
    let u : IsUnion (insert_key eq-value.it states x) xs (insert_all eq-value.it (insert_key eq-value.it states x) xs) × AreStates (insert_all eq-value.it (insert_key eq-value.it states x) xs) = set_union xs (insert_key eq-value.it states x) s.1 (λ y c. r y (later x y xs c)) in
    (union_more x xs states (insert_key eq-value.it states x) (insert_all eq-value.it (insert_key eq-value.it states x) xs) (not (list_any (eq-value.it x) states)) s.0 u.0, u.1)

-- the same, for a set that is seen as a list
pub added_at : (old view new : List State) (x : State) (fresh : Bool) → old ≡ view → AreStates old → IsRising x.goals → fresh ≡ not (list_any (eq-value.it x) old) → new ≡ insert_key eq-value.it old x → IsAdded view x fresh new × AreStates new
added_at old view new x fresh e a r f n =
    let p : IsAdded old x (not (list_any (eq-value.it x) old)) (insert_key eq-value.it old x) × AreStates (insert_key eq-value.it old x) = set_added old x a r in
    (subst (λ vs. IsAdded vs x fresh new) e (subst (λ t. IsAdded old x t new) (sym f) (subst (λ ks. IsAdded old x (not (list_any (eq-value.it x) old)) ks) (sym n) p.0)), subst (λ ks. AreStates ks) (sym n) p.1)

pub union_at : (old view other theirs new : List State) → old ≡ view → other ≡ theirs → AreStates old → AreStates other → new ≡ insert_all eq-value.it old other → IsUnion view theirs new × AreStates new
union_at old view other theirs new e f a b n =
    let p : IsUnion old other (insert_all eq-value.it old other) × AreStates (insert_all eq-value.it old other) = set_union other old a b.rising in
    (subst (λ vs. IsUnion vs theirs new) e (subst (λ ts. IsUnion old ts new) f (subst (λ ks. IsUnion old other ks) (sym n) p.0)), subst (λ ks. AreStates ks) (sym n) p.1)
