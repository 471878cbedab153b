-- What is remembered, as sets of states, and that it stays right.
use Rattle.std.proofs.Common.{◌≡◌, ℕ, ◌+◌, ◌-◌, ◌≤◌, Bool, true, false, List, [], ◌∷◌, ◌++◌, map, length, get_or, refl, sym, ap, subst, ◌∙◌, arith, ◌⊎◌, inl, inr, IsTrue, length-append, append-nil}
use Rattle.std.specs.List.{All, Contains, filter}
use Rattle.std.proofs.lemmas.List.{length-map, map-append}
use Rattle.std.proofs.lemmas.List.Elements.{Contains-append_left, Contains-append_right, Contains-append_cases, Contains-get_or}
use Rattle.graph_walks.specs.Worlds as worlds
use Rattle.graph_walks.specs.Worlds.{Memory, nothing}
use Rattle.graph_walks.specs.Walks.{Visible}
use Rattle.graph_walks.specs.Backs.{BackState, Reached, Heavy}
use Rattle.graph_walks.specs.Growth.{IsWithin}
use Rattle.graph_walks.proofs.Closure.{IsShut, has_reached, not_heavy, not_root}
use Rattle.graph_walks.proofs.Growing.{visible_stays}
use Rattle.graph_walks.proofs.Lists.{empty, map_has, Origin, map_from, filter_from}
use Rattle.graph_walks.proofs.RootLaw.{root_law}
use Rattle.typegraph.specs.Maps.{look}
use Rattle.typegraph.specs.Graphs.{GraphTables}
use Rattle.goal_solver.specs.declared.state.State.{State}
use Rattle.goal_solver.specs.Graphs.{world_of}
use Rattle.goal_solver.specs.States.{state_of, IsMet, IsUnion}
use Rattle.goal_solver.specs.Entries.{entry_of, stretch_of}
use Rattle.goal_solver.specs.Searches.{IsClosed, AreVisible, HaveNoRoot, IsWhole}
use Rattle.goal_solver.specs.Memos.{Remembered, Stretch, SolverState, Remembers, IsLight, state_count, IsSound, grown}
use Rattle.goal_solver.specs.Answers.{IsKept}
use Rattle.goal_solver.proofs.Ahead.{discrete}
use Rattle.goal_solver.proofs.Meetings.{met_in}

pub sound_new : (budget : ℕ) (g : GraphTables) → IsSound (record { budget = budget; memo = []; light = [] }) g
sound_new budget g =
    record {
      yes = λ p m r. empty r.entry r.is;
      no = λ p m r. empty r.entry r.is;
      no_backs = λ e m h r b. empty r.entry r.is;
      light_backs = λ e m h r b. empty r.stretch r.is;
      light_few = omega arith;
    }

pub sound_grown : (s : SolverState) (old new : GraphTables) → IsWithin (world_of old) (world_of new) → IsSound s old → IsSound (grown s) new
sound_grown s old new w sound = record { yes = yes; no = λ p m r. none p m r; no_backs = λ e m h r b. none e.to m r; light_backs = λ e m h r b. empty r.stretch r.is; light_few = omega arith }
  where
    yes : (p : ℕ) (m : Memory ℕ ℕ) → Remembers (grown s) p m true → Visible (world_of new) p m
    yes p m r =
        let f : (r.entry.yes ≡ true) × Contains s.memo r.entry = filter_from (λ entry. entry.yes) s.memo r.entry r.is in
        visible_stays (world_of old) (world_of new) w p m (sound.yes p m (record { entry = r.entry; is = f.1; low_is = r.low_is; high_is = r.high_is; goals_is = r.goals_is; yes_is = r.yes_is }))

    none : {A : Type 0} (p : ℕ) (m : Memory ℕ ℕ) → Remembers (grown s) p m false → A
    none p m r =
        let f : (r.entry.yes ≡ true) × Contains s.memo r.entry = filter_from (λ entry. entry.yes) s.memo r.entry r.is in
        let k : true ≡ false = sym f.0 ∙ r.yes_is in
        cc

-- the memo of two sets and the list of a third
abbrev pub value : ℕ → List State → List State → List State → SolverState
value budget ys ns ls = record { budget = budget; memo = map (entry_of true) ys ++ map (entry_of false) ns; light = map stretch_of ls }

-- entries and states
entry_in : (answer : Bool) (xs : List State) (e : Remembered) (p : ℕ) (m : Memory ℕ ℕ) → Contains (map (entry_of answer) xs) e → e.low ≤ p → p ≤ e.high → look e.goals ≡ m → (e.yes ≡ answer) × Contains (map state_of xs) (p, m)
entry_in answer xs e p m c low high goals = go (map_from (entry_of answer) xs e c)
  where
    go : Origin (entry_of answer) xs e → (e.yes ≡ answer) × Contains (map state_of xs) (p, m)
    go o =
        let l : o.item.point ≤ p = subst (λ z. z.low ≤ p) (sym o.same) low in
        let h : p ≤ o.item.point = subst (λ z. p ≤ z.high) (sym o.same) high in
        let i : o.item.point ≡ p = omega (arith, l, h) in
        let j : look o.item.goals ≡ m = ap (λ z. look z.goals) o.same ∙ goals in
        (ap (λ z. z.yes) (sym o.same), subst (λ z. Contains (map state_of xs) z) (ap (λ n. (n, look o.item.goals)) i ∙ ap (λ r. (p, r)) j) (map_has state_of xs o.item o.is))

stretch_in : (xs : List State) (e : Stretch) (p : ℕ) (m : Memory ℕ ℕ) → Contains (map stretch_of xs) e → e.low ≤ p → p ≤ e.high → look e.goals ≡ m → Contains (map state_of xs) (p, m)
stretch_in xs e p m c low high goals = go (map_from stretch_of xs e c)
  where
    go : Origin stretch_of xs e → Contains (map state_of xs) (p, m)
    go o =
        let l : o.item.point ≤ p = subst (λ z. z.low ≤ p) (sym o.same) low in
        let h : p ≤ o.item.point = subst (λ z. p ≤ z.high) (sym o.same) high in
        let i : o.item.point ≡ p = omega (arith, l, h) in
        let j : look o.item.goals ≡ m = ap (λ z. look z.goals) o.same ∙ goals in
        subst (λ z. Contains (map state_of xs) z) (ap (λ n. (n, look o.item.goals)) i ∙ ap (λ r. (p, r)) j) (map_has state_of xs o.item o.is)

count_stretches : (xs : List State) → state_count (map stretch_of xs) ≡ length xs
count_stretches [] = refl
count_stretches (x ∷ xs) = let e : state_count (map stretch_of xs) ≡ length xs = count_stretches xs in let o : x.point + 1 - x.point ≡ 1 = omega arith in omega (arith, e, o)

module _ (budget : ℕ) (ys ns ls : List State) where
  pub yes_in : (p : ℕ) (m : Memory ℕ ℕ) → Remembers (value budget ys ns ls) p m true → Contains (map state_of ys) (p, m)
  yes_in p m r = go (Contains-append_cases (map (entry_of true) ys) (map (entry_of false) ns) r.entry r.is)
    where
      go : Contains (map (entry_of true) ys) r.entry ⊎ Contains (map (entry_of false) ns) r.entry → Contains (map state_of ys) (p, m)
      go (inl c) = (entry_in true ys r.entry p m c r.low_is r.high_is r.goals_is).1
      go (inr c) = let k : r.entry.yes ≡ false = (entry_in false ns r.entry p m c r.low_is r.high_is r.goals_is).0 in let h : true ≡ false = sym r.yes_is ∙ k in cc

  pub no_in : (p : ℕ) (m : Memory ℕ ℕ) → Remembers (value budget ys ns ls) p m false → Contains (map state_of ns) (p, m)
  no_in p m r = go (Contains-append_cases (map (entry_of true) ys) (map (entry_of false) ns) r.entry r.is)
    where
      go : Contains (map (entry_of true) ys) r.entry ⊎ Contains (map (entry_of false) ns) r.entry → Contains (map state_of ns) (p, m)
      go (inl c) = let k : r.entry.yes ≡ true = (entry_in true ys r.entry p m c r.low_is r.high_is r.goals_is).0 in let h : false ≡ true = sym r.yes_is ∙ k in cc
      go (inr c) = (entry_in false ns r.entry p m c r.low_is r.high_is r.goals_is).1

  pub in_yes : (p : ℕ) (m : Memory ℕ ℕ) → Contains (map state_of ys) (p, m) → Remembers (value budget ys ns ls) p m true
  in_yes p m c = go (map_from state_of ys (p, m) c)
    where
      go : Origin state_of ys (p, m) → Remembers (value budget ys ns ls) p m true
      go o =
          let i : o.item.point ≡ p = ap (λ z. z.0) o.same in
          record {
            entry = entry_of true o.item;
            is = Contains-append_left (map (entry_of true) ys) (map (entry_of false) ns) (entry_of true o.item) (map_has (entry_of true) ys o.item o.is);
            low_is = omega (arith, i);
            high_is = omega (arith, i);
            goals_is = ap (λ z. z.1) o.same;
            yes_is = refl;
          }

  pub in_no : (p : ℕ) (m : Memory ℕ ℕ) → Contains (map state_of ns) (p, m) → Remembers (value budget ys ns ls) p m false
  in_no p m c = go (map_from state_of ns (p, m) c)
    where
      go : Origin state_of ns (p, m) → Remembers (value budget ys ns ls) p m false
      go o =
          let i : o.item.point ≡ p = ap (λ z. z.0) o.same in
          record {
            entry = entry_of false o.item;
            is = Contains-append_right (map (entry_of true) ys) (map (entry_of false) ns) (entry_of false o.item) (map_has (entry_of false) ns o.item o.is);
            low_is = omega (arith, i);
            high_is = omega (arith, i);
            goals_is = ap (λ z. z.1) o.same;
            yes_is = refl;
          }

  pub light_in : (p : ℕ) (m : Memory ℕ ℕ) → IsLight (value budget ys ns ls) p m → Contains (map state_of ls) (p, m)
  light_in p m r = stretch_in ls r.stretch p m r.is r.low_is r.high_is r.goals_is

  pub in_light : (p : ℕ) (m : Memory ℕ ℕ) → Contains (map state_of ls) (p, m) → IsLight (value budget ys ns ls) p m
  in_light p m c = go (map_from state_of ls (p, m) c)
    where
      go : Origin state_of ls (p, m) → IsLight (value budget ys ns ls) p m
      go o =
          let i : o.item.point ≡ p = ap (λ z. z.0) o.same in
          record { stretch = stretch_of o.item; is = map_has stretch_of ls o.item o.is; low_is = omega (arith, i); high_is = omega (arith, i); goals_is = ap (λ z. z.1) o.same }

  -- the sets of a memo that is right
  pub record AreSound (g : GraphTables) : Type 0 where
    pub yes : AreVisible g ys
    pub no : (x : State) → Contains ns x → (Visible (world_of g) x.point (look x.goals) → ⊥) × (Heavy (world_of g) x.point (look x.goals) budget → ⊥)
    pub no_closed : IsClosed g ns
    pub light_closed : IsClosed g ls
    pub light_few : length ls ≤ budget

  pub sets_of : (g : GraphTables) → IsSound (value budget ys ns ls) g → AreSound g
  sets_of g s =
      record {
        yes = λ x c. s.yes x.point (look x.goals) (in_yes x.point (look x.goals) (map_has state_of ys x c));
        no = λ x c. s.no x.point (look x.goals) (in_no x.point (look x.goals) (map_has state_of ns x c));
        no_closed = record { backs = λ e m h c b. no_in e.from h (s.no_backs e m h (in_no e.to m c) b) };
        light_closed = record { backs = λ e m h c b. light_in e.from h (s.light_backs e m h (in_light e.to m c) b) };
        light_few = let k : state_count (map stretch_of ls) ≡ length ls = count_stretches ls in omega (arith, k, s.light_few);
      }

  pub sound_of : (g : GraphTables) → AreSound g → IsSound (value budget ys ns ls) g
  sound_of g s =
      record {
        yes = λ p m r. yes p m (map_from state_of ys (p, m) (yes_in p m r));
        no = λ p m r. no p m (map_from state_of ns (p, m) (no_in p m r));
        no_backs = λ e m h r b. in_no e.from h (s.no_closed.backs e m h (no_in e.to m r) b);
        light_backs = λ e m h r b. in_light e.from h (s.light_closed.backs e m h (light_in e.to m r) b);
        light_few = let k : state_count (map stretch_of ls) ≡ length ls = count_stretches ls in omega (arith, k, s.light_few);
      }
    where
      yes : (p : ℕ) (m : Memory ℕ ℕ) → Origin state_of ys (p, m) → Visible (world_of g) p m
      yes p m o = subst (λ z. Visible (world_of g) z.0 z.1) o.same (s.yes o.item o.is)

      no : (p : ℕ) (m : Memory ℕ ℕ) → Origin state_of ns (p, m) → (Visible (world_of g) p m → ⊥) × (Heavy (world_of g) p m budget → ⊥)
      no p m o = subst (λ z. (Visible (world_of g) z.0 z.1 → ⊥) × (Heavy (world_of g) z.0 z.1 budget → ⊥)) o.same (s.no o.item o.is)

-- what a closed list of few states shows of a state in it
module _ (g : GraphTables) (states : List State) (closed : IsClosed g states) where
  shut : IsShut (world_of g) (map state_of states)
  shut = record { at = λ e m h c b. closed.backs e m h c b }

  pub all_reached : (p : ℕ) (m : Memory ℕ ℕ) → Contains (map state_of states) (p, m) → (q : ℕ) (h : Memory ℕ ℕ) → Reached (world_of g) p m q h → Contains (map state_of states) (q, h)
  all_reached p m c q h r = has_reached (world_of g) (map state_of states) shut p m q h c r

  pub is_light : (budget : ℕ) → length states ≤ budget → (p : ℕ) (m : Memory ℕ ℕ) → Contains (map state_of states) (p, m) → Heavy (world_of g) p m budget → ⊥
  is_light budget few p m c h = not_heavy (world_of g) (map state_of states) shut p m budget c (let k : length (map state_of states) ≡ length states = length-map states state_of in omega (arith, k, few)) h

  pub is_hidden : HaveNoRoot g states → (p : ℕ) (m : Memory ℕ ℕ) → Contains (map state_of states) (p, m) → Visible (world_of g) p m → ⊥
  is_hidden none p m c v = not_root (world_of g) (map state_of states) shut p m c all ((root_law (world_of g) discrete p m).0 v)
    where
      at : (z : ℕ × Memory ℕ ℕ) → Origin state_of states z → IsTrue ((world_of g).root z.0) → z.1 ≡ nothing → ⊥
      at z o i j = none o.item o.is (subst (λ u. IsTrue ((world_of g).root u.0)) (sym o.same) i, ap (λ u. u.1) o.same ∙ j)

      all : All (λ z. IsTrue ((world_of g).root z.0) → z.1 ≡ nothing → ⊥) (map state_of states)
      all k d l = at (get_or (map state_of states) k d) (map_from state_of states (get_or (map state_of states) k d) (Contains-get_or (map state_of states) k d l))

-- the union of two sets
module _ (one other all : List State) (u : IsUnion one other all) where
  pub union_left : (z : ℕ × Memory ℕ ℕ) → Contains (map state_of one) z → Contains (map state_of all) z
  union_left z c = met_in one all u.kept z c

  pub union_right : (z : ℕ × Memory ℕ ℕ) → Contains (map state_of other) z → Contains (map state_of all) z
  union_right z c = go (map_from state_of other z c)
    where
      go : Origin state_of other z → Contains (map state_of all) z
      go o = subst (λ y. Contains (map state_of all) y) o.same (u.added o.item o.is)

  pub union_from : (z : ℕ × Memory ℕ ℕ) → Contains (map state_of all) z → Contains (map state_of one) z ⊎ Contains (map state_of other) z
  union_from z c = go (map_from state_of all z c)
    where
      by : (o : Origin state_of all z) → Contains one o.item ⊎ Contains other o.item → Contains (map state_of one) z ⊎ Contains (map state_of other) z
      by o (inl d) = inl (subst (λ y. Contains (map state_of one) y) o.same (map_has state_of one o.item d))
      by o (inr d) = inr (subst (λ y. Contains (map state_of other) y) o.same (map_has state_of other o.item d))

      go : Origin state_of all z → Contains (map state_of one) z ⊎ Contains (map state_of other) z
      go o = by o (u.from o.item o.is)

module _ (g : GraphTables) (budget : ℕ) (ys ns ls : List State) (s : AreSound budget ys ns ls g) where
  -- more states are remembered as Yes
  pub more_yes : (way all : List State) → IsUnion ys way all → AreVisible g way → IsKept g (value budget ys ns ls) (value budget all ns ls)
  more_yes way all u v = record { sound = sound_of budget all ns ls g (record { yes = λ x c. yes x (u.from x c); no = s.no; no_closed = s.no_closed; light_closed = s.light_closed; light_few = s.light_few }); kept = kept; budget = refl }
    where
      yes : (x : State) → Contains ys x ⊎ Contains way x → Visible (world_of g) x.point (look x.goals)
      yes x (inl c) = s.yes x c
      yes x (inr c) = v x c

      kept : (p : ℕ) (m : Memory ℕ ℕ) (yes : Bool) → Remembers (value budget ys ns ls) p m yes → Remembers (value budget all ns ls) p m yes
      kept p m true r = in_yes budget all ns ls p m (union_left ys way all u (p, m) (yes_in budget ys ns ls p m r))
      kept p m false r = in_no budget all ns ls p m (no_in budget ys ns ls p m r)

  -- more states are remembered as No
  pub more_no : (q : State) (states all : List State) → IsUnion ns states all → IsWhole g q budget states → HaveNoRoot g states → IsKept g (value budget ys ns ls) (value budget ys all ls)
  more_no q states all u w none =
      record {
        sound = sound_of budget ys all ls g (record {
          yes = s.yes;
          no = λ x c. no x (u.from x c);
          no_closed = record { backs = λ e m h c b. backs e m h b (union_from ns states all u (e.to, m) c) };
          light_closed = s.light_closed;
          light_few = s.light_few;
        });
        kept = kept;
        budget = refl;
      }
    where
      no : (x : State) → Contains ns x ⊎ Contains states x → (Visible (world_of g) x.point (look x.goals) → ⊥) × (Heavy (world_of g) x.point (look x.goals) budget → ⊥)
      no x (inl c) = s.no x c
      no x (inr c) = (is_hidden g states w.closed none x.point (look x.goals) (map_has state_of states x c), is_light g states w.closed budget w.few x.point (look x.goals) (map_has state_of states x c))

      backs : (e : worlds.Edge ℕ ℕ ℕ) (m h : Memory ℕ ℕ) → BackState (world_of g) e m h → Contains (map state_of ns) (e.to, m) ⊎ Contains (map state_of states) (e.to, m) → Contains (map state_of all) (e.from, h)
      backs e m h b (inl c) = union_left ns states all u (e.from, h) (s.no_closed.backs e m h c b)
      backs e m h b (inr c) = union_right ns states all u (e.from, h) (w.closed.backs e m h c b)

      kept : (p : ℕ) (m : Memory ℕ ℕ) (yes : Bool) → Remembers (value budget ys ns ls) p m yes → Remembers (value budget ys all ls) p m yes
      kept p m true r = in_yes budget ys all ls p m (yes_in budget ys ns ls p m r)
      kept p m false r = in_no budget ys all ls p m (union_left ns states all u (p, m) (no_in budget ys ns ls p m r))

  -- other states are known as light
  pub other_light : (all : List State) → IsClosed g all → length all ≤ budget → IsKept g (value budget ys ns ls) (value budget ys ns all)
  other_light all closed few =
      record {
        sound = sound_of budget ys ns all g (record { yes = s.yes; no = s.no; no_closed = s.no_closed; light_closed = closed; light_few = few });
        kept = kept;
        budget = refl;
      }
    where
      kept : (p : ℕ) (m : Memory ℕ ℕ) (yes : Bool) → Remembers (value budget ys ns ls) p m yes → Remembers (value budget ys ns all) p m yes
      kept p m true r = in_yes budget ys ns all p m (yes_in budget ys ns ls p m r)
      kept p m false r = in_no budget ys ns all p m (no_in budget ys ns ls p m r)

-- the list of light states with the states of a whole search that used it
pub light_union : (g : GraphTables) (q : State) (budget : ℕ) (states ls all : List State) → IsUnion ls states all → IsWhole g q budget (states ++ ls) → IsClosed g all × (length all ≤ budget) × IsMet all q
light_union g q budget states ls all u w = (record { backs = backs }, omega (arith, u.few, w.few, length-append states ls), into (state_of q) (split (state_of q) w.has))
  where
    into : (z : ℕ × Memory ℕ ℕ) → Contains (map state_of states) z ⊎ Contains (map state_of ls) z → Contains (map state_of all) z
    into z (inl c) = union_right ls states all u z c
    into z (inr c) = union_left ls states all u z c

    split : (z : ℕ × Memory ℕ ℕ) → Contains (map state_of (states ++ ls)) z → Contains (map state_of states) z ⊎ Contains (map state_of ls) z
    split z c = Contains-append_cases (map state_of states) (map state_of ls) z (subst (λ zs. Contains zs z) (map-append state_of states ls) c)

    whole : (z : ℕ × Memory ℕ ℕ) → Contains (map state_of ls) z ⊎ Contains (map state_of states) z → Contains (map state_of (states ++ ls)) z
    whole z (inl c) = met_in ls (states ++ ls) (λ x d. Contains-append_right states ls x d) z c
    whole z (inr c) = met_in states (states ++ ls) (λ x d. Contains-append_left states ls x d) z c

    backs : (e : worlds.Edge ℕ ℕ ℕ) (m h : Memory ℕ ℕ) → Contains (map state_of all) (e.to, m) → BackState (world_of g) e m h → Contains (map state_of all) (e.from, h)
    backs e m h c b = into (e.from, h) (split (e.from, h) (w.closed.backs e m h (whole (e.to, m) (union_from ls states all u (e.to, m) c)) b))

filter_yes : (ys ns : List State) → filter (λ entry. entry.yes) (map (entry_of true) ys ++ map (entry_of false) ns) ≡ map (entry_of true) ys
filter_yes [] [] = refl
filter_yes [] (n ∷ ns) = filter_yes [] ns
filter_yes (y ∷ ys) ns = ap (λ es. entry_of true y ∷ es) (filter_yes ys ns)

pub grown_value : (budget : ℕ) (ys ns ls ms ks : List State) (s : SolverState) → value budget ys ns ls ≡ s → ms ≡ [] → ks ≡ [] → value budget ys ms ks ≡ grown s
grown_value budget ys ns ls ms ks s e f h =
    subst (λ v. value budget ys ms ks ≡ grown v) e
    (subst (λ ks. value budget ys ms ks ≡ grown (value budget ys ns ls)) (sym h)
    (subst (λ ms. value budget ys ms [] ≡ grown (value budget ys ns ls)) (sym f)
    (λ i. record { budget = budget; memo = (append-nil (map (entry_of true) ys) ∙ sym (filter_yes ys ns)) i; light = [] })))
