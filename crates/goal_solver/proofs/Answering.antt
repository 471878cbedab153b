-- The solver's answers are right, and remembered.
use Rattle.std.proofs.Common.{Result, Ok, Err, IfOk, ◌≡◌, ℕ, ◌≤◌, Bool, true, false, Some, List, ◌++◌, length, refl, sym, subst, ◌⊎◌, inl, IsTrue, ◌↔◌}
use Rattle.std.specs.Result.{OnErr}
use Rattle.graph_walks.specs.Worlds.{Memory}
use Rattle.graph_walks.specs.Walks.{Visible}
use Rattle.graph_walks.specs.Backs.{Reached, here, back, Heavy}
use Rattle.typegraph.specs.declared.goals.Binding.{Binding}
use Rattle.typegraph.specs.Maps.{look}
use Rattle.typegraph.specs.Graphs.{GraphTables}
use Rattle.goal_solver.specs.declared.state.State.{State}
use Rattle.goal_solver.specs.declared.solver.Answer.{Answer}
use Rattle.goal_solver.specs.declared.solver.Answer.TheVariants.{Yes, No, Spent}
use Rattle.goal_solver.specs.Graphs.{world_of}
use Rattle.goal_solver.specs.States.{state_of, IsMet, IsUnion}
use Rattle.goal_solver.specs.Searches.{IsClosed, AreVisible, HaveNoRoot, IsWhole}
use Rattle.goal_solver.specs.Memos.{SolverState, Remembers, IsLight, IsSound}
use Rattle.goal_solver.specs.Answers.{IsKnownAs, IsKept, IsAnswered, IsWeighed}
use Rattle.graph_walks.proofs.Lists.{Origin, map_from}
use Rattle.goal_solver.proofs.Sets.{if_ok_map, if_ok_at}
use Rattle.goal_solver.proofs.Memory.{value, AreSound, sets_of, yes_in, no_in, in_yes, in_no, light_in, in_light, more_yes, more_no, other_light, all_reached, is_light, is_hidden, union_right, light_union}

pub visible_at : (g : GraphTables) (way : List State) (q : State) → AreVisible g way → IsMet way q → Visible (world_of g) q.point (look q.goals)
visible_at g way q v m = go (map_from state_of way (state_of q) m)
  where
    go : Origin state_of way (state_of q) → Visible (world_of g) q.point (look q.goals)
    go o = subst (λ z. Visible (world_of g) z.0 z.1) o.same (v o.item o.is)

kept_same : (g : GraphTables) (s : SolverState) → IsSound s g → IsKept g s s
kept_same g s sound = record { sound = sound; kept = λ p m yes r. r; budget = refl }

-- a state that is remembered
module _ (g : GraphTables) (s : SolverState) (sound : IsSound s g) where
  pub no_reached : (p : ℕ) (m : Memory ℕ ℕ) → Remembers s p m false → (at : ℕ) (wanted : Memory ℕ ℕ) → Reached (world_of g) p m at wanted → Remembers s at wanted false
  no_reached p m r at wanted here = r
  no_reached p m r at wanted (back {after} e h b) = sound.no_backs e after wanted (no_reached p m r e.to after h) b

  pub known_answered : (p : ℕ) (m : Memory ℕ ℕ) (answer : Answer) → IsKnownAs s p m (Some answer) → IsAnswered g p m s s answer
  known_answered p m Yes r =
      record {
        no = (λ a. cc, λ n. absurd (n.0 (sound.yes p m r)));
        yes = λ a. sound.yes p m r;
        spent = λ a. cc;
        after_yes = λ a. r;
        after_no = λ a. cc;
        light = refl;
        memo = kept_same g s sound;
      }
  known_answered p m No r =
      record {
        no = (λ a. sound.no p m r, λ n. refl);
        yes = λ a. cc;
        spent = λ a. cc;
        after_yes = λ a. cc;
        after_no = λ a at wanted h. no_reached p m r at wanted h;
        light = refl;
        memo = kept_same g s sound;
      }
  known_answered p m Spent r = absurd r

  pub known_weighed : (p : ℕ) (m : Memory ℕ ℕ) → IsLight s p m ⊎ Remembers s p m false → (Heavy (world_of g) p m s.budget → ⊥) → IsWeighed g p m s s false
  known_weighed p m h light = record { exact = (λ i. cc, λ x. absurd (light x)); after_false = λ i. h; memo = kept_same g s sound }

-- the answers of a state that are found by one look at the sets
module _ (budget : ℕ) (ys ns ls : List State) (s : SolverState) (e : value budget ys ns ls ≡ s) (q : State) (r : Bool) where
  pub yes_by : (IsTrue r ↔ IsMet ys q) → IsTrue r ↔ Remembers s q.point (look q.goals) true
  yes_by h = subst (λ t. IsTrue r ↔ Remembers t q.point (look q.goals) true) e (λ i. in_yes budget ys ns ls q.point (look q.goals) (h.0 i), λ i. h.1 (yes_in budget ys ns ls q.point (look q.goals) i))

  pub no_by : (IsTrue r ↔ IsMet ns q) → IsTrue r ↔ Remembers s q.point (look q.goals) false
  no_by h = subst (λ t. IsTrue r ↔ Remembers t q.point (look q.goals) false) e (λ i. in_no budget ys ns ls q.point (look q.goals) (h.0 i), λ i. h.1 (no_in budget ys ns ls q.point (look q.goals) i))

  pub light_by : (IsTrue r ↔ IsMet ls q) → IsTrue r ↔ IsLight s q.point (look q.goals)
  light_by h = subst (λ t. IsTrue r ↔ IsLight t q.point (look q.goals)) e (λ i. in_light budget ys ns ls q.point (look q.goals) (h.0 i), λ i. h.1 (light_in budget ys ns ls q.point (look q.goals) i))

  pub light_right : (IsTrue r ↔ IsMet ls q) → (g : GraphTables) → IsSound s g → IsTrue r → Heavy (world_of g) q.point (look q.goals) s.budget → ⊥
  light_right h g sound i x =
      let sets : AreSound budget ys ns ls g = sets_of budget ys ns ls g (subst (λ t. IsSound t g) (sym e) sound) in
      is_light g ls sets.light_closed budget sets.light_few q.point (look q.goals) (h.0 i) (subst (λ t. Heavy (world_of g) q.point (look q.goals) t.budget) (sym e) x)

module _ (g : GraphTables) (budget : ℕ) (ys ns ls : List State) (s : SolverState) (e : value budget ys ns ls ≡ s) (sound : IsSound s g) where
  pub sets_at : AreSound budget ys ns ls g
  sets_at = sets_of budget ys ns ls g (subst (λ t. IsSound t g) (sym e) sound)

  pub answered_spent : (p : ℕ) (m : Memory ℕ ℕ) → Heavy (world_of g) p m budget → IsAnswered g p m s s Spent
  answered_spent p m h =
      record {
        no = (λ a. cc, λ n. absurd (n.1 heavy));
        yes = λ a. cc;
        spent = λ a. heavy;
        after_yes = λ a. cc;
        after_no = λ a. cc;
        light = refl;
        memo = kept_same g s sound;
      }
    where
      heavy : Heavy (world_of g) p m s.budget
      heavy = subst (λ t. Heavy (world_of g) p m t.budget) e h

  pub answered_yes : (q : State) (way all : List State) → IsUnion ys way all → IsMet way q → AreVisible g way → IsAnswered g q.point (look q.goals) s (value budget all ns ls) Yes
  answered_yes q way all u has v =
      subst (λ t. IsAnswered g q.point (look q.goals) t (value budget all ns ls) Yes) e
      (record {
        no = (λ a. cc, λ n. absurd (n.0 (visible_at g way q v has)));
        yes = λ a. visible_at g way q v has;
        spent = λ a. cc;
        after_yes = λ a. in_yes budget all ns ls q.point (look q.goals) (union_right ys way all u (state_of q) has);
        after_no = λ a. cc;
        light = refl;
        memo = more_yes g budget ys ns ls sets_at way all u v;
      })

  pub answered_no : (q : State) (states all : List State) → IsUnion ns states all → IsWhole g q budget states → HaveNoRoot g states → IsAnswered g q.point (look q.goals) s (value budget ys all ls) No
  answered_no q states all u w none =
      subst (λ t. IsAnswered g q.point (look q.goals) t (value budget ys all ls) No) e
      (record {
        no = (λ a. (is_hidden g states w.closed none q.point (look q.goals) w.has, is_light g states w.closed budget w.few q.point (look q.goals) w.has), λ n. refl);
        yes = λ a. cc;
        spent = λ a. cc;
        after_yes = λ a. cc;
        after_no = λ a at wanted h. in_no budget ys all ls at wanted (union_right ns states all u (at, wanted) (all_reached g states w.closed q.point (look q.goals) w.has at wanted h));
        light = refl;
        memo = more_no g budget ys ns ls sets_at q states all u w none;
      })

  pub weighed_heavy : (p : ℕ) (m : Memory ℕ ℕ) → Heavy (world_of g) p m budget → IsWeighed g p m s s true
  weighed_heavy p m h = record { exact = (λ i. subst (λ t. Heavy (world_of g) p m t.budget) e h, λ x. refl); after_false = λ i. cc; memo = kept_same g s sound }

  pub weighed_light : (q : State) (all : List State) → IsWhole g q budget all → IsWeighed g q.point (look q.goals) s (value budget ys ns all) false
  weighed_light q all w =
      subst (λ t. IsWeighed g q.point (look q.goals) t (value budget ys ns all) false) e
      (record {
        exact = (λ i. cc, λ x. absurd (is_light g all w.closed budget w.few q.point (look q.goals) w.has x));
        after_false = λ i. inl (in_light budget ys ns all q.point (look q.goals) w.has);
        memo = other_light g budget ys ns ls sets_at all w.closed w.few;
      })

pub whole_union : (g : GraphTables) (q : State) (budget : ℕ) (states ls all : List State) → IsUnion ls states all → IsWhole g q budget (states ++ ls) → IsWhole g q budget all
whole_union g q budget states ls all u w =
    let p : IsClosed g all × (length all ≤ budget) × IsMet all q = light_union g q budget states ls all u w in
    record { has = p.2; closed = p.0; few = p.1 }

-- what the whole answers of a state say clause by clause, where its goals were copied
module _ {E : Type 0} (g : GraphTables) (p : ℕ) (copied goals : List Binding) (same : copied ≡ goals) (s t : SolverState) (r : Result Answer E) (h : IfOk r (IsAnswered g p (look copied) s t)) where
  answered_here : IfOk r (IsAnswered g p (look goals) s t)
  answered_here = subst (λ m. IfOk r (IsAnswered g p (look m) s t)) same h

  pub ask_no : IfOk r (λ answer. answer ≡ No ↔ ((Visible (world_of g) p (look goals) → ⊥) × (Heavy (world_of g) p (look goals) s.budget → ⊥)))
  ask_no = if_ok_map r _ _ (λ a x. x.no) answered_here

  pub ask_yes : r ≡ Ok Yes → Visible (world_of g) p (look goals)
  ask_yes e = (if_ok_at r _ Yes e answered_here).yes refl

  pub ask_spent : r ≡ Ok Spent → Heavy (world_of g) p (look goals) s.budget
  ask_spent e = (if_ok_at r _ Spent e answered_here).spent refl

  pub ask_after_yes : r ≡ Ok Yes → Remembers t p (look goals) true
  ask_after_yes e = (if_ok_at r _ Yes e answered_here).after_yes refl

  pub ask_after_no : r ≡ Ok No → (at : ℕ) (wanted : Memory ℕ ℕ) → Reached (world_of g) p (look goals) at wanted → Remembers t at wanted false
  ask_after_no e = (if_ok_at r _ No e answered_here).after_no refl

pub ask_kept : {E : Type 0} (g : GraphTables) (p : ℕ) (m : Memory ℕ ℕ) (s t : SolverState) (r : Result Answer E) → IsSound s g → IfOk r (IsAnswered g p m s t) → OnErr r (t ≡ s) → IsKept g s t × (t.light ≡ s.light)
ask_kept g p m s t (Ok a) sound h e = (h.memo, h.light)
ask_kept g p m s t (Err x) sound h e = subst (λ u. IsKept g s u × (u.light ≡ s.light)) (sym e) (kept_same g s sound, refl)

module _ {E : Type 0} (g : GraphTables) (p : ℕ) (copied goals : List Binding) (same : copied ≡ goals) (s t : SolverState) (r : Result Bool E) (h : IfOk r (IsWeighed g p (look copied) s t)) where
  weighed_here : IfOk r (IsWeighed g p (look goals) s t)
  weighed_here = subst (λ m. IfOk r (IsWeighed g p (look m) s t)) same h

  pub heavy_exact : IfOk r (λ heavy. IsTrue heavy ↔ Heavy (world_of g) p (look goals) s.budget)
  heavy_exact = if_ok_map r _ _ (λ a x. x.exact) weighed_here

  pub heavy_false : r ≡ Ok false → IsLight t p (look goals) ⊎ Remembers t p (look goals) false
  heavy_false e = (if_ok_at r _ false e weighed_here).after_false refl

pub heavy_kept : {E : Type 0} (g : GraphTables) (p : ℕ) (m : Memory ℕ ℕ) (s t : SolverState) (r : Result Bool E) → IsSound s g → IfOk r (IsWeighed g p m s t) → OnErr r (t ≡ s) → IsKept g s t
heavy_kept g p m s t (Ok a) sound h e = h.memo
heavy_kept g p m s t (Err x) sound h e = subst (λ u. IsKept g s u) (sym e) (kept_same g s sound)
