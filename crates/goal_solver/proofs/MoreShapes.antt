-- A new shape, which no fact gives yet, changes no back state.
use Rattle.std.proofs.Common.{◌≡◌, ℕ, ◌<◌, ◌++◌, ◌∷◌, [], Option, Some, length, slice_get, sym, subst, ◌∙◌, ◌⊎◌}
use Rattle.graph_walks.specs.Worlds as worlds
use Rattle.graph_walks.specs.Worlds.{Memory, PassesBy, FactGives}
use Rattle.graph_walks.specs.Walks.{Visible}
use Rattle.graph_walks.specs.Backs as backs
use Rattle.graph_walks.specs.Backs.{Explains, unwanted, by_fact, Asks, asked, BackState, Reached, here, back, Heavy, RootReached}
use Rattle.graph_walks.proofs.Growing.{visible_stays}
use Rattle.graph_walks.proofs.RootLaw.{root_law}
use Rattle.flow_graph.specs.declared.edge.Truth.{Truth}
use Rattle.typegraph.specs.Graphs.{GraphTables, with_shape}
use Rattle.typegraph.specs.Validity.{IsValid}
use Rattle.goal_solver.specs.Graphs.{world_of, truth_as}
use Rattle.goal_solver.specs.Memos.{SolverState, IsSound}
use Rattle.goal_solver.proofs.Additions.{within_shape}
use Rattle.goal_solver.proofs.Ahead.{discrete}
use Rattle.goal_solver.proofs.Meetings.{at_left, Here, there}
use Rattle.goal_solver.proofs.Tables.{FactHere, fact_here}

module _ (g : GraphTables) (truth : Truth) (valid : IsValid g) where
  is_there : (v s : ℕ) → FactGives (world_of g) v s → s < length g.truths
  is_there v s h = go (fact_here g h.point s h.source h.fact)
    where
      go : FactHere g h.point s h.source → s < length g.truths
      go f = subst (λ n. n < length g.truths) f.shape (valid.facts h.point f.fact f.is).shape

  same_truth : (s : ℕ) → s < length g.truths → slice_get (g.truths ++ truth ∷ []) s ≡ slice_get g.truths s
  same_truth s l = let h : Here g.truths s = there g.truths s l in at_left g.truths (truth ∷ []) s h.item h.at ∙ sym h.at

  passes_back : (t : worlds.Test ℕ) (s : ℕ) → s < length g.truths → PassesBy (λ n. truth_as (slice_get (g.truths ++ truth ∷ []) n)) t s → PassesBy (λ n. truth_as (slice_get g.truths n)) t s
  passes_back worlds.MayBeTrue s l p = subst (λ o. (truth_as o ≡ Some worlds.Yes) ⊎ (truth_as o ≡ Some worlds.Both)) (same_truth s l) p
  passes_back worlds.MayBeFalse s l p = subst (λ o. (truth_as o ≡ Some worlds.No) ⊎ (truth_as o ≡ Some worlds.Both)) (same_truth s l) p
  passes_back (worlds.Is t) s l p = p

  asks_back : (a : Option (worlds.Ask ℕ ℕ)) (p : Option (ℕ × ℕ)) → Asks (world_of (with_shape truth g)) a p → Asks (world_of g) a p
  asks_back a p backs.unasked = backs.unasked
  asks_back a p (asked b s k h) =
      let given : FactGives (world_of g) b.var s = record { point = h.point; source = h.source; target = h.target; fact = h.fact } in
      asked b s (passes_back b.test s (is_there b.var s given) k) given

  explains_back : (t : Option ℕ) (p : ℕ) (m h : Memory ℕ ℕ) → Explains (world_of (with_shape truth g)) t p m h → Explains (world_of g) t p m h
  explains_back t p m h (unwanted n) = unwanted n
  explains_back t p m h (by_fact v s i j source f) = by_fact v s i j source f

  back_back : (e : worlds.Edge ℕ ℕ ℕ) (m h : Memory ℕ ℕ) → BackState (world_of (with_shape truth g)) e m h → BackState (world_of g) e m h
  back_back e m h b = record { edge = b.edge; source = b.source; explains = explains_back _ _ _ _ b.explains; pair = b.pair; asks = asks_back _ _ b.asks; wanted = b.wanted }

  reached_back : (p : ℕ) (m : Memory ℕ ℕ) (q : ℕ) (h : Memory ℕ ℕ) → Reached (world_of (with_shape truth g)) p m q h → Reached (world_of g) p m q h
  reached_back p m q h here = here
  reached_back p m q h (back {after} e r b) = back e (reached_back p m e.to after r) (back_back e after h b)

  visible_before : (p : ℕ) (m : Memory ℕ ℕ) → Visible (world_of (with_shape truth g)) p m → Visible (world_of g) p m
  visible_before p m v =
      let r : RootReached (world_of (with_shape truth g)) p m = (root_law (world_of (with_shape truth g)) discrete p m).0 v in
      (root_law (world_of g) discrete p m).1 (record { root = r.root; is = r.is; reached = reached_back p m r.root worlds.nothing r.reached })

  heavy_before : (p : ℕ) (m : Memory ℕ ℕ) (budget : ℕ) → Heavy (world_of (with_shape truth g)) p m budget → Heavy (world_of g) p m budget
  heavy_before p m budget h = record { states = h.states; many = h.many; apart = h.apart; reached = λ k d l. reached_back p m _ _ (h.reached k d l) }

  pub sound_with_shape : (s : SolverState) → IsSound s g → IsSound s (with_shape truth g)
  sound_with_shape s sound =
      record {
        yes = λ p m r. visible_stays (world_of g) (world_of (with_shape truth g)) (within_shape g truth) p m (sound.yes p m r);
        no = λ p m r. (λ v. (sound.no p m r).0 (visible_before p m v), λ h. (sound.no p m r).1 (heavy_before p m s.budget h));
        no_backs = λ e m h r b. sound.no_backs e m h r (back_back e m h b);
        light_backs = λ e m h r b. sound.light_backs e m h r (back_back e m h b);
        light_few = sound.light_few;
      }
