-- A state is visible where one of its back states is.
use Rattle.std.proofs.Common.{◌≡◌, ℕ, Bool, true, false, nat_eq, refl, subst, IsTrue}
use Rattle.graph_walks.specs.Worlds.{Memory, nothing, Edge, World}
use Rattle.graph_walks.specs.Walks.{Visible}
use Rattle.graph_walks.specs.Backs.{BackState, Reached, here, back, RootReached}
use Rattle.graph_walks.proofs.RootLaw.{root_law}
use Rattle.typegraph.proofs.Looks.{equal, equal_itself}

pub discrete : Discrete ℕ
discrete m n = go (nat_eq m n) refl
  where
    go : (t : Bool) → nat_eq m n ≡ t → Dec (m ≡ n)
    go true e = yes (equal m n e)
    go false e = no (λ i. let k : nat_eq m n ≡ true = subst (λ x. nat_eq m x ≡ true) i (equal_itself m) in cc)

module _ {P V S : Type 0} (w : World P V S) where
  ahead : (e : Edge P V S) (after before : Memory V S) → BackState w e after before → (p : P) (m : Memory V S) → Reached w e.from before p m → Reached w e.to after p m
  ahead e x h b p m here = back e here b
  ahead e x h b p m (back {after} f r c) = back f (ahead e x h b f.to after r) c

module _ (w : World ℕ ℕ ℕ) where
  pub visible_back : (e : Edge ℕ ℕ ℕ) (after before : Memory ℕ ℕ) → BackState w e after before → Visible w e.from before → Visible w e.to after
  visible_back e x h b v =
      let r : RootReached w e.from h = (root_law w discrete e.from h).0 v in
      (root_law w discrete e.to x).1 (record { root = r.root; is = r.is; reached = ahead w e x h b r.root nothing r.reached })

  pub visible_root : (p : ℕ) (m : Memory ℕ ℕ) → IsTrue (w.root p) → m ≡ nothing → Visible w p m
  visible_root p m t e = (root_law w discrete p m).1 (record { root = p; is = t; reached = subst (λ h. Reached w p m p h) e here })
