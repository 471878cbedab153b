-- What a list of states says of a query that is in it, where each back state of its states is in it too.
use Rattle.std.proofs.Common.{◌≡◌, ℕ, ◌≤◌, List, length, refl, arith, IsTrue}
use Rattle.std.specs.List.{All, Contains}
use Rattle.std.proofs.lemmas.List.Elements.{All-contains}
use Rattle.graph_walks.specs.Worlds.{Memory, nothing, Edge, World}
use Rattle.graph_walks.specs.Backs.{BackState, Reached, here, back, Heavy, RootReached}
use Rattle.graph_walks.proofs.Distinct.{no_longer}

module _ {P V S : Type 0} (w : World P V S) where
  pub record IsShut (states : List (P × Memory V S)) : Type 0 where
    pub at : (e : Edge P V S) (after before : Memory V S) → Contains states (e.to, after) → BackState w e after before → Contains states (e.from, before)

  pub has_reached : (states : List (P × Memory V S)) → IsShut states → (q : P) (g : Memory V S) (p : P) (m : Memory V S) → Contains states (q, g) → Reached w q g p m → Contains states (p, m)
  has_reached states shut q g p m is here = is
  has_reached states shut q g p m is (back {after} e r b) = shut.at e after m (has_reached states shut q g e.to after is r) b

  pub not_heavy : (states : List (P × Memory V S)) → IsShut states → (q : P) (g : Memory V S) (budget : ℕ) → Contains states (q, g) → length states ≤ budget → Heavy w q g budget → ⊥
  not_heavy states shut q g budget is few h =
      let among : All (Contains states) h.states = λ k d l. has_reached states shut q g _ _ is (h.reached k d l) in
      let le : length h.states ≤ length states = no_longer h.states states h.apart among in
      omega (arith, le, h.many)

  pub not_root : (states : List (P × Memory V S)) → IsShut states → (q : P) (g : Memory V S) → Contains states (q, g) → All (λ x. IsTrue (w.root x.0) → x.1 ≡ nothing → ⊥) states → RootReached w q g → ⊥
  not_root states shut q g is none r =
      All-contains (λ x. IsTrue (w.root x.0) → x.1 ≡ nothing → ⊥) states (r.root, nothing) none (has_reached states shut q g r.root nothing is r.reached) r.is refl
