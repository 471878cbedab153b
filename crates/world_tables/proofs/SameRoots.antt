-- Worlds that differ in their roots alone, and there only at points that no edge leaves.
use Rattle.std.proofs.Common.{ℕ, Bool, Option, List, IsTrue, inl, inr}
use Rattle.std.specs.List.{Contains}
use Rattle.graph_walks.specs.Worlds.{Memory, Truth, Ask, Edge, Fact, World, FactGives, AllGiven, assigned}
use Rattle.graph_walks.specs.Walks.{Answers, unasked, passes, Comes, kept, made, Walk, start, step, Visible}
use Rattle.graph_walks.specs.Backs as backs
use Rattle.graph_walks.specs.Backs.{Explains, unwanted, by_fact, Asks, asked, BackState, Reached, here, back, Heavy, Seen}

module _ {P V S : Type 0} (edges : List (Edge P V S)) (facts : List (Fact P V S)) (target : P → Option V) (truth : S → Option Truth) (from to : P → Bool) where
  abbrev old : World P V S
  old = record { edges = edges; facts = facts; target = target; root = from; truth = truth }

  abbrev new : World P V S
  new = record { edges = edges; facts = facts; target = target; root = to; truth = truth }

  pub gives : (v : V) (s : S) → FactGives old v s → FactGives new v s
  gives v s g = record { point = g.point; source = g.source; target = g.target; fact = g.fact }

  pub all_given : (goals : Memory V S) → AllGiven old goals → AllGiven new goals
  all_given goals a = record { at = λ v s h. gives v s (a.at v s h) }

  -- ---- walks

  answers : {a : Option (Ask V S)} {m : Memory V S} → Answers old a m → Answers new a m
  answers unasked = unasked
  answers (passes s has test) = passes s has test

  comes : (e : Edge P V S) (m : Memory V S) (v : V) (s : S) → Comes old e m v s → Comes new e m v s
  comes e m v s (kept other has) = kept other has
  comes e m v s (made it source fact holds) = made it source fact holds

  -- ---- back states, which no root has a part in

  explains : (goal : Option V) (p : P) (goals m : Memory V S) → Explains old goal p goals m → Explains new goal p goals m
  explains goal p goals _ (unwanted none) = unwanted none
  explains goal p goals _ (by_fact v s is wanted source fact) = by_fact v s is wanted source fact

  asks : {a : Option (Ask V S)} {pair : Option (V × S)} → Asks old a pair → Asks new a pair
  asks backs.unasked = backs.unasked
  asks (asked a s test given) = asked a s test (gives _ s given)

  back_state : (e : Edge P V S) (goals before : Memory V S) → BackState old e goals before → BackState new e goals before
  back_state e goals before b =
      record { edge = b.edge; source = b.source; explains = explains (assigned old e) e.from goals b.source b.explains; pair = b.pair; asks = asks b.asks; wanted = b.wanted }

  reached : (q : P) (goals : Memory V S) (p : P) (m : Memory V S) → Reached old q goals p m → Reached new q goals p m
  reached q goals _ _ here = here
  reached q goals _ _ (back {after} {before} e ahead b) = back e (reached q goals e.to after ahead) (back_state e after before b)

  pub heavy : (q : P) (goals : Memory V S) (budget : ℕ) → Heavy old q goals budget → Heavy new q goals budget
  heavy q goals budget h = record { states = h.states; many = h.many; apart = h.apart; reached = λ k d l. reached q goals _ _ (h.reached k d l) }

-- ---- where both have the same roots among the points R, from which each edge starts
module _ {P V S : Type 0} (edges : List (Edge P V S)) (facts : List (Fact P V S)) (target : P → Option V) (truth : S → Option Truth) (from to : P → Bool)
    (R : P → Type 0) (starts : (e : Edge P V S) → Contains edges e → R e.from) (roots : (p : P) → R p → IsTrue (from p) → IsTrue (to p)) where
  abbrev first : World P V S
  first = old edges facts target truth from to

  abbrev other : World P V S
  other = new edges facts target truth from to

  walk : (p : P) (m : Memory V S) → R p → Walk first p m → Walk other p m
  walk p _ r (start is) = start (roots p r is)
  walk _ _ r (step {before} {after} e behind s) =
      step e (walk e.from before (starts e s.edge) behind)
      (record { edge = s.edge; answers = answers edges facts target truth from to s.answers; comes = λ v t h. comes edges facts target truth from to e before v t (s.comes v t h) })

  pub visible : (p : P) (goals : Memory V S) → R p → Visible first p goals → Visible other p goals
  visible p goals r v = record { memory = v.memory; walk = walk p v.memory r v.walk; holds = v.holds }

  pub seen : (p : P) (goals : Memory V S) (budget : ℕ) → R p → Seen first p goals budget → Seen other p goals budget
  seen p goals budget r (inl v) = inl (visible p goals r v)
  seen p goals budget r (inr h) = inr (heavy edges facts target truth from to p goals budget h.0, all_given edges facts target truth from to goals h.1)
