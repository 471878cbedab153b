-- What holds of a query in a world holds in a world that has all of it.
use Rattle.std.proofs.Common.{◌≡◌, ℕ, cond, Option, Some, None, inl, inr, sym, ap, subst, ◌∙◌}
use Rattle.std.specs.List.{Contains}
use Rattle.graph_walks.specs.Worlds.{Memory, Test, MayBeTrue, MayBeFalse, Is, Ask, Edge, World, PassesBy, assigned, FactGives}
use Rattle.graph_walks.specs.Walks.{Answers, unasked, passes, Comes, kept, made, Walk, start, step, Visible}
use Rattle.graph_walks.specs.Backs as backs
use Rattle.graph_walks.specs.Backs.{Wanted, Explains, unwanted, by_fact, Asks, asked, BackState, Reached, here, back, Heavy, Seen}
use Rattle.graph_walks.specs.Growth.{IsWithin}

module _ {P V S : Type 0} (old new : World P V S) (grown : IsWithin old new) where
  same_assigned : (e : Edge P V S) → Contains old.edges e → assigned old e ≡ assigned new e
  same_assigned e c = ap (λ t. cond e.assigns t None) (grown.edge_targets e c)

  passes_on : (t : Test S) (s : S) → PassesBy old.truth t s → PassesBy new.truth t s
  passes_on MayBeTrue s (inl h) = inl (grown.truths s _ h)
  passes_on MayBeTrue s (inr h) = inr (grown.truths s _ h)
  passes_on MayBeFalse s (inl h) = inl (grown.truths s _ h)
  passes_on MayBeFalse s (inr h) = inr (grown.truths s _ h)
  passes_on (Is u) s h = h

  pub gives_on : (v : V) (s : S) → FactGives old v s → FactGives new v s
  gives_on v s g = record { point = g.point; source = g.source; target = sym (grown.fact_targets _ g.fact) ∙ g.target; fact = grown.facts _ g.fact }

  comes_on : (e : Edge P V S) → Contains old.edges e → (m : Memory V S) (v : V) (s : S) → Comes old e m v s → Comes new e m v s
  comes_on e c m v s (kept n i) = kept (λ h. n (same_assigned e c ∙ h)) i
  comes_on e c m v s (made a source f i) = made (sym (same_assigned e c) ∙ a) source (grown.facts _ f) i

  answers_on : {a : Option (Ask V S)} {m : Memory V S} → Answers old a m → Answers new a m
  answers_on unasked = unasked
  answers_on (passes s i p) = passes s i (passes_on _ s p)

  walk_stays : {p : P} {m : Memory V S} → Walk old p m → Walk new p m
  walk_stays (start {p} r) = start (grown.roots p r)
  walk_stays (step e k st) = step e (walk_stays k) (record { edge = grown.edges e st.edge; answers = answers_on st.answers; comes = λ v s i. comes_on e st.edge _ v s (st.comes v s i) })

  explains_on : (e : Edge P V S) → Contains old.edges e → (g m : Memory V S) → Explains old (assigned old e) e.from g m → Explains new (assigned new e) e.from g m
  explains_on e c g m (unwanted n) = unwanted (λ v a. n v (same_assigned e c ∙ a))
  explains_on e c g m (by_fact v s a i source f) = by_fact v s (sym (same_assigned e c) ∙ a) i source (grown.facts _ f)

  asks_on : {a : Option (Ask V S)} {pair : Option (V × S)} → Asks old a pair → Asks new a pair
  asks_on backs.unasked = backs.unasked
  asks_on (asked a s p g) = asked a s (passes_on _ s p) (gives_on _ s g)

  back_on : (e : Edge P V S) (g h : Memory V S) → BackState old e g h → BackState new e g h
  back_on e g h b =
      record {
        edge = grown.edges e b.edge;
        source = b.source;
        explains = explains_on e b.edge g b.source b.explains;
        pair = b.pair;
        asks = asks_on b.asks;
        wanted = subst (λ d. (v : V) (s : S) → ((h v ≡ Some s → Wanted d g b.source b.pair v s) × (Wanted d g b.source b.pair v s → h v ≡ Some s))) (same_assigned e b.edge) b.wanted;
      }

  pub reached_stays : (q : P) (g : Memory V S) (p : P) (h : Memory V S) → Reached old q g p h → Reached new q g p h
  reached_stays q g p h here = here
  reached_stays q g p h (back {after} e r b) = back e (reached_stays q g e.to after r) (back_on e after h b)

  pub heavy_stays : (q : P) (g : Memory V S) (budget : ℕ) → Heavy old q g budget → Heavy new q g budget
  heavy_stays q g budget h = record { states = h.states; many = h.many; apart = h.apart; reached = λ k d l. reached_stays q g _ _ (h.reached k d l) }

  pub visible_stays : (q : P) (g : Memory V S) → Visible old q g → Visible new q g
  visible_stays q g v = record { memory = v.memory; walk = walk_stays v.walk; holds = v.holds }

  pub seen_stays : (q : P) (g : Memory V S) (budget : ℕ) → Seen old q g budget → Seen new q g budget
  seen_stays q g budget (inl v) = inl (visible_stays q g v)
  seen_stays q g budget (inr h) = inr (heavy_stays q g budget h.0, record { at = λ v s i. gives_on v s (h.1.at v s i) })

pub within_on : {P V S : Type 0} (old new newer : World P V S) → IsWithin old new → IsWithin new newer → IsWithin old newer
within_on old new newer a b =
    record {
      edges = λ e c. b.edges e (a.edges e c);
      facts = λ f c. b.facts f (a.facts f c);
      edge_targets = λ e c. a.edge_targets e c ∙ b.edge_targets e (a.edges e c);
      fact_targets = λ f c. a.fact_targets f c ∙ b.fact_targets f (a.facts f c);
      roots = λ p h. b.roots p (a.roots p h);
      truths = λ s t h. b.truths s t (a.truths s t h);
    }
