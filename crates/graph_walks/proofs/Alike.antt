-- Worlds that are alike under some names: each way round, and a world with itself.
use Rattle.std.proofs.Common.{◌≡◌, Option, Some, None, refl, sym, ap, subst, ◌∙◌, option_and_then, IsTrue}
use Rattle.std.specs.List.{Contains}
use Rattle.graph_walks.specs.Worlds.{Memory, Test, MayBeTrue, MayBeFalse, Is, Ask, Edge, Fact, World}
use Rattle.graph_walks.specs.Renamings.{Names, own_names, swapped, renamed, HasNames, SameTest, same_true, same_false, same_is, SameAsk, same_none, same_some, SameEdge, SameFact, AreAlike, IsRenamed}
use Rattle.graph_walks.proofs.RootLaw.{some_same}
use Rattle.graph_walks.proofs.Renaming.{named_back, renamed_back}

module _ {P V S P' V' S' : Type 0} (points : Names P P') (vars : Names V V') (shapes : Names S S') where
  pub test_back : {t : Test S} {t' : Test S'} → SameTest points vars shapes t t' → SameTest (swapped points) (swapped vars) (swapped shapes) t' t
  unfolding swapped
  test_back same_true = same_true
  test_back same_false = same_false
  test_back (same_is h) = same_is (shapes.named _ _ h)

  pub ask_back : {a : Option (Ask V S)} {a' : Option (Ask V' S')} → SameAsk points vars shapes a a' → SameAsk (swapped points) (swapped vars) (swapped shapes) a' a
  unfolding swapped
  ask_back same_none = same_none
  ask_back (same_some h t) = same_some (vars.named _ _ h) (test_back t)

  pub edge_back : (e : Edge P V S) (e' : Edge P' V' S') → SameEdge points vars shapes e e' → SameEdge (swapped points) (swapped vars) (swapped shapes) e' e
  unfolding swapped
  edge_back e e' s = record { from = points.named e.from e'.from s.from; to = points.named e.to e'.to s.to; assigns = sym s.assigns; asks = ask_back s.asks }

  pub fact_back : (f : Fact P V S) (f' : Fact P' V' S') → SameFact points vars shapes f f' → SameFact (swapped points) (swapped vars) (swapped shapes) f' f
  unfolding swapped
  fact_back f f' s =
      record {
        point = points.named f.point f'.point s.point;
        shape = shapes.named f.shape f'.shape s.shape;
        source = subst (λ m. HasNames (swapped vars) (swapped shapes) m) s.renamed (named_back vars shapes f.source);
        renamed = ap (renamed (swapped vars) (swapped shapes)) (sym s.renamed) ∙ renamed_back vars shapes f.source s.source;
      }

  pub alike_renamed : (w : World P V S) (w' : World P' V' S') → AreAlike points vars shapes w w' → IsRenamed points vars shapes w w'
  unfolding swapped
  alike_renamed w w' a = (
    record { edges = a.edges_to; facts = a.facts_to; roots = a.roots_to; truths = λ s s' t n. (a.truths s s' t n).0; targets = a.targets_to },
    record {
      edges = λ e' c. edge (a.edges_from e' c);
      facts = λ f' c. fact (a.facts_from f' c);
      roots = λ p' h. root (a.roots_from p' h);
      truths = λ s' s t n. (a.truths s s' t (shapes.names s s' n)).1;
      targets = λ p' p v' n h. target (a.targets_from p p' v' (points.names p p' n) h);
    },
  )
    where
      edge : {e' : Edge P' V' S'} → (e : Edge P V S) × SameEdge points vars shapes e e' × Contains w.edges e → (e : Edge P V S) × SameEdge (swapped points) (swapped vars) (swapped shapes) e' e × Contains w.edges e
      edge {e'} x = (x.0, edge_back x.0 e' x.1, x.2)

      fact : {f' : Fact P' V' S'} → (f : Fact P V S) × SameFact points vars shapes f f' × Contains w.facts f → (f : Fact P V S) × SameFact (swapped points) (swapped vars) (swapped shapes) f' f × Contains w.facts f
      fact {f'} x = (x.0, fact_back x.0 f' x.1, x.2)

      root : {p' : P'} → (p : P) × (points.name p ≡ Some p') × IsTrue (w.root p) → (p : P) × (points.thing p' ≡ Some p) × IsTrue (w.root p)
      root {p'} x = (x.0, points.named x.0 p' x.1, x.2)

      target : {p : P} {v' : V'} → (v : V) × (vars.name v ≡ Some v') × (w.target p ≡ Some v) → (v : V) × (vars.thing v' ≡ Some v) × (w.target p ≡ Some v)
      target {p} {v'} x = (x.0, vars.named x.0 v' x.1, x.2)

own_memory : {V S : Type 0} (m : Memory V S) → renamed own_names own_names m ≡ m
own_memory {V} {S} m = λ i v. at (m v) i
  where
    at : (o : Option S) → option_and_then (λ s. Some s) o ≡ o
    at None = refl
    at (Some s) = refl

module _ {P V S : Type 0} where
  own_test : (t : Test S) → SameTest (own_names {A = P}) (own_names {A = V}) (own_names {A = S}) t t
  own_test MayBeTrue = same_true
  own_test MayBeFalse = same_false
  own_test (Is s) = same_is refl

  own_ask : (a : Option (Ask V S)) → SameAsk (own_names {A = P}) (own_names {A = V}) (own_names {A = S}) a a
  own_ask None = same_none
  own_ask (Some a) = same_some refl (own_test a.test)

  own_edge : (e : Edge P V S) → SameEdge own_names own_names own_names e e
  own_edge e = record { from = refl; to = refl; assigns = refl; asks = own_ask e.asks }

  own_fact : (f : Fact P V S) → SameFact own_names own_names own_names f f
  own_fact f = record { point = refl; shape = refl; source = record { at = λ v s h. ((v, refl), (s, refl)) }; renamed = own_memory f.source }

  pub own_alike : (w : World P V S) → AreAlike own_names own_names own_names w w
  own_alike w =
      record {
        edges_to = λ e c. (e, own_edge e, c);
        edges_from = λ e c. (e, own_edge e, c);
        facts_to = λ f c. (f, own_fact f, c);
        facts_from = λ f c. (f, own_fact f, c);
        roots_to = λ p h. (p, refl, h);
        roots_from = λ p h. (p, refl, h);
        truths = λ s s' t n. (λ h. ap w.truth (sym (some_same n)) ∙ h, λ h. ap w.truth (some_same n) ∙ h);
        targets_to = λ p p' v n h. (v, refl, ap w.target (sym (some_same n)) ∙ h);
        targets_from = λ p p' v n h. (v, refl, ap w.target (some_same n) ∙ h);
      }
