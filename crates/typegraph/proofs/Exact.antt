-- Facts that are found equal are the same.
use Rattle.std.proofs.Common.{◌≡◌, ◌↔◌, ℕ, ◌<◌, length, slice_get, Result, Ok, Err, Bool, true, false, ◌&&◌, List, IsTrue, refl, sym, ap, subst, ◌∙◌, nat_eq}
use Rattle.std.specs.List.{Contains, list_any}
use Rattle.std.specs.Cmp.{unsigned_Decides}
use Rattle.std.specs.Cmp.Lexicographic.{pointwise}
use Rattle.flow_graph.proofs.Same.{IsExact, any_true, any_false}
use Rattle.typegraph.specs.declared.fact.Fact.{Fact}
use Rattle.typegraph.specs.contracts.fact.FactPartialEq.TheImpl.{eq-value}
use Rattle.typegraph.specs.Keys.{binding_eq}
use Rattle.typegraph.specs.Maps.{look, IsRising}
use Rattle.std.specs.Result.{OnOk}
use Rattle.std.proofs.lemmas.List.Elements.{Contains-push}
use Rattle.typegraph.specs.declared.goals.Binding.{Binding}
use Rattle.typegraph.specs.Graphs.{GraphTables, IsAmong, HasFact, row_of, push_fact, with_fact}
use Rattle.typegraph.proofs.Tables.{changed_here}
use Rattle.typegraph.proofs.Agree.{map_exact, rising_same}

both : (x y : Bool) → (x && y) ≡ true → (x ≡ true) × (y ≡ true)
both true y h = (refl, h)
both false y h = cc

pub fact_exact : IsExact eq-value.it
fact_exact a b = (to, from)
  where
    to : eq-value.it a b ≡ true → a ≡ b
    to h =
        let p : (nat_eq a.shape b.shape ≡ true) × (pointwise binding_eq a.source b.source ≡ true) = both _ _ h in
        λ i. record { shape = (unsigned_Decides a.shape b.shape).0 p.0 i; source = (map_exact a.source b.source).0 p.1 i }

    from : a ≡ b → eq-value.it a b ≡ true
    from e = λ i. (((unsigned_Decides a.shape b.shape).1 (ap (λ f. f.shape) e)) i) && (((map_exact a.source b.source).1 (ap (λ f. f.source) e)) i)

pub contains_fact : (facts : List Fact) (fact : Fact) (r : Bool) → r ≡ list_any (eq-value.it fact) facts → IsTrue r ↔ Contains facts fact
contains_fact facts fact r e = (λ t. any_true eq-value.it fact_exact facts fact (sym e ∙ t), λ c. from (list_any (eq-value.it fact) facts) refl c)
  where
    from : (t : Bool) → list_any (eq-value.it fact) facts ≡ t → Contains facts fact → r ≡ true
    from true i c = e ∙ i
    from false i c = absurd (any_false eq-value.it fact_exact facts fact i c)

-- among facts whose source sets are in order, one with the shape and the source set is the fact itself
pub among_itself : (facts : List Fact) (fact : Fact) → IsRising fact.source → ((f : Fact) → Contains facts f → IsRising f.source) → IsAmong facts fact.shape fact.source → Contains facts fact
among_itself facts fact rising all a =
    subst (λ f. Contains facts f) (λ i. record { shape = a.shape_is i; source = rising_same a.fact.source fact.source (all a.fact a.is) rising a.source_is i }) a.is

pub itself_among : (facts : List Fact) (fact : Fact) → Contains facts fact → IsAmong facts fact.shape fact.source
itself_among facts fact c = record { fact = fact; is = c; shape_is = refl; source_is = refl }

-- after a fact was taken, or known, the graph has it
pub has_after : {E : Type 0} (g new : GraphTables) (point shape : ℕ) (source map : List Binding) (r : Result Bool E) → point < length g.facts → look map ≡ look source → (r ≡ Ok true → (HasFact g point shape map → ⊥) × (new ≡ with_fact point (record { shape = shape; source = map }) g)) → (r ≡ Ok false → HasFact g point shape map × (new ≡ g)) → OnOk r (HasFact new point shape source)
has_after g new point shape source map (Err e) l same fresh known = tt
has_after g new point shape source map (Ok true) l same fresh known =
    let f : Fact = record { shape = shape; source = map } in
    record { fact = f; is = subst (λ row. Contains row f) (sym (ap (λ t. row_of (slice_get t.facts point)) (fresh refl).1 ∙ changed_here (push_fact f) g.facts point l)) (Contains-push (row_of (slice_get g.facts point)) f); shape_is = refl; source_is = same }
has_after g new point shape source map (Ok false) l same fresh known =
    let h : HasFact g point shape map = (known refl).0 in
    record { fact = h.fact; is = subst (λ t. Contains (row_of (slice_get t.facts point)) h.fact) (sym (known refl).1) h.is; shape_is = h.shape_is; source_is = h.source_is ∙ same }
