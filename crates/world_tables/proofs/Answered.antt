-- What holds of what a call leaves, whatever it answers.
use Rattle.std.proofs.Common.{◌≡◌, ℕ, Bool, true, false, Result, Ok, Err, List, refl}
use Rattle.std.specs.List.{list_any, Contains}
use Rattle.std.specs.Result.{OnOk, OnErr}
use Rattle.flow_graph.specs.declared.context.Context.{Context as ContextRow}
use Rattle.flow_graph.specs.contracts.context.ContextPartialEq.TheImpl as contexts
use Rattle.typegraph.specs.declared.goals.Binding.{Binding}
use Rattle.typegraph.specs.Graphs.{GraphTables, IsWithFact}
use Rattle.flow_graph.proofs.Same.{context_exact, any_true, any_false}

-- a call that answers whether something is new adds it, or leaves all as it was
pub by_answer : {X E A B : Type 0} (r : Result Bool E) (old grown new : X) → (r ≡ Ok true → A × (new ≡ grown)) → (r ≡ Ok false → B × (new ≡ old)) → OnErr r (new ≡ old) →
    (Q : Type 0) → (A → new ≡ grown → Q) → (new ≡ old → Q) → Q
by_answer (Ok true) old grown new fresh known refused Q add same = let f = fresh refl in add f.0 f.1
by_answer (Ok false) old grown new fresh known refused Q add same = same (known refl).1
by_answer (Err e) old grown new fresh known refused Q add same = same refused

-- so does a call that answers an id
pub by_id : {X T E : Type 0} (r : Result T E) (old grown new : X) → OnOk r (new ≡ grown) → OnErr r (new ≡ old) → (Q : Type 0) → (new ≡ grown → Q) → (new ≡ old → Q) → Q
by_id (Ok x) old grown new fresh refused Q add same = add fresh
by_id (Err e) old grown new fresh refused Q add same = same refused

-- a context is there or not
pub known_or_new : (rows : List ContextRow) (row : ContextRow) (Q : Type 0) → (Contains rows row → Q) → ((Contains rows row → ⊥) → Q) → Q
known_or_new rows row Q known new = go (list_any (contexts.eq-value.it row) rows) refl
  where
    go : (b : Bool) → list_any (contexts.eq-value.it row) rows ≡ b → Q
    go true e = known (any_true _ context_exact rows row e)
    go false e = new (any_false _ context_exact rows row e)

-- a call that adds a fact
pub by_fact : {E A C : Type 0} (r : Result Bool E) (old new : GraphTables) (point shape : ℕ) (source : List Binding) → (r ≡ Ok true → A × IsWithFact old point shape source new) → (r ≡ Ok false → C × (new ≡ old)) → OnErr r (new ≡ old) →
    (Q : Type 0) → (IsWithFact old point shape source new → Q) → (new ≡ old → Q) → Q
by_fact (Ok true) old new point shape source fresh known refused Q add same = add (fresh refl).1
by_fact (Ok false) old new point shape source fresh known refused Q add same = same (known refl).1
by_fact (Err e) old new point shape source fresh known refused Q add same = same refused
