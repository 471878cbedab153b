-- The shapes of a table are its entries.
use Rattle.std.proofs.Common.{◌≡◌, ◌<◌, ◌↔◌, ℕ, Result, Ok, Err, List, get_or, length, sym, ap, subst, ◌∙◌}
use Rattle.std.specs.List.{All, Contains, IsDistinct}
use Rattle.std.specs.Prelude.{IfOk}
use Rattle.std.proofs.lemmas.List.Elements.{Contains-get_or}
use Rattle.abstract_shapes.specs.Places.{same_place}
use Rattle.abstract_shapes.specs.Tables.{entries, places_of, table_at}
use Rattle.abstract_vm.specs.Worlds.{WorldState}
use Rattle.abstract_vm.proofs.Yielded.{table_entries}
use Rattle.abstract_vm.proofs.world.World.all_at.Goals as goal

-- by the tables that the function looked at
entries_are : (c : goal.After-from_slice) (ids : List ℕ) → ids ≡ c.at.result.now → (id : ℕ) → Contains ids id ↔ Contains (entries c.self.inside.tables.joined) (c.args.place, id)
entries_are c ids e id =
    let apart : IsDistinct same_place (places_of c.self.inside.tables.joined) = subst (λ rows. IsDistinct same_place (places_of rows)) c.joined-joined.ensures c.entry_count-count.ensures.apart in
    let same : ids ≡ table_at c.self.inside.tables.joined c.args.place = e ∙ (c.at.ensures.table ∙ ap (λ rows. table_at rows c.args.place) c.joined-joined.ensures) in
    subst (λ xs. Contains xs id ↔ Contains (entries c.self.inside.tables.joined) (c.args.place, id)) (sym same) (table_entries c.self.inside.tables.joined c.args.place apart id)

pub returns-clause-there : goal.returns-clause-there
returns-clause-there c = subst (λ (w : WorldState). IfOk c.from_slice.result (λ ids. All (λ id. id < length w.rows.graph.truths) ids)) c.self.view_is (go c.from_slice.result c.from_slice.ensures)
  where
    go : {E : Type 0} (r : Result (List ℕ) E) → IfOk r (λ ids. ids ≡ c.at.result.now) → IfOk r (λ ids. All (λ id. id < length c.self.inside.tables.graph.truths) ids)
    go (Ok ids) e = λ k d l. c.self.invariant.1.at (c.args.place, get_or ids k d) ((entries_are c ids e (get_or ids k d)).0 (Contains-get_or ids k d l))
    go (Err x) e = tt

pub returns-clause-are : goal.returns-clause-are
returns-clause-are c =
    subst (λ (w : WorldState). IfOk c.from_slice.result (λ ids. (id : ℕ) → Contains ids id ↔ Contains (entries w.rows.joined) (c.args.place, id))) c.self.view_is (go c.from_slice.result c.from_slice.ensures)
  where
    go : {E : Type 0} (r : Result (List ℕ) E) → IfOk r (λ ids. ids ≡ c.at.result.now) → IfOk r (λ ids. (id : ℕ) → Contains ids id ↔ Contains (entries c.self.inside.tables.joined) (c.args.place, id))
    go (Ok ids) e = λ id. entries_are c ids e id
    go (Err x) e = tt
