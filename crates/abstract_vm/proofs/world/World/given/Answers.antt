-- Of a table all shapes are given, of what is read one, and else one that is made.
use Rattle.std.proofs.Common.{◌≡◌, ◌<◌, ◌↔◌, ℕ, Result, Ok, Err, List, length, option_to_list, slice_get, sym, subst}
use Rattle.std.specs.List.{All, Contains}
use Rattle.std.specs.Prelude.{IfOk}
use Rattle.abstract_shapes.specs.Numbering.{structure, structures}
use Rattle.abstract_shapes.specs.Tables.{entries}
use Rattle.world_rules.specs.declared.row.Yield.{Yield}
use Rattle.world_rules.specs.Sources.{Source}
use Rattle.abstract_vm.specs.Worlds.{WorldState, items_in, IsWorldOf}
use Rattle.abstract_vm.specs.Steps.{shapes_in, AreYielded, IsOnlyNumber}
use Rattle.abstract_vm.proofs.Yielded.{all_yielded, read_yielded, read_there, made_yielded}
use Rattle.abstract_vm.proofs.world.World.given.Goals as goal

pub returns-in-Each-clause-yielded : goal.returns-in-Each-clause-yielded
returns-in-Each-clause-yielded c = go c.all_at.result c.all_at.ensures.are
  where
    go : {E : Type 0} (r : Result (List ℕ) E) → IfOk r (λ ids. (id : ℕ) → Contains ids id ↔ Contains (entries c.args.self.now.rows.joined) (c.in-Each.place, id)) →
        IfOk r (λ ids. (s : Source) → IsWorldOf s c.args.self.now → AreYielded s (items_in c.args.self.now) (shapes_in c.args.self.now c.args.read.now) c.args.given c.args.self.now ids)
    go (Ok ids) are = λ s h. subst (λ y. AreYielded s (items_in c.args.self.now) (shapes_in c.args.self.now c.args.read.now) y c.args.self.now ids) (sym c.in-Each.is) (all_yielded s c.args.self.now (shapes_in c.args.self.now c.args.read.now) c.in-Each.place ids are)
    go (Err x) are = tt

pub returns-in-Read-clause-there : goal.returns-in-Read-clause-there
returns-in-Read-clause-there c = go c.one_read.result c.one_read.ensures
  where
    go : {E : Type 0} (r : Result (List ℕ) E) → IfOk r (λ ids. ids ≡ option_to_list (slice_get c.args.read.now c.in-Read.seat)) → IfOk r (λ ids. All (λ id. id < length c.args.self.now.rows.graph.truths) ids)
    go (Ok ids) e = subst (λ xs. All (λ id. id < length c.args.self.now.rows.graph.truths) xs) (sym e) (read_there c.args.read.now (length c.args.self.now.rows.graph.truths) c.in-Read.seat c.requires)
    go (Err x) e = tt

pub returns-in-Read-clause-yielded : goal.returns-in-Read-clause-yielded
returns-in-Read-clause-yielded c = go c.one_read.result c.one_read.ensures
  where
    go : {E : Type 0} (r : Result (List ℕ) E) → IfOk r (λ ids. ids ≡ option_to_list (slice_get c.args.read.now c.in-Read.seat)) →
        IfOk r (λ ids. (s : Source) → IsWorldOf s c.args.self.now → AreYielded s (items_in c.args.self.now) (shapes_in c.args.self.now c.args.read.now) c.args.given c.args.self.now ids)
    go (Ok ids) e = λ s h. subst (λ y. AreYielded s (items_in c.args.self.now) (shapes_in c.args.self.now c.args.read.now) y c.args.self.now ids) (sym c.in-Read.is) (read_yielded s (items_in c.args.self.now) c.args.self.now c.args.read.now c.in-Read.seat ids e)
    go (Err x) e = tt

pub returns-in_default : goal.returns-in_default
returns-in_default c = record { stay = c.one_made.ensures.stay; there = c.one_made.ensures.there; same = c.one_made.ensures.same; yielded = go c.one_made.result c.one_made.ensures.numbered }
  where
    go : {E : Type 0} (r : Result (List ℕ) E) → IfOk r (λ ids. IsOnlyNumber c.one_made.new.self ids (structure (structures c.args.self.now.rows.shapes) c.shape_of.result)) →
        IfOk r (λ ids. (s : Source) → IsWorldOf s c.args.self.now → AreYielded s (items_in c.args.self.now) (shapes_in c.args.self.now c.args.read.now) c.args.given c.one_made.new.self ids)
    go (Ok ids) o = λ s h. made_yielded s (items_in c.args.self.now) (shapes_in c.args.self.now c.args.read.now) c.one_made.new.self c.args.given _ ids (c.shape_of.ensures.made (shapes_in c.args.self.now c.args.read.now) (structures c.args.self.now.rows.shapes)) o
    go (Err x) o = tt
