-- A new entry is the item that was given, and any other answer leaves the tables.
use Rattle.std.proofs.Common.{◌≡◌, ◌<◌, length, sym, subst}
use Rattle.world_rules.specs.Rules.{GivesAt}
use Rattle.abstract_vm.specs.Worlds.{WorldState, items_in}
use Rattle.abstract_vm.specs.Steps.{entry_in, IsStep}
use Rattle.abstract_vm.proofs.EntryStep.{entry_answers, entry_invariant}
use Rattle.abstract_vm.proofs.world.World.add_entry.Goals as goal

abbrev before : (c : goal.After-add_entry) → WorldState
before c = record { rows = c.self.inside.tables; solver = c.self.inside.solver; library = c.self.inside.library }

pub invariant_of-self : goal.invariant_of-self
invariant_of-self c =
    entry_invariant (before c) c.add_entry.new.self c.args.place c.args.shape c.add_entry.result c.add_entry.ensures.fresh c.add_entry.ensures.known c.add_entry.ensures.refused
    c.self.inside.solver c.self.invariant (subst (λ (w : WorldState). c.args.shape < length w.rows.graph.truths) (sym c.self.view_is) c.requires)

pub returns : goal.returns
returns c =
    λ p. subst (λ (w : WorldState). IsStep (λ s. GivesAt s (items_in w) p (entry_in w c.args.place c.args.shape)) p (λ s i. i ≡ entry_in w c.args.place c.args.shape) c.add_entry.result w
    (record { rows = c.add_entry.new.self; solver = c.self.inside.solver; library = c.self.inside.library })) c.self.view_is
    (entry_answers (before c) c.add_entry.new.self c.args.place c.args.shape c.add_entry.result c.add_entry.ensures.fresh c.add_entry.ensures.known c.add_entry.ensures.refused p c.add_entry.ensures.keeps)
