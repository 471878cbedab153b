-- What an entry gives has numbers, and then its entries.
use Rattle.std.proofs.Common.{List, ℕ, sym, subst}
use Rattle.std.specs.declared.alloc.AllocError.{AllocError}
use Rattle.world_rules.specs.Sources.{Source}
use Rattle.abstract_vm.specs.Worlds.{items_in, IsWorldOf}
use Rattle.abstract_vm.specs.Steps.{shapes_in, AreYielded, MayEnter}
use Rattle.abstract_vm.proofs.Loops.{entry_step}
use Rattle.abstract_vm.proofs.Steps.{step_error, step_quiet}
use Rattle.abstract_vm.proofs.world.World.enter.Goals as goal

pub returns-in_err-shapes : goal.returns-in_err-shapes
returns-in_err-shapes c =
    λ p. step_error {E = AllocError} c.from_residual.result c.from_residual.ensures.0
    (step_quiet (λ s. MayEnter s c.args.self.now p c.args.choice.now c.args.entry.now) p c.args.self.now c.given.new.self c.given.ensures.stay c.given.ensures.same)

pub returns : goal.returns
returns c =
    let yielded : (s : Source) → IsWorldOf s c.args.self.now → AreYielded s (items_in c.args.self.now) (shapes_in c.args.self.now c.args.choice.now) c.args.entry.now.given c.given.new.self c.as_slice.result.now =
    λ s h. subst (λ (ids : List ℕ). AreYielded s (items_in c.args.self.now) (shapes_in c.args.self.now c.args.choice.now) c.args.entry.now.given c.given.new.self ids) (sym c.as_slice.ensures) (c.in_ok-shapes.ensures.yielded s h) in
    λ p. entry_step c.args.self.now c.given.new.self c.add_entries.new.self c.given.ensures.stay c.given.ensures.same c.args.choice.now c.as_slice.result.now c.add_entries.result
    c.args.entry.now p yielded (c.add_entries.ensures p)
