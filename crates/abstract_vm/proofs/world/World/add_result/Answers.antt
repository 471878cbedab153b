-- What a result gives has numbers, and then its facts.
use Rattle.std.proofs.Common.{List, ℕ, sym, subst}
use Rattle.std.specs.declared.alloc.AllocError.{AllocError}
use Rattle.world_rules.specs.Sources.{Source}
use Rattle.abstract_vm.specs.Worlds.{items_in, point_in, IsWorldOf}
use Rattle.abstract_vm.specs.Steps.{shapes_in, AreYielded, MayResult}
use Rattle.abstract_vm.proofs.Loops.{result_step}
use Rattle.abstract_vm.proofs.Steps.{step_error, step_quiet}
use Rattle.abstract_vm.proofs.world.World.add_result.Goals as goal

pub returns-in_err-shapes : goal.returns-in_err-shapes
returns-in_err-shapes c =
    step_error {E = AllocError} c.from_residual.result c.from_residual.ensures.0
    (step_quiet (λ s. MayResult s c.args.self.now (point_in c.args.self.now c.args.point) c.args.choice.now c.args.goals.now c.args.given) (point_in c.args.self.now c.args.point) c.args.self.now c.given.new.self c.given.ensures.stay c.given.ensures.same)

pub returns : goal.returns
returns c =
    let yielded : (s : Source) → IsWorldOf s c.args.self.now → AreYielded s (items_in c.args.self.now) (shapes_in c.args.self.now c.args.choice.now) c.args.given c.given.new.self c.as_slice.result.now =
    λ s h. subst (λ (ids : List ℕ). AreYielded s (items_in c.args.self.now) (shapes_in c.args.self.now c.args.choice.now) c.args.given c.given.new.self ids) (sym c.as_slice.ensures) (c.in_ok-shapes.ensures.yielded s h) in
    result_step c.args.self.now c.given.new.self c.add_facts.new.self c.given.ensures.stay c.given.ensures.same c.args.choice.now c.as_slice.result.now c.add_facts.result
    c.args.point c.args.goals.now c.requires.goals c.args.given yielded c.add_facts.ensures
