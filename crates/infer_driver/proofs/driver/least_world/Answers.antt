-- The world that a program begins with, grown until nothing new comes.
use Rattle.std.proofs.Common.{◌≡◌, Result, Ok, Err, ap, refl, sym, ◌∙◌}
use Rattle.type_terms.specs.StubSets.{given}
use Rattle.abstract_vm.specs.declared.fault.VmFault.{VmFault}
use Rattle.abstract_vm.specs.declared.fault.VmFault.TheVariants.{Full}
use Rattle.abstract_vm.specs.Worlds.{most_items, source}
use Rattle.world_tables.specs.Rows.{tables_of}
use Rattle.infer_driver.specs.declared.settings.InferFault.{InferFault}
use Rattle.infer_driver.specs.declared.settings.InferFault.TheVariants.{TooLarge}
use Rattle.infer_driver.proofs.Inferring.{begun, begun_too_large, settings_of, least_of, larger_of}
use Rattle.infer_driver.proofs.driver.least_world.Goals as goal

same_fault : {W : Type 0} (fault : InferFault) (r : Result W InferFault) → r ≡ Err fault → r ≡ Err TooLarge → fault ≡ TooLarge
same_fault fault r e f = let both : Err fault ≡ Err TooLarge = sym e ∙ f in cc

never_fault : {W : Type 0} (w : W) (r : Result W InferFault) → r ≡ Ok w → r ≡ Err TooLarge → ⊥
never_fault w r e f = let both : Ok w ≡ Err TooLarge = sym e ∙ f in cc

pub returns-in-Err-clause-too_large : goal.returns-in-Err-clause-too_large
returns-in-Err-clause-too_large g c = λ e.
    begun_too_large c.args.program.now (given c.args.stubs.now) c.args.settings
    (λ s is. c.in-Err.ensures.full s is (ap Err (c.told_fault.ensures.0 (same_fault c.told_fault.result _ refl e))))

pub run-requires-clause-world : goal.run-requires-clause-world
run-requires-clause-world g c = (begun c.args.program.now (given c.args.stubs.now) c.args.settings c.in-Ok.world c.in-Ok.ensures.new).world

pub run-requires-clause-main : goal.run-requires-clause-main
run-requires-clause-main g c = (begun c.args.program.now (given c.args.stubs.now) c.args.settings c.in-Ok.world c.in-Ok.ensures.new).has_main

pub run-requires-clause-few : goal.run-requires-clause-few
run-requires-clause-few g c = (begun c.args.program.now (given c.args.stubs.now) c.args.settings c.in-Ok.world c.in-Ok.ensures.new).few

pub returns-in-Ok-run-clause-least : goal.returns-in-Ok-run-clause-least
returns-in-Ok-run-clause-least g c =
    least_of c.args.program.now (given c.args.stubs.now) c.args.settings c.in-Ok.world c.run.new.world (settings_of c.args.settings c.in-Ok.world c.in-Ok.ensures.settings) c.in-Ok-run.ensures.grown c.in-Ok-run.ensures.least c.in-Ok-run.ensures.few

pub returns-in-Ok-run-clause-too_large : goal.returns-in-Ok-run-clause-too_large
returns-in-Ok-run-clause-too_large g c = λ e. absurd (never_fault c.run.new.world _ refl e)

pub returns-in-Err-run-clause-too_large : goal.returns-in-Err-run-clause-too_large
returns-in-Err-run-clause-too_large g c = λ e.
    larger_of c.args.program.now (given c.args.stubs.now) c.args.settings c.in-Ok.world c.run.new.world (settings_of c.args.settings c.in-Ok.world c.in-Ok.ensures.settings) c.in-Err-run.ensures.grown
    (λ tables. c.items_are_counted.ensures.larger (source c.args.program.now (given c.args.stubs.now) c.args.settings.depth c.in-Ok.world) (tables_of c.run.new.world.rows) tables most_items
    (c.in-Err-run.ensures.full (ap Err (c.told_fault-in-Err-run.ensures.0 (same_fault c.told_fault-in-Err-run.result _ refl e)))))
