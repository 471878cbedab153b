-- What is told of the runs, and that a world that is too large is never the least of so few items.
use Rattle.std.proofs.Common.{◌≡◌, Result, Ok, Err, refl, sym, ◌∙◌}
use Rattle.type_terms.specs.StubSets.{given}
use Rattle.infer_driver.specs.declared.settings.InferFault.{InferFault}
use Rattle.infer_driver.specs.declared.settings.InferFault.TheVariants.{TooLarge, Memory}
use Rattle.infer_driver.proofs.Covering.{inferred_is_told}
use Rattle.infer_driver.proofs.driver.infer.Goals as goal

never_fault : {W : Type 0} (w : W) (r : Result W InferFault) → r ≡ Ok w → r ≡ Err TooLarge → ⊥
never_fault w r e f = let both : Ok w ≡ Err TooLarge = sym e ∙ f in cc

not_memory : {W : Type 0} (r : Result W InferFault) → r ≡ Err Memory → r ≡ Err TooLarge → ⊥
not_memory r e f = let both : Err Memory ≡ Err TooLarge = sym e ∙ f in cc

pub result_of-requires : goal.result_of-requires
result_of-requires g c = c.in_ok-world.ensures.least

pub returns-in-Ok-clause-inferred : goal.returns-in-Ok-clause-inferred
returns-in-Ok-clause-inferred g c = c.in-Ok.ensures

pub returns-in-Ok-clause-covered : goal.returns-in-Ok-clause-covered
returns-in-Ok-clause-covered g c = λ text t m plain is.
    inferred_is_told m c.args.program.now is (given c.args.stubs.now) c.args.settings c.runs_are_covered.ensures.stubs c.runs_are_covered.ensures.report text t c.in-Ok.inferred plain c.in-Ok.ensures

pub returns-in-Ok-clause-too_large : goal.returns-in-Ok-clause-too_large
returns-in-Ok-clause-too_large g c = λ e. absurd (never_fault c.in-Ok.inferred _ refl e)

pub returns-in-Ok-clause-never : goal.returns-in-Ok-clause-never
returns-in-Ok-clause-never g c = λ items least few e. never_fault c.in-Ok.inferred _ refl e

pub returns-in-Err-clause-too_large : goal.returns-in-Err-clause-too_large
returns-in-Err-clause-too_large g c = λ e. absurd (not_memory _ refl e)

pub returns-in-Err-clause-never : goal.returns-in-Err-clause-never
returns-in-Err-clause-never g c = λ items least few e. not_memory _ refl e
