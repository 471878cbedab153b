-- A new world, or too many items for one.
use Rattle.abstract_vm.proofs.Beginnings.{no_entries, is_new, are_too_many, not_both}
use Rattle.abstract_vm.proofs.world.World.new.Goals as goal

pub returns-then-is_too_large-clause-full : goal.returns-then-is_too_large-clause-full
returns-then-is_too_large-clause-full c = λ s is told. are_too_many s c.in-Ok.tables (c.in-Ok.ensures.begun s is) (c.is_too_large.ensures.0 c.if-is_too_large.true)

pub invariant_of-result : goal.invariant_of-result
invariant_of-result c = (c.new.ensures.sound c.in-Ok.tables.graph, no_entries c.in-Ok.tables c.in-Ok.ensures.no_entries)

pub returns-clause-new : goal.returns-clause-new
returns-clause-new c = λ s is. is_new s _ (c.in-Ok.ensures.begun s is) (λ many. not_both c.is_too_large.result c.if-is_too_large.false (c.is_too_large.ensures.1 many))
