use Rattle.std.proofs.Common.{refl, subst}
use Rattle.std.specs.List.{Contains}
use Rattle.world_tables.proofs.Growth.{variable_answers}
use Rattle.world_tables.proofs.tables.Tables.add_variable.Goals as goal

pub returns-in-None-clause-keeps : goal.returns-in-None-clause-keeps
returns-in-None-clause-keeps c = λ s a used.
    variable_answers _ _ c.push_variable.ensures.kept c.push_variable.result c.push_variable.ensures.refused s a c.args.spot.now (subst (λ w. Contains w.variables c.args.spot.now → ⊥) c.self.view_is (c.in-None.ensures.none refl)) c.requires.context used
    c.push_variable.ensures.added c.push_variable.ensures.valid
