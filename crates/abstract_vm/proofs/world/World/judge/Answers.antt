use Rattle.std.proofs.Common.{◌<◌, IfOk, length, refl, subst}
use Rattle.type_terms.specs.StubSets.{given}
use Rattle.abstract_vm.specs.Worlds.{WorldState, items_in, point_in, source, IsWorldOf}
use Rattle.abstract_vm.specs.Verdicts.{IsJudged}
use Rattle.abstract_vm.proofs.world.World.judge.Goals as goal

pub returns-clause-judged : goal.returns-clause-judged
returns-clause-judged g c =
    subst (λ (w : WorldState). IsWorldOf (source c.args.program.now (given c.args.stubs.now) c.args.depth w) w → c.args.point < length w.rows.points →
    IfOk c.judged.result (λ v. IsJudged (source c.args.program.now (given c.args.stubs.now) c.args.depth w) (items_in w) (point_in w c.args.point) v)) c.self.view_is
    (λ world l. c.judged.ensures.judged _ (record { source = record { program = refl; scopes = refl }; budget_is = refl; tables = world.tables }) l) c.requires.world c.requires.point
