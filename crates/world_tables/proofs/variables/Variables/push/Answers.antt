use Rattle.std.proofs.Common.{◌∙◌, sym, ap, subst, ◌++◌, ◌∷◌, []}
use Rattle.std.specs.List.{Contains}
use Rattle.flow_graph.proofs.Same.{inserted}
use Rattle.world_tables.proofs.Exact.{variable_exact}
use Rattle.world_tables.proofs.variables.Variables.push.Goals as goal
use Rattle.world_tables.proofs.variables.Variables.push.Goals.{in-Ok, in-Err}

pub returns-clause-pushed : goal.returns-clause-pushed
returns-clause-pushed c =
    elim c.match-insert.branch [
      | in-Ok w ↦ rw w.result-is (w.in-Ok.ensures.keys ∙ inserted _ variable_exact c.self.inside.spots.keys c.args.spot.now (subst (λ t. Contains t c.args.spot.now → ⊥) (sym c.self.view_is) c.requires.fresh) ∙ ap (λ t. t ++ c.args.spot.now ∷ []) c.self.view_is)
      | in-Err w ↦ rw w.result-is tt
    ]
