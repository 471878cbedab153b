use Rattle.std.proofs.Common.{◌∙◌, sym, subst}
use Rattle.typegraph.specs.Kept.{IsFirstAt}
use Rattle.typegraph.proofs.Placing.{first_found}
use Rattle.typegraph.proofs.places.Places.list_of.Goals as goal

pub returns-in-Some-clause-found : goal.returns-in-Some-clause-found
returns-in-Some-clause-found c =
    subst (λ t. IsFirstAt t.shapes c.args.shape c.in-Some.list) c.self.view_is
    (first_found c.self.inside.shapes.keys c.args.shape c.in-Some.list (sym c.get_index_of.ensures.index ∙ c.in-Some.is))
