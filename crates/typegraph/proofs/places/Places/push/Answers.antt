use Rattle.std.proofs.Common.{◌<◌, ◌∙◌, length, ap, sym, subst}
use Rattle.typegraph.specs.Kept.{IsFirstAt, places_in}
use Rattle.typegraph.proofs.Placing.{places_pushed}
use Rattle.typegraph.proofs.Results.{so_ok}
use Rattle.typegraph.proofs.places.Places.push.Goals as goal

pub returns-clause-pushed : goal.returns-clause-pushed
returns-clause-pushed c =
    so_ok _ _
    (λ n. places_pushed c.self.inside.shapes.keys c.self.inside.lists.items c.args.shape c.in_ok-list.list c.index_mut.result.now c.push.new.self c.args.place (places_in c.args.self.now)
    (subst (λ t. IsFirstAt t.shapes c.args.shape c.in_ok-list.list) (sym c.self.view_is) c.in_ok-list.ensures.found)
    (subst (λ t. c.in_ok-list.list < length t.lists) (sym c.self.view_is) c.in_ok-list.ensures.within) c.index_mut.ensures.value n
    (λ s. ap (λ t. places_in t s) c.self.view_is ∙ c.in_ok-list.ensures.same s))
    c.push.result c.push.ensures.pushed
