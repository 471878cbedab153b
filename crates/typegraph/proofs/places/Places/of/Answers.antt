use Rattle.std.proofs.Common.{◌∙◌, ap, sym, arith, refl, nat_eq, is_some}
use Rattle.std.specs.Cmp.{unsigned_Decides}
use Rattle.std.proofs.lemmas.Option.{slice_get_read}
use Rattle.flow_graph.proofs.Same.{any_false}
use Rattle.typegraph.specs.Kept.{places_in}
use Rattle.typegraph.proofs.Placing.{first_found, list_at, list_absent}
use Rattle.typegraph.proofs.places.Places.of.Goals as goal

pub returns-in-Some : goal.returns-in-Some
returns-in-Some c =
    c.items.ensures
    ∙ sym (list_at c.self.inside.shapes.keys c.self.inside.lists.items c.args.shape c.in-Some.list c.index.result.now
    (first_found c.self.inside.shapes.keys c.args.shape c.in-Some.list (sym c.get_index_of.ensures.index ∙ c.in-Some.is))
    (slice_get_read c.self.inside.lists.items _ c.in-Some.list c.index.result.now refl (omega (arith, c.in-Some.ensures.within, c.self.invariant)) c.index.ensures))
    ∙ ap (λ t. places_in t c.args.shape) c.self.view_is

pub returns-in-None : goal.returns-in-None
returns-in-None c =
    sym (list_absent c.self.inside.shapes.keys c.self.inside.lists.items c.args.shape (any_false nat_eq unsigned_Decides c.self.inside.shapes.keys c.args.shape (sym c.get_index_of.ensures.found ∙ ap is_some c.in-None.is)))
    ∙ ap (λ t. places_in t c.args.shape) c.self.view_is
