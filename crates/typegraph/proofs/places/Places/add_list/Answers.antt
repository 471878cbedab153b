use Rattle.std.proofs.Common.{◌∙◌, ◌++◌, ◌∷◌, [], ap, sym, subst, nat_eq}
use Rattle.std.specs.Cmp.{unsigned_Decides}
use Rattle.std.specs.List.{Contains}
use Rattle.flow_graph.proofs.Same.{inserted}
use Rattle.typegraph.specs.Kept.{places_in}
use Rattle.typegraph.proofs.Placing.{sizes_pushed, lists_pushed, first_new}
use Rattle.typegraph.proofs.places.Places.add_list.Goals as goal

pub invariant_of-self-in-Ok : goal.invariant_of-self-in-Ok
invariant_of-self-in-Ok c =
    sizes_pushed c.self.inside.shapes.keys _ c.self.inside.lists.items _ c.args.shape
    (c.in-Ok.ensures.keys ∙ inserted nat_eq unsigned_Decides c.self.inside.shapes.keys c.args.shape (subst (λ t. Contains t.shapes c.args.shape → ⊥) (sym c.self.view_is) c.requires))
    (c.in_ok-push.ensures.items ∙ ap (λ r. c.self.inside.lists.items ++ r ∷ []) c.new.ensures) c.self.invariant

pub returns-in-Ok-clause-found : goal.returns-in-Ok-clause-found
returns-in-Ok-clause-found c =
    first_new c.self.inside.shapes.keys _ c.self.inside.lists.items _ c.args.shape
    (c.in-Ok.ensures.keys ∙ inserted nat_eq unsigned_Decides c.self.inside.shapes.keys c.args.shape (subst (λ t. Contains t.shapes c.args.shape → ⊥) (sym c.self.view_is) c.requires))
    (c.in_ok-push.ensures.items ∙ ap (λ r. c.self.inside.lists.items ++ r ∷ []) c.new.ensures) c.self.invariant
    c.len-list.result c.len-list.ensures.len (subst (λ t. Contains t.shapes c.args.shape → ⊥) (sym c.self.view_is) c.requires)

pub returns-in-Ok-clause-same : goal.returns-in-Ok-clause-same
returns-in-Ok-clause-same c = λ s.
    lists_pushed c.self.inside.shapes.keys _ c.self.inside.lists.items _ c.args.shape
    (c.in-Ok.ensures.keys ∙ inserted nat_eq unsigned_Decides c.self.inside.shapes.keys c.args.shape (subst (λ t. Contains t.shapes c.args.shape → ⊥) (sym c.self.view_is) c.requires))
    (c.in_ok-push.ensures.items ∙ ap (λ r. c.self.inside.lists.items ++ r ∷ []) c.new.ensures) c.self.invariant s
    ∙ ap (λ t. places_in t s) c.self.view_is
