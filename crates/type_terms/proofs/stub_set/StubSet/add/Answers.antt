use Rattle.std.proofs.Common.{◌≡◌, ap, sym, subst, ◌∙◌, ◌++◌, ◌∷◌, []}
use Rattle.std.proofs.lemmas.List.{map-append}
use Rattle.type_terms.specs.Stubs.{stub_view}
use Rattle.type_terms.specs.StubSets.{given, given_view, AreGiven}
use Rattle.type_terms.proofs.StubSetLemmas.{given_more}
use Rattle.type_terms.proofs.stub_set.StubSet.add.Goals as goal

pub invariant_of-self-2 : goal.invariant_of-self-2
invariant_of-self-2 c =
    let old = c.self.inside.stubs.items in
    let text : c.push.new.self ≡ c.args.name.now = c.in_ok-push.ensures.pushed ∙ ap (λ t. t ++ c.as_bytes.result.now) c.new-text.ensures ∙ c.as_bytes.ensures.value in
    let all : given c.push-2.new.self.items ≡ given old ++ (c.args.name.now, stub_view c.args.stub) ∷ [] =
    ap given c.in_ok-push-2.ensures.items ∙ map-append given_view old _ ∙ ap (λ t. given old ++ (t, stub_view c.args.stub) ∷ []) text in
    let new = rw (← c.self.view_is) at c.requires.new in
    subst AreGiven (sym all) (given_more (given old) c.args.name.now (stub_view c.args.stub) c.self.invariant new c.requires.proper)
