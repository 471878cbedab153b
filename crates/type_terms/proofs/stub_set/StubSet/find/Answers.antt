use Rattle.std.proofs.Common.{ap, ◌∙◌}
use Rattle.type_terms.specs.StubSets.{given, stub_named}
use Rattle.type_terms.proofs.StubSetLemmas.{named_given, proper_found}
use Rattle.type_terms.proofs.stub_set.StubSet.find.Goals as goal

pub returns-clause-every : goal.returns-clause-every
returns-clause-every c = λ stub is.
    let all = c.self.inside.stubs.items in
    c.look.ensures ∙ ap (λ gs. stub_named (given gs) c.args.name.now) c.deref.ensures.value
    ∙ named_given (given all) c.args.name.now stub c.self.invariant (rw c.self.view_is is)

pub returns-clause-proper : goal.returns-clause-proper
returns-clause-proper c =
    let all = c.self.inside.stubs.items in
    proper_found c.look.result (given all) c.args.name.now c.self.invariant (c.look.ensures ∙ ap (λ gs. stub_named (given gs) c.args.name.now) c.deref.ensures.value)
