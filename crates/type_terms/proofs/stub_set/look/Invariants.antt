use Rattle.std.proofs.Common.{◌≡◌, drop}
use Rattle.type_terms.specs.StubSets.{given, stub_named}
use Rattle.type_terms.proofs.stub_set.look.Given as goal

abbrev pub invariant-loop-given : goal.invariant-loop-given
invariant-loop-given l = stub_named (given (drop l.given-index l.stubs)) l.name ≡ stub_named (given l.stubs) l.name
