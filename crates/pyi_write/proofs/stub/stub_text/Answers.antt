use Rattle.std.proofs.Common.{rules, ◌≡◌, [], ◌∙◌}
use Rattle.type_terms.specs.Stubs.{stub_view}
use Rattle.pyi_write.specs.Behind.{with_parts}
use Rattle.pyi_write.specs.Layout.{parts}
use Rattle.pyi_write.proofs.Parts.{in_turn}
use Rattle.pyi_write.proofs.stub.stub_text.Goals as goal

pub returns : goal.returns
returns c = let laid : c.push_classes.new.out ≡ with_parts [] (parts (stub_view c.args.stub.now)) = search rules in laid ∙ in_turn (parts (stub_view c.args.stub.now))
