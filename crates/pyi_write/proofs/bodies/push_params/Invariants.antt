use Rattle.std.proofs.Common.{◌≡◌, ◌++◌, drop, map}
use Rattle.type_terms.specs.Texts.{joined}
use Rattle.type_terms.specs.Stubs.{param_view}
use Rattle.pyi_write.specs.Layout.{param_text}
use Rattle.pyi_write.proofs.Joined.{rest_of}
use Rattle.pyi_write.proofs.bodies.push_params.Given as goal

abbrev pub invariant-loop-param : goal.invariant-loop-param
invariant-loop-param l = l.out ++ rest_of l.before (map param_text (map param_view (drop l.param-index l.params))) ≡ l.initial.out ++ joined (map param_text (map param_view l.params))
