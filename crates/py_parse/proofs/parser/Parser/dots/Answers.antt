use Rattle.std.proofs.Common.{◌∙◌, arith}
use Rattle.py_parse.proofs.Steps.{next_dots}
use Rattle.py_parse.proofs.parser.Parser.dots.Goals as goal

pub loop-self-preserved : goal.loop-self-preserved
loop-self-preserved c = (c.loop-self.invariant.0 ∙ grind (arith, next_dots c.loop-self.path.items c.loop-self.self c.in_ok-name.name c.attribute_name.new.self), omega (arith, c.loop-self.invariant.1, c.loop-self-test.ensures.shrinks, c.in_ok-name.ensures.shrinks))
