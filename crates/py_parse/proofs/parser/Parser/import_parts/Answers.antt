use Rattle.std.proofs.Common.{◌∙◌, map, arith}
use Rattle.std.proofs.lemmas.List.{map-append}
use Rattle.py_tree.specs.View.{import_view}
use Rattle.py_parse.proofs.Steps.{next_imports}
use Rattle.py_parse.proofs.parser.Parser.import_parts.Goals as goal

pub loop-parts-preserved : goal.loop-parts-preserved
loop-parts-preserved c = (c.loop-parts.invariant.0 ∙ grind (arith, map-append, next_imports (map import_view c.loop-parts.parts.items) c.loop-parts.self (import_view c.in_ok-part.part) c.import_part.new.self), omega (arith, c.loop-parts.invariant.1, c.in_ok-part.ensures.shrinks, c.if-not-eat_op.ensures.shrinks))
