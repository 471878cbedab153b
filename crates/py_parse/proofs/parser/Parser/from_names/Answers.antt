use Rattle.std.proofs.Common.{◌∙◌, map, arith}
use Rattle.std.proofs.lemmas.List.{map-append}
use Rattle.py_tree.specs.View.{from_view}
use Rattle.py_parse.proofs.Steps.{next_froms, one_from}
use Rattle.py_parse.proofs.parser.Parser.from_names.Goals as goal

pub loop-parts-preserved : goal.loop-parts-preserved
loop-parts-preserved c =
    let one = one_from c.loop-parts.self c.name.new.self c.alias.new.self c.in_ok-name.name c.in_ok-alias.alias c.in_ok-name.ensures.gives c.in_ok-alias.ensures.gives in
    (c.loop-parts.invariant.0 ∙ grind (arith, map-append, one, next_froms c.args.grouped (map from_view c.loop-parts.parts.items) c.loop-parts.self (record { name = c.in_ok-name.name; alias = c.in_ok-alias.alias }) c.alias.new.self), omega (arith, c.loop-parts.invariant.1, c.in_ok-name.ensures.shrinks, c.in_ok-alias.ensures.shrinks, c.if-not-eat_op.ensures.shrinks))
