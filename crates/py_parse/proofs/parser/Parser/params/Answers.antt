use Rattle.std.proofs.Common.{◌∙◌, map, arith}
use Rattle.std.proofs.lemmas.List.{map-append}
use Rattle.py_tree.specs.View.{param_view}
use Rattle.py_parse.proofs.Params.{last_params, next_params, one_param}
use Rattle.py_parse.proofs.parser.Parser.params.Goals as goal

pub loop-self-preserved : goal.loop-self-preserved
loop-self-preserved c =
    let one = one_param c.loop-self.late c.in_ok-name.name c.in_ok-hint.field-0 c.in_ok-default.default c.loop-self.self c.name.new.self c.hint.new.self c.param_default.new.self c.in_ok-name.ensures.gives c.in_ok-hint.ensures.gives c.in_ok-default.ensures.gives in (
      c.loop-self.invariant.0 ∙ grind (arith, map-append, one, next_params c.loop-self.late (map param_view c.loop-self.params.items) c.loop-self.self (record { name = c.in_ok-name.name; default = c.in_ok-default.default }) c.param_default.new.self),
      omega (arith, c.loop-self.invariant.1, c.in_ok-name.ensures.shrinks, c.in_ok-hint.ensures.shrinks, c.in_ok-default.ensures.shrinks, c.if-not-eat_op.ensures.shrinks),
    )

pub returns-then-not-eat_op-clause-gives : goal.returns-then-not-eat_op-clause-gives
returns-then-not-eat_op-clause-gives c =
    let one = one_param c.loop-self.late c.in_ok-name.name c.in_ok-hint.field-0 c.in_ok-default.default c.loop-self.self c.name.new.self c.hint.new.self c.param_default.new.self c.in_ok-name.ensures.gives c.in_ok-hint.ensures.gives c.in_ok-default.ensures.gives in
    c.loop-self.invariant.0 ∙ grind (arith, map-append, one, last_params c.loop-self.late (map param_view c.loop-self.params.items) c.loop-self.self (record { name = c.in_ok-name.name; default = c.in_ok-default.default }) c.param_default.new.self)
