use Rattle.std.proofs.Common.{◌<◌, ◌≤◌, length, ◌∙◌, arith}
use Rattle.py_grammar.specs.Nesting.{depth}
use Rattle.py_parse.proofs.Depths.{nested_step, nested_stop}
use Rattle.py_parse.proofs.nesting.first_too_deep.Goals as goal

pub returns-then-depth-ge-TOO_DEEP : goal.returns-then-depth-ge-TOO_DEEP
returns-then-depth-ge-TOO_DEEP c =
    let within : c.loop-place.place < length c.args.tokens.now.tokens = omega arith in
    let high : 65 ≤ depth c.take.new.self = omega arith in
    nested_stop c.args.tokens.now.tokens c.loop-place.place c.loop-place.nesting c.take.new.self c.loop-place.invariant within (c.in_ok-take.ensures ∙ c.turn_at.ensures c.loop-place.nesting) high

pub loop-place-preserved : goal.loop-place-preserved
loop-place-preserved c =
    let within : c.loop-place.place < length c.args.tokens.now.tokens = omega arith in
    let low : depth c.take.new.self < 65 = omega arith in
    nested_step c.args.tokens.now.tokens c.loop-place.place c.loop-place.nesting c.take.new.self c.loop-place.invariant within (c.in_ok-take.ensures ∙ c.turn_at.ensures c.loop-place.nesting) low
