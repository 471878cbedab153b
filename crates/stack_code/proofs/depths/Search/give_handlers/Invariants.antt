use Rattle.std.proofs.Common.{◌≡◌, drop, map}
use Rattle.stack_code.specs.Search.{with_depths, handler_reached}
use Rattle.stack_code.proofs.depths.Search.give_handlers.Given as goal

abbrev pub invariant-loop-range : goal.invariant-loop-range
invariant-loop-range l = with_depths (map handler_reached (drop l.range-index l.ranges)) l.self ≡ with_depths (map handler_reached l.ranges) l.initial.self
