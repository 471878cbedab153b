use Rattle.std.proofs.Common.{◌≡◌, ◌++◌, map, reverse, length}
use Rattle.expr_compile.proofs.buffer.split.Given as goal

abbrev pub invariant-loop-op : goal.invariant-loop-op
invariant-loop-op l =
    record {
      ops : map (λ i. i.op) l.instrs ++ reverse l.ops.items ≡ map (λ i. i.op) l.initial.instrs;
      lines : map (λ i. i.line) l.instrs ++ reverse l.lines.items ≡ map (λ i. i.line) l.initial.instrs;
    }

abbrev pub decreases-loop-op : goal.decreases-loop-op
decreases-loop-op l = length l.instrs
