use Rattle.py_tree.specs.View.{stmts_view, arms_view, handlers_view}
use Rattle.std.proofs.Common.{drop}
use Rattle.tree_code.specs.Pieces.{Piece}
use Rattle.tree_code.specs.Statements.{body_code, arms_code, handlers_code}
use Rattle.expr_compile.specs.Emitted.{Emitted}
use Rattle.tree_code.specs.Standing.{IsSized}
use Rattle.block_compile.specs.Emits.{Emits}
use Rattle.expr_compile.specs.Jumps.{landed}
use Rattle.block_compile.specs.PlaceOf.{standing}
use Rattle.block_compile.proofs.statements.+statements.Given as goal

abbrev pub invariant-push_body-loop-stmt : goal.invariant-push_body-loop-stmt
invariant-push_body-loop-stmt l =
    (done : Emitted) → Emits (body_code (standing l.names l.at) (stmts_view (drop l.stmt-index l.body))) l.at.again l.buffer done
    → Emits (body_code (standing l.names l.at) (stmts_view l.body)) l.at.again l.initial.buffer done

abbrev pub invariant-push_arms-loop-arm : goal.invariant-push_arms-loop-arm
invariant-push_arms-loop-arm l =
    (rest : Piece) (done : Emitted) → IsSized rest → Emits (arms_code (standing l.names l.at) l.line (arms_view (drop l.arm-index l.arms)) rest) l.at.again l.buffer done
    → Emits (arms_code (standing l.names l.at) l.line (arms_view l.arms) rest) l.at.again l.initial.buffer (landed l.ends done)

abbrev pub invariant-push_handlers-loop-handler : goal.invariant-push_handlers-loop-handler
invariant-push_handlers-loop-handler l =
    (done : Emitted) → Emits (handlers_code (standing l.names l.at) l.line (handlers_view (drop l.handler-index l.handlers))) l.at.again l.buffer done
    → Emits (handlers_code (standing l.names l.at) l.line (handlers_view l.handlers)) l.at.again l.initial.buffer (landed l.ends done)
