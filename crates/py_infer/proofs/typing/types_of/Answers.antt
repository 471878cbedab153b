-- Each statement goes on with the walk.
use Rattle.std.proofs.Common.{sym, subst}
use Rattle.py_tree.specs.View.{module_view, stmts_view}
use Rattle.py_infer.proofs.Walk.{Walks, walks_start, walks_loop, walks_done}
use Rattle.py_infer.proofs.typing.types_of.Goals as goal

pub loop-stmt-init : goal.loop-stmt-init
loop-stmt-init c =
    subst (Walks (module_view c.args.module.now) (stmts_view c.args.module.now.body.items)) (sym c.new-types.ensures) (walks_start (module_view c.args.module.now) c.requires)

pub loop-stmt-preserved : goal.loop-stmt-preserved
loop-stmt-preserved c =
    walks_loop (module_view c.args.module.now) c.args.module.now.body.items c.loop-stmt.stmt-index c.stmt-item.result c.loop-stmt.types c.carry_out.new.types
    (rw c.deref-stmt-items.ensures.value at c.loop-stmt-test.true)
    (rw c.deref-stmt-items.ensures.value at c.stmt-item.is) c.loop-stmt.invariant c.in_ok-carry_out.ensures

pub returns : goal.returns
returns c =
    walks_done (module_view c.args.module.now) c.args.module.now.body.items c.loop-stmt.stmt-index c.loop-stmt.types
    (rw c.deref-stmt-items.ensures.value at c.loop-stmt-test.false) c.loop-stmt.invariant
