use Rattle.pyi_write.proofs.ShownNames.{fun_step}
use Rattle.pyi_write.proofs.orders.fun_names.Goals as goal

pub loop-fun-preserved : goal.loop-fun-preserved
loop-fun-preserved c = λ name.
    fun_step c.args.funs.now c.loop-fun.fun-index c.fun-item.result name.now c.bytes.result.now _ _
    c.loop-fun-test.true c.fun-item.is c.bytes.ensures (c.in_ok-insert.ensures.updates.0 name) (c.loop-fun.invariant name)
