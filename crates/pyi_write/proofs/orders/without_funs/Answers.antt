use Rattle.std.proofs.Common.{map, sym, ap, ◌∙◌}
use Rattle.type_terms.specs.Stubs.{fun_view}
use Rattle.pyi_write.specs.Orders.{is_fun}
use Rattle.pyi_write.proofs.ShownNames.{kept_step, passed_step}
use Rattle.pyi_write.proofs.orders.without_funs.Goals as goal
use Rattle.pyi_write.proofs.orders.without_funs.Goals.{then-not-contains+in_ok-push, else-not-contains}

pub loop-name-preserved : goal.loop-name-preserved
loop-name-preserved c =
    let funs = map fun_view c.args.funs.now in
    let told = ap (is_fun funs) (sym c.bytes.ensures) ∙ sym (c.in_ok-taken.ensures c.bytes.result) ∙ sym c.contains.ensures in
    elim c.if-not-contains.branch [
      | then-not-contains+in_ok-push w ↦ kept_step funs c.loop-name.kept.items _ c.args.names.now c.loop-name.name-index _ c.loop-name-test.true c.name-item.is (told ∙ w.if-not-contains.true) (ap (λ kept. kept.items) w.kept-is ∙ w.in_ok-push.ensures.items) c.loop-name.invariant
      | else-not-contains w ↦ passed_step funs c.loop-name.kept.items _ c.args.names.now c.loop-name.name-index c.name-item.result c.loop-name-test.true c.name-item.is (told ∙ w.if-not-contains.false) (ap (λ kept. kept.items) w.kept-is) c.loop-name.invariant
    ]
